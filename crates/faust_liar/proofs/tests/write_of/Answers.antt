use Rattle.std.proofs.Common.{◌≡◌, sym, subst, arith, replicate}
use Rattle.faust_types.specs.Ranges.{IsDigest, IsValue}
use Rattle.faust_types.proofs.Messages.{AreBytes-replicate, IsDigest-replicate}
use Rattle.faust_liar.proofs.tests.write_of.Goals as goal

pub returns-clause-in_range : goal.returns-clause-in_range
returns-clause-in_range c =
    let tag : IsDigest (replicate 32 c.args.byte) = IsDigest-replicate c.args.byte (omega arith) in
    let text = c.in_ok-from_slice.field-0 in
    let is : text ≡ replicate 1 c.args.byte = c.in_ok-from_slice.ensures in
    let value : IsValue text = subst IsValue (sym is)
    (record { sized = omega arith; bytes_each = AreBytes-replicate 1 c.args.byte (omega arith) }) in
    record {
      register_in_range = c.requires.client;
      number = c.requires.number;
      value_in_range = value;
      submit_tag_sized = tag;
      data_tag_sized = tag;
      commit_in_range = tt;
    }
