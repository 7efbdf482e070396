use Rattle.std.proofs.Common.{refl, arith, replicate}
use Rattle.faust_types.specs.Ranges.{IsDigest}
use Rattle.faust_types.proofs.Messages.{IsDigest-replicate}
use Rattle.faust_liar.proofs.tests.read_of_first.Goals as goal

pub returns-clause-in_range : goal.returns-clause-in_range
returns-clause-in_range c =
    let tag : IsDigest (replicate 32 0) = IsDigest-replicate 0 (omega arith) in
    record {
      register_in_range = record { from_one = omega arith; to_n = omega arith };
      number = record { from_one = omega arith; below = omega arith };
      value_in_range = refl;
      submit_tag_sized = tag;
      data_tag_sized = tag;
      commit_in_range = tt;
    }
