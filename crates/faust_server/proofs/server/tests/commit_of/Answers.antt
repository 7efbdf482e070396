use Rattle.std.proofs.Common.{◌≡◌, false, sym, ◌∙◌, arith, replicate, rules}
use Rattle.faust_types.specs.Ranges.{IsDigest}
use Rattle.faust_types.proofs.Messages.{IsDigest-replicate}
use Rattle.faust_server.proofs.server.tests.commit_of.Goals as goal

pub returns : goal.returns
returns g c =
    let tag : IsDigest (replicate 32 c.args.byte) = IsDigest-replicate c.args.byte (omega arith) in
    let asserted : c.is_initial.result ≡ false = search rules in
    record {
      version_in_range = c.put-2.ensures;
      not_initial = sym c.is_initial.ensures.test ∙ asserted;
      commit_tag_sized = tag;
      proof_tag_sized = tag;
    }
