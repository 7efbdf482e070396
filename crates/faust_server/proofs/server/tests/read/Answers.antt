use Rattle.std.proofs.Common.{ℕ, sym, subst, refl, arith, replicate, Option, None, List}
use Rattle.faust_types.specs.declared.message.Commit.{Commit}
use Rattle.faust_types.specs.Ranges.{IsDigest, IsSubmitFor}
use Rattle.faust_types.proofs.Messages.{IsDigest-replicate}
use Rattle.faust_types.specs.declared.message.Submit.{Submit}
use Rattle.faust_types.specs.declared.operation.Kind.TheVariants.{Read}
use Rattle.faust_server.proofs.server.tests.read.Goals as goal

pub submit-requires-clause-message : goal.submit-requires-clause-message
submit-requires-clause-message c =
    let tag : IsDigest (replicate 32 c.args.byte) = IsDigest-replicate c.args.byte (omega arith) in
    let none : Option (List ℕ) = None in
    let alone : Option Commit = None in
    let m : Submit = record {
      kind = Read;
      register = c.args.register;
      t = c.args.t;
      value = none;
      submit_tag =
          replicate 32 c.args.byte;
      data_tag = replicate 32 c.args.byte;
      commit = alone;
    } in
    let for_two : IsSubmitFor 2 m = record {
      register_in_range = c.requires.register;
      number = c.requires.number;
      value_in_range =
          refl;
      submit_tag_sized = tag;
      data_tag_sized = tag;
      commit_in_range = tt;
    } in
    subst (λ (n : ℕ). IsSubmitFor n m) (sym c.requires.two) for_two
