use Rattle.std.proofs.Common.{◌≡◌, ap, ◌∙◌, rules, arith}
use Rattle.std.proofs.lemmas.Grind.{common_steps}
use Rattle.faust_server.specs.Rows.{behind}
use Rattle.faust_server.proofs.Tuples.{behind-first, behind-none}
use Rattle.faust_server.proofs.pending.Pending.leave_through.Goals as goal

pub returns-in-Some-clause-found : goal.returns-in-Some-clause-found
returns-in-Some-clause-found c = λ before rest tuple split none own.
    let value : c.truncate.new.self.items ≡ behind c.args.i c.args.self.now = grind (arith, common_steps) in
    value ∙ ap (behind c.args.i) split ∙ behind-first c.args.i before tuple rest none own

pub returns-in-Some-clause-absent : goal.returns-in-Some-clause-absent
returns-in-Some-clause-absent c = λ none.
    let value : c.truncate.new.self.items ≡ behind c.args.i c.args.self.now = grind (arith, common_steps) in
    value ∙ behind-none c.args.i c.args.self.now none

pub returns-in_default-clause-found : goal.returns-in_default-clause-found
returns-in_default-clause-found c = λ before rest tuple split none own.
    let value : c.args.self.now ≡ behind c.args.i c.args.self.now = search rules in
    value ∙ ap (behind c.args.i) split ∙ behind-first c.args.i before tuple rest none own
