use Rattle.std.proofs.Common.{◌==◌, not, ap, ◌∙◌, rules}
use Rattle.std.proofs.lemmas.Fn.{filter_same}
use Rattle.faust_types.specs.declared.message.Tuple.{Tuple}
use Rattle.faust_server.specs.Rows.{without}
use Rattle.faust_server.proofs.Tuples.{without-none}
use Rattle.faust_server.proofs.pending.Pending.leave.Goals as goal

pub returns-clause-value : goal.returns-clause-value
returns-clause-value c = filter_same _ (λ (tuple : Tuple). not (tuple.client == c.args.i)) _
    (λ x b f' k. search rules) _ _ c.retain.ensures.filtered ∙ ap (without c.args.i) c.self.view_is

pub returns-clause-absent : goal.returns-clause-absent
returns-clause-absent c = λ none. returns-clause-value c ∙ without-none c.args.i c.args.self.now none
