use Rattle.std.proofs.Common.{◌≡◌, List, ℕ, subst, sym, ◌∙◌}
use Rattle.faust_types.specs.Outcomes.{nothing}
use Rattle.faust_record.specs.Acting.{member_at}
use Rattle.faust_record.specs.Entries.{outcome_at}
use Rattle.faust_record.specs.declared.entry.Input.{Input}
use Rattle.faust_record.proofs.Inputs.{member-arrival, outcome-arrival}
use Rattle.faust_record.proofs.acting.happen.Goals as goal

pub returns-in-Arrive-clause-happens : goal.returns-in-Arrive-clause-happens
returns-in-Arrive-clause-happens c =
    let old = c.args.agent.now in
    subst (λ (input : Input). (old ≡ member_at old input) × (c.nothing.result ≡ outcome_at old.config old.me old.client input))
    (sym c.in-Arrive.is)
    (member-arrival old c.in-Arrive.field-0, c.nothing.ensures ∙ outcome-arrival old.config old.me old.client c.in-Arrive.field-0)
