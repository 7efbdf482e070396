use Rattle.std.proofs.Common.{sym, subst}
use Rattle.faust_types.specs.Ranges.{IsCheck}
use Rattle.faust_ustor.proofs.Stops.{judged-noticed}
use Rattle.faust_agent.specs.InRange.{IsDeedFor}
use Rattle.faust_agent.proofs.Slots.{deed-fitted}
use Rattle.faust_agent.proofs.Rounds.{completion-of}
use Rattle.faust_agent.proofs.client.Client.at_reply.Goals as goal

pub returns-in-Ok-clause-in_range : goal.returns-in-Ok-clause-in_range
returns-in-Ok-clause-in_range c =
    let id = c.args.id.now in
    let st = c.args.self.now in
    let op = c.in-Some-waiting.op in
    let judged = c.in-Ok.judged in
    let completes = completion-of id.config id.me st op judged c.slot.result.now c.requires c.clients.ensures.client c.in-Some-waiting.is
    c.slot.ensures c.in-Ok.ensures.in_range in
    subst (IsDeedFor id.config id.me st) (sym c.fitted.ensures) (deed-fitted id.config id.me st op judged _ completes)

pub returns-in-Err-Check-clause-in_range : goal.returns-in-Err-Check-clause-in_range
returns-in-Err-Check-clause-in_range c =
    let id = c.args.id.now in
    let due = rw c.in-Err-Check.field-0-is at c.in-Err-Check.ensures.checked in
    let noticed : IsCheck c.in-Err-Check.check = judged-noticed _ _ _ _ _ _ due in
    subst (IsDeedFor id.config id.me c.args.self.now) (sym c.broken-in-Err-Check.ensures)
    (subst IsCheck (sym c.in-Err-Check.check-is) noticed)
