use Rattle.std.proofs.Common.{◌≡◌, None, is_some, sym, ap, ◌∙◌, arith}
use Rattle.faust_types.specs.declared.outcome.Outcome.{Outcome}
use Rattle.faust_record.specs.Refusals.{refusal_at}
use Rattle.faust_record.proofs.Inputs.{may-come}
use Rattle.faust_record.proofs.Steps.{put-entry}
use Rattle.faust_record.proofs.acting.act.Goals as goal

pub returns-in-Ok : goal.returns-in-Ok
returns-in-Ok c =
    let old = c.args.agent.now in
    let happened = c.in-Ok.ensures.happens in
    let taken : refusal_at old.config old.me old.client c.args.input ≡ None = sym c.refusal.ensures
    ∙ grind (arith, c.in_default.not-Some) in
    record {
      taken = taken;
      may_come = may-come old.config old.me old.client c.args.input taken c.requires c.in-Ok.ensures.bytes;
      sends_is = c.is_some-sends.ensures ∙ ap (λ (o : Outcome). is_some o.to_server) happened.1;
      appended = put-entry c.args.entries.now c.push.new.self c.set.new.self c.blank.result c.len-place.result c.args.number c.me.result
          old c.happen.new.agent c.args.input c.filled.result c.in_ok-push.ensures.ok c.len-place.ensures c.set.ensures c.me.ensures
          happened.0 (c.filled.ensures ∙ happened.1);
      moved = happened.0;
    }
