use Rattle.std.proofs.Common.{sym, subst}
use Rattle.faust_types.specs.Versions.{clients_of}
use Rattle.faust_ustor.specs.declared.walk.Walk.{Walk}
use Rattle.faust_ustor.specs.Checks.{answered, advanced, judged, Gives}
use Rattle.faust_ustor.specs.InRange.{IsJudgedFor}
use Rattle.faust_ustor.proofs.Next.{judged-in_range}
use Rattle.faust_ustor.proofs.Passes.{judged-reached}
use Rattle.faust_ustor.proofs.Steps.{own-room}
use Rattle.faust_ustor.proofs.Told.{gives-ok}
use Rattle.faust_ustor.proofs.judgement.judge_under.Goals as goal

pub advance-requires-clause-room : goal.advance-requires-clause-room
advance-requires-clause-room c =
    own-room c.args.key.now c.args.me c.args.own.now c.args.op.now c.args.reply.now _ c.in_ok-walk.walk
    c.requires.pending c.in_ok-check_base.ensures c.in_ok-walk.ensures.in_range

pub returns-clause-in_range : goal.returns-clause-in_range
returns-clause-in_range c =
    let key = c.args.key.now in
    let me = c.args.me in
    let own = c.args.own.now in
    let op = c.args.op.now in
    let reply = c.args.reply.now in
    let walk = c.in_ok-walk.walk in
    let part : Gives c.answered.result (answered key reply.version.version (advanced walk me).version reply.read) =
    subst (λ (w : Walk). Gives c.answered.result (answered key reply.version.version w.version reply.read)) c.advance.ensures
    c.answered.ensures in
    let due : Gives c.answered.result (judged key me own op reply) =
    subst (Gives c.answered.result) (sym (judged-reached key me own op reply walk c.in_ok-check_base.ensures
    c.in_ok-walk.ensures.walked)) part in
    gives-ok (IsJudgedFor (clients_of own) op.register) c.answered.result (judged key me own op reply) due (λ answer told.
    judged-in_range key me own op reply answer c.requires.pending c.requires.reply told)
