use Rattle.std.proofs.Common.{◌≡◌, ◌<◌, ◌≤◌, List, length, Ok, Err, refl, sym, ap, ◌∙◌, subst, arith}
use Rattle.std.proofs.lemmas.Result.{err_from_is_err_and}
use Rattle.faust_agent.specs.State.{Member}
use Rattle.faust_record.specs.Journals.{IsNumberBehind, Log, member_of}
use Rattle.faust_record.specs.Refusals.{StepRefuses, Steps, step_of}
use Rattle.faust_record.specs.Acting.{IsActed, Refused}
use Rattle.faust_record.specs.Kept.{log_of}
use Rattle.faust_record.specs.declared.entry.Entry.{Entry}
use Rattle.faust_record.specs.declared.errors.StepError.{StepError}
use Rattle.faust_record.proofs.Steps.{log-due, log-kept, refusal-due, refused-stays, seen, step-full}
use Rattle.faust_record.proofs.journal.Journal.step.Goals as goal

pub returns-then-len-ge-MAX_ENTRIES : goal.returns-then-len-ge-MAX_ENTRIES
returns-then-len-ge-MAX_ENTRIES c =
    let log : Log = log_of c.self.inside in
    let many : 200000 ≤ length log.entries = omega (arith, c.len.ensures, c.if-len-ge-MAX_ENTRIES.true) in (
      refl,
      subst (λ (l : Log). step_of l c.args.number c.args.input ≡ Err _) c.self.view_is
          (step-full log c.args.number c.args.input many),
    )

pub returns-in_err-_sends : goal.returns-in_err-_sends
returns-in_err-_sends c =
    let log : Log = log_of c.self.inside in
    let few : length log.entries < 200000 = omega (arith, c.len.ensures, c.if-len-ge-MAX_ENTRIES.false) in
    let refusal = c.in_err-_sends.field-0.0 in
    let refused : Refused refusal log.entries c.act.new.entries (member_of log) c.act.new.agent c.args.input =
    subst (λ (m : Member). Refused refusal log.entries c.act.new.entries m c.act.new.agent c.args.input) c.self.invariant.replayed
    c.in_err-_sends.ensures in
    let stays = refused-stays refusal log.entries c.act.new.entries (member_of log) c.act.new.agent c.args.input refused in
    let same : seen c.act.new.agent c.act.new.entries ≡ log =
    ap (λ (m : Member). seen m c.act.new.entries) stays.1 ∙ ap (λ (l : List Entry). seen (member_of log) l) stays.0 in
    let p = err_from_is_err_and c.from_residual.result c.from_residual.ensures.1 in
    let due : StepRefuses _ log (seen c.act.new.agent c.act.new.entries) (step_of log c.args.number c.args.input) =
    refusal-due refusal log (seen c.act.new.agent c.act.new.entries) c.args.number c.args.input log.entries c.act.new.entries
    c.act.new.agent few refused same in
    subst (λ (l : Log). Steps c.from_residual.result l (seen c.act.new.agent c.act.new.entries)
    (step_of l c.args.number c.args.input)) c.self.view_is
    (rw (p.1, p.2) due)

pub invariant_of-self-2 : goal.invariant_of-self-2
invariant_of-self-2 c =
    let log : Log = log_of c.self.inside in
    let few : length log.entries < 200000 = omega (arith, c.len.ensures, c.if-len-ge-MAX_ENTRIES.false) in
    let behind : IsNumberBehind log.entries c.args.number = subst (λ (l : Log). IsNumberBehind l.entries c.args.number)
    (sym c.self.view_is) c.requires.number in
    let acted = subst (λ (m : Member). IsActed c.in_ok-_sends._sends log.entries c.act.new.entries m c.act.new.agent c.args.number
    c.args.input)
    c.self.invariant.replayed c.in_ok-_sends.ensures in
    let kept = log-kept c.in_ok-_sends._sends log c.args.number c.args.input c.act.new.entries c.act.new.agent
    c.self.invariant.journal behind
    c.requires.own few acted in
    record { journal = kept.0; replayed = kept.1 }

pub returns : goal.returns
returns c =
    let log : Log = log_of c.self.inside in
    let few : length log.entries < 200000 = omega (arith, c.len.ensures, c.if-len-ge-MAX_ENTRIES.false) in
    let acted = subst (λ (m : Member). IsActed c.in_ok-_sends._sends log.entries c.act.new.entries m c.act.new.agent c.args.number
    c.args.input)
    c.self.invariant.replayed c.in_ok-_sends.ensures in
    subst (λ (l : Log). step_of l c.args.number c.args.input ≡ Ok (seen c.act.new.agent c.act.new.entries)) c.self.view_is
    (log-due c.in_ok-_sends._sends log c.args.number c.args.input c.act.new.entries c.act.new.agent few acted)
