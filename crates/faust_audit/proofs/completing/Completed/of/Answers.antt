use Rattle.std.proofs.Common.{◌≡◌, ◌<◌, length, refl, sym, ap, ◌∙◌, subst, arith}
use Rattle.faust_types.specs.Clients.{IsClient}
use Rattle.faust_record.specs.declared.entry.Entry.{Entry}
use Rattle.faust_record.proofs.Fed.{IsAt}
use Rattle.faust_audit.specs.Completing.{AreCompleted, completed_with}
use Rattle.faust_audit.proofs.CompletedNames.{completed-next}
use Rattle.faust_audit.proofs.Following.{at-read, client-read}
use Rattle.faust_audit.proofs.completing.Completed.of.Goals as goal

pub note-requires : goal.note-requires
note-requires c =
    let rec = c.args.rec.now in
    let inside : c.loop-q.q < length rec.entries = omega (arith, c.loop-q-test.true, c.len-q-end.ensures) in
    subst (λ n. IsClient n c.entry_at-entry.result.now.client) (sym c.loop-q.invariant.counted)
    (client-read rec.config rec.config rec.entries c.loop-q.q c.entry_at-entry.result.now refl c.config.ensures.kept inside
    c.entry_at-entry.ensures)

pub loop-q-preserved : goal.loop-q-preserved
loop-q-preserved c =
    let rec = c.args.rec.now in
    let q = c.loop-q.q in
    let e : Entry = c.entry_at-entry.result.now in
    let inside : q < length rec.entries = omega (arith, c.loop-q-test.true, c.len-q-end.ensures) in
    let at : IsAt rec.entries q e = at-read rec.entries q e inside c.entry_at-entry.ensures in
    let client : IsClient rec.config.clients e.client =
    client-read rec.config rec.config rec.entries q e refl c.config.ensures.kept inside c.entry_at-entry.ensures in
    let now : c.note.new.self ≡ completed_with c.loop-q.completed e.client e.outcome.answer =
    c.in_ok-note.ensures ∙ ap (λ answer. completed_with c.loop-q.completed e.client answer) c.answer.ensures in
    subst (AreCompleted rec.config.clients _) (sym now)
    (completed-next rec.config.clients rec.entries q e c.loop-q.completed at client c.loop-q.invariant)
