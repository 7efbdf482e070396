use Rattle.std.proofs.Common.{◌≡◌, ◌+◌, ◌<◌, ◌∙◌, Bool, List, length, rules, subst, sym, take, vec_len, arith}
use Rattle.faust_record.specs.declared.entry.Entry.{Entry}
use Rattle.faust_views.specs.Noted.{AreNoted, noted}
use Rattle.faust_views.proofs.Noting.{client-at, noted-step, take-at}
use Rattle.faust_views.proofs.writes.Writes.of.Goals as goal

pub note-requires : goal.note-requires
note-requires c =
    let client = client-at c.args.rec.now.config.clients c.args.rec.now.entries c.loop-q.q c.entry_at.result.now
    c.config.ensures.kept.of_clients c.entry_at.ensures in
    let to_n = client.to_n in
    let count = c.loop-q.invariant.1 in
    omega arith

pub loop-q-preserved : goal.loop-q-preserved
loop-q-preserved c =
    let client = client-at c.args.rec.now.config.clients c.args.rec.now.entries c.loop-q.q c.entry_at.result.now
    c.config.ensures.kept.of_clients c.entry_at.ensures in
    let to_n = client.to_n in
    let count = c.loop-q.invariant.1 in
    let sized : length c.loop-q.writes.kinds.items ≡ vec_len c.loop-q.writes.kinds = search rules in
    let inside : c.entry_at.result.now.client < length c.loop-q.writes.kinds.items = omega arith in
    let step : AreNoted (noted c.loop-q.writes.kinds.items c.entry_at.result.now) (take (c.loop-q.q + 1) c.args.rec.now.entries) =
    subst (λ (entries : List Entry). AreNoted (noted c.loop-q.writes.kinds.items c.entry_at.result.now) entries)
    (sym (take-at c.args.rec.now.entries c.loop-q.q c.entry_at.result.now c.entry_at.ensures))
    (noted-step c.loop-q.writes.kinds.items (take c.loop-q.q c.args.rec.now.entries) c.entry_at.result.now inside
    c.loop-q.invariant.0) in (
      subst (λ (kinds : List (List Bool)). AreNoted kinds (take (c.loop-q.q + 1) c.args.rec.now.entries))
          (sym c.in_ok-note.ensures.noted) step,
      c.in_ok-note.ensures.count ∙ count,
    )
