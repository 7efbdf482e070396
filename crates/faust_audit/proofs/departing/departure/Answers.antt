use Rattle.std.proofs.Common.{◌≡◌, ◌<◌, ◌+◌, drop, take, length, refl, sym, ap, ◌∙◌, subst, arith}
use Rattle.faust_types.specs.Clients.{IsClient}
use Rattle.faust_types.specs.declared.config.Config.{Config}
use Rattle.faust_record.specs.declared.entry.Entry.{Entry}
use Rattle.faust_record.proofs.Fed.{IsAt}
use Rattle.faust_audit.specs.Owing.{IsDebtFor, IsFollowed, debt_after}
use Rattle.faust_audit.proofs.Following.{at-read, client-read, followed-departs, followed-next}
use Rattle.faust_audit.proofs.departing.departure.Goals as goal

pub follow-requires-clause-client : goal.follow-requires-clause-client
follow-requires-clause-client c =
    let rec = c.args.rec.now in
    let inside : c.loop-q.q < length rec.entries = omega (arith, c.loop-q-test.true, c.len-q-end.ensures) in
    client-read c.config-config.result.now rec.config rec.entries c.loop-q.q c.entry_at-entry.result.now c.config-config.ensures.config
    c.config-config.ensures.kept inside c.entry_at-entry.ensures

pub returns-then-branch : goal.returns-then-branch
returns-then-branch c =
    let rec = c.args.rec.now in
    let q = c.loop-q.q in
    let e : Entry = c.entry_at-entry.result.now in
    let inside : q < length rec.entries = omega (arith, c.loop-q-test.true, c.len-q-end.ensures) in
    let at : IsAt rec.entries q e = at-read rec.entries q e inside c.entry_at-entry.ensures in
    let client : IsClient rec.config.clients e.client =
    client-read rec.config rec.config rec.entries q e refl c.config-config.ensures.kept inside c.entry_at-entry.ensures in
    followed-departs rec.config rec.entries q e c.loop-q.owing at client c.loop-q.invariant
    (sym c.in_ok-follow.ensures.answer ∙ c.if-branch.true)

pub loop-q-preserved : goal.loop-q-preserved
loop-q-preserved c =
    let rec = c.args.rec.now in
    let q = c.loop-q.q in
    let e : Entry = c.entry_at-entry.result.now in
    let inside : q < length rec.entries = omega (arith, c.loop-q-test.true, c.len-q-end.ensures) in
    let at : IsAt rec.entries q e = at-read rec.entries q e inside c.entry_at-entry.ensures in
    let client : IsClient rec.config.clients e.client =
    client-read rec.config rec.config rec.entries q e refl c.config-config.ensures.kept inside c.entry_at-entry.ensures in
    let now : c.follow.new.self ≡ debt_after rec.config c.loop-q.owing e =
    c.in_ok-follow.ensures.after ∙ ap (λ (k : Config). debt_after k c.loop-q.owing e) c.config-config.ensures.config in
    let counted : IsDebtFor rec.config.clients (debt_after rec.config c.loop-q.owing e) =
    subst (IsDebtFor rec.config.clients) now
    (subst (λ (k : Config). IsDebtFor k.clients c.follow.new.self) c.config-config.ensures.config c.in_ok-follow.ensures.kept) in
    subst (IsFollowed rec.config (take (q + 1) rec.entries) (drop (q + 1) rec.entries) rec.entries) (sym now)
    (followed-next rec.config rec.entries q e c.loop-q.owing at client c.loop-q.invariant
    (sym c.in_ok-follow.ensures.answer ∙ c.if-branch.false) counted)
