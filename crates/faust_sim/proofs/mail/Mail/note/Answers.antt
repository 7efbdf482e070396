use Rattle.std.proofs.Common.{◌≡◌, ◌-◌, ℕ, List, length, get_or, sym, subst, arith}
use Rattle.std.specs.Prelude.{OnOk, slice_set}
use Rattle.std.proofs.lemmas.Result.{on_ok_weaker}
use Rattle.faust_types.specs.declared.outcome.Post.{Post}
use Rattle.faust_sim.specs.Kept.{AreToClients, IsMailBefore, IsMailOf, noted_from}
use Rattle.faust_sim.specs.declared.letters.Place.{Place}
use Rattle.faust_sim.proofs.Noted.{last-of, noted-last}
use Rattle.faust_sim.proofs.Places.{lists-sized}
use Rattle.faust_sim.proofs.mail.Mail.note.Goals as goal

pub overflow_sub-sender : goal.overflow_sub-sender
overflow_sub-sender c =
    let last = last-of c.args.run.now c.args.self.now c.len-number.result c.in-Some.entry.now c.requires c.len-number.ensures
    c.config-config.ensures.kept c.in-Some.ensures in
    omega (arith, last.client.from_one, c.from-sender.ensures)

pub index_mut-requires : goal.index_mut-requires
index_mut-requires c =
    let run = c.args.run.now in
    let mail = c.self.inside.letters.items in
    let before : IsMailBefore run.config.clients mail run.entries =
    subst (λ (m : List (List (List Place))). IsMailBefore run.config.clients m run.entries) (sym c.self.view_is) c.requires in
    let last = last-of run mail c.len-number.result c.in-Some.entry.now before c.len-number.ensures c.config-config.ensures.kept
    c.in-Some.ensures in
    omega (arith, last.client.from_one, last.client.to_n, c.from-sender.ensures, last.of_front.counted, c.self.inside.letters.ok.0)

pub note-requires : goal.note-requires
note-requires c =
    let run = c.args.run.now in
    let mail = c.self.inside.letters.items in
    let e = c.in-Some.entry.now in
    let before : IsMailBefore run.config.clients mail run.entries =
    subst (λ (m : List (List (List Place))). IsMailBefore run.config.clients m run.entries) (sym c.self.view_is) c.requires in
    let last = last-of run mail c.len-number.result e before c.len-number.ensures c.config-config.ensures.kept c.in-Some.ensures in
    let lists = c.index_mut.result.now in
    let read : lists ≡ get_or mail (e.client - 1) lists =
    subst (λ (k : ℕ). lists ≡ get_or mail (k - 1) lists) c.from-sender.ensures c.index_mut.ensures.value in
    subst (λ (posts : List Post). AreToClients (length lists) posts) (sym c.to_peers.ensures)
    (subst (λ (n : ℕ). AreToClients n e.outcome.to_peers)
    (sym (lists-sized run.config.clients mail last.front e.client lists last.of_front last.client read)) last.posts)

pub returns-clause-mail : goal.returns-clause-mail
returns-clause-mail c =
    let run = c.args.run.now in
    let n = run.config.clients in
    let mail = c.self.inside.letters.items in
    let e = c.in-Some.entry.now in
    let before : IsMailBefore n mail run.entries =
    subst (λ (m : List (List (List Place))). IsMailBefore n m run.entries) (sym c.self.view_is) c.requires in
    let last = last-of run mail c.len-number.result e before c.len-number.ensures c.config-config.ensures.kept c.in-Some.ensures in
    let lists = c.index_mut.result.now in
    let now = c.note.new.self in
    let read : lists ≡ get_or mail (e.client - 1) lists =
    subst (λ (k : ℕ). lists ≡ get_or mail (k - 1) lists) c.from-sender.ensures c.index_mut.ensures.value in
    on_ok_weaker c.note.result (λ noted. subst (λ (k : ℕ). IsMailOf n (slice_set mail (k - 1) now) run.entries) (sym c.from-sender.ensures)
    (noted-last run mail c.len-number.result e lists now last read noted))
    (subst (λ (posts : List Post). OnOk c.note.result (now ≡ noted_from lists (c.len-number.result - 1) 0 posts)) c.to_peers.ensures
    c.note.ensures)
