use Rattle.std.proofs.Common.{◌+◌, ℕ, drop, take, sym, ap, ◌∙◌, subst}
use Rattle.faust_types.specs.Clients.{IsClient}
use Rattle.faust_types.specs.Versions.{clients_of}
use Rattle.faust_types.specs.declared.config.Config.{Config}
use Rattle.faust_record.specs.Made.{made_bodies}
use Rattle.faust_record.specs.Runs.{IsRun}
use Rattle.faust_audit.specs.Watching.{bodies_seen, reply_came}
use Rattle.faust_audit.specs.declared.watched.Seen.{Seen}
use Rattle.faust_audit.proofs.Clients.{client-at}
use Rattle.faust_audit.proofs.Along.{IsEntryAt, came-as, entry-at, made-at, run-at, watched-sized}
use Rattle.faust_audit.proofs.listing.made.Goals as goal

pub watched_before-requires-clause-client : goal.watched_before-requires-clause-client
watched_before-requires-clause-client c =
    let config = c.args.rec.now.config in
    let xs = c.args.rec.now.entries in
    let q = c.args.q in
    let e = c.in-Some.entry.now in
    let run : IsRun config xs = c.config-config.ensures.kept in
    let at : IsEntryAt xs q e = entry-at xs q e (sym c.in-Some.ensures) in
    client-at config (take q xs) (drop (q + 1) xs) e (run-at config xs q e run at)

pub see-requires-clause-client : goal.see-requires-clause-client
see-requires-clause-client c =
    let config = c.args.rec.now.config in
    let xs = c.args.rec.now.entries in
    let q = c.args.q in
    let e = c.in-Some.entry.now in
    let run : IsRun config xs = c.config-config.ensures.kept in
    let at : IsEntryAt xs q e = entry-at xs q e (sym c.in-Some.ensures) in
    let client = client-at config (take q xs) (drop (q + 1) xs) e (run-at config xs q e run at) in
    subst (λ (n : ℕ). IsClient n e.client) (sym
    (watched-sized config xs q e.client c.in_ok-watched.watched run client c.in_ok-watched.ensures)) client

pub see-requires-clause-reply : goal.see-requires-clause-reply
see-requires-clause-reply c =
    let config = c.args.rec.now.config in
    let xs = c.args.rec.now.entries in
    let q = c.args.q in
    let e = c.in-Some.entry.now in
    let run : IsRun config xs = c.config-config.ensures.kept in
    let at : IsEntryAt xs q e = entry-at xs q e (sym c.in-Some.ensures) in
    let client = client-at config (take q xs) (drop (q + 1) xs) e (run-at config xs q e run at) in
    let sized = watched-sized config xs q e.client c.in_ok-watched.watched run client c.in_ok-watched.ensures in
    came-as c.config-config.result.now.clients (clients_of c.in_ok-watched.watched.own) c.in_ok-reply.reply
    (ap (λ (k : Config). k.clients) c.config-config.ensures.config ∙ sym sized) c.in_ok-reply.ensures.in_range

pub bodies_made-requires-clause-client : goal.bodies_made-requires-clause-client
bodies_made-requires-clause-client c =
    let config = c.args.rec.now.config in
    let xs = c.args.rec.now.entries in
    let q = c.args.q in
    let e = c.in-Some.entry.now in
    let run : IsRun config xs = c.config-config.ensures.kept in
    let at : IsEntryAt xs q e = entry-at xs q e (sym c.in-Some.ensures) in
    let client = client-at config (take q xs) (drop (q + 1) xs) e (run-at config xs q e run at) in
    subst (λ (n : ℕ). IsClient n e.client) (sym
    (watched-sized config xs q e.client c.in_ok-watched.watched run client c.in_ok-watched.ensures)) client

pub returns : goal.returns
returns c = λ d.
    let config = c.args.rec.now.config in
    let xs = c.args.rec.now.entries in
    let q = c.args.q in
    let e = c.in-Some.entry.now in
    let run : IsRun config xs = c.config-config.ensures.kept in
    let at : IsEntryAt xs q e = entry-at xs q e (sym c.in-Some.ensures) in
    let reply_is = c.in_ok-reply.ensures.value ∙ ap (λ (k : Config). reply_came k e.input) c.config-config.ensures.config in
    c.in_ok-bodies.ensures
    ∙ ap (λ (s : Seen). bodies_seen e.client c.in_ok-watched.watched s.moved e.outcome) c.in_ok-seen.ensures.seen
    ∙ made-at config xs q e c.in_ok-watched.watched c.in_ok-reply.reply run at c.in_ok-watched.ensures reply_is
    ∙ ap (made_bodies config (take q xs)) (sym (at.here d))
