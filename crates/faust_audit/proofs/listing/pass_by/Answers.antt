use Rattle.std.proofs.Common.{◌+◌, ℕ, List, drop, take, sym, ap, ◌∙◌, subst, Option}
use Rattle.faust_types.specs.Clients.{IsClient}
use Rattle.faust_types.specs.Versions.{clients_of}
use Rattle.faust_types.specs.declared.config.Config.{Config}
use Rattle.faust_types.specs.declared.message.Reply.{Reply}
use Rattle.faust_record.specs.Entries.{replay}
use Rattle.faust_record.specs.Runs.{IsRun, entries_of}
use Rattle.faust_record.specs.declared.entry.Entry.{Entry}
use Rattle.faust_audit.specs.Watching.{reply_came, seen_by, watched_after, watched_of}
use Rattle.faust_audit.specs.declared.watched.Seen.{Seen}
use Rattle.faust_audit.proofs.Along.{IsEntryAt, came-as, entry-at, other-next, own-next, run-at, watched-sized}
use Rattle.faust_audit.proofs.listing.pass_by.Goals as goal

pub see-requires-clause-client : goal.see-requires-clause-client
see-requires-clause-client c =
    let config = c.args.rec.now.config in
    let xs = c.args.rec.now.entries in
    let i = c.args.i in
    let sized = watched-sized config xs c.args.p i c.args.watched.now c.config-config.ensures.kept c.requires.client c.requires.watched in
    subst (λ (n : ℕ). IsClient n i) (sym sized) c.requires.client

pub see-requires-clause-reply : goal.see-requires-clause-reply
see-requires-clause-reply c =
    let config = c.args.rec.now.config in
    let xs = c.args.rec.now.entries in
    let i = c.args.i in
    let sized = watched-sized config xs c.args.p i c.args.watched.now c.config-config.ensures.kept c.requires.client c.requires.watched in
    came-as c.config-config.result.now.clients (clients_of c.args.watched.now.own) c.in_ok-reply.reply
    (ap (λ (k : Config). k.clients) c.config-config.ensures.config ∙ sym sized) c.in_ok-reply.ensures.in_range

pub returns-then-entry-i : goal.returns-then-entry-i
returns-then-entry-i c =
    let config = c.args.rec.now.config in
    let xs = c.args.rec.now.entries in
    let p = c.args.p in
    let i = c.args.i in
    let e = c.in-Some.entry.now in
    let at : IsEntryAt xs p e = entry-at xs p e (sym c.in-Some.ensures) in
    other-next config (take p xs) e i c.args.watched.now c.if-entry-i.true c.requires.watched
    ∙ ap (λ (l : List Entry). watched_of i (replay config i (entries_of i l))) (sym at.front)

pub returns : goal.returns
returns c =
    let config = c.args.rec.now.config in
    let xs = c.args.rec.now.entries in
    let p = c.args.p in
    let i = c.args.i in
    let e = c.in-Some.entry.now in
    let watched = c.args.watched.now in
    let run : IsRun config xs = c.config-config.ensures.kept in
    let at : IsEntryAt xs p e = entry-at xs p e (sym c.in-Some.ensures) in
    let reply_is = c.in_ok-reply.ensures.value ∙ ap (λ (k : Config). reply_came k e.input) c.config-config.ensures.config in
    c.go_on.ensures
    ∙ ap (λ (s : Seen). watched_after watched s.moved) c.in_ok-seen.ensures.seen
    ∙ ap (λ (r : Option Reply). watched_after watched (seen_by i watched e.input e.outcome r).moved) reply_is
    ∙ own-next config (take p xs) (drop (p + 1) xs) e i watched (run-at config xs p e run at) c.if-entry-i.false c.requires.watched
    ∙ ap (λ (l : List Entry). watched_of i (replay config i (entries_of i l))) (sym at.front)
