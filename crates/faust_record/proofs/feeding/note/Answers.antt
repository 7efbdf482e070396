use Rattle.std.proofs.Common.{◌≡◌, ◌-◌, ℕ, drop, take, None, slice_set, ◌+◌, sym, ap, ◌∙◌, subst, arith}
use Rattle.faust_types.specs.Clients.{IsClient}
use Rattle.faust_record.specs.Kept.{blank_entry, outbox_in, sent_after}
use Rattle.faust_record.specs.Placing.{AreFedTo, IsPlacedFor}
use Rattle.faust_record.specs.Runs.{arriving}
use Rattle.faust_record.specs.declared.entry.Entry.{Entry}
use Rattle.faust_record.specs.declared.outbox.Outbox.{Outbox}
use Rattle.faust_record.proofs.Fed.{IsAt, act-client, at-place, noted-next, outbox-read}
use Rattle.faust_record.proofs.feeding.note.Goals as goal

pub overflow_sub-from : goal.overflow_sub-from
overflow_sub-from c =
    let client = act-client c.args.n c.args.entries.now c.args.q c.at-entry.result.now blank_entry c.requires.placed c.requires.place
    (c.at-entry.ensures blank_entry) c.requires.act in
    omega (arith, client.from_one, c.from.ensures)

pub index_mut-outbox-requires : goal.index_mut-outbox-requires
index_mut-outbox-requires c =
    let client = act-client c.args.n c.args.entries.now c.args.q c.at-entry.result.now blank_entry c.requires.placed c.requires.place
    (c.at-entry.ensures blank_entry) c.requires.act in
    omega (arith, client.from_one, client.to_n, c.from.ensures, c.requires.fed.filled.counted, c.args.outboxes.now.ok.0)

pub returns : goal.returns
returns c =
    let n = c.args.n in
    let all = c.args.entries.now in
    let q = c.args.q in
    let e = c.at-entry.result.now in
    let items = c.args.outboxes.now.items in
    let client : IsClient n e.client = act-client n all q e blank_entry c.requires.placed c.requires.place
    (c.at-entry.ensures blank_entry) c.requires.act in
    let act : arriving e.input ≡ None = ap (λ (x : Entry). arriving x.input) (c.at-entry.ensures blank_entry) ∙ c.requires.act in
    let at : IsAt all q e = at-place all q e blank_entry c.requires.place (c.at-entry.ensures blank_entry) in
    let outbox : c.index_mut-outbox.result.now ≡ outbox_in items e.client =
    outbox-read n items (take q all) c.from.result e.client c.index_mut-outbox.result.now c.requires.fed.filled client c.from.ensures
    c.index_mut-outbox.ensures.value in
    let noted : c.note.new.self ≡ sent_after (outbox_in items e.client) q e.outcome.to_server =
    c.in_ok-note.ensures ∙ ap (λ (o : Outbox). sent_after o q e.outcome.to_server) outbox in
    let next = noted-next n items all q e c.note.new.self at c.requires.fed act client noted in
    subst (λ (k : ℕ). AreFedTo n (slice_set items (k - 1) c.note.new.self) (take (q + 1) all) (drop (q + 1) all) all)
    (sym c.from.ensures) next
