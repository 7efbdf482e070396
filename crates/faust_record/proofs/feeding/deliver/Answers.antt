use Rattle.std.proofs.Common.{◌≡◌, ◌-◌, ◌+◌, ℕ, List, length, drop, take, None, Some, slice_set, refl, sym, ap, ◌∙◌, subst, arith}
use Rattle.faust_types.specs.Clients.{IsClient}
use Rattle.faust_record.specs.Kept.{AreWithin, blank_entry, message_at, outbox_in}
use Rattle.faust_record.specs.Placing.{Delivers, FeedsOne, IsPlacedFor}
use Rattle.faust_record.specs.Runs.{arriving}
use Rattle.faust_record.specs.declared.entry.Entry.{Entry}
use Rattle.faust_record.specs.declared.errors.MergeError.TheVariants as merges
use Rattle.faust_record.specs.declared.outbox.Outbox.{Outbox}
use Rattle.faust_record.proofs.Fed.{IsAt, at-place, delivered-next, entry-placed, few-here, outbox-read, stranger-next, within-here}
use Rattle.faust_record.proofs.feeding.deliver.Goals as goal
use Rattle.faust_record.proofs.feeding.deliver.Goals.{then-client-lt1-via-then-client-lt1, then-client-lt1-via-else-client-lt1+then-client-n}

pub returns-then-client-lt1 : goal.returns-then-client-lt1
returns-then-client-lt1 c =
    let n = c.args.n in
    let all = c.args.entries.now in
    let q = c.args.q in
    let e = c.at.result.now in
    let at : IsAt all q e = at-place all q e blank_entry c.requires.place (c.at.ensures blank_entry) in
    let arrival : arriving e.input ≡ Some c.args.message.now = ap (λ (x : Entry). arriving x.input) (c.at.ensures blank_entry)
    ∙ c.requires.arrival in
    let stranger : IsClient n e.client → ⊥ = λ client. elim c.then-client-lt1.branch [
      | then-client-lt1-via-then-client-lt1 w ↦ omega (arith, client.from_one)
      | then-client-lt1-via-else-client-lt1+then-client-n w ↦ omega (arith, client.to_n)
    ] in
    stranger-next n c.args.outboxes.now.items all q e c.args.message.now at c.requires.fed arrival stranger
    ∙ ap (λ (m : List ℕ). Some (merges.Frame e.client 1 None m)) (sym c.in_ok-copy.ensures)

pub deliver-requires-clause-places : goal.deliver-requires-clause-places
deliver-requires-clause-places c =
    let n = c.args.n in
    let all = c.args.entries.now in
    let q = c.args.q in
    let e = c.at.result.now in
    let items = c.args.outboxes.now.items in
    let client : IsClient n e.client = record { from_one = c.if-client-lt1.false; to_n = c.if-client-n.false } in
    let at : IsAt all q e = at-place all q e blank_entry c.requires.place (c.at.ensures blank_entry) in
    let outbox : c.index_mut-outbox.result.now ≡ outbox_in items e.client =
    outbox-read n items (take q all) c.from.result e.client c.index_mut-outbox.result.now c.requires.fed.filled client c.from.ensures
    c.index_mut-outbox.ensures.value in
    subst (λ (o : Outbox). AreWithin (length all) o.sent) (sym outbox) (within-here n items all q e at c.requires.fed client)

pub deliver-requires-clause-few : goal.deliver-requires-clause-few
deliver-requires-clause-few c =
    let n = c.args.n in
    let all = c.args.entries.now in
    let q = c.args.q in
    let e = c.at.result.now in
    let items = c.args.outboxes.now.items in
    let client : IsClient n e.client = record { from_one = c.if-client-lt1.false; to_n = c.if-client-n.false } in
    let at : IsAt all q e = at-place all q e blank_entry c.requires.place (c.at.ensures blank_entry) in
    let outbox : c.index_mut-outbox.result.now ≡ outbox_in items e.client =
    outbox-read n items (take q all) c.from.result e.client c.index_mut-outbox.result.now c.requires.fed.filled client c.from.ensures
    c.index_mut-outbox.ensures.value in
    let same : c.index_mut-outbox.result.now.arrived ≡ (outbox_in items e.client).arrived = ap (λ (o : Outbox). o.arrived) outbox in
    omega (arith, same, few-here n items all q e at c.requires.fed client, c.requires.room)

pub returns : goal.returns
returns c =
    let n = c.args.n in
    let all = c.args.entries.now in
    let q = c.args.q in
    let e = c.at.result.now in
    let items = c.args.outboxes.now.items in
    let message = c.args.message.now in
    let now = c.deliver.new.self in
    let client : IsClient n e.client = record { from_one = c.if-client-lt1.false; to_n = c.if-client-n.false } in
    let at : IsAt all q e = at-place all q e blank_entry c.requires.place (c.at.ensures blank_entry) in
    let placed : IsPlacedFor n e = entry-placed n all q e blank_entry c.requires.placed c.requires.place (c.at.ensures blank_entry) in
    let arrival : arriving e.input ≡ Some message = ap (λ (x : Entry). arriving x.input) (c.at.ensures blank_entry) ∙ c.requires.arrival in
    let outbox : c.index_mut-outbox.result.now ≡ outbox_in items e.client =
    outbox-read n items (take q all) c.from.result e.client c.index_mut-outbox.result.now c.requires.fed.filled client c.from.ensures
    c.index_mut-outbox.ensures.value in
    let delivers : Delivers c.deliver.result e.client (message_at all (outbox_in items e.client)) (outbox_in items e.client) now message =
    subst (λ (o : Outbox). Delivers c.deliver.result e.client (message_at all o) o now message) outbox c.deliver.ensures in
    let next : FeedsOne c.deliver.result n (slice_set items (e.client - 1) now) all (q + 1) =
    delivered-next c.deliver.result n items all q e message now at c.requires.fed arrival (placed.arrival_alone message arrival)
    client delivers in
    subst (λ (k : ℕ). FeedsOne c.deliver.result n (slice_set items (k - 1) now) all (q + 1)) (sym c.from.ensures) next
