use Rattle.std.proofs.Common.{◌≡◌, ℕ, List, length, Some, None, Ok, Err, ◌∷◌, [], ◌++◌, refl, sym, ap, ◌∙◌, subst}
use Rattle.faust_types.specs.Clients.{IsClient}
use Rattle.faust_record.specs.Entries.{arrival_at}
use Rattle.faust_record.specs.Runs.{Run, next_message}
use Rattle.faust_record.specs.Refusals.{arrived}
use Rattle.faust_record.specs.Kept.{AreParts, AreWithin, message_at, outbox_of, run_of}
use Rattle.faust_record.specs.declared.errors.PushError.TheVariants.{Nothing}
use Rattle.faust_record.specs.declared.entry.Entry.{Entry}
use Rattle.faust_record.specs.declared.outbox.Outbox.{Outbox}
use Rattle.faust_record.proofs.Pushes.{arrival-entry, arrived-due, arrived-nothing, next-due, outbox-is, parts-arrived, places-within}
use Rattle.faust_record.proofs.run_record.RunRecord.arrive.Goals as goal

pub next_message-requires : goal.next_message-requires
next_message-requires c =
    let r = c.self.inside in
    let i = c.from-k.result in
    let client : IsClient r.config.clients i = subst (IsClient r.config.clients) (sym c.from-k.ensures)
    (subst (λ (run : Run). IsClient run.config.clients c.args.client) (sym c.self.view_is) c.requires) in
    let outbox_is : c.index.result.now ≡ outbox_of i r.entries =
    outbox-is r.config.clients r.outboxes.items r.entries i c.index.result.now c.self.invariant.filled client c.index.ensures in
    subst (λ (o : Outbox). AreWithin (length r.entries) o.sent) (sym outbox_is) (places-within i r.entries)

pub returns-in_default : goal.returns-in_default
returns-in_default c =
    let r = c.self.inside in
    let i = c.from-k.result in
    let client : IsClient r.config.clients i = subst (IsClient r.config.clients) (sym c.from-k.ensures)
    (subst (λ (run : Run). IsClient run.config.clients c.args.client) (sym c.self.view_is) c.requires) in
    let outbox_is : c.index.result.now ≡ outbox_of i r.entries =
    outbox-is r.config.clients r.outboxes.items r.entries i c.index.result.now c.self.invariant.filled client c.index.ensures in
    let due : next_message i r.entries ≡ None =
    sym (next-due i r.entries) ∙ ap (message_at r.entries) (sym outbox_is) ∙ sym c.in_default.ensures.message in
    let at_client : arrived (run_of r) i ≡ Err Nothing = arrived-nothing (run_of r) i due in (
      refl,
      subst (λ (run : Run). arrived run c.args.client ≡ Err Nothing) c.self.view_is
          (subst (λ (k : ℕ). arrived (run_of r) k ≡ Err Nothing) c.from-k.ensures at_client),
    )

pub invariant_of-self-2 : goal.invariant_of-self-2
invariant_of-self-2 c =
    let r = c.self.inside in
    let i = c.from-k.result in
    let client : IsClient r.config.clients i = subst (IsClient r.config.clients) (sym c.from-k.ensures)
    (subst (λ (run : Run). IsClient run.config.clients c.args.client) (sym c.self.view_is) c.requires) in
    let outbox_is : c.index.result.now ≡ outbox_of i r.entries =
    outbox-is r.config.clients r.outboxes.items r.entries i c.index.result.now c.self.invariant.filled client c.index.ensures in
    let message : List ℕ = c.in_ok-message.message in
    let due : next_message i r.entries ≡ Some message =
    sym (next-due i r.entries) ∙ ap (message_at r.entries) (sym outbox_is) ∙ sym c.in-Some.ensures.message
    ∙ ap (λ (m : List ℕ). Some m) (sym c.in_ok-message.ensures) in
    let same : c.index_mut.result.now ≡ outbox_of i r.entries =
    outbox-is r.config.clients r.outboxes.items r.entries i c.index_mut.result.now c.self.invariant.filled client
    c.index_mut.ensures.value in
    let before : AreParts r.config r.agents.items r.outboxes.items r.entries = c.self.invariant in
    let parts = parts-arrived r.config r.agents.items r.outboxes.items r.entries i message c.index_mut.result.now
    c.take_next.new.self before client due same c.take_next.ensures in
    let entry = arrival-entry c.len.result c.args.client message c.nothing.result (length r.entries) i c.len.ensures
    (sym c.from-k.ensures) c.nothing.ensures in
    let now : c.push.new.self ≡ r.entries ++ arrival_at i (length r.entries) message ∷ [] =
    c.in_ok-push.ensures.ok ∙ ap (λ (e : Entry). r.entries ++ e ∷ []) entry in
    record {
      run = rw now parts.run;
      replayed = rw now parts.replayed;
      filled = rw now parts.filled;
    }

pub returns : goal.returns
returns c =
    let r = c.self.inside in
    let i = c.from-k.result in
    let client : IsClient r.config.clients i = subst (IsClient r.config.clients) (sym c.from-k.ensures)
    (subst (λ (run : Run). IsClient run.config.clients c.args.client) (sym c.self.view_is) c.requires) in
    let outbox_is : c.index.result.now ≡ outbox_of i r.entries =
    outbox-is r.config.clients r.outboxes.items r.entries i c.index.result.now c.self.invariant.filled client c.index.ensures in
    let message : List ℕ = c.in_ok-message.message in
    let due : next_message i r.entries ≡ Some message =
    sym (next-due i r.entries) ∙ ap (message_at r.entries) (sym outbox_is) ∙ sym c.in-Some.ensures.message
    ∙ ap (λ (m : List ℕ). Some m) (sym c.in_ok-message.ensures) in
    let entry = arrival-entry c.len.result c.args.client message c.nothing.result (length r.entries) i c.len.ensures
    (sym c.from-k.ensures) c.nothing.ensures in
    let now : r.entries ++ arrival_at i (length r.entries) message ∷ [] ≡ c.push.new.self =
    sym (c.in_ok-push.ensures.ok ∙ ap (λ (e : Entry). r.entries ++ e ∷ []) entry) in
    let longer : List Entry → Run = λ (l : List Entry). record { config = r.config; entries = l } in
    let at_client : arrived (run_of r) i ≡ Ok (longer c.push.new.self) =
    arrived-due (run_of r) i message due ∙ ap (λ (l : List Entry). Ok (longer l)) now in
    subst (λ (run : Run). arrived run c.args.client ≡ Ok (longer c.push.new.self)) c.self.view_is
    (subst (λ (k : ℕ). arrived (run_of r) k ≡ Ok (longer c.push.new.self)) c.from-k.ensures at_client)
