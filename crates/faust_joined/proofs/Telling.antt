-- What completions tell in a run without a departure: their names go up one by one, and a read answers what was written
-- last when its SUBMIT arrived.
use Rattle.std.proofs.Common.{◌≡◌, ◌+◌, ℕ, zero, suc, true, false, List, [], ◌∷◌, ◌++◌, length, option_to_list, Option, Some, None, IfSome, refl, sym, ap, ◌∙◌, subst, inl, inr, arith, length-append, append-nil}
use Rattle.std.specs.Prelude.{◌⊎◌, Result, Ok, Err, option_map, slice_get}
use Rattle.std.proofs.lemmas.Bool.{cases_eq, eqb-true}
use Rattle.std.proofs.lemmas.Option.{same_Some}
use Rattle.faust_types.specs.Versions.{Vector}
use Rattle.faust_types.specs.Messages.{value_of}
use Rattle.faust_types.specs.declared.config.Config.{Config}
use Rattle.faust_types.specs.declared.operation.Kind.{Kind}
use Rattle.faust_types.specs.declared.operation.Kind.TheVariants.{Read}
use Rattle.faust_types.specs.declared.operation.Operation.{Operation}
use Rattle.faust_types.specs.declared.operation.Answer.{Answer}
use Rattle.faust_types.specs.declared.outcome.Outcome.{Outcome}
use Rattle.faust_types.specs.declared.message.ReadPart.{ReadPart}
use Rattle.faust_types.specs.declared.message.Reply.{Reply}
use Rattle.faust_types.specs.declared.message.Message.{Message}
use Rattle.faust_types.specs.declared.message.Message.TheVariants as messages
use Rattle.faust_wire.specs.Reading.{message_of}
use Rattle.faust_server.specs.Rows.{State, Served, committed, submitted}
use Rattle.faust_server.specs.declared.refusal.OutOfTurn.{OutOfTurn}
use Rattle.faust_wire.proofs.Messages.{reply-read}
use Rattle.faust_ustor.specs.Checks.{is_part_for}
use Rattle.faust_ustor.specs.Passed.{next_of, told, told_of}
use Rattle.faust_lists.specs.Lists.{count, upto, IsTail}
use Rattle.faust_lists.specs.Walks.{IsVersionOf}
use Rattle.faust_lists.proofs.Fronts.{upto-stable}
use Rattle.faust_lists.proofs.Tails.{count-tail}
use Rattle.faust_honest.specs.World.{World, written}
use Rattle.faust_honest.specs.Honest.{IsReadOf}
use Rattle.faust_agent.specs.State.{completed_count, version_at}
use Rattle.faust_agent.specs.Deeds.{Event, as_reply, replied, reply_in}
use Rattle.faust_agent.specs.Table.{answer_of, deed_of}
use Rattle.faust_agent.specs.Tells.{Tells}
use Rattle.faust_agent.specs.declared.client.Client.{Client}
use Rattle.faust_agent.specs.declared.deed.Deed.{Deed}
use Rattle.faust_agent.specs.declared.deed.Deed.TheVariants as deeds
use Rattle.faust_agent.proofs.Reasons.{deed-tells}
use Rattle.faust_record.specs.Entries.{deed_at, event_of, replay}
use Rattle.faust_record.specs.Operations.{Finished, finished_among, finished_in, started_among}
use Rattle.faust_record.specs.Runs.{entries_of}
use Rattle.faust_record.specs.declared.entry.Input.{Input}
use Rattle.faust_record.specs.declared.entry.Input.TheVariants as inputs
use Rattle.faust_record.specs.declared.entry.Entry.{Entry}
use Rattle.faust_record.proofs.Own.{entries_of-other, entries_of-own}
use Rattle.faust_audit.specs.Departure.{Line, departs_at, due_at, first_line, given_to, is_due, line_at, line_of, line_served, line_settled, line_told, times_of}
use Rattle.faust_audit.proofs.CompletedNames.{finished-append}
use Rattle.faust_audit.proofs.Following.{line-append, times-other, times-own}
use Rattle.faust_joined.specs.Joined.{AreAllTold, AreTold, IsJoined, IsToldAt}
use Rattle.faust_joined.proofs.Acting.{answer-given, due-reply}
use Rattle.faust_joined.proofs.Completing.{IsBehind, IsCompleting, behind-then, completing}
use Rattle.faust_joined.proofs.Joining.{IsNext, not-false}

-- an input that is no reply answers nothing
tells-silent : (config : Config) (k : ℕ) (st : Client) (event : Event) (deed : Deed) → ((r : Option Reply) → event ≡ replied r → ⊥)
    → Tells config k st event deed → answer_of deed ≡ None
tells-silent config k st event deeds.Ignores other tells = refl
tells-silent config k st event (deeds.Begins order) other tells = refl
tells-silent config k st event (deeds.Completes done) other tells = absurd (other (Some tells.reply) tells.came)
tells-silent config k st event (deeds.Breaks notice) other tells = refl
tells-silent config k st event (deeds.Answers j) other tells = refl
tells-silent config k st event (deeds.Hears j known) other tells = refl
tells-silent config k st event (deeds.Ticks m) other tells = refl

silent-at : (config : Config) (k : ℕ) (st : Client) (input : Input) → ((r : Option Reply) → event_of config k input ≡ replied r → ⊥)
    → answer_of (deed_at config k st input) ≡ None
silent-at config k st input other =
    tells-silent config k st (event_of config k input) (deed_at config k st input) other (deed-tells config k st (event_of config k input))

-- one more completion of a client
finished-one : (own : List Entry) (e : Entry) → finished_among (own ++ e ∷ []) ≡ finished_among own ++ option_to_list (finished_in e)
finished-one own e =
    finished-append own (e ∷ []) ∙ ap (λ (l : List Finished). finished_among own ++ l) (append-nil (option_to_list (finished_in e)))

none-finished : (e : Entry) → e.outcome.answer ≡ None → option_to_list (finished_in e) ≡ []
none-finished e none = ap (λ (o : Option Answer). option_to_list
    (option_map (λ (a : Answer). let f : Finished = record { answer = a; number = e.number } in f) o)) none

-- what was told stays so
told-later : (world : World) (arrived later : List ℕ) (k t : ℕ) (x : Finished) → IsTail arrived later → IsToldAt world arrived k t x
    → IsToldAt world later k t x
told-later world arrived later k t x on h = record {
  same_name = h.same_name;
  has_arrived = omega (arith, h.has_arrived, count-tail k arrived later on);
  before = h.before;
  arrived_then = upto-stable k t arrived later on h.has_arrived ∙ h.arrived_then;
  value = h.value;
}

all-later : (world : World) (arrived later : List ℕ) (k : ℕ) (finished : List Finished) (handed : ℕ) → IsTail arrived later
    → AreTold world arrived k finished handed → AreTold world later k finished handed
all-later world arrived later k finished handed on h =
    record { counted = h.counted; each = λ s x at. told-later world arrived later k (suc s) x on (h.each s x at) }

get-snoc : {X : Type 0} (xs : List X) (x y : X) (s : ℕ) → slice_get (xs ++ x ∷ []) s ≡ Some y
    → (slice_get xs s ≡ Some y) ⊎ ((s ≡ length xs) × (x ≡ y))
get-snoc {X} [] x y zero found = inr (refl, same_Some x y found)
get-snoc {X} [] x y (suc s) found = absurd cc
get-snoc {X} (z ∷ xs) x y zero found = inl found
get-snoc {X} (z ∷ xs) x y (suc s) found = elim (get-snoc xs x y s found) [
  | inl before ↦ inl before
  | inr last ↦ inr (ap (λ (n : ℕ). suc n) last.0, last.1)
]

plus-one : (n : ℕ) → n + 1 ≡ suc n
plus-one n = omega arith

all-snoc : (world : World) (arrived : List ℕ) (k : ℕ) (finished : List Finished) (handed : ℕ) (x : Finished)
    → AreTold world arrived k finished handed → IsToldAt world arrived k (suc handed) x
    → AreTold world arrived k (finished ++ x ∷ []) (suc handed)
all-snoc world arrived k finished handed x h here = record {
  counted = length-append finished (x ∷ []) ∙ ap (λ (n : ℕ). n + 1) h.counted ∙ plus-one handed;
  each = λ s y at. elim (get-snoc finished x y s at) [
    | inl before ↦ h.each s y before
    | inr last ↦
        let place : handed ≡ s = sym h.counted ∙ sym last.0 in
        subst (λ (z : Finished). IsToldAt world arrived k (suc s) z) last.1
        (subst (λ (n : ℕ). IsToldAt world arrived k (suc n) x) place here)
  ];
}

-- the value that a read is told
read-value : (n : ℕ) (world : World) (k : ℕ) (before : List ℕ) (op : Operation) (next : Vector)
    (read : Option ReadPart) → op.kind ≡ Read → is_part_for op.kind op.register read ≡ true
    → IfSome read (IsReadOf world (k ∷ before))
    → (told_of next read).value ≡ written world op.register (count op.register (k ∷ before))
read-value n world k before op next None kind fits answer =
    let never : false ≡ true = sym (ap (λ (x : Kind). is_part_for x op.register None) kind) ∙ fits in
    absurd (cc never)
read-value n world k before op next (Some part) kind fits answer =
    let same : part.register ≡ op.register =
    eqb-true part.register op.register (sym (ap (λ (x : Kind). is_part_for x op.register (Some part)) kind) ∙ fits) in
    subst (λ (j : ℕ). value_of part.mem ≡ written world j (count j (k ∷ before))) same answer.value

-- the reply has a part exactly for a read of its register
part-fits : (config : Config) (world : World) (arrived : List ℕ) (begun k : ℕ) (st : Client) (reply : Reply)
    → (completes : IsCompleting config world arrived begun k st reply)
    → IsVersionOf config.clients (version_at st k) (upto k (completed_count k st) arrived)
    → is_part_for completes.op.kind completes.op.register reply.read ≡ true
part-fits config world arrived begun k st reply completes own =
    let past : List ℕ = completes.reply_to.before in
    let behind : IsBehind k (completed_count k st) arrived past =
    behind-then k (completed_count k st) arrived past completes.has_arrived completes.reply_to.arrived_then in
    (completes.reply_to.accepted.passed (version_at st k) completes.op
    (subst (λ (w : List ℕ). IsVersionOf config.clients (version_at st k) w) behind.own_front own)
    (completes.awaited.same_kind ∙ ap (λ (x : ℕ). world.kind k (suc x)) (sym behind.counted))
    (completes.awaited.same_register ∙ ap (λ (x : ℕ). world.register k (suc x)) (sym behind.counted))).part_fits

-- a due reply completes the next operation
reply-told : (config : Config) (world : World) (front : List Entry) (e : Entry) (bytes : List ℕ) → IsNext config world front e
    → e.input ≡ inputs.Reply bytes → (h : IsJoined config world front)
    → (x : Finished) × (option_to_list (finished_in e) ≡ x ∷ [])
    × IsToldAt world h.arrived e.client (suc (times_of e.client (line_of config front).handed)) x
reply-told config world front e bytes next is h =
    let n = config.clients in
    let i : ℕ = e.client in
    let own : List Entry = entries_of i front in
    let st : Client = replay config i own in
    let before : Line = line_of config front in
    let mine = h.each i next.client in
    let handed : ℕ = times_of i before.handed in
    let step = mine.in_step in
    let d : ℕ = completed_count i st in
    let due : is_due config.wire bytes (due_at before i) ≡ true =
    not-false (is_due config.wire bytes (due_at before i)) (ap (departs_at config before i) (sym is) ∙ next.stays) in
    let found = due-reply config.wire bytes (due_at before i) due in
    let reply : Reply = found.0 in
    let completes : IsCompleting config world h.arrived (length (started_among own)) i st reply =
    completing config world h.arrived (count i h.handled) (length (started_among own)) i st mine.queue (given_to i before.given) handed
    reply next.same_key step found.1 in
    let op : Operation = completes.op in
    let answer : Answer = record { op = op; value = (told i reply).value; asof = (told i reply).asof } in
    let read : reply_in config bytes ≡ Some reply =
    ap (reply_in config) found.2
    ∙ ap (λ (m : Option Message). as_reply m) (reply-read config.wire n reply next.sized completes.reply_to.in_range) in
    let given : e.outcome.answer ≡ Some answer =
    ap (λ (o : Outcome). o.answer) next.step.outcome_is ∙ answer-given config i st e.input
    ∙ ap (λ (x : Input). answer_of (deed_at config i st x)) is
    ∙ ap (λ (r : Option Reply). answer_of (deed_of config i st (replied r))) read
    ∙ ap answer_of completes.deed in
    let x : Finished = record { answer = answer; number = e.number } in
    let finished : option_to_list (finished_in e) ≡ x ∷ [] =
    ap (λ (o : Option Answer). option_to_list
    (option_map (λ (a : Answer). let f : Finished = record { answer = a; number = e.number } in f) o)) given in
    let past : List ℕ = completes.reply_to.before in
    let behind : IsBehind i d h.arrived past = behind-then i d h.arrived past completes.has_arrived completes.reply_to.arrived_then in
    let told_at : IsToldAt world h.arrived i (suc d) x = record {
      same_name = completes.awaited.same_name;
      has_arrived = omega (arith, completes.has_arrived);
      before = past;
      arrived_then = completes.reply_to.arrived_then;
      value = λ reads.
          let kind : op.kind ≡ Read = completes.awaited.same_kind ∙ reads in
          subst (λ (j : ℕ). (told i reply).value ≡ written world j (count j (i ∷ past))) completes.awaited.same_register
          (read-value n world i past op (next_of i reply) reply.read kind
          (part-fits config world h.arrived (length (started_among own)) i st reply completes step.own)
          completes.reply_to.accepted.answer);
    } in
    (x, finished, subst (λ (t : ℕ). IsToldAt world h.arrived i (suc t) x) (sym step.handed_each) told_at)

-- one more entry
silent-told : (config : Config) (world : World) (front : List Entry) (e : Entry) (later : List ℕ) (input : Input)
    → IsNext config world front e → (h : IsJoined config world front) → IsTail h.arrived later → AreAllTold config world h.arrived front
    → e.input ≡ input → ((r : Option Reply) → event_of config e.client input ≡ replied r → ⊥)
    → (line_of config (front ++ e ∷ [])).handed ≡ (line_of config front).handed → AreAllTold config world later (front ++ e ∷ [])
silent-told config world front e later input next h on told is other same k client =
    let i : ℕ = e.client in
    let st : Client = replay config i (entries_of i front) in
    let none : e.outcome.answer ≡ None =
    ap (λ (o : Outcome). o.answer) next.step.outcome_is ∙ answer-given config i st e.input
    ∙ ap (λ (x : Input). answer_of (deed_at config i st x)) is ∙ silent-at config i st input other in
    let finished : finished_among (entries_of k (front ++ e ∷ [])) ≡ finished_among (entries_of k front) =
    elim (cases_eq i k) [
      | inl own ↦
          ap finished_among (entries_of-own k front e own) ∙ finished-one (entries_of k front) e
          ∙ ap (λ (l : List Finished). finished_among (entries_of k front) ++ l) (none-finished e none)
          ∙ append-nil (finished_among (entries_of k front))
      | inr apart ↦ ap finished_among (entries_of-other k front e apart)
    ] in
    subst (λ (l : List Finished). AreTold world later k l (times_of k (line_of config (front ++ e ∷ [])).handed)) (sym finished)
    (subst (λ (l : List ℕ). AreTold world later k (finished_among (entries_of k front)) (times_of k l)) (sym same)
    (all-later world h.arrived later k (finished_among (entries_of k front)) (times_of k (line_of config front).handed) on (told k client)))

replied-told : (config : Config) (world : World) (front : List Entry) (e : Entry) (later : List ℕ) (bytes : List ℕ)
    → IsNext config world front e → (h : IsJoined config world front) → IsTail h.arrived later → AreAllTold config world h.arrived front
    → e.input ≡ inputs.Reply bytes → AreAllTold config world later (front ++ e ∷ [])
replied-told config world front e later bytes next h on told is k client =
    let i : ℕ = e.client in
    let before : Line = line_of config front in
    let handed : ℕ = times_of i before.handed in
    let more = reply-told config world front e bytes next is h in
    let x : Finished = more.0 in
    let line_is : (line_of config (front ++ e ∷ [])).handed ≡ before.handed ++ i ∷ [] =
    ap (λ (l : Line). l.handed) (line-append config (first_line config.clients) front e)
    ∙ ap (λ (y : Input). (line_at config before i y).handed) is in
    let mine : AreTold world later i (finished_among (entries_of i front) ++ x ∷ []) (suc handed) =
    all-snoc world later i (finished_among (entries_of i front)) handed x
    (all-later world h.arrived later i (finished_among (entries_of i front)) handed on (told i next.client))
    (told-later world h.arrived later i (suc handed) x on more.2) in
    let finished : finished_among (entries_of i (front ++ e ∷ [])) ≡ finished_among (entries_of i front) ++ x ∷ [] =
    ap finished_among (entries_of-own i front e refl) ∙ finished-one (entries_of i front) e
    ∙ ap (λ (l : List Finished). finished_among (entries_of i front) ++ l) more.1 in
    let Told : ℕ → List ℕ → Type 0 = λ (j : ℕ) (l : List ℕ). AreTold world later j (finished_among (entries_of j (front ++ e ∷ [])))
    (times_of j l) in
    elim (cases_eq i k) [
      | inl own ↦ subst (λ (j : ℕ). Told j (line_of config (front ++ e ∷ [])).handed) own
          (subst (Told i) (sym line_is)
          (subst (λ (t : ℕ). AreTold world later i (finished_among (entries_of i (front ++ e ∷ []))) t)
          (sym (times-own i i before.handed refl))
          (subst (λ (l : List Finished). AreTold world later i l (suc handed)) (sym finished) mine)))
      | inr apart ↦ subst (Told k) (sym line_is)
          (subst (λ (t : ℕ). AreTold world later k (finished_among (entries_of k (front ++ e ∷ []))) t)
          (sym (times-other i k before.handed apart))
          (subst (λ (l : List Entry). AreTold world later k (finished_among l) (times_of k before.handed))
          (sym (entries_of-other k front e apart))
          (all-later world h.arrived later k (finished_among (entries_of k front)) (times_of k before.handed) on (told k client))))
    ]

-- one more entry that is no reply: to nobody was a reply handed
pub none-handed : (config : Config) (front : List Entry) (e : Entry) (input : Input) → e.input ≡ input
    → (line_at config (line_of config front) e.client input).handed ≡ (line_of config front).handed
    → (line_of config (front ++ e ∷ [])).handed ≡ (line_of config front).handed
none-handed config front e input is same =
    ap (λ (l : Line). l.handed) (line-append config (first_line config.clients) front e)
    ∙ ap (λ (y : Input). (line_at config (line_of config front) e.client y).handed) is ∙ same

served-handed : (line : Line) (i : ℕ) (row : Result Served OutOfTurn) → (line_served line i row).handed ≡ line.handed
served-handed line i (Ok served) = refl
served-handed line i (Err refused) = refl

settled-handed : (line : Line) (row : Result State OutOfTurn) → (line_settled line row).handed ≡ line.handed
settled-handed line (Ok state) = refl
settled-handed line (Err refused) = refl

pub told-handed : (line : Line) (i : ℕ) (message : Option Message) → (line_told line i message).handed ≡ line.handed
told-handed line i None = refl
told-handed line i (Some (messages.Submit m)) = served-handed line i (submitted line.server i m)
told-handed line i (Some (messages.Reply m)) = refl
told-handed line i (Some (messages.Commit m)) = settled-handed line (committed line.server i m)
told-handed line i (Some (messages.Peer m)) = refl
told-handed line i (Some (messages.Hello client)) = refl

told-by : (config : Config) (world : World) (front : List Entry) (e : Entry) (later : List ℕ) (input : Input)
    → IsNext config world front e → (h : IsJoined config world front) → IsTail h.arrived later → AreAllTold config world h.arrived front
    → e.input ≡ input → AreAllTold config world later (front ++ e ∷ [])
told-by config world front e later (inputs.Write value) next h on told is =
    silent-told config world front e later (inputs.Write value) next h on told is (λ r never. absurd (cc never))
    (none-handed config front e (inputs.Write value) is refl)
told-by config world front e later (inputs.Read register) next h on told is =
    silent-told config world front e later (inputs.Read register) next h on told is (λ r never. absurd (cc never))
    (none-handed config front e (inputs.Read register) is refl)
told-by config world front e later (inputs.Reply bytes) next h on told is =
    replied-told config world front e later bytes next h on told is
told-by config world front e later (inputs.Peer bytes) next h on told is =
    silent-told config world front e later (inputs.Peer bytes) next h on told is (λ r never. absurd (cc never))
    (none-handed config front e (inputs.Peer bytes) is refl)
told-by config world front e later (inputs.Tick m) next h on told is =
    silent-told config world front e later (inputs.Tick m) next h on told is (λ r never. absurd (cc never))
    (none-handed config front e (inputs.Tick m) is refl)
told-by config world front e later (inputs.Arrive message) next h on told is =
    silent-told config world front e later (inputs.Arrive message) next h on told is (λ r never. absurd (cc never))
    (none-handed config front e (inputs.Arrive message) is
    (told-handed (line_of config front) e.client (message_of config.wire config.clients message)))

pub told-next : (config : Config) (world : World) (front : List Entry) (e : Entry) (later : List ℕ) → IsNext config world front e
    → (h : IsJoined config world front) → IsTail h.arrived later → AreAllTold config world h.arrived front
    → AreAllTold config world later (front ++ e ∷ [])
told-next config world front e later next h on told = told-by config world front e later e.input next h on told refl

pub told-first : (config : Config) (world : World) → AreAllTold config world [] []
told-first config world k client = record { counted = refl; each = λ s x at. absurd cc }
