-- Along a run in which no reply departs the server and all clients stay in step with one history.
use Rattle.std.proofs.Common.{◌≡◌, ℕ, suc, Bool, true, false, List, [], ◌∷◌, ◌++◌, length, option_to_list, Option, Some, None, IfSome, refl, sym, ap, ◌∙◌, subst}
use Rattle.std.specs.Prelude.{◌&&◌, IsSome, not, if◌then◌else◌, is_none, nat_le, option_map}
use Rattle.faust_types.specs.Clients.{IsClient, IsClientCount}
use Rattle.faust_types.specs.Ranges.{IsPeerMessageFor}
use Rattle.faust_types.specs.declared.config.Config.{Config}
use Rattle.faust_types.specs.declared.operation.Operation.{Operation}
use Rattle.faust_types.specs.declared.outcome.Outcome.{Outcome}
use Rattle.faust_types.specs.declared.message.PeerMessage.{PeerMessage}
use Rattle.faust_types.specs.declared.message.Reply.{Reply}
use Rattle.faust_lists.specs.Lists.{count}
use Rattle.faust_honest.specs.World.{World}
use Rattle.faust_agent.specs.Deeds.{Sent, peer_in, read_of, write_of}
use Rattle.faust_agent.specs.Table.{began_of, deed_of, dummy_of, is_dummy_due, operation_of, told_deed}
use Rattle.faust_agent.specs.declared.client.Client.{Client}
use Rattle.faust_agent.specs.declared.deed.Order.{Order}
use Rattle.faust_agent.specs.declared.deed.Deed.{Deed}
use Rattle.faust_agent.specs.declared.deed.Deed.TheVariants as deeds
use Rattle.faust_agent.proofs.Reasons.{peer-in_range}
use Rattle.faust_record.specs.Entries.{IsStep, MayCome, deed_at, outcome_at, replay}
use Rattle.faust_record.specs.Operations.{Started, dummy_read_of, order_in, started_among, started_in}
use Rattle.faust_record.specs.Runs.{arriving, entries_of, next_message}
use Rattle.faust_record.specs.declared.entry.Input.{Input}
use Rattle.faust_record.specs.declared.entry.Input.TheVariants as inputs
use Rattle.faust_record.specs.declared.entry.Entry.{Entry}
use Rattle.faust_record.proofs.Inputs.{outcome-arrival}
use Rattle.faust_audit.specs.Departure.{Line, departs, departs_at, due_at, first_line, given_to, is_due, line_at, line_of, times_of}
use Rattle.faust_audit.proofs.Following.{line-append, times-other, times-own}
use Rattle.faust_joined.specs.Joined.{IsGrown, IsInStep, IsJoined, IsOrderOf}
use Rattle.faust_joined.specs.Promised.{IsPeerMade, IsWellGiven}
use Rattle.faust_joined.proofs.Acting.{IsAnswered, IsDone, acted-joined, answer-given, asked-done, began-given, notice-given, replied-done, taken-done, ticked-done}
use Rattle.faust_joined.proofs.Saying.{ignored, told-taken}
use Rattle.faust_joined.proofs.Serving.{arrival-joined}

-- What is known of an entry behind others, and what is to be shown.
pub record IsNext (config : Config) (world : World) (front : List Entry) (e : Entry) : Type 0 where
  pub sized : IsClientCount config.clients
  pub same_key : world.key ≡ config.key
  pub client : IsClient config.clients e.client
  pub step : IsStep config e.client (replay config e.client (entries_of e.client front)) e
  pub fed : IfSome (arriving e.input) (λ (message : List ℕ). next_message e.client front ≡ Some message)
  pub peer_made : IsPeerMade config front e
  pub stays : departs config (line_of config front) e ≡ false
  pub ordered : (order : Order) → order_in e.client e.input e.outcome ≡ Some order
      → IsOrderOf world e.client (suc (length (started_among (entries_of e.client front)))) order

pub record IsNextJoined (config : Config) (world : World) (front : List Entry) (e : Entry) (arrived : List ℕ) : Type 0 where
  pub grown : IsGrown config world front e arrived
  pub well : IsWellGiven e

-- an entry that is no arrival and no reply
silent-next : (config : Config) (world : World) (front : List Entry) (e : Entry) (more : ℕ) (input : Input) → IsNext config world front e
    → e.input ≡ input → arriving input ≡ None → ((bytes : List ℕ) → input ≡ inputs.Reply bytes → ⊥)
    → line_at config (line_of config front) e.client input ≡ line_of config front
    → length (option_to_list (started_in e)) ≡ more → (h : IsJoined config world front) → (client : IsClient config.clients e.client)
    → IsDone config world h.arrived (count e.client h.handled) (length (started_among (entries_of e.client front))) more e.client
    (replay config e.client (entries_of e.client front)) (h.each e.client client).queue
    (given_to e.client (line_of config front).given) (times_of e.client (line_of config front).handed)
    (deed_at config e.client (replay config e.client (entries_of e.client front)) e.input)
    → IsNextJoined config world front e h.arrived
silent-next config world front e more input next is act no_reply same begun h client done =
    let i : ℕ = e.client in
    let st : Client = replay config i (entries_of i front) in
    let before : Line = line_of config front in
    let line_is : line_of config (front ++ e ∷ []) ≡ before =
    line-append config (first_line config.clients) front e ∙ ap (line_at config before i) is ∙ same in
    record {
      grown = acted-joined config world front e more next.sized client next.step (ap arriving is ∙ act) h before line_is refl refl
          (λ k other. refl) begun done;
      well = record {
        no_notice = ap (λ (o : Outcome). o.notice) next.step.outcome_is ∙ notice-given config i st e.input ∙ done.unbroken;
        completes = λ bytes reply. absurd (no_reply bytes (sym is ∙ reply));
      };
    }

-- Begin
begun-once : (e : Entry) (order : Order) → order_in e.client e.input e.outcome ≡ Some order → length (option_to_list (started_in e)) ≡ 1
begun-once e order is = ap (λ (o : Option Order).
    length (option_to_list (option_map (λ (x : Order). let s : Started = record { order = x; number = e.number } in s) o))) is

write-next : (config : Config) (world : World) (front : List Entry) (e : Entry) (value : List ℕ) → IsNext config world front e
    → e.input ≡ inputs.Write value → (h : IsJoined config world front) → IsNextJoined config world front e h.arrived
write-next config world front e value next is h =
    let i : ℕ = e.client in
    let st : Client = replay config i (entries_of i front) in
    let order : Order = write_of i value in
    let ordered : order_in i e.input e.outcome ≡ Some order = ap (λ (x : Input). order_in i x e.outcome) is in
    let may : MayCome config i st (inputs.Write value) = subst (MayCome config i st) is next.step.may_come in
    silent-next config world front e 1 (inputs.Write value) next is refl (λ bytes never. absurd cc) refl
    (begun-once e order ordered) h next.client
    (subst (λ (x : Input). IsDone config world h.arrived (count i h.handled) (length (started_among (entries_of i front))) 1 i st
    (h.each i next.client).queue (given_to i (line_of config front).given) (times_of i (line_of config front).handed)
    (deed_at config i st x)) (sym is)
    (asked-done config world h.arrived (count i h.handled) (length (started_among (entries_of i front))) i st
    (h.each i next.client).queue (given_to i (line_of config front).given) (times_of i (line_of config front).handed) order next.same_key
    next.client (h.each i next.client).in_step may.idle
    (record { register_in_range = next.client; value_in_range = may.value_in_range }) (next.ordered order ordered)))

read-next : (config : Config) (world : World) (front : List Entry) (e : Entry) (register : ℕ) → IsNext config world front e
    → e.input ≡ inputs.Read register → (h : IsJoined config world front) → IsNextJoined config world front e h.arrived
read-next config world front e register next is h =
    let i : ℕ = e.client in
    let st : Client = replay config i (entries_of i front) in
    let order : Order = read_of register false in
    let ordered : order_in i e.input e.outcome ≡ Some order = ap (λ (x : Input). order_in i x e.outcome) is in
    let may : MayCome config i st (inputs.Read register) = subst (MayCome config i st) is next.step.may_come in
    silent-next config world front e 1 (inputs.Read register) next is refl (λ bytes never. absurd cc) refl (begun-once e order ordered) h
    next.client
    (subst (λ (x : Input). IsDone config world h.arrived (count i h.handled) (length (started_among (entries_of i front))) 1 i st
    (h.each i next.client).queue (given_to i (line_of config front).given) (times_of i (line_of config front).handed)
    (deed_at config i st x)) (sym is)
    (asked-done config world h.arrived (count i h.handled) (length (started_among (entries_of i front))) i st
    (h.each i next.client).queue (given_to i (line_of config front).given) (times_of i (line_of config front).handed) order next.same_key
    next.client (h.each i next.client).in_step may.idle
    (record { register_in_range = may.register_in_range; value_in_range = refl }) (next.ordered order ordered)))

-- Reply
pub not-false : (b : Bool) → not b ≡ false → b ≡ true
not-false true h = refl
not-false false h = sym h

reply-next : (config : Config) (world : World) (front : List Entry) (e : Entry) (bytes : List ℕ) → IsNext config world front e
    → e.input ≡ inputs.Reply bytes → (h : IsJoined config world front) → IsNextJoined config world front e h.arrived
reply-next config world front e bytes next is h =
    let i : ℕ = e.client in
    let own : List Entry = entries_of i front in
    let st : Client = replay config i own in
    let before : Line = line_of config front in
    let mine = h.each i next.client in
    let handed : ℕ = times_of i before.handed in
    let line : Line = record before { handed = before.handed ++ i ∷ [] } in
    let line_is : line_of config (front ++ e ∷ []) ≡ line =
    line-append config (first_line config.clients) front e ∙ ap (line_at config before i) is in
    let due : is_due config.wire bytes (due_at before i) ≡ true =
    not-false (is_due config.wire bytes (due_at before i)) (ap (departs_at config before i) (sym is) ∙ next.stays) in
    let answered : IsAnswered config world h.arrived (count i h.handled) (length (started_among own)) i st mine.queue
    (given_to i before.given) handed (deed_at config i st e.input) =
    subst (λ (x : Input). IsAnswered config world h.arrived (count i h.handled) (length (started_among own)) i st mine.queue
    (given_to i before.given) handed (deed_at config i st x)) (sym is)
    (replied-done config world h.arrived (count i h.handled) (length (started_among own)) i st mine.queue (given_to i before.given) handed
    bytes next.same_key next.sized next.client mine.in_step due) in
    let none : length (option_to_list (started_in e)) ≡ 0 =
    ap (λ (x : Input). length (option_to_list (option_map
    (λ (o : Order). let s : Started = record { order = o; number = e.number } in s) (order_in i x e.outcome)))) is in
    record {
      grown = acted-joined config world front e 0 next.sized next.client next.step (ap arriving is) h line line_is refl refl
          (λ k other. times-other i k before.handed other) none
          (subst (λ (t : ℕ). IsDone config world h.arrived (count i h.handled) (length (started_among own)) 0 i st mine.queue
          (given_to i before.given) t (deed_at config i st e.input)) (sym (times-own i i before.handed refl)) answered.done);
      well = record {
        no_notice = ap (λ (o : Outcome). o.notice) next.step.outcome_is ∙ notice-given config i st e.input ∙ answered.done.unbroken;
        completes = λ other reply.
            subst IsSome (sym (ap (λ (o : Outcome). o.answer) next.step.outcome_is ∙ answer-given config i st e.input)) answered.answers;
      };
    }

-- Peer message
peer-next : (config : Config) (world : World) (front : List Entry) (e : Entry) (bytes : List ℕ) → IsNext config world front e
    → e.input ≡ inputs.Peer bytes → (h : IsJoined config world front) → IsNextJoined config world front e h.arrived
unfolding deed_of
peer-next config world front e bytes next is h =
    let n = config.clients in
    let i : ℕ = e.client in
    let own : List Entry = entries_of i front in
    let st : Client = replay config i own in
    let before : Line = line_of config front in
    let mine = h.each i next.client in
    let may : MayCome config i st (inputs.Peer bytes) = subst (MayCome config i st) is next.step.may_come in
    let range : IfSome (peer_in config bytes) (IsPeerMessageFor n) = peer-in_range config bytes next.sized may.bytes_each in
    let none : length (option_to_list (started_in e)) ≡ 0 =
    ap (λ (x : Input). length (option_to_list (option_map
    (λ (o : Order). let s : Started = record { order = o; number = e.number } in s) (order_in i x e.outcome)))) is in
    silent-next config world front e 0 (inputs.Peer bytes) next is refl (λ other never. absurd cc) refl none h next.client
    (subst (λ (x : Input). IsDone config world h.arrived (count i h.handled) (length (started_among own)) 0 i st mine.queue
    (given_to i before.given) (times_of i before.handed) (deed_at config i st x)) (sym is)
    (taken-done config world h.arrived (count i h.handled) (length (started_among own)) i st mine.queue (given_to i before.given)
    (times_of i before.handed) (told_deed config i st (peer_in config bytes))
    (told-taken config world h.arrived (count i h.handled) (length (started_among own)) i st mine.queue (given_to i before.given)
    (times_of i before.handed) (peer_in config bytes) next.client mine.in_step range
    (λ m spelled signed. h.quiet m (subst (λ (o : Option PeerMessage). IfSome o (IsPeerMessageFor n)) spelled range)
    (next.peer_made bytes m is spelled signed)))))

-- Tick
length-mapped : (o : Option Operation) (number : ℕ)
    → length (option_to_list (option_map (λ (x : Order). let s : Started = record { order = x; number = number } in
    s) (option_map dummy_read_of o)))
    ≡ length (option_to_list o)
length-mapped None number = refl
length-mapped (Some op) number = refl

counted-if : (b : Bool) (op : Operation) → (if b then 1 else 0) ≡ length (option_to_list (if b then Some op else None))
counted-if true op = refl
counted-if false op = refl

tick-case : (config : Config) (world : World) (arrived : List ℕ) (committed begun k m : ℕ) (st : Client) (queue : List Sent)
    (given : List Reply) (handed : ℕ) (b : Bool) → world.key ≡ config.key → IsClient config.clients k
    → IsInStep config world arrived committed begun k st queue given handed
    → (b ≡ true → is_dummy_due config k st m ≡ true → IsOrderOf world k (suc begun) (dummy_of st))
    → IsDone config world arrived committed begun
    (length (option_to_list (began_of config k st (if b then deeds.Ticks m else deeds.Ignores))))
    k st queue given handed (if b then deeds.Ticks m else deeds.Ignores)
tick-case config world arrived committed begun k m st queue given handed true keys client h ordered =
    subst (λ (more : ℕ). IsDone config world arrived committed begun more k st queue given handed (deeds.Ticks m))
    (counted-if (is_dummy_due config k st m) (operation_of k st (dummy_of st)))
    (ticked-done config world arrived committed begun k m st queue given handed keys client h (ordered refl))
tick-case config world arrived committed begun k m st queue given handed false keys client h ordered =
    taken-done config world arrived committed begun k st queue given handed deeds.Ignores
    (ignored config world arrived committed begun k st queue given handed h)

tick-next : (config : Config) (world : World) (front : List Entry) (e : Entry) (m : ℕ) → IsNext config world front e
    → e.input ≡ inputs.Tick m → (h : IsJoined config world front) → IsNextJoined config world front e h.arrived
unfolding deed_of
tick-next config world front e m next is h =
    let i : ℕ = e.client in
    let own : List Entry = entries_of i front in
    let st : Client = replay config i own in
    let before : Line = line_of config front in
    let mine = h.each i next.client in
    let b : Bool = is_none st.notice && nat_le st.timers.now m in
    let deed : Deed = if b then deeds.Ticks m else deeds.Ignores in
    let began : e.outcome.began ≡ began_of config i st deed =
    ap (λ (o : Outcome). o.began) next.step.outcome_is ∙ began-given config i st e.input
    ∙ ap (λ (x : Input). began_of config i st (deed_at config i st x)) is in
    let counted : length (option_to_list (started_in e)) ≡ length (option_to_list (began_of config i st deed)) =
    ap (λ (x : Input). length (option_to_list (option_map
    (λ (o : Order). let s : Started = record { order = o; number = e.number } in s) (order_in i x e.outcome)))) is
    ∙ length-mapped e.outcome.began e.number ∙ ap (λ (o : Option Operation). length (option_to_list o)) began in
    let ordered : b ≡ true → is_dummy_due config i st m ≡ true → IsOrderOf world i (suc (length (started_among own))) (dummy_of st) =
    λ ticks due. next.ordered (dummy_of st)
    (ap (λ (x : Input). order_in i x e.outcome) is ∙ ap (λ (o : Option Operation). option_map dummy_read_of o) began
    ∙ ap (λ (x : Bool). option_map dummy_read_of (began_of config i st (if x then deeds.Ticks m else deeds.Ignores))) ticks
    ∙ ap (λ (x : Bool). option_map dummy_read_of (if x then Some (operation_of i st (dummy_of st)) else None)) due) in
    silent-next config world front e _ (inputs.Tick m) next is refl (λ other never. absurd cc) refl counted h next.client
    (subst (λ (x : Input). IsDone config world h.arrived (count i h.handled) (length (started_among own))
    (length (option_to_list (began_of config i st deed))) i st mine.queue
    (given_to i before.given) (times_of i before.handed) (deed_at config i st x)) (sym is)
    (tick-case config world h.arrived (count i h.handled) (length (started_among own)) i m st mine.queue (given_to i before.given)
    (times_of i before.handed) b next.same_key next.client mine.in_step ordered))

-- Arrival
arrive-next : (config : Config) (world : World) (front : List Entry) (e : Entry) (message : List ℕ) → IsNext config world front e
    → e.input ≡ inputs.Arrive message → (h : IsJoined config world front) → IsNextJoined config world front e h.arrived
arrive-next config world front e message next is h =
    let i : ℕ = e.client in
    let st : Client = replay config i (entries_of i front) in
    let due : next_message i front ≡ Some message =
    subst (λ (x : Input). IfSome (arriving x) (λ (m : List ℕ). next_message i front ≡ Some m)) is next.fed in
    record {
      grown = arrival-joined config world front e message next.sized next.client next.step is due h;
      well = record {
        no_notice = ap (λ (o : Outcome). o.notice)
            (next.step.outcome_is ∙ ap (outcome_at config i st) is ∙ sym (outcome-arrival config i st message));
        completes = λ bytes reply. let never : inputs.Arrive message ≡ inputs.Reply bytes = sym is ∙ reply in absurd (cc never);
      };
    }

-- any entry
by-input : (config : Config) (world : World) (front : List Entry) (e : Entry) (input : Input) → IsNext config world front e
    → e.input ≡ input → (h : IsJoined config world front) → IsNextJoined config world front e h.arrived
by-input config world front e (inputs.Write value) next is h = write-next config world front e value next is h
by-input config world front e (inputs.Read register) next is h = read-next config world front e register next is h
by-input config world front e (inputs.Reply bytes) next is h = reply-next config world front e bytes next is h
by-input config world front e (inputs.Peer bytes) next is h = peer-next config world front e bytes next is h
by-input config world front e (inputs.Tick m) next is h = tick-next config world front e m next is h
by-input config world front e (inputs.Arrive message) next is h = arrive-next config world front e message next is h

pub next-joined : (config : Config) (world : World) (front : List Entry) (e : Entry) → IsNext config world front e
    → (h : IsJoined config world front) → IsNextJoined config world front e h.arrived
next-joined config world front e next h = by-input config world front e e.input next refl h
