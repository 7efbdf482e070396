-- What the code of each call reads is what its row reads, and what it writes keeps what every state keeps.
use Rattle.std.proofs.Common.{◌≡◌, ℕ, ◌+◌, ◌-◌, ◌<◌, Bool, true, false, if◌then◌else◌, Option, Some, None, List, [], ◌∷◌, ◌++◌, length, Result, Ok, Err, OnOk, OnErr, IfSome, slice_set, slice_index_or, refl, sym, ap, ◌∙◌, subst, arith}
use Rattle.std.proofs.lemmas.Bool.{cond-true, lt-ltb}
use Rattle.std.proofs.lemmas.List.{get_or_default, length-set}
use Rattle.std.proofs.lemmas.Option.{same_Some, slice_get_within}
use Rattle.faust_types.specs.Clients.{IsClientCount, IsClient}
use Rattle.faust_types.specs.Ranges.{IsWire}
use Rattle.faust_types.specs.declared.message.Reply.{Reply}
use Rattle.faust_types.specs.declared.message.Message.{Message}
use Rattle.faust_wire.specs.Reading.{message_of}
use Rattle.faust_wire.proofs.Messages.{message_only}
use Rattle.faust_server.specs.Rows.{State, client_count, first_state}
use Rattle.faust_server.specs.States.{IsStateFor, IsState}
use Rattle.faust_server.proofs.Kept.{IsState-for}
use Rattle.faust_liar.specs.Branches.{Handled, handled}
use Rattle.faust_liar.specs.InRange.{IsArrival, IsForServer, IsAnswer, IsSessionFor, IsLiarState}
use Rattle.faust_liar.specs.Lies.{LiarState, first_session, session_at, with_session, with_branch, session_count, branch_at, one_taken, received, nth, next_of, echoed, echoed_message}
use Rattle.faust_liar.specs.Spelled.{IsSpelled}
use Rattle.faust_liar.specs.declared.error.LiarError.TheVariants as errors
use Rattle.faust_liar.specs.declared.session.Session.{Session}
use Rattle.faust_liar.proofs.Spelled.{spelled-by}
use Rattle.faust_liar.proofs.Kept.{handled-state, handled-reply, received-in_range, kept-session, kept-branch, kept-branched, IsLiarState-for, branch-in_range, got-in_range, nth-in_range}

-- a branch that is read
module _ (st : LiarState) (h : IsLiarState st) (b : ℕ) (branch : State) (read : branch ≡ slice_index_or st.branches b branch)
    (within : b < length st.branches) where
  pub branch-range : IsStateFor (session_count st) branch
  branch-range = subst (λ (z : State). IsStateFor (session_count st) z) (sym read) (branch-in_range (session_count st) st b branch h within)

  pub branch-state : IsState branch
  branch-state = IsState-for (session_count st) branch branch-range

  pub branch-count : client_count branch ≡ session_count st
  branch-count = branch-range.turns_paired

  pub branch-is : branch ≡ branch_at st b
  branch-is = read ∙ get_or_default st.branches b branch (first_state 0) within

  pub branch-client : (i : ℕ) → IsClient (session_count st) i → IsClient (client_count branch) i
  branch-client i client = subst (λ (n : ℕ). IsClient n i) (sym branch-count) client

  pub branch-message : (i : ℕ) (m : Message) → IsForServer (session_count st) i m → IsForServer (client_count branch) i m
  branch-message i m message = subst (λ (n : ℕ). IsForServer n i m) (sym branch-count) message

-- branch: the copy that is put at the end, or not for want of memory
pub kept-pushed : (st : LiarState) (items : List State) (branch : State) (b : Bool) → IsLiarState st → IsStateFor (session_count st) branch
    → length st.branches < 8 → items ≡ (if b then st.branches ++ branch ∷ [] else st.branches)
    → IsLiarState (record st { branches = items })
kept-pushed st items branch true h own few is =
    subst (λ (xs : List State). IsLiarState (record st { branches = xs })) (sym is) (kept-branched (session_count st) st branch h own few)
kept-pushed st items branch false h own few is = subst (λ (xs : List State). IsLiarState (record st { branches = xs })) (sym is) h

either-way : {X E A : Type 0} (P : A → Type 0) (result : Result X E) (after done kept : A) → OnOk result (after ≡ done)
    → OnErr result (after ≡ kept) → P done → P kept → P after
either-way P (Ok x) after done kept ok err taken left = subst P (sym ok) taken
either-way P (Err e) after done kept ok err taken left = subst P (sym err) left

abbrev with_at : LiarState → ℕ → State → ℕ → Session → LiarState
with_at st route branch at session = record st {
  branches = slice_set st.branches route branch;
  sessions = slice_set st.sessions (at - 1) session;
}

-- the message that is read of the bytes is the one that arrives
pub arrival-message : (wire count i : ℕ) (now : LiarState) (bytes : List ℕ) (m : Message) → IsClientCount (session_count now)
    → wire ≡ now.wire → count ≡ session_count now → IsArrival now.wire (session_count now) i bytes → message_of wire count bytes ≡ Some m
    → IsForServer (session_count now) i m
arrival-message wire count i now bytes m clients same_wire same_count arrival found =
    let here : message_of wire count bytes ≡ Some arrival.message = ap (λ (w : ℕ). message_of w count bytes) same_wire
    ∙ ap (λ (n : ℕ). message_of now.wire n bytes) same_count
    ∙ message_only now.wire (session_count now) bytes arrival.message clients arrival.spelled in
    subst (λ (z : Message). IsForServer (session_count now) i z) (same_Some arrival.message m (sym here ∙ found)) arrival.for_server

-- the bytes of a message that arrives spell one
pub arrival-spelled : (st now : LiarState) (count i : ℕ) (bytes : List ℕ) → st ≡ now → IsLiarState st → count ≡ session_count now
    → IsArrival now.wire (session_count now) i bytes → IsSpelled st.wire count bytes
arrival-spelled st now count i bytes view h same_count arrival =
    let Known : LiarState → Type 0 = λ z. IsWire z.wire in
    let Counted : LiarState → Type 0 = λ z. IsClientCount (session_count z) in
    subst (λ (w : ℕ). IsSpelled w count bytes) (ap (λ (z : LiarState). z.wire) (sym view))
    (subst (λ (n : ℕ). IsSpelled now.wire n bytes) (sym same_count)
    (spelled-by now.wire (session_count now) bytes arrival.message (subst Known view h.wire_known)
    (subst Counted view h.count) arrival.spelled))

if-there : (P : Message → Type 0) (o : Option Message) → ((m : Message) → o ≡ Some m → P m) → IfSome o P
if-there P None each = tt
if-there P (Some m) each = each m refl

-- a session that is read
module _ (st now : LiarState) (view : st ≡ now) (h : IsLiarState st) (i at : ℕ) (client : IsClient (session_count now) i) (from : at ≡ i)
    (s : Session) (read : s ≡ slice_index_or st.sessions (at - 1) s) where
  pub client-here : IsClient (session_count st) i
  client-here = subst (λ (z : LiarState). IsClient (session_count z) i) (sym view) client

  pub session-is : s ≡ session_at st i
  session-is =
      read ∙ get_or_default st.sessions (at - 1) s first_session
      (omega (arith, from, client-here.from_one, client-here.to_n))
      ∙ ap (λ (k : ℕ). slice_index_or st.sessions (k - 1) first_session) from

  pub session-now : s ≡ session_at now i
  session-now = session-is ∙ ap (λ (z : LiarState). session_at z i) view

  pub session-range : IsSessionFor (session_count st) (length st.branches) i s
  session-range = subst (λ (z : Session). IsSessionFor (session_count st) (length st.branches) i z) (sym session-is)
      (h.sessions_in_range i client-here)

  -- put back with another one in its place
  pub kept-put : (after : Session) → IsSessionFor (session_count st) (length st.branches) i after
      → IsLiarState (record st { sessions = slice_set st.sessions (at - 1) after })
  kept-put after own =
      subst (λ (k : ℕ). IsLiarState (record st { sessions = slice_set st.sessions (k - 1) after })) (sym from)
      (IsLiarState-for (session_count st) (with_session st i after) (kept-session (session_count st) st i after h client-here own))

  pub one-more : s.taken < length s.replies → IsSessionFor (session_count st) (length st.branches) i (record s { taken = s.taken + 1 })
  one-more more = record {
    on_a_branch = session-range.on_a_branch;
    arrived_in_range = session-range.arrived_in_range;
    replies_in_range = session-range.replies_in_range;
    taken_before = omega (arith, more);
  }

  pub taken-due : (m : Message) → next_of (session_at now i) ≡ Some m → next_of s ≡ Some m
  taken-due m next = let P : Session → Type 0 = λ z. next_of z ≡ Some m in subst P (sym session-now) next

  pub kept-taken : {X E : Type 0} (result : Result X E) (after : Session) (m : Message) → next_of (session_at now i) ≡ Some m
      → OnOk result (after ≡ record s { taken = s.taken + 1 }) → OnErr result (after ≡ s)
      → IsLiarState (record st { sessions = slice_set st.sessions (at - 1) after })
  kept-taken result after m next ok err =
      let P : Session → Type 0 = λ z. IsSessionFor (session_count st) (length st.branches) i z in
      let more : s.taken < length s.replies = slice_get_within s.replies s.taken m (taken-due m next) in
      kept-put after (either-way P result after (record s { taken = s.taken + 1 }) s ok err (one-more more) session-range)

  pub taken-is : (after : Session) → after ≡ record s { taken = s.taken + 1 }
      → record st { sessions = slice_set st.sessions (at - 1) after } ≡ one_taken now i
  taken-is after is =
      ap (λ (z : Session). record st { sessions = slice_set st.sessions (at - 1) z })
      (is ∙ ap (λ (z : Session). record z { taken = z.taken + 1 }) session-is)
      ∙ ap (λ (k : ℕ). record st {
        sessions =
            slice_set st.sessions (k - 1) (record (session_at st i) { taken = (session_at st i).taken + 1 });
      })
      from
      ∙ ap (λ (z : LiarState). one_taken z i) view

  pub taken-ok : {X E : Type 0} (result : Result X E) (after : Session) → OnOk result (after ≡ record s { taken = s.taken + 1 })
      → OnOk result (record st { sessions = slice_set st.sessions (at - 1) after } ≡ one_taken now i)
  taken-ok (Ok x) after is = taken-is after is
  taken-ok (Err e) after is = tt

  pub arrival-range : (wire count : ℕ) (bytes : List ℕ) (m : Message) → wire ≡ st.wire → count ≡ session_count now
      → IsArrival now.wire (session_count now) i bytes → message_of wire count bytes ≡ Some m → IsForServer (session_count st) i m
  arrival-range wire count bytes m same_wire same_count arrival found =
      let P : LiarState → Type 0 = λ z. IsForServer (session_count z) i m in
      let Q : LiarState → Type 0 = λ z. IsClientCount (session_count z) in
      subst P (sym view)
      (arrival-message wire count i now bytes m (subst Q view h.count) (same_wire
      ∙ ap (λ (z : LiarState). z.wire) view) same_count arrival found)

  -- a reply that is read, and a message that arrived
  pub replies-range : (k count : ℕ) → count ≡ session_count now → IfSome (nth k s.replies) (IsAnswer count)
  replies-range k count same =
      let here : count ≡ session_count st = same ∙ ap (λ (z : LiarState). session_count z) (sym view) in
      subst (λ (n : ℕ). IfSome (nth k s.replies) (IsAnswer n)) (sym here)
      (if-there (IsAnswer (session_count st)) (nth k s.replies)
      (λ m is. nth-in_range (IsAnswer (session_count st)) s.replies k m session-range.replies_in_range is))

  pub next-range : (m : Message) → Some m ≡ next_of s → IsAnswer (session_count now) m
  next-range m is =
      subst (λ (z : LiarState). IsAnswer (session_count z) m) view
      (got-in_range (IsAnswer (session_count st)) s.replies s.taken m session-range.replies_in_range (sym is))

  pub next-there : (m kept : Message) → Some m ≡ next_of s → kept ≡ m → next_of (session_at now i) ≡ Some kept
  next-there m kept is same =
      let P : Session → Type 0 = λ z. next_of z ≡ Some kept in
      subst P session-now (sym is ∙ ap (λ (z : Message). Some z) (sym same))

  pub message-range : (k : ℕ) (kept m : Message) → Some kept ≡ nth k s.arrived → m ≡ kept → IsForServer (session_count st) i m
  message-range k kept m is same = nth-in_range (IsForServer (session_count st) i) s.arrived k m session-range.arrived_in_range
      (sym is ∙ ap (λ (z : Message). Some z) (sym same))

  -- echo
  pub kept-echo : (to : ℕ) (branch after : State) (m : Message) (reply : Option Reply)
      → branch ≡ slice_index_or st.branches to branch → to < length st.branches → IsForServer (session_count st) i m
      → record { state = after; reply = reply } ≡ handled branch i m → IsLiarState (with_branch st to after)
  kept-echo to branch after m reply read_branch within message is =
      kept-branch (session_count st) st to after h
      (subst (λ (z : Handled). IsStateFor (session_count st) z.state) (sym is)
      (handled-state (session_count st) branch i m (branch-range st h to branch read_branch within) client-here message))

  pub echo-due : (k to : ℕ) (branch after : State) (kept m : Message) (reply : Option Reply) → Some kept ≡ nth k s.arrived
      → m ≡ kept → branch ≡ slice_index_or st.branches to branch → to < length st.branches
      → record { state = after; reply = reply } ≡ handled branch i m
      → echoed now i k to ≡ Ok (with_branch st to after)
  echo-due k to branch after kept m reply is same read_branch within done =
      let found : nth k (session_at st i).arrived ≡ Some m = ap (λ (z : Session). nth k z.arrived) (sym session-is)
      ∙ sym is ∙ ap (λ (z : Message). Some z) (sym same) in
      let state : (handled (branch_at st to) i m).state ≡ after = ap (λ (z : State). (handled z i m).state)
      (sym (branch-is st h to branch read_branch within))
      ∙ ap (λ (z : Handled). z.state) (sym done) in
      let taken : echoed_message st i to (Some m) ≡ Ok (with_branch st to (handled (branch_at st to) i m).state) = cond-true _ _ _
      (lt-ltb _ _ within) in
      ap (λ (z : LiarState). echoed z i k to) (sym view)
      ∙ ap (λ (o : Option Message). echoed_message st i to o) found
      ∙ taken
      ∙ ap (λ (z : State). Ok (with_branch st to z)) state

  -- arrive: done, or not for want of memory
  pub kept-arrive : {X E : Type 0} (result : Result X E) (route : ℕ) (branch after_branch : State) (after : Session) (m : Message)
      → route ≡ s.route → branch ≡ slice_index_or st.branches route branch → IsForServer (session_count st) i m
      → OnOk result (after ≡ received s m (handled branch i m).reply) → OnOk result (after_branch ≡ (handled branch i m).state)
      → OnErr result (after ≡ s) → OnErr result (after_branch ≡ branch)
      → IsLiarState (record st {
        branches = slice_set st.branches route after_branch;
        sessions = slice_set st.sessions (at - 1) after;
      })
  kept-arrive {X} {E} result route branch after_branch after m same read_branch message done moved kept stayed =
      let n = session_count st in
      let within : route < length st.branches = omega (arith, same, session-range.on_a_branch) in
      let own : IsStateFor n branch = branch-range st h route branch read_branch within in
      let branch_ok : IsStateFor n after_branch = either-way (IsStateFor n) result after_branch (handled branch i m).state branch
      moved stayed (handled-state n branch i m own client-here message) own in
      let P : Session → Type 0 = λ z. IsSessionFor n (length st.branches) i z in
      let session_ok : P after = either-way P result after (received s m (handled branch i m).reply) s done kept
      (received-in_range n (length st.branches) i s m (handled branch i m).reply session-range message
      (handled-reply n branch i m own client-here message)) session-range in
      let moved_on = kept-branch n st route after_branch h branch_ok in
      let length_same : length (slice_set st.branches route after_branch) ≡ length st.branches =
      length-set st.branches route after_branch in
      let Q : ℕ → Type 0 = λ len. IsSessionFor n len i after in
      let R : ℕ → Type 0 = λ k. IsLiarState (with_at st route after_branch k after) in
      subst R (sym from) (IsLiarState-for n (with_at st route after_branch i after)
      (kept-session n (with_branch st route after_branch) i after moved_on client-here (subst Q (sym length_same) session_ok)))
