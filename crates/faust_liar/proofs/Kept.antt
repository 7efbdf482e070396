-- Each call keeps what every state of the liar keeps.
use Rattle.std.proofs.Common.{◌≡◌, ℕ, ◌+◌, ◌-◌, ◌<◌, ◌≤◌, ◌==◌, true, false, if◌then◌else◌, Option, Some, None, List, [], ◌∷◌, ◌++◌, length, Result, IfOk, IfSome, slice_set, slice_index_or, slice_get, sym, ◌∙◌, subst, arith, length-append}
use Rattle.std.proofs.lemmas.List.{append-nil, length-set, length-replicate, get_or-replicate}
use Rattle.std.proofs.lemmas.List.Elements.{All-from_recursion}
use Rattle.std.proofs.lemmas.Option.{none-some, slice_get_within, get_or_from_slice_get}
use Rattle.std.specs.List.{AllByRecursion}
use Rattle.faust_types.specs.Clients.{IsClientCount, IsClient}
use Rattle.faust_types.specs.Ranges.{IsWire, IsSubmitFor, IsCommitFor}
use Rattle.faust_types.specs.declared.message.Submit.{Submit}
use Rattle.faust_types.specs.declared.message.Commit.{Commit}
use Rattle.faust_types.specs.declared.message.Reply.{Reply}
use Rattle.faust_types.specs.declared.message.Message.{Message}
use Rattle.faust_types.specs.declared.message.Message.TheVariants as messages
use Rattle.faust_server.specs.Rows.{State, Served}
use Rattle.faust_server.specs.declared.refusal.OutOfTurn.{OutOfTurn}
use Rattle.faust_server.specs.States.{IsStateFor, IsServedFor}
use Rattle.faust_server.proofs.Kept.{each-set, All-slice_set, IsStateFor-first, IsStateFor-retaken, IsStateFor-settled}
use Rattle.faust_server.proofs.Rows.{IsStateFor-advanced, submitted-in_range}
use Rattle.faust_server.proofs.Tuples.{All-push}
use Rattle.faust_liar.specs.Branches.{uncommitted_at, turn_set, after_commit, answered, handled}
use Rattle.faust_liar.specs.InRange.{IsBehind, IsForServer, IsAnswer, IsReplyIfAny, IsSessionFor, IsLiarStateFor, IsLiarState}
use Rattle.faust_liar.specs.Lies.{LiarState, first_session, first_lies, session_at, with_session, with_branch, queued, received, nth}
use Rattle.faust_liar.specs.declared.session.Session.{Session}
use Rattle.faust_liar.proofs.Turns.{timestamp-below, submit-due}

-- a branch stays in range, and its reply is
pub after_commit-in_range : (n : ℕ) (st : State) (i : ℕ) (m : Commit) → IsStateFor n st → IsClient n i → IsCommitFor n m
    → IsStateFor n (after_commit st i m)
after_commit-in_range n st i m h client message =
    let ready = IsStateFor-retaken n st i _ true h client (timestamp-below n m i message client) in
    IsStateFor-settled n _ i m (IsStateFor-advanced n (uncommitted_at st i m) i m.version ready client) client message

pub turn_set-in_range : (n : ℕ) (st : State) (i : ℕ) (m : Submit) (commit : Option Commit) → IsStateFor n st → IsClient n i
    → IsSubmitFor n m → IfSome commit (IsCommitFor n) → IsStateFor n (turn_set st i m commit)
turn_set-in_range n st i m None h client message riding =
    IsStateFor-retaken n st i (m.t - 1) false h client (omega (arith, message.number.below))
turn_set-in_range n st i m (Some commit) h client message riding =
    IsStateFor-retaken n st i _ true h client (timestamp-below n commit i riding client)

pub answered-in_range : (n : ℕ) (st : State) (i : ℕ) (m : Submit) → IsStateFor n st → IsClient n i → IsSubmitFor n m
    → IsBehind i m m.commit → IsServedFor n (answered st i m)
answered-in_range n st i m h client message behind =
    subst (λ (row : Result Served OutOfTurn). IfOk row (IsServedFor n)) (submit-due n st i m h client message behind)
    (submitted-in_range n (turn_set st i m m.commit) i m
    (turn_set-in_range n st i m m.commit h client message message.commit_in_range) client message)

pub handled-state : (n : ℕ) (st : State) (i : ℕ) (m : Message) → IsStateFor n st → IsClient n i → IsForServer n i m
    → IsStateFor n (handled st i m).state
handled-state n st i (messages.Submit m) h client message = (answered-in_range n st i m h client message.0 message.1).state_in_range
handled-state n st i (messages.Reply m) h client message = absurd message
handled-state n st i (messages.Commit m) h client message = after_commit-in_range n st i m h client message
handled-state n st i (messages.Peer m) h client message = absurd message
handled-state n st i (messages.Hello k) h client message = absurd message

pub handled-reply : (n : ℕ) (st : State) (i : ℕ) (m : Message) → IsStateFor n st → IsClient n i → IsForServer n i m
    → IsReplyIfAny n (handled st i m).reply
handled-reply n st i (messages.Submit m) h client message = (answered-in_range n st i m h client message.0 message.1).reply_in_range
handled-reply n st i (messages.Reply m) h client message = absurd message
handled-reply n st i (messages.Commit m) h client message = tt
handled-reply n st i (messages.Peer m) h client message = absurd message
handled-reply n st i (messages.Hello k) h client message = absurd message

-- a session keeps its range
queued-in_range : (n : ℕ) (replies : List Message) (reply : Option Reply) → AllByRecursion (IsAnswer n) replies → IsReplyIfAny n reply
    → AllByRecursion (IsAnswer n) (replies ++ queued reply)
queued-in_range n replies None all h = subst (λ (xs : List Message). AllByRecursion (IsAnswer n) xs) (sym (append-nil replies)) all
queued-in_range n replies (Some reply) all h = All-push (IsAnswer n) replies (messages.Reply reply) all h

pub received-in_range : (n branches i : ℕ) (s : Session) (m : Message) (reply : Option Reply) → IsSessionFor n branches i s
    → IsForServer n i m → IsReplyIfAny n reply → IsSessionFor n branches i (received s m reply)
received-in_range n branches i s m reply h message answer = record {
  on_a_branch = h.on_a_branch;
  arrived_in_range = All-push (IsForServer n i) s.arrived m h.arrived_in_range message;
  replies_in_range = queued-in_range n s.replies reply h.replies_in_range answer;
  taken_before = omega (arith, h.taken_before, length-append s.replies (queued reply));
}

-- so does the state where a session or a branch is replaced, and where a branch is new
pub kept-session : (n : ℕ) (st : LiarState) (i : ℕ) (s : Session) → IsLiarStateFor n st → IsClient n i
    → IsSessionFor n (length st.branches) i s → IsLiarStateFor n (with_session st i s)
kept-session n st i s h client own = record {
  wire_known = h.wire_known;
  count = h.count;
  sessions_paired = length-set st.sessions (i - 1) s ∙ h.sessions_paired;
  one_branch = h.one_branch;
  few_branches = h.few_branches;
  branches_in_range = h.branches_in_range;
  sessions_in_range = each-set (λ (k : ℕ) (z : Session). IsSessionFor n (length st.branches) k z) n i st.sessions s first_session
      client h.sessions_paired own (λ k within ne. h.sessions_in_range k within);
}

pub kept-branch : (n : ℕ) (st : LiarState) (b : ℕ) (branch : State) → IsLiarStateFor n st → IsStateFor n branch
    → IsLiarStateFor n (with_branch st b branch)
kept-branch n st b branch h own =
    let same : length (slice_set st.branches b branch) ≡ length st.branches = length-set st.branches b branch in
    record {
      wire_known = h.wire_known;
      count = h.count;
      sessions_paired = h.sessions_paired;
      one_branch = omega (arith, same, h.one_branch);
      few_branches = omega (arith, same, h.few_branches);
      branches_in_range = All-slice_set (IsStateFor n) st.branches b branch h.branches_in_range own;
      sessions_in_range = λ k within. subst (λ (len : ℕ). IsSessionFor n len k (session_at st k)) (sym same)
          (h.sessions_in_range k within);
    }

more-branches : (n few more i : ℕ) (s : Session) → few ≤ more → IsSessionFor n few i s → IsSessionFor n more i s
more-branches n few more i s le h = record {
  on_a_branch = omega (arith, le, h.on_a_branch);
  arrived_in_range = h.arrived_in_range;
  replies_in_range = h.replies_in_range;
  taken_before = h.taken_before;
}

pub kept-branched : (n : ℕ) (st : LiarState) (branch : State) → IsLiarStateFor n st → IsStateFor n branch → length st.branches < 8
    → IsLiarStateFor n (record st { branches = st.branches ++ branch ∷ [] })
kept-branched n st branch h own few =
    let more : length (st.branches ++ branch ∷ []) ≡ length st.branches + 1 = length-append st.branches (branch ∷ []) in
    record {
      wire_known = h.wire_known;
      count = h.count;
      sessions_paired = h.sessions_paired;
      one_branch = omega (arith, more);
      few_branches = omega (arith, more, few);
      branches_in_range = All-push (IsStateFor n) st.branches branch h.branches_in_range own;
      sessions_in_range = λ k within. more-branches n (length st.branches) _ k (session_at st k) (omega (arith, more))
          (h.sessions_in_range k within);
    }

-- the first state has it
pub first-in_range : (wire n : ℕ) → IsWire wire → IsClientCount n → IsLiarStateFor n (first_lies wire n)
first-in_range wire n known count = record {
  wire_known = known;
  count = count;
  sessions_paired = length-replicate n first_session;
  one_branch = omega arith;
  few_branches = omega arith;
  branches_in_range = (IsStateFor-first n count, tt);
  sessions_in_range = λ k within. subst (λ (s : Session). IsSessionFor n 1 k s)
      (sym (get_or-replicate n (k - 1) first_session first_session (omega (arith, within.from_one, within.to_n))))
      (record { on_a_branch = omega arith; arrived_in_range = tt; replies_in_range = tt; taken_before = omega arith });
}

-- the number of clients may be told by the sessions
pub IsLiarState-for : (n : ℕ) (st : LiarState) → IsLiarStateFor n st → IsLiarState st
IsLiarState-for n st h = subst (λ (z : ℕ). IsLiarStateFor z st) (sym h.sessions_paired) h

-- what is read of a state in range: a branch, a message that arrived, a reply
pub branch-in_range : (n : ℕ) (st : LiarState) (b : ℕ) (d : State) → IsLiarStateFor n st → b < length st.branches
    → IsStateFor n (slice_index_or st.branches b d)
branch-in_range n st b d h within = All-from_recursion (IsStateFor n) st.branches h.branches_in_range b d within

pub got-in_range : (P : Message → Type 0) (xs : List Message) (k : ℕ) (m : Message) → AllByRecursion P xs → slice_get xs k ≡ Some m
    → P m
got-in_range P xs k m all is =
    subst P (get_or_from_slice_get xs k m m is) (All-from_recursion P xs all k m (slice_get_within xs k m is))

pub nth-in_range : (P : Message → Type 0) (xs : List Message) (k : ℕ) (m : Message) → AllByRecursion P xs → nth k xs ≡ Some m → P m
nth-in_range P xs k m all = elim (k == 0) as (λ b. (if b then None else slice_get xs (k - 1)) ≡ Some m → P m) [
  | true ↦ λ is. absurd (none-some m is)
  | false ↦ λ is. got-in_range P xs (k - 1) m all is
]
