-- Setting the turn of a client to what its message needs: then the message is in turn; and where it was in turn
-- before, nothing changes.
use Rattle.std.proofs.Common.{◌≡◌, ℕ, ◌+◌, ◌-◌, ◌^◌, ◌<◌, Bool, true, false, Option, Some, None, List, Result, Ok, Err, IfSome, slice_set, refl, sym, ap, ◌∙◌, inl, inr, arith}
use Rattle.std.proofs.lemmas.Bool.{cases_eq, cases_Bool}
use Rattle.std.proofs.lemmas.List.{get_or-set_same, set-get_or}
use Rattle.faust_types.specs.Clients.{IsClient}
use Rattle.faust_types.specs.Versions.{timestamp_at}
use Rattle.faust_types.specs.Ranges.{IsSubmitFor, IsCommitFor}
use Rattle.faust_types.specs.declared.message.Tuple.{Tuple}
use Rattle.faust_types.specs.declared.message.Submit.{Submit}
use Rattle.faust_types.specs.declared.message.Reply.{Reply}
use Rattle.faust_types.specs.declared.message.Commit.{Commit}
use Rattle.faust_server.specs.declared.turn.Turn.{Turn}
use Rattle.faust_server.specs.declared.refusal.OutOfTurn.{OutOfTurn}
use Rattle.faust_server.specs.Rows.{State, Served, client_count, first_turn, turn_at, committed, served, submitted, retaken}
use Rattle.faust_server.specs.States.{IsStateFor, IsState}
use Rattle.faust_server.proofs.Kept.{IsStateFor-retaken, none_pending}
use Rattle.faust_server.proofs.Rows.{committed-taken, committed-refused, alone-taken, alone-refused, riding-taken, riding-refused}
use Rattle.faust_server.proofs.Tuples.{without-none}
use Rattle.faust_liar.specs.Branches.{uncommitted_at, turn_set, after_commit, before_submit, answered}
use Rattle.faust_liar.specs.InRange.{IsBehind}

-- the turn that is set is the client's
pub turn_at-retaken : (n : ℕ) (st : State) (i last : ℕ) (b : Bool) → IsStateFor n st → IsClient n i
    → turn_at (retaken st i last b) i ≡ record { last = last; uncommitted = b }
turn_at-retaken n st i last b h client =
    get_or-set_same st.turns (i - 1) (record { last = last; uncommitted = b }) first_turn
    (omega (arith, client.from_one, client.to_n, h.turns_paired))

abbrev with_turns : State → List Tuple → List Turn → State
with_turns st pending turns = record st { pending = pending; turns = turns }

-- setting it to what it is changes nothing
pub retaken-same : (n : ℕ) (st : State) (i last : ℕ) (b : Bool) → IsStateFor n st → IsClient n i
    → turn_at st i ≡ record { last = last; uncommitted = b } → retaken st i last b ≡ st
retaken-same n st i last true h client turn =
    ap (λ (turns : List Turn). with_turns st st.pending turns)
    (ap (λ (t : Turn). slice_set st.turns (i - 1) t) (sym turn) ∙ set-get_or st.turns (i - 1) first_turn)
retaken-same n st i last false h client turn =
    let none = none_pending n st i h client (ap (λ (t : Turn). t.uncommitted) turn) in
    let turns : slice_set st.turns (i - 1) (record { last = last; uncommitted = false }) ≡ st.turns = ap
    (λ (t : Turn). slice_set st.turns (i - 1) t) (sym turn) ∙ set-get_or st.turns (i - 1) first_turn in
    ap (λ (pending : List Tuple). with_turns st pending (slice_set st.turns (i - 1) (record { last = last; uncommitted = false })))
    (without-none i st.pending none)
    ∙ ap (λ (ts : List Turn). with_turns st st.pending ts) turns

pub turn-is : (turn : Turn) (last : ℕ) (b : Bool) → turn.last ≡ last → turn.uncommitted ≡ b
    → turn ≡ record { last = last; uncommitted = b }
turn-is turn last b l u = ap (λ (t : ℕ). record turn { last = t }) l ∙ ap (λ (c : Bool). record turn { last = last; uncommitted = c }) u

-- the last number of a COMMIT is a timestamp
pub timestamp-below : (n : ℕ) (m : Commit) (i : ℕ) → IsCommitFor n m → IsClient n i → timestamp_at m.version i < 2 ^ 40
timestamp-below n m i message client = message.version_in_range.kept.below i
    (record { from_one = client.from_one; to_n = omega (arith, client.to_n, message.version_in_range.count) })

-- COMMIT
pub commit-due : (n : ℕ) (st : State) (i : ℕ) (m : Commit) → IsStateFor n st → IsClient n i
    → committed (uncommitted_at st i m) i m ≡ Ok (after_commit st i m)
commit-due n st i m h client =
    let turn = turn_at-retaken n st i (timestamp_at m.version i) true h client in
    committed-taken (uncommitted_at st i m) i m (ap (λ (t : Turn). t.uncommitted) turn) (sym (ap (λ (t : Turn). t.last) turn))

-- SUBMIT
submit-due-by : (n : ℕ) (st : State) (i : ℕ) (m : Submit) (commit : Option Commit) → IsStateFor n st → IsClient n i
    → IsSubmitFor n m → IfSome commit (IsCommitFor n) → IsBehind i m commit → m.commit ≡ commit
    → submitted (turn_set st i m commit) i m ≡ Ok (served (before_submit st i m commit) i m)
submit-due-by n st i m None h client message riding behind is =
    let turn = turn_at-retaken n st i (m.t - 1) false h client in
    alone-taken (retaken st i (m.t - 1) false) i m is (ap (λ (t : Turn). t.uncommitted) turn)
    (omega (arith, message.number.from_one, ap (λ (t : Turn). t.last) turn))
submit-due-by n st i m (Some commit) h client message riding behind is =
    let turn = turn_at-retaken n st i (timestamp_at commit.version i) true h client in
    let last : (turn_at (uncommitted_at st i commit) i).last ≡ timestamp_at commit.version i = ap (λ (t : Turn). t.last) turn in
    riding-taken n (uncommitted_at st i commit) i m commit
    (IsStateFor-retaken n st i (timestamp_at commit.version i) true h client (timestamp-below n commit i riding client)) client is
    (ap (λ (t : Turn). t.uncommitted) turn) (sym last) (behind ∙ ap (λ (t : ℕ). t + 1) (sym last))

pub submit-due : (n : ℕ) (st : State) (i : ℕ) (m : Submit) → IsStateFor n st → IsClient n i → IsSubmitFor n m → IsBehind i m m.commit
    → submitted (turn_set st i m m.commit) i m ≡ Ok (answered st i m)
submit-due n st i m h client message behind = submit-due-by n st i m m.commit h client message message.commit_in_range behind refl

-- a row that is taken was in turn
refused-taken : {X : Type 0} (row : Result X OutOfTurn) (x : X) (e : OutOfTurn) → row ≡ Ok x → row ≡ Err e → ⊥
refused-taken row x e ok err = cc

pub commit-in_turn : (st after : State) (i : ℕ) (m : Commit) → committed st i m ≡ Ok after
    → turn_at st i ≡ record { last = timestamp_at m.version i; uncommitted = true }
commit-in_turn st after i m ok = elim (cases_Bool (turn_at st i).uncommitted) [
  | inl busy ↦ elim (cases_eq (timestamp_at m.version i) (turn_at st i).last) [
    | inl e ↦ turn-is (turn_at st i) _ true (sym e) busy
    | inr ne ↦ absurd (refused-taken (committed st i m) after _ ok (committed-refused st i m (inr ne)))
  ]
  | inr free ↦ absurd (refused-taken (committed st i m) after _ ok (committed-refused st i m (inl free)))
]

alone-in_turn : (st : State) (i : ℕ) (m : Submit) (given : Served) → m.commit ≡ None → submitted st i m ≡ Ok given
    → turn_at st i ≡ record { last = m.t - 1; uncommitted = false }
alone-in_turn st i m given none ok = elim (cases_Bool (turn_at st i).uncommitted) [
  | inl busy ↦ absurd (refused-taken (submitted st i m) given _ ok (alone-refused st i m none (inl busy)))
  | inr free ↦ elim (cases_eq m.t ((turn_at st i).last + 1)) [
    | inl e ↦ turn-is (turn_at st i) _ false (omega (arith, e)) free
    | inr ne ↦ absurd (refused-taken (submitted st i m) given _ ok (alone-refused st i m none (inr ne)))
  ]
]

riding-in_turn : (st : State) (i : ℕ) (m : Submit) (commit : Commit) (given : Served) → m.commit ≡ Some commit
    → submitted st i m ≡ Ok given → turn_at st i ≡ record { last = timestamp_at commit.version i; uncommitted = true }
riding-in_turn st i m commit given some ok = elim (cases_Bool (turn_at st i).uncommitted) [
  | inl busy ↦ elim (cases_eq (timestamp_at commit.version i) (turn_at st i).last) [
    | inl e ↦ turn-is (turn_at st i) _ true (sym e) busy
    | inr ne ↦ absurd (refused-taken (submitted st i m) given _ ok (riding-refused st i m commit some (inr ne)))
  ]
  | inr free ↦ absurd (refused-taken (submitted st i m) given _ ok (riding-refused st i m commit some (inl free)))
]

turn_set-same : (n : ℕ) (st : State) (i : ℕ) (m : Submit) (commit : Option Commit) (given : Served) → IsStateFor n st → IsClient n i
    → m.commit ≡ commit → submitted st i m ≡ Ok given → turn_set st i m commit ≡ st
turn_set-same n st i m None given h client is ok = retaken-same n st i (m.t - 1) false h client (alone-in_turn st i m given is ok)
turn_set-same n st i m (Some commit) given h client is ok =
    retaken-same n st i (timestamp_at commit.version i) true h client (riding-in_turn st i m commit given is ok)

same-ok : {X : Type 0} (row : Result X OutOfTurn) (x y : X) → row ≡ Ok x → row ≡ Ok y → x ≡ y
same-ok row x y one two = cc

-- where the row is taken, the branch does the same
pub submit-honest : (n : ℕ) (st : State) (i : ℕ) (m : Submit) (given : Served) → IsStateFor n st → IsClient n i → IsSubmitFor n m
    → IsBehind i m m.commit → submitted st i m ≡ Ok given → given ≡ answered st i m
submit-honest n st i m given h client message behind ok =
    same-ok (submitted st i m) given (answered st i m) ok
    (ap (λ (s : State). submitted s i m) (sym (turn_set-same n st i m m.commit given h client refl ok))
    ∙ submit-due n st i m h client message behind)

pub commit-honest : (n : ℕ) (st after : State) (i : ℕ) (m : Commit) → IsStateFor n st → IsClient n i
    → committed st i m ≡ Ok after → after ≡ after_commit st i m
commit-honest n st after i m h client ok =
    same-ok (committed st i m) after (after_commit st i m) ok
    (ap (λ (s : State). committed s i m)
    (sym (retaken-same n st i (timestamp_at m.version i) true h client (commit-in_turn st after i m ok)))
    ∙ commit-due n st i m h client)

-- what the code does: the honest row first, and where it is out of turn, the row on a copy with the turn set
pub answer-in_turn : (st now : State) (i : ℕ) (m handed : Submit) (reply : Reply) → IsState st → IsClient (client_count st) i
    → IsSubmitFor (client_count st) m → IsBehind i m m.commit → handed ≡ m
    → submitted st i handed ≡ Ok (record { state = now; reply = reply })
    → record { state = now; reply = reply } ≡ answered st i m
answer-in_turn st now i m handed reply h client message behind same row =
    submit-honest (client_count st) st i m (record { state = now; reply = reply }) h client message behind
    (ap (λ (z : Submit). submitted st i z) (sym same) ∙ row)

pub answer-out_of_turn : (st copy ready now : State) (i : ℕ) (m handed : Submit) (reply : Reply) → IsState st
    → IsClient (client_count st) i → IsSubmitFor (client_count st) m → IsBehind i m m.commit → handed ≡ m → copy ≡ st
    → ready ≡ turn_set copy i handed handed.commit → submitted ready i handed ≡ Ok (record { state = now; reply = reply })
    → record { state = now; reply = reply } ≡ answered st i m
answer-out_of_turn st copy ready now i m handed reply h client message behind same copied set row =
    let ready-is : ready ≡ turn_set st i m m.commit = set ∙ ap (λ (s : State). turn_set s i handed handed.commit) copied
    ∙ ap (λ (z : Submit). turn_set st i z z.commit) same in
    let taken : submitted (turn_set st i m m.commit) i m ≡ Ok (record { state = now; reply = reply }) = ap
    (λ (s : State). submitted s i m) (sym ready-is) ∙ ap (λ (z : Submit). submitted ready i z) (sym same) ∙ row in
    same-ok (submitted (turn_set st i m m.commit) i m) (record { state = now; reply = reply }) (answered st i m) taken
    (submit-due (client_count st) st i m h client message behind)
