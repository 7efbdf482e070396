-- The rows as whole: what they keep, that a riding COMMIT has its row first, and when each is out of turn.
use Rattle.std.proofs.Common.{◌≡◌, ◌≢◌, ℕ, ◌+◌, ◌-◌, ◌<◌, ◌==◌, ◌&&◌, ◌⊎◌, Bool, true, false, not, if◌then◌else◌, Option, Some, None, List, length, Result, Ok, Err, IfSome, IfOk, slice_set, refl, sym, ap, ◌∙◌, subst, inl, inr, arith}
use Rattle.std.proofs.lemmas.Bool.{and_parts, and_from, not-true, cond-true, cond-false, eq-eqb, ne_eqb, cases_Bool}
use Rattle.std.proofs.lemmas.List.{get_or-set_same, set-set, set-get_or}
use Rattle.faust_types.specs.Clients.{IsClient}
use Rattle.faust_types.specs.Versions.{Vector, timestamp_at}
use Rattle.faust_types.specs.Ranges.{IsSubmitFor, IsCommitFor, IsReplyFor}
use Rattle.faust_types.specs.Messages.{unmade}
use Rattle.faust_types.specs.declared.message.Known.{Known}
use Rattle.faust_types.specs.declared.message.Submit.{Submit}
use Rattle.faust_types.specs.declared.message.Commit.{Commit}
use Rattle.faust_types.specs.declared.message.Reply.{Reply}
use Rattle.faust_server.specs.declared.turn.Turn.{Turn}
use Rattle.faust_server.specs.declared.refusal.OutOfTurn.{OutOfTurn}
use Rattle.faust_server.specs.declared.refusal.ServerError.{ServerError}
use Rattle.faust_server.specs.declared.refusal.ServerError.TheVariants as refusals
use Rattle.faust_server.specs.declared.server.Replaced.{Replaced}
use Rattle.faust_server.specs.Ahead.{is_ahead}
use Rattle.faust_server.specs.Rows.{State, Served, first_turn, version_at, proof_at, turn_at, greatest, is_submit_in_turn, is_commit_in_turn, out_of_turn, remembered, behind, advanced, settled, committed, served, submitted_alone, ridden, then_submitted, submitted, alone, Serves}
use Rattle.faust_server.specs.States.{IsStateFor, IsServedFor}
use Rattle.faust_server.specs.TakenBack.{replaced_in, taken_back}
use Rattle.faust_server.proofs.Kept.{IsStateFor-remembered, IsStateFor-appended, IsStateFor-led, IsStateFor-settled, IsReplyFor-replied, pending-lt}

-- the SUBMIT without its COMMIT is in range where the whole is
pub IsSubmitFor-alone : (n : ℕ) (m : Submit) → IsSubmitFor n m → IsSubmitFor n (alone m)
IsSubmitFor-alone n m h = record {
  register_in_range = h.register_in_range;
  number = h.number;
  value_in_range = h.value_in_range;
  submit_tag_sized = h.submit_tag_sized;
  data_tag_sized = h.data_tag_sized;
  commit_in_range = tt;
}

-- COMMIT keeps what every state keeps
pub IsStateFor-advanced : (n : ℕ) (st : State) (i : ℕ) (version : Vector) → IsStateFor n st → IsClient n i
    → IsStateFor n (advanced st i version)
IsStateFor-advanced n st i version h client =
    elim (is_ahead version.timestamps (greatest st).version.timestamps)
    as (λ b. IsStateFor n (if b then record st { c = i; pending = behind i st.pending } else st)) [
      | true ↦ IsStateFor-led n st i h client
      | false ↦ h
    ]

pub committed-in_range : (n : ℕ) (st : State) (i : ℕ) (m : Commit) → IsStateFor n st → IsClient n i → IsCommitFor n m
    → IfOk (committed st i m) (IsStateFor n)
committed-in_range n st i m h client message =
    let after : State = settled (advanced st i m.version) i m in
    let refused : OutOfTurn = out_of_turn (turn_at st i) (timestamp_at m.version i) in
    elim (is_commit_in_turn (turn_at st i) (timestamp_at m.version i))
    as (λ b. IfOk (if b then Ok after else Err refused) (IsStateFor n)) [
      | true ↦ IsStateFor-settled n (advanced st i m.version) i m (IsStateFor-advanced n st i m.version h client) client message
      | false ↦ tt
    ]

-- so does SUBMIT, and its reply is in range
pub served-in_range : (n : ℕ) (st : State) (i : ℕ) (m : Submit) → IsStateFor n st → IsClient n i → IsSubmitFor n m
    → (turn_at st i).uncommitted ≡ false → IsServedFor n (served st i m)
served-in_range n st i m h client message free =
    let kept = IsStateFor-remembered n st i m h client message in
    record {
      state_in_range = IsStateFor-appended n (remembered st i m) i m kept client message free;
      reply_in_range = IsReplyFor-replied n (remembered st i m) i m kept client free message.register_in_range;
      few_pending = pending-lt n (remembered st i m) i kept client free;
    }

pub submitted_alone-in_range : (n : ℕ) (st : State) (i : ℕ) (m : Submit) → IsStateFor n st → IsClient n i → IsSubmitFor n m
    → IfOk (submitted_alone st i m) (IsServedFor n)
submitted_alone-in_range n st i m h client message =
    let refused : OutOfTurn = out_of_turn (turn_at st i) m.t in
    let Due : Bool → Type 0 = λ b. IfOk (if b then Ok (served st i m) else Err refused) (IsServedFor n) in
    elim (cases_Bool (is_submit_in_turn (turn_at st i) m.t)) [
      | inl due ↦ subst Due (sym due) (served-in_range n st i m h client message (not-true _ (and_parts _ _ due).0))
      | inr not_due ↦ subst Due (sym not_due) tt
    ]

pub then_submitted-in_range : (n : ℕ) (row : Result State OutOfTurn) (i : ℕ) (m : Submit) (commit : Option Commit)
    → IfOk row (IsStateFor n) → IsClient n i → IsSubmitFor n m → IfOk (then_submitted row i (record m { commit = commit }))
    (IsServedFor n)
then_submitted-in_range n (Ok st) i m commit h client message = submitted_alone-in_range n st i m h client message
then_submitted-in_range n (Err refused) i m commit h client message = tt

ridden-in_range : (n : ℕ) (st : State) (i : ℕ) (commit : Option Commit) → IsStateFor n st → IsClient n i
    → IfSome commit (IsCommitFor n) → IfOk (ridden st i commit) (IsStateFor n)
ridden-in_range n st i None h client message = h
ridden-in_range n st i (Some commit) h client message = committed-in_range n st i commit h client message

pub submitted-in_range : (n : ℕ) (st : State) (i : ℕ) (m : Submit) → IsStateFor n st → IsClient n i → IsSubmitFor n m
    → IfOk (submitted st i m) (IsServedFor n)
submitted-in_range n st i m h client message =
    then_submitted-in_range n (ridden st i m.commit) i m m.commit
    (ridden-in_range n st i m.commit h client message.commit_in_range) client message

-- the row of a SUBMIT is that of the COMMIT which rides on it, and then its own without it
then_submitted-alone : (row : Result State OutOfTurn) (i : ℕ) (m : Submit) → then_submitted row i m ≡ then_submitted row i (alone m)
then_submitted-alone (Ok st) i m = refl
then_submitted-alone (Err refused) i m = refl

pub submitted-alone : (st : State) (i : ℕ) (m : Submit) → m.commit ≡ None → submitted st i m ≡ submitted_alone st i m
submitted-alone st i m none = ap (λ (c : Option Commit). then_submitted (ridden st i c) i m) none

pub submitted-riding : (st : State) (i : ℕ) (m : Submit) (commit : Commit) → m.commit ≡ Some commit
    → submitted st i m ≡ then_submitted (committed st i commit) i (alone m)
submitted-riding st i m commit some =
    ap (λ (c : Option Commit). then_submitted (ridden st i c) i m) some ∙ then_submitted-alone (committed st i commit) i m

pub submitted-after : (st after : State) (i : ℕ) (m : Submit) (commit : Commit) → m.commit ≡ Some commit
    → committed st i commit ≡ Ok after → submitted st i m ≡ submitted after i (alone m)
submitted-after st after i m commit some is =
    submitted-riding st i m commit some ∙ ap (λ (row : Result State OutOfTurn). then_submitted row i (alone m)) is

pub submitted-refused : (st : State) (i : ℕ) (m : Submit) (commit : Commit) (refused : OutOfTurn) → m.commit ≡ Some commit
    → committed st i commit ≡ Err refused → submitted st i m ≡ Err refused
submitted-refused st i m commit refused some is =
    submitted-riding st i m commit some ∙ ap (λ (row : Result State OutOfTurn). then_submitted row i (alone m)) is

-- when a turn is a message's
is_submit_in_turn-true : (turn : Turn) (t : ℕ) → turn.uncommitted ≡ false → t ≡ turn.last + 1 → is_submit_in_turn turn t ≡ true
is_submit_in_turn-true turn t free number = and_from _ _ (ap not free) (eq-eqb _ _ number)

is_submit_in_turn-false : (turn : Turn) (t : ℕ) → (turn.uncommitted ≡ true) ⊎ (t ≢ turn.last + 1) → is_submit_in_turn turn t ≡ false
is_submit_in_turn-false turn t (inl busy) = ap (λ (b : Bool). not b && (t == turn.last + 1)) busy
is_submit_in_turn-false turn t (inr other) = elim (cases_Bool turn.uncommitted) [
  | inl busy ↦ ap (λ (b : Bool). not b && (t == turn.last + 1)) busy
  | inr free ↦ ap (λ (b : Bool). not b && (t == turn.last + 1)) free ∙ ne_eqb _ _ other
]

is_commit_in_turn-true : (turn : Turn) (t : ℕ) → turn.uncommitted ≡ true → t ≡ turn.last → is_commit_in_turn turn t ≡ true
is_commit_in_turn-true turn t busy number = and_from _ _ busy (eq-eqb _ _ number)

is_commit_in_turn-false : (turn : Turn) (t : ℕ) → (turn.uncommitted ≡ false) ⊎ (t ≢ turn.last) → is_commit_in_turn turn t ≡ false
is_commit_in_turn-false turn t (inl free) = ap (λ (b : Bool). b && (t == turn.last)) free
is_commit_in_turn-false turn t (inr other) = elim (cases_Bool turn.uncommitted) [
  | inl busy ↦ ap (λ (b : Bool). b && (t == turn.last)) busy ∙ ne_eqb _ _ other
  | inr free ↦ ap (λ (b : Bool). b && (t == turn.last)) free
]

-- the row COMMIT in and out of turn
pub committed-taken : (st : State) (i : ℕ) (m : Commit) → (turn_at st i).uncommitted ≡ true
    → timestamp_at m.version i ≡ (turn_at st i).last → committed st i m ≡ Ok (settled (advanced st i m.version) i m)
committed-taken st i m busy number = cond-true _ _ _ (is_commit_in_turn-true (turn_at st i) (timestamp_at m.version i) busy number)

pub committed-refused : (st : State) (i : ℕ) (m : Commit)
    → ((turn_at st i).uncommitted ≡ false) ⊎ (timestamp_at m.version i ≢ (turn_at st i).last)
    → committed st i m ≡ Err (out_of_turn (turn_at st i) (timestamp_at m.version i))
committed-refused st i m why = cond-false _ _ _ (is_commit_in_turn-false (turn_at st i) (timestamp_at m.version i) why)

-- the row SUBMIT without a COMMIT in and out of turn
pub alone-taken : (st : State) (i : ℕ) (m : Submit) → m.commit ≡ None → (turn_at st i).uncommitted ≡ false
    → m.t ≡ (turn_at st i).last + 1 → submitted st i m ≡ Ok (served st i m)
alone-taken st i m none free number =
    submitted-alone st i m none ∙ cond-true _ _ _ (is_submit_in_turn-true (turn_at st i) m.t free number)

pub alone-refused : (st : State) (i : ℕ) (m : Submit) → m.commit ≡ None
    → ((turn_at st i).uncommitted ≡ true) ⊎ (m.t ≢ (turn_at st i).last + 1)
    → submitted st i m ≡ Err (out_of_turn (turn_at st i) m.t)
alone-refused st i m none why =
    submitted-alone st i m none ∙ cond-false _ _ _ (is_submit_in_turn-false (turn_at st i) m.t why)

-- a COMMIT leaves its client committed, at the same number
pub turns-advanced : (st : State) (i : ℕ) (version : Vector) → (advanced st i version).turns ≡ st.turns
turns-advanced st i version =
    elim (is_ahead version.timestamps (greatest st).version.timestamps)
    as (λ b. (if b then record st { c = i; pending = behind i st.pending } else st).turns ≡ st.turns) [ true ↦ refl | false ↦ refl ]

pub turn_at-settled : (n : ℕ) (st : State) (i : ℕ) (m : Commit) → IsStateFor n st → IsClient n i
    → turn_at (settled (advanced st i m.version) i m) i ≡ record (turn_at st i) { uncommitted = false }
turn_at-settled n st i m h client =
    let turns = turns-advanced st i m.version in
    let paired : length (advanced st i m.version).turns ≡ n = ap (λ (xs : List Turn). length xs) turns ∙ h.turns_paired in
    let mine : turn_at (advanced st i m.version) i ≡ turn_at st i = ap (λ (xs : List Turn). turn_at (record st { turns = xs }) i) turns in
    get_or-set_same (advanced st i m.version).turns (i - 1) _ first_turn (omega (arith, client.from_one, client.to_n, paired))
    ∙ ap (λ (turn : Turn). record turn { uncommitted = false }) mine

-- the row SUBMIT with a COMMIT in and out of turn
pub riding-refused : (st : State) (i : ℕ) (m : Submit) (commit : Commit) → m.commit ≡ Some commit
    → ((turn_at st i).uncommitted ≡ false) ⊎ (timestamp_at commit.version i ≢ (turn_at st i).last)
    → submitted st i m ≡ Err (out_of_turn (turn_at st i) (timestamp_at commit.version i))
riding-refused st i m commit some why = submitted-refused st i m commit _ some (committed-refused st i commit why)

module _ (n : ℕ) (st : State) (i : ℕ) (m : Submit) (commit : Commit) (h : IsStateFor n st) (client : IsClient n i)
    (some : m.commit ≡ Some commit) (busy : (turn_at st i).uncommitted ≡ true)
    (due : timestamp_at commit.version i ≡ (turn_at st i).last) where
  after : State
  after = settled (advanced st i commit.version) i commit

  whole : submitted st i m ≡ submitted_alone after i (alone m)
  unfolding after
  whole = submitted-after st after i m commit some (committed-taken st i commit busy due)

  turn : turn_at after i ≡ record (turn_at st i) { uncommitted = false }
  unfolding after
  turn = turn_at-settled n st i commit h client

  pub riding-taken : m.t ≡ (turn_at st i).last + 1
      → submitted st i m ≡ Ok (served (settled (advanced st i commit.version) i commit) i m)
  unfolding after
  riding-taken number =
      whole ∙ cond-true _ _ _ (is_submit_in_turn-true (turn_at after i) m.t (ap (λ (z : Turn). z.uncommitted) turn)
      (number ∙ ap (λ (z : Turn). z.last + 1) (sym turn)))

  pub number-refused : m.t ≢ (turn_at st i).last + 1
      → submitted st i m ≡ Err (record { expected = (turn_at st i).last + 1; got = m.t })
  unfolding after
  number-refused other =
      whole ∙ cond-false _ _ _ (is_submit_in_turn-false (turn_at after i) m.t (inr (λ e. other (e ∙ ap (λ (z : Turn). z.last + 1) turn))))
      ∙ ap (λ (z : Turn). Err (out_of_turn z m.t)) turn

-- what a COMMIT replaced, in its place again
module _ (st : State) (i : ℕ) (m : Commit) where
  with_lists : List Known → List (Option (List ℕ)) → List Turn → State
  with_lists versions proofs turns = record st { versions = versions; proofs = proofs; turns = turns }

  lists-back : (known : Known) (proof : Option (List ℕ)) (turn : Turn)
      → with_lists (slice_set (slice_set st.versions (i - 1) known) (i - 1) (version_at st i))
      (slice_set (slice_set st.proofs (i - 1) proof) (i - 1) (proof_at st i))
      (slice_set (slice_set st.turns (i - 1) turn) (i - 1) (turn_at st i))
      ≡ st
  unfolding with_lists
  lists-back known proof turn =
      let versions : List Known = slice_set (slice_set st.versions (i - 1) known) (i - 1) (version_at st i) in
      let proofs : List (Option (List ℕ)) = slice_set (slice_set st.proofs (i - 1) proof) (i - 1) (proof_at st i) in
      let turns : List Turn = slice_set (slice_set st.turns (i - 1) turn) (i - 1) (turn_at st i) in
      let versions-same : versions ≡ st.versions = set-set st.versions (i - 1) known (version_at st i) ∙ set-get_or st.versions
      (i - 1) (unmade 0) in
      let proofs-same : proofs ≡ st.proofs = set-set st.proofs (i - 1) proof (proof_at st i) ∙ set-get_or st.proofs (i - 1) None in
      let turns-same : turns ≡ st.turns = set-set st.turns (i - 1) turn (turn_at st i) ∙ set-get_or st.turns (i - 1) first_turn in
      ap (λ (xs : List Known). with_lists xs proofs turns) versions-same
      ∙ ap (λ (xs : List (Option (List ℕ))). with_lists st.versions xs turns) proofs-same
      ∙ ap (λ (xs : List Turn). with_lists st.versions st.proofs xs) turns-same

  pub taken_back-settled : taken_back (settled (advanced st i m.version) i m) i (replaced_in st i) ≡ st
  unfolding with_lists
  taken_back-settled =
      elim (is_ahead m.version.timestamps (greatest st).version.timestamps)
      as (λ b. taken_back (settled (if b then record st { c = i; pending = behind i st.pending } else st) i m) i
      (replaced_in st i) ≡ st) [
        | true ↦ lists-back _ _ _
        | false ↦ lists-back _ _ _
      ]

  pub back_again : (now back : State) (before : Replaced) → now ≡ settled (advanced st i m.version) i m → back ≡ now
      → before ≡ replaced_in st i → taken_back back i before ≡ st
  back_again now back before is same replaced =
      ap (λ (z : State). taken_back z i before) (same ∙ is)
      ∙ ap (λ (z : Replaced). taken_back (settled (advanced st i m.version) i m) i z) replaced
      ∙ taken_back-settled

-- a SUBMIT that is refused leaves the state as before, and behind a COMMIT that is taken back too
pub refused-same : (refusal : ServerError) (old now : State) (row : Result Served OutOfTurn) → Serves (Err refusal) old now row
    → now ≡ old
refused-same (refusals.OutOfTurn expected got) old now row h = h.1
refused-same refusals.OutOfMemory old now row h = h

pub refused-behind : (refusal : ServerError) (old now st back : State) (row both : Result Served OutOfTurn) → both ≡ row → back ≡ st
    → Serves (Err refusal) old now row → Serves (Err refusal) st back both
refused-behind (refusals.OutOfTurn expected got) old now st back row both same is h = (same ∙ h.0, is)
refused-behind refusals.OutOfMemory old now st back row both same is h = is

-- an answer that is its row's is in range where the row is
pub few-pending : (n : ℕ) (result : Result Reply ServerError) (old now : State) (row : Result Served OutOfTurn)
    → Serves result old now row
    → IfOk row (IsServedFor n) → IfOk result (λ reply. length reply.pending < n)
few-pending n (Ok reply) old now row is h =
    let served : IsServedFor n (record { state = now; reply = reply }) = subst
    (λ (z : Result Served OutOfTurn). IfOk z (IsServedFor n)) is h in
    served.few_pending
few-pending n (Err refusal) old now row is h = tt

pub reply-in_range : (n : ℕ) (result : Result Reply ServerError) (old now : State) (row : Result Served OutOfTurn)
    → Serves result old now row
    → IfOk row (IsServedFor n) → IfOk result (IsReplyFor n)
reply-in_range n (Ok reply) old now row is h =
    let served : IsServedFor n (record { state = now; reply = reply }) = subst
    (λ (z : Result Served OutOfTurn). IfOk z (IsServedFor n)) is h in
    served.reply_in_range
reply-in_range n (Err refusal) old now row is h = tt
