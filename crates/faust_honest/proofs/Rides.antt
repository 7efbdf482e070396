-- A SUBMIT on which a COMMIT rides: the COMMIT first, and then the SUBMIT.
use Rattle.std.proofs.Common.{◌≡◌, ℕ, suc, List, ◌∷◌, Some, Result, Ok, IsOkAnd, refl, sym, ◌∙◌, subst}
use Rattle.faust_types.specs.Clients.{IsClient}
use Rattle.faust_types.specs.Ranges.{IsSubmitFor, IsCommitFor}
use Rattle.faust_types.specs.declared.message.Commit.{Commit}
use Rattle.faust_server.specs.Rows.{State, Served, advanced, settled, committed, served, submitted}
use Rattle.faust_server.specs.declared.refusal.OutOfTurn.{OutOfTurn}
use Rattle.faust_server.proofs.Rows.{submitted-after, IsSubmitFor-alone}
use Rattle.faust_lists.specs.Lists.{count, upto}
use Rattle.faust_lists.proofs.Counts.{count-own}
use Rattle.faust_honest.specs.World.{World, IsCommitOf, submit_of}
use Rattle.faust_honest.specs.Honest.{next_submit, IsHonest, IsServedWell}
use Rattle.faust_honest.proofs.Commits as commits
use Rattle.faust_honest.proofs.Submits as submits
use Rattle.faust_honest.proofs.Replies as replies

-- without one
pub served-well : (n : ℕ) (world : World) (st : State) (arrived handled : List ℕ) (i : ℕ) → IsHonest n world st arrived handled
    → IsClient n i → IsSubmitFor n (next_submit world arrived i) → count i arrived ≡ count i handled
    → IsServedWell n world i arrived handled (served st i (next_submit world arrived i))
served-well n world st arrived handled i h client message free = record {
  honest = submits.honest n world st arrived handled h i client message free;
  accepted = replies.accepted n world st arrived handled h i client message free;
}

module _ (n : ℕ) (world : World) (st : State) (arrived handled : List ℕ) (i : ℕ) (commit : Commit)
    (h : IsHonest n world st arrived handled)
    (client : IsClient n i) (message : IsSubmitFor n (submit_of world i (suc (count i arrived)) (Some commit)))
    (busy : count i arrived ≡ suc (count i handled)) (is : IsCommitOf n world i (upto i (count i arrived) arrived) commit) where
  after : IsHonest n world (settled (advanced st i commit.version) i commit) arrived (i ∷ handled)
  after = commits.honest n world st arrived handled h i commit client message.commit_in_range busy is

  free : count i arrived ≡ count i (i ∷ handled)
  free = busy ∙ sym (count-own i i handled refl)

  alone-message : IsSubmitFor n (next_submit world arrived i)
  alone-message = IsSubmitFor-alone n (submit_of world i (suc (count i arrived)) (Some commit)) message

  pub riding-taken : submitted st i (submit_of world i (suc (count i arrived)) (Some commit))
      ≡ Ok (served (settled (advanced st i commit.version) i commit) i (next_submit world arrived i))
  riding-taken =
      let now : State = settled (advanced st i commit.version) i commit in
      submitted-after st now i (submit_of world i (suc (count i arrived)) (Some commit)) commit refl
      (commits.taken n world st arrived handled h i commit client message.commit_in_range busy is)
      ∙ submits.taken n world now arrived (i ∷ handled) after i client alone-message free

  pub riding-served : IsServedWell n world i arrived (i ∷ handled)
      (served (settled (advanced st i commit.version) i commit) i (next_submit world arrived i))
  riding-served =
      served-well n world (settled (advanced st i commit.version) i commit) arrived (i ∷ handled) i after client alone-message free

-- the rows, whole
pub committed-well : (n : ℕ) (world : World) (st : State) (arrived handled : List ℕ) (i : ℕ) (m : Commit)
    → IsHonest n world st arrived handled
    → IsClient n i → IsCommitFor n m → count i arrived ≡ suc (count i handled) → IsCommitOf n world i (upto i (count i arrived) arrived) m
    → IsOkAnd (committed st i m) (λ after. IsHonest n world after arrived (i ∷ handled))
committed-well n world st arrived handled i m h client message busy is =
    let Well : Result State OutOfTurn → Type 0 = λ (row : Result State OutOfTurn). IsOkAnd row
    (λ now. IsHonest n world now arrived (i ∷ handled)) in
    subst Well (sym (commits.taken n world st arrived handled h i m client message busy is))
    (commits.honest n world st arrived handled h i m client message busy is)

pub submitted-well : (n : ℕ) (world : World) (st : State) (arrived handled : List ℕ) (i : ℕ) → IsHonest n world st arrived handled
    → IsClient n i → IsSubmitFor n (next_submit world arrived i) → count i arrived ≡ count i handled
    → IsOkAnd (submitted st i (next_submit world arrived i)) (IsServedWell n world i arrived handled)
submitted-well n world st arrived handled i h client message free =
    subst (λ (row : Result Served OutOfTurn). IsOkAnd row (IsServedWell n world i arrived handled))
    (sym (submits.taken n world st arrived handled h i client message free))
    (served-well n world st arrived handled i h client message free)

pub riding-well : (n : ℕ) (world : World) (st : State) (arrived handled : List ℕ) (i : ℕ) (commit : Commit)
    → IsHonest n world st arrived handled
    → IsClient n i → IsSubmitFor n (submit_of world i (suc (count i arrived)) (Some commit)) → count i arrived ≡ suc (count i handled)
    → IsCommitOf n world i (upto i (count i arrived) arrived) commit
    → IsOkAnd (submitted st i (submit_of world i (suc (count i arrived)) (Some commit))) (IsServedWell n world i arrived (i ∷ handled))
riding-well n world st arrived handled i commit h client message busy is =
    subst (λ (row : Result Served OutOfTurn). IsOkAnd row (IsServedWell n world i arrived (i ∷ handled)))
    (sym (riding-taken n world st arrived handled i commit h client message busy is))
    (riding-served n world st arrived handled i commit h client message busy is)
