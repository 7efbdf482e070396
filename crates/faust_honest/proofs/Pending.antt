-- The tuples of the operations after the settled part of a history, and a walk along them.
use Rattle.std.proofs.Common.{◌≡◌, ℕ, suc, List, [], ◌∷◌, ◌++◌, refl, sym, ap, ◌∙◌, subst, inl, inr, arith}
use Rattle.std.proofs.lemmas.Bool.{cases_eq}
use Rattle.std.proofs.lemmas.List.{append_assoc}
use Rattle.faust_types.specs.Messages.{tuples_by}
use Rattle.faust_types.specs.declared.message.Tuple.{Tuple}
use Rattle.faust_server.specs.Rows.{behind, without}
use Rattle.faust_server.proofs.Tuples.{tuples_by-push_own, tuples_by-push_other, behind-first, without-none}
use Rattle.faust_ustor.specs.declared.walk.Walk.{Walk}
use Rattle.faust_ustor.specs.Passed.{followed, clients_after}
use Rattle.faust_ustor.proofs.Followed.{followed-append}
use Rattle.faust_lists.specs.Lists.{count, AreClients}
use Rattle.faust_lists.specs.Walks.{IsWalkOf}
use Rattle.faust_lists.proofs.Counts.{count-own, count-other}
use Rattle.faust_lists.proofs.Versions.{IsWalkOf-advanced}
use Rattle.faust_honest.specs.World.{World}
use Rattle.faust_honest.specs.Honest.{tuple_at, pending_of}

-- one tuple for each operation
pub tuples_by-pending : (world : World) (settled after : List ℕ) (k : ℕ) → tuples_by k (pending_of world settled after) ≡ count k after
tuples_by-pending world settled [] k = refl
tuples_by-pending world settled (x ∷ after) k =
    let rest = tuples_by-pending world settled after k in
    let before = pending_of world settled after in
    let tuple : Tuple = tuple_at world x (suc (count x (after ++ settled))) in
    elim (cases_eq x k) [
      | inl e ↦ omega (arith, tuples_by-push_own k before tuple e, rest, count-own k x after e)
      | inr ne ↦ omega (arith, tuples_by-push_other k before tuple ne, rest, count-other k x after ne)
    ]

clients_after-append : (w : List ℕ) (xs ys : List Tuple) → clients_after w (xs ++ ys) ≡ clients_after (clients_after w xs) ys
clients_after-append w [] ys = refl
clients_after-append w (x ∷ xs) ys = clients_after-append (x.client ∷ w) xs ys

-- their clients put behind the settled part make the history again
pub clients_after-pending : (world : World) (settled after : List ℕ)
    → clients_after settled (pending_of world settled after) ≡ after ++ settled
clients_after-pending world settled [] = refl
clients_after-pending world settled (k ∷ after) =
    let tuple : Tuple = tuple_at world k (suc (count k (after ++ settled))) in
    clients_after-append settled (pending_of world settled after) (tuple ∷ [])
    ∙ ap (λ (z : List ℕ). k ∷ z) (clients_after-pending world settled after)

-- the tuples before and behind that of one operation
pub pending_of-split : (world : World) (settled newer older : List ℕ) (i : ℕ) → pending_of world settled (newer ++ i ∷ older)
    ≡ pending_of world settled older ++ tuple_at world i (suc (count i (older ++ settled))) ∷ pending_of world
    (i ∷ (older ++ settled)) newer
pending_of-split world settled [] older i = refl
pending_of-split world settled (x ∷ newer) older i =
    let before : List Tuple = pending_of world settled older in
    let tuple : Tuple = tuple_at world i (suc (count i (older ++ settled))) in
    let behind_it : List Tuple = pending_of world (i ∷ (older ++ settled)) newer in
    let last : List ℕ → Tuple = λ (w : List ℕ). tuple_at world x (suc (count x w)) in
    let whole : (newer ++ i ∷ older) ++ settled ≡ newer ++ i ∷ (older ++ settled) = append_assoc newer (i ∷ older) settled in
    ap (λ (z : List Tuple). z ++ last ((newer ++ i ∷ older) ++ settled) ∷ []) (pending_of-split world settled newer older i)
    ∙ ap (λ (w : List ℕ). (before ++ tuple ∷ behind_it) ++ last w ∷ []) whole
    ∙ append_assoc before (tuple ∷ behind_it) (last (newer ++ i ∷ (older ++ settled)) ∷ [])

-- a COMMIT of the operation leaves those behind it
pub behind-pending : (world : World) (settled newer older : List ℕ) (i : ℕ) → count i older ≡ 0
    → behind i (pending_of world settled (newer ++ i ∷ older)) ≡ pending_of world (i ∷ (older ++ settled)) newer
behind-pending world settled newer older i none =
    let tuple : Tuple = tuple_at world i (suc (count i (older ++ settled))) in
    ap (behind i) (pending_of-split world settled newer older i)
    ∙ behind-first i (pending_of world settled older) tuple (pending_of world (i ∷ (older ++ settled)) newer)
    (tuples_by-pending world settled older i ∙ none) refl

pub without-pending : (world : World) (settled after : List ℕ) (i : ℕ) → count i after ≡ 0
    → without i (pending_of world settled after) ≡ pending_of world settled after
without-pending world settled after i none =
    without-none i (pending_of world settled after) (tuples_by-pending world settled after i ∙ none)

-- a walk from the settled part along the tuples comes to the end of the history
pub IsWalkOf-pending : (n : ℕ) (world : World) (walk : Walk) (settled after : List ℕ) → IsWalkOf n walk settled → AreClients n after
    → IsWalkOf n (followed walk (pending_of world settled after)) (after ++ settled)
IsWalkOf-pending n world walk settled [] h all = h
IsWalkOf-pending n world walk settled (k ∷ after) h all =
    let tuple : Tuple = tuple_at world k (suc (count k (after ++ settled))) in
    let before = followed walk (pending_of world settled after) in
    subst (λ (z : Walk). IsWalkOf n z (k ∷ (after ++ settled))) (sym (followed-append walk (pending_of world settled after) (tuple ∷ [])))
    (IsWalkOf-advanced n before (after ++ settled) k (IsWalkOf-pending n world walk settled after h all.1) all.0)
