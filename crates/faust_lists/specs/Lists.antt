-- Lists of clients: a history as the clients whose operations it has, the last one first. A promise on histories
-- rests on this file. A front of a history in time is a tail of its list.
use Rattle.std.specs.Prelude.{◌≡◌, ℕ, ◌==◌, ◌⊎◌, suc, cond, nat_le, List, [], ◌∷◌}
use Rattle.faust_types.specs.Clients.{IsClient}

-- How many operations of client k the history has.
abbrev pub count : ℕ → List ℕ → ℕ
count k [] = 0
count k (x ∷ w) = cond (x == k) (suc (count k w)) (count k w)

-- The history up to operation t of client k: the shortest front that has t operations of k, and all of it where it
-- has fewer.
abbrev pub upto : ℕ → ℕ → List ℕ → List ℕ
upto k t [] = []
upto k t (x ∷ w) = cond (nat_le t (count k w)) (upto k t w) (x ∷ w)

-- The history up to the last operation of client k; nothing where there is none.
abbrev pub last_to : ℕ → List ℕ → List ℕ
last_to k w = upto k (count k w) w

-- All are of clients 1 to n.
abbrev pub AreClients : ℕ → List ℕ → Type 0
AreClients n [] = Unit {0}
AreClients n (k ∷ w) = IsClient n k × AreClients n w

-- The last operation is of client k.
abbrev pub EndsWith : ℕ → List ℕ → Type 0
EndsWith k [] = ⊥
EndsWith k (x ∷ w) = x ≡ k

-- u is a front of w in time.
abbrev pub IsTail : {X : Type 0} → List X → List X → Type 0
IsTail u [] = u ≡ []
IsTail u (x ∷ w) = (u ≡ x ∷ w) ⊎ IsTail u w

-- One of two histories is a front of the other.
abbrev pub AreAlong : {X : Type 0} → List X → List X → Type 0
AreAlong u w = IsTail u w ⊎ IsTail w u
