-- A choice by a test, taken apart.
use Rattle.std.proofs.Common.{◌≡◌, Bool, true, false, cond, refl, ◌⊎◌, inl, inr}

pub chosen : {A : Type 0} (b : Bool) (x y z : A) → cond b x y ≡ z → ((b ≡ true) × (x ≡ z)) ⊎ ((b ≡ false) × (y ≡ z))
chosen true x y z found = inl (refl, found)
chosen false x y z found = inr (refl, found)
