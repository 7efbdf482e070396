-- What the tables of a pass hold, as lists. It helps proofs.
use Rattle.std.specs.Prelude.{◌≡◌, ℕ, Bool, cond, List, [], ◌∷◌, Option, None, Some}
use Rattle.std.specs.HashMap as hashed
use Rattle.std.specs.HashSet as set_of
use Rattle.std.specs.Str.{bytes_eq}
use Rattle.faust_hash.specs.Chain.{input_digest}
use Rattle.faust_hash.specs.Tag.{is_same}
use Rattle.faust_premises.specs.Premises.{Collision, first_collision_behind, is_among}
use Rattle.faust_audit.specs.declared.body_set.BodySet.{BodySet}
use Rattle.faust_audit.specs.declared.input_table.InputTable.{InputTable}
use Rattle.faust_audit.specs.declared.input_table.Colliding.{Colliding}

-- The set has the body.
abbrev pub has_body : BodySet → List ℕ → Bool
has_body set body = set_of.contains_by (λ k. bytes_eq body k.items) set.bodies

-- The set has exactly these bodies.
abbrev pub HoldsBodies : BodySet → List (List ℕ) → Type 0
HoldsBodies set made = (body : List ℕ) → has_body set body ≡ is_among made body

-- The first input of a digest.
abbrev pub first_of_digest : List (List ℕ) → List ℕ → Option (List ℕ)
first_of_digest [] digest = None
first_of_digest (input ∷ rest) digest = cond (is_same (input_digest input) digest) (Some input) (first_of_digest rest digest)

abbrev pub collision_in : Option Colliding → Option Collision
collision_in None = None
collision_in (Some found) = Some (record { first = found.first; second = found.second })

-- The table has found the first collision of these inputs; where there is none, it has the first input of each digest.
pub record HoldsInputs (table : InputTable) (all : List (List ℕ)) : Type 0 where
  pub found_is : collision_in table.found ≡ first_collision_behind [] all
  pub firsts_are : table.found ≡ None → (digest : List ℕ)
      → hashed.get bytes_eq table.firsts digest ≡ first_of_digest all digest
