-- Operations that began and that completed, found by their client and number. A promise on forks, views and cuts
-- rests on this file.
use Rattle.std.specs.Prelude.{◌≡◌, ℕ, ◌==◌, ◌&&◌, Bool, cond, List, [], ◌∷◌, Option, None, Some}
use Rattle.faust_types.specs.Versions.{Vector}
use Rattle.faust_types.specs.declared.operation.Kind.{Kind}

-- An operation that began: what it is, and the entry in which it began.
pub record Begun : Type 0 where
  pub client : ℕ
  pub number : ℕ
  pub kind : Kind
  pub register : ℕ
  pub value : Option (List ℕ)
  pub entry : ℕ

-- An operation that completed: the entry in which it did, its version, its fork, and what a read answered.
pub record Done : Type 0 where
  pub client : ℕ
  pub number : ℕ
  pub entry : ℕ
  pub version : Vector
  pub fork : List ℕ
  pub value : Option (List ℕ)
  pub asof : ℕ

-- The first of two that there is.
abbrev pub or_else : {X : Type 0} → Option X → Option X → Option X
or_else None second = second
or_else (Some x) second = Some x

abbrev pub is_named : ℕ → ℕ → ℕ → ℕ → Bool
is_named client number k t = (client == k) && (number == t)

-- Operation t of client k, if it began. The list has the last one first, and the first one that began counts.
abbrev pub find_begun : List Begun → ℕ → ℕ → Option Begun
find_begun [] k t = None
find_begun (begun ∷ started) k t =
    or_else (find_begun started k t) (cond (is_named begun.client begun.number k t) (Some begun) None)

-- Operation t of client k in the book, if it completed. The book has the last one first, and the first one that
-- completed counts.
abbrev pub find : List Done → ℕ → ℕ → Option Done
find [] k t = None
find (done ∷ book) k t = or_else (find book k t) (cond (is_named done.client done.number k t) (Some done) None)

-- Operation t of client k began, and is so.
pub record Began (started : List Begun) (k t : ℕ) (fits : Begun → Type 0) : Type 0 where
  pub begun : Begun
  pub found : find_begun started k t ≡ Some begun
  pub fits_it : fits begun

-- Operation t of client k completed, and is so.
pub record Completed (book : List Done) (k t : ℕ) (fits : Done → Type 0) : Type 0 where
  pub done : Done
  pub found : find book k t ≡ Some done
  pub fits_it : fits done

-- Some operation of client k completed, and is so.
pub record Came (book : List Done) (k : ℕ) (fits : Done → Type 0) : Type 0 where
  pub number : ℕ
  pub done : Done
  pub found : find book k number ≡ Some done
  pub fits_it : fits done

-- Whatever is found stays found.
abbrev pub AreBegunIn : List Begun → List Begun → Type 0
AreBegunIn started more = (k t : ℕ) (begun : Begun) → find_begun started k t ≡ Some begun → find_begun more k t ≡ Some begun

abbrev pub AreDoneIn : List Done → List Done → Type 0
AreDoneIn book more = (k t : ℕ) (done : Done) → find book k t ≡ Some done → find more k t ≡ Some done
