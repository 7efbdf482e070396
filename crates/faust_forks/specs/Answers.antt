-- What stands in a register, and what reads answer. A promise on views, that they are legal, rests on this file.
use Rattle.std.specs.Prelude.{◌≡◌, ℕ, ◌≤◌, zero, suc, List, Option, None, Some}
use Rattle.faust_types.specs.declared.operation.Kind.{Kind}
use Rattle.faust_types.specs.declared.operation.Kind.TheVariants.{Write, Read}
use Rattle.faust_ustor.specs.Checks.{digest_of}
use Rattle.faust_lists.specs.Lists.{count}
use Rattle.faust_forks.specs.Books.{Begun, Done, Began, find, find_begun}

-- What stands in a register after an operation of its client.
abbrev pub written_by : Kind → Option (List ℕ) → Option (List ℕ) → Option (List ℕ)
written_by Write value before = value
written_by Read value before = before

abbrev pub written_after : Option Begun → Option (List ℕ) → Option (List ℕ)
written_after None before = before
written_after (Some begun) before = written_by begun.kind begun.value before

-- The value that client k wrote last in its first t operations, or none.
abbrev pub written : List Begun → ℕ → ℕ → Option (List ℕ)
written started k zero = None
written started k (suc t) = written_after (find_begun started k (suc t)) (written started k t)

-- The first t operations of client k began.
abbrev pub AreBegunTo : List Begun → ℕ → ℕ → Type 0
AreBegunTo started k t = (s : ℕ) → 1 ≤ s → s ≤ t → Began started k s (λ begun. Unit {0})

-- The digest is that of the value written last in the first t operations of client k, which began.
pub record IsWritten (started : List Begun) (k t : ℕ) (digest : Option (List ℕ)) : Type 0 where
  pub begun_to : AreBegunTo started k t
  pub is_digest : digest ≡ digest_of (written started k t)

-- A completed read of a register answers the value written last among the operations of the register's client in the
-- fork, as of the last of them.
pub record IsAnswered (started : List Begun) (register : ℕ) (done : Done) : Type 0 where
  pub asof : done.asof ≡ count register done.fork
  pub value : done.value ≡ written started register (count register done.fork)

-- Each completed read does.
abbrev pub AreAnswered : List Begun → List Done → Type 0
AreAnswered started book = (k t : ℕ) (done : Done) (begun : Begun) → find book k t ≡ Some done
    → find_begun started k t ≡ Some begun → begun.kind ≡ Read → IsAnswered started begun.register done
