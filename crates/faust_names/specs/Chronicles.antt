-- What of a run the proofs on views need: it knows no digest, no tag and no version. No promise rests on this file; it
-- serves the laws.
use Rattle.std.specs.Prelude.{◌≡◌, ℕ, ◌≤◌, List, Some}
use Rattle.faust_types.specs.declared.operation.Kind.TheVariants.{Write}
use Rattle.faust_lists.specs.Lists.{count, AreAlong, AreClients, EndsWith}
use Rattle.faust_forks.specs.Books.{Begun, Done, Completed, find, find_begun}
use Rattle.faust_forks.specs.Answers.{AreAnswered}
use Rattle.faust_forks.specs.Forks.{AreBegun, IsSettled}
use Rattle.faust_names.specs.Cuts.{number_at, IsCovered}

-- The operations of a list of clients began before an entry, and each but the last of its client completed with the
-- front that ends with it as its fork.
pub record IsKnown (n : ℕ) (started : List Begun) (book : List Done) (entry : ℕ) (w : List ℕ) : Type 0 where
  pub clients : AreClients n w
  pub settled : IsSettled n book w
  pub begun_before : AreBegun n started entry w

-- The fork of operation t of client k ends with it, and is known in the entry in which it completed.
pub record IsForkOf (n : ℕ) (started : List Begun) (book : List Done) (k t : ℕ) (done : Done) : Type 0 where
  pub ends : EndsWith k done.fork
  pub counted : count k done.fork ≡ t
  pub known : IsKnown n started book done.entry done.fork

-- Each completion has its fork, each read answers what was written last in it, operations have numbers from 1, and
-- clients write their own registers.
pub record IsChronicle (n : ℕ) (started : List Begun) (book : List Done) : Type 0 where
  pub forks : (k t : ℕ) (done : Done) → find book k t ≡ Some done → IsForkOf n started book k t done
  pub answered : AreAnswered started book
  pub numbered : (k t : ℕ) (begun : Begun) → find_begun started k t ≡ Some begun → 1 ≤ t
  pub own_register : (k t : ℕ) (begun : Begun) → find_begun started k t ≡ Some begun → begun.kind ≡ Write → begun.register ≡ k

-- A cut of client i is backed: each own operation that it counts completed, and the fork of each completion of a client
-- that is covered there stands in line with the fork of that operation.
abbrev pub IsBacked : ℕ → List Done → ℕ → List ℕ → Type 0
IsBacked n book i cut = (t : ℕ) → 1 ≤ t → t ≤ number_at cut i
    → Completed book i t (λ done. (k s : ℕ) (x : Done) → IsCovered n cut t k → find book k s ≡ Some x → AreAlong x.fork done.fork)
