-- What is seen of a run from outside: which operations began, which completed, and what they answered. Every promise on
-- views and cuts rests on this file.
use Rattle.std.specs.Prelude.{◌≡◌, ℕ, ◌<◌, List, Option, Some}
use Rattle.faust_types.specs.declared.operation.Kind.TheVariants.{Write}
use Rattle.faust_types.specs.declared.operation.OpName.{OpName}
use Rattle.faust_forks.specs.Books.{Begun}

-- The name of operation t of client k.
abbrev pub named : ℕ → ℕ → OpName
named k t = record { client = k; t = t }

-- How an operation completed: in which entry, and what a read answered: a value or none, and the number of the
-- register's operation as of which it is the last written one.
pub record Finished : Type 0 where
  pub entry : ℕ
  pub value : Option (List ℕ)
  pub asof : ℕ

-- What began and what completed, by its name.
pub record History : Type 0 where
  pub began : OpName → Option Begun
  pub completed : OpName → Option Finished

-- The name is that of an operation: it began.
pub record IsOperation (h : History) (a : OpName) : Type 0 where
  pub begun : Begun
  pub began : h.began a ≡ Some begun

-- It is that of a write.
pub record IsWrite (h : History) (a : OpName) : Type 0 where
  pub begun : Begun
  pub began : h.began a ≡ Some begun
  pub writes : begun.kind ≡ Write

-- The operation completed.
pub record IsCompleted (h : History) (a : OpName) : Type 0 where
  pub finished : Finished
  pub completed : h.completed a ≡ Some finished

-- Real time: a completed before b began.
pub record Precedes (h : History) (a b : OpName) : Type 0 where
  pub finished : Finished
  pub begun : Begun
  pub completed : h.completed a ≡ Some finished
  pub began : h.began b ≡ Some begun
  pub earlier : finished.entry < begun.entry
