-- A pass over a run that has come behind some of its entries. It helps proofs.
use Rattle.std.specs.Prelude.{◌≡◌, ℕ, List, [], ◌∷◌, ◌++◌, Option, None, Some, Result, Ok, Err}
use Rattle.faust_types.specs.declared.config.Config.{Config}
use Rattle.faust_types.specs.declared.out_of_memory.OutOfMemory.{OutOfMemory}
use Rattle.faust_record.specs.Made.{made_behind}
use Rattle.faust_record.specs.declared.entry.Entry.{Entry}
use Rattle.faust_premises.specs.Premises.{checked_pairs, forged_among, hashed_in_run}
use Rattle.faust_audit.specs.Tables.{HoldsBodies, HoldsInputs}
use Rattle.faust_audit.specs.Watching.{AreWatched}
use Rattle.faust_audit.specs.declared.pass.Pass.{Pass}

-- It has the bodies that the entries made, the inputs that they hashed, and what is kept of each client.
pub record IsPassAt (config : Config) (pass : Pass) (before : List Entry) : Type 0 where
  pub made : HoldsBodies pass.collected.made (made_behind config [] before)
  pub inputs : HoldsInputs pass.collected.inputs (hashed_in_run config before)
  pub watched : AreWatched config pass.watched.items before

-- What comes of one more entry: the body of its first forged pair, or the pass behind it.
abbrev pub forged_at : Config → List Entry → Entry → Option (List ℕ)
forged_at config before entry = forged_among config.key (made_behind config [] before) (checked_pairs config entry)

abbrev pub GoesOn : Option (List ℕ) → Config → List Entry → Entry → Pass → Type 0
GoesOn None config before entry now = (forged_at config before entry ≡ None) × IsPassAt config now (before ++ entry ∷ [])
GoesOn (Some body) config before entry now = forged_at config before entry ≡ Some body

abbrev pub Steps : Result (Option (List ℕ)) OutOfMemory → Config → List Entry → Entry → Pass → Type 0
Steps (Ok found) config before entry now = GoesOn found config before entry now
Steps (Err e) config before entry now = Unit {0}
