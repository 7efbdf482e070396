-- How merging puts entries in their places and lets messages arrive. It helps proofs.
use Rattle.std.specs.Prelude.{◌≡◌, ◌+◌, ◌<◌, ℕ, true, false, List, [], ◌∷◌, drop, length, Option, Some, None, Result, Ok, Err, slice_set, take}
use Rattle.std.specs.Global.{Vec}
use Rattle.faust_types.specs.Clients.{IsClient}
use Rattle.faust_types.specs.Outcomes.{nothing}
use Rattle.faust_record.specs.Runs.{AreOfClients, arriving}
use Rattle.faust_record.specs.Kept.{AreFilled}
use Rattle.faust_record.specs.Merging.{first_frame, is_due}
use Rattle.faust_record.specs.declared.entry.Entry.{Entry}
use Rattle.faust_record.specs.declared.errors.MergeError.{MergeError}
use Rattle.faust_record.specs.declared.errors.MergeError.TheVariants as merges
use Rattle.faust_record.specs.declared.outbox.Outbox.{Outbox}

-- Each entry is put in the place of its number, the last one first.
abbrev pub placed : List Entry → List Entry → List Entry
placed table [] = table
placed table (entry ∷ rest) = slice_set (placed table rest) entry.number entry

abbrev pub AreBelow : ℕ → List Entry → Type 0
AreBelow m [] = Unit {0}
AreBelow m (entry ∷ rest) = (entry.number < m) × AreBelow m rest

-- Each entry but the arrivals is of one of n clients, and arrivals give nothing.
pub record IsPlacedFor (n : ℕ) (entry : Entry) : Type 0 where
  pub act_of_client : arriving entry.input ≡ None → IsClient n entry.client
  pub arrival_alone : (message : List ℕ) → arriving entry.input ≡ Some message → entry.outcome ≡ nothing

abbrev pub ArePlacedFor : ℕ → List Entry → Type 0
ArePlacedFor n [] = Unit {0}
ArePlacedFor n (entry ∷ rest) = IsPlacedFor n entry × ArePlacedFor n rest

-- A message arrives that is due, or another one is named.
abbrev pub framed : ℕ → Option (List ℕ) → Outbox → List ℕ → MergeError
framed client due outbox message = merges.Frame client (outbox.arrived + 1) due message

abbrev pub NamesFrame : MergeError → ℕ → Option (List ℕ) → Outbox → List ℕ → Type 0
NamesFrame (merges.Client place other) client due outbox message = ⊥
NamesFrame (merges.Frame i index sent got) client due outbox message =
    (is_due due message ≡ false) × (merges.Frame i index sent got ≡ framed client due outbox message)
NamesFrame merges.OutOfMemory client due outbox message = Unit {0}

abbrev pub Delivers : {Done : Type 0} → Result Done MergeError → ℕ → Option (List ℕ) → Outbox → Outbox → List ℕ → Type 0
Delivers (Ok done) client due outbox now message = (is_due due message ≡ true) × (now ≡ record outbox { arrived = outbox.arrived + 1 })
Delivers (Err e) client due outbox now message = NamesFrame e client due outbox message

-- All messages that arrive are due, or the first one that isn't is named.
abbrev pub IsFirstFrame : MergeError → Option MergeError → Type 0
IsFirstFrame (merges.Client place other) first = ⊥
IsFirstFrame (merges.Frame i index sent got) first = first ≡ Some (merges.Frame i index sent got)
IsFirstFrame merges.OutOfMemory first = Unit {0}

-- The entries before these have fed what arrived among them, and what is left decides of all.
pub record AreFedTo (n : ℕ) (outboxes : List Outbox) (before back all : List Entry) : Type 0 where
  pub filled : AreFilled n outboxes before
  pub of_clients : AreOfClients n before
  pub left : first_frame before back ≡ first_frame [] all

abbrev pub FeedsOne : {Done : Type 0} → Result Done MergeError → ℕ → List Outbox → List Entry → ℕ → Type 0
FeedsOne (Ok done) n outboxes entries q = AreFedTo n outboxes (take q entries) (drop q entries) entries
FeedsOne (Err e) n outboxes entries q = IsFirstFrame e (first_frame [] entries)

pub record AreAllFed (n : ℕ) (outboxes : List Outbox) (entries : List Entry) : Type 0 where
  pub filled : AreFilled n outboxes entries
  pub of_clients : AreOfClients n entries
  pub none_left : first_frame [] entries ≡ None

abbrev pub Feeds : Result (Vec Outbox) MergeError → ℕ → List Entry → Type 0
Feeds (Ok outboxes) n entries = AreAllFed n outboxes.items entries
Feeds (Err e) n entries = IsFirstFrame e (first_frame [] entries)
