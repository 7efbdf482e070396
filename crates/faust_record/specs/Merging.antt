-- What merging journals and arrivals answers: `merge` rests on it.
use Rattle.std.specs.Prelude.{◌≡◌, ◌==◌, ◌+◌, ℕ, suc, cond, Bool, true, false, List, [], ◌∷◌, ◌++◌, length, Option, Some, None, Result, Ok, Err, eqb, ltb, map, nat_le, if◌then◌else◌}
use Rattle.std.specs.List.{flat_map}
use Rattle.std.specs.Str.{bytes_eq}
use Rattle.faust_types.specs.declared.config.Config.{Config}
use Rattle.faust_types.specs.declared.arrival.Arrival.{Arrival}
use Rattle.faust_record.specs.Entries.{arrival_at}
use Rattle.faust_record.specs.Runs.{Run, arrived_in, arriving, entries_of, next_message}
use Rattle.faust_record.specs.Journals.{Log}
use Rattle.faust_record.specs.declared.entry.Entry.{Entry}
use Rattle.faust_record.specs.declared.errors.MergeError.{MergeError}
use Rattle.faust_record.specs.declared.errors.MergeError.TheVariants as merges

-- All entries of the journals, and the arrivals as entries.
abbrev pub entry_of : Arrival → Entry
entry_of arrival = arrival_at arrival.client arrival.number arrival.message

abbrev pub logged_in : List Log → List Entry
logged_in logs = flat_map (λ (log : Log). log.entries) logs

abbrev pub gathered : List Log → List Arrival → List Entry
gathered logs arrivals = logged_in logs ++ map entry_of arrivals

-- How often x stands in a list. Numbers count up where they are those below some m, each once.
abbrev pub times : ℕ → List ℕ → ℕ
times x [] = 0
times x (y ∷ ys) = cond (eqb x y) 1 0 + times x ys

abbrev pub once_below : ℕ → ℕ → ℕ
once_below m x = cond (ltb x m) 1 0

abbrev pub HoldsEachBelow : ℕ → List ℕ → Type 0
HoldsEachBelow m numbers = (x : ℕ) → times x numbers ≡ once_below m x

abbrev pub numbers_of : List Entry → List ℕ
numbers_of entries = map (λ (entry : Entry). entry.number) entries

pub record AreEachBelow (numbers : List ℕ) : Type 0 where
  pub count : ℕ
  pub each_once : HoldsEachBelow count numbers

-- Each journal is of a run with this config.
abbrev pub AreOfConfig : Config → List Log → Type 0
AreOfConfig config [] = Unit {0}
AreOfConfig config (log ∷ rest) = (log.config ≡ config) × AreOfConfig config rest

-- Entries in the order of their numbers.
abbrev pub inserted : Entry → List Entry → List Entry
inserted entry [] = entry ∷ []
inserted entry (first ∷ rest) =
    cond (nat_le entry.number first.number) (entry ∷ first ∷ rest) (first ∷ inserted entry rest)

abbrev pub by_number : List Entry → List Entry
by_number [] = []
by_number (entry ∷ rest) = inserted entry (by_number rest)

-- The first journal, from this place on, that is of another client than its place says.
abbrev pub first_stranger : ℕ → List Log → Option MergeError
first_stranger place [] = None
first_stranger place (log ∷ rest) =
    cond (log.me == place) (first_stranger (suc place) rest) (Some (merges.Client place log.me))

-- The first arrival that isn't of the next message of its client: the message that is due, if any, and the one that
-- arrived instead, as the which of this client's.
abbrev pub is_due : Option (List ℕ) → List ℕ → Bool
is_due None message = false
is_due (Some sent) message = bytes_eq sent message

abbrev pub frame_of : ℕ → List Entry → List ℕ → MergeError
frame_of i before message =
    merges.Frame i (length (arrived_in (entries_of i before)) + 1) (next_message i before) message

abbrev pub frame_at : ℕ → List Entry → Option (List ℕ) → Option MergeError
frame_at i before None = None
frame_at i before (Some message) =
    cond (is_due (next_message i before) message) None (Some (frame_of i before message))

abbrev pub or_else : Option MergeError → Option MergeError → Option MergeError
or_else None later = later
or_else (Some first) later = Some first

abbrev pub first_frame : List Entry → List Entry → Option MergeError
first_frame before [] = None
first_frame before (entry ∷ rest) =
    or_else (frame_at entry.client before (arriving entry.input)) (first_frame (before ++ entry ∷ []) rest)

-- The answer: a journal of another client first, then an arrival of another message, else the record.
abbrev pub run_unless : Option MergeError → Option MergeError → Run → Result Run MergeError
run_unless None None run = Ok run
run_unless None (Some frame) run = Err frame
run_unless (Some stranger) frame run = Err stranger

unfoldable pub merged : Config → List Log → List Arrival → Result Run MergeError
merged config logs arrivals =
    let entries = by_number (gathered logs arrivals) in
    run_unless (first_stranger 1 logs) (first_frame [] entries) (record { config = config; entries = entries })

-- What `merge` answers is what is due. Only want of memory is free.
abbrev pub MergeRefuses : MergeError → Result Run MergeError → Type 0
MergeRefuses (merges.Client place client) due = due ≡ Err (merges.Client place client)
MergeRefuses (merges.Frame client index sent got) due = due ≡ Err (merges.Frame client index sent got)
MergeRefuses merges.OutOfMemory due = Unit {0}

abbrev pub Merges : Result Run MergeError → Result Run MergeError → Type 0
Merges (Ok run) due = due ≡ Ok run
Merges (Err e) due = MergeRefuses e due
