-- What merging answers: never want of memory, and a record of all that was gathered, with the config that was given.
use Rattle.std.proofs.Common.{◌≡◌, ◌==◌, ◌+◌, ◌*◌, ◌≤◌, ℕ, suc, Bool, true, false, cond, List, [], ◌∷◌, ◌++◌, length, length-append, map, Option, Some, None, Result, Ok, Err, sym, ap, ◌∙◌, arith}
use Rattle.std.proofs.lemmas.List.{length-map}
use Rattle.faust_types.specs.declared.arrival.Arrival.{Arrival}
use Rattle.faust_types.specs.declared.config.Config.{Config}
use Rattle.faust_record.specs.Journals.{AreJournals, Log}
use Rattle.faust_record.specs.Merging.{by_number, entry_of, first_frame, first_stranger, frame_at, gathered, is_due, logged_in, merged, or_else, run_unless}
use Rattle.faust_record.specs.Runs.{Run, arriving, next_message}
use Rattle.faust_record.specs.declared.entry.Entry.{Entry}
use Rattle.faust_record.specs.declared.errors.MergeError.{MergeError}
use Rattle.faust_record.specs.declared.errors.MergeError.TheVariants as merges
use Rattle.faust_record.proofs.Sorting.{length-by_number}

-- An answer that isn't want of memory.
abbrev NamesMemory : Option MergeError → Type 0
NamesMemory found = found ≡ Some merges.OutOfMemory

stranger-named : (b : Bool) (rest : Option MergeError) (place client : ℕ) → (NamesMemory rest → ⊥)
    → NamesMemory (cond b rest (Some (merges.Client place client))) → ⊥
stranger-named true rest place client none is = none is
stranger-named false rest place client none is = absurd (cc)

no-stranger : (place : ℕ) (logs : List Log) → NamesMemory (first_stranger place logs) → ⊥
no-stranger place [] is = absurd (cc)
no-stranger place (log ∷ rest) is =
    stranger-named (log.me == place) (first_stranger (suc place) rest) place log.me (no-stranger (suc place) rest) is

frame-named : (b : Bool) (client index : ℕ) (sent : Option (List ℕ)) (got : List ℕ)
    → NamesMemory (cond b None (Some (merges.Frame client index sent got))) → ⊥
frame-named true client index sent got is = absurd (cc)
frame-named false client index sent got is = absurd (cc)

no-frame-at : (i : ℕ) (before : List Entry) (message : Option (List ℕ)) → NamesMemory (frame_at i before message) → ⊥
no-frame-at i before None is = absurd (cc)
no-frame-at i before (Some message) is = frame-named (is_due (next_message i before) message) _ _ _ _ is

no-either : (first later : Option MergeError) → (NamesMemory first → ⊥) → (NamesMemory later → ⊥) → NamesMemory (or_else first later) → ⊥
no-either None later none none_later is = none_later is
no-either (Some first) later none none_later is = none is

no-frame : (before entries : List Entry) → NamesMemory (first_frame before entries) → ⊥
no-frame before [] is = absurd (cc)
no-frame before (entry ∷ rest) is =
    no-either (frame_at entry.client before (arriving entry.input)) (first_frame (before ++ entry ∷ []) rest)
    (no-frame-at entry.client before (arriving entry.input)) (no-frame (before ++ entry ∷ []) rest) is

some-same : (e : MergeError) (run : Run) → (let refused : Result Run MergeError = Err e in refused ≡ Err merges.OutOfMemory)
    → NamesMemory (Some e)
some-same e run is = let same : e ≡ merges.OutOfMemory = cc in ap (λ (x : MergeError). Some x) same

none-unless : (stranger frame : Option MergeError) (run : Run) → (NamesMemory stranger → ⊥) → (NamesMemory frame → ⊥)
    → run_unless stranger frame run ≡ Err merges.OutOfMemory → ⊥
none-unless None None run no_stranger no_frame is = absurd (cc)
none-unless None (Some frame) run no_stranger no_frame is = no_frame (some-same frame run is)
none-unless (Some stranger) frame run no_stranger no_frame is = no_stranger (some-same stranger run is)

pub merged-in-memory : (config : Config) (logs : List Log) (arrivals : List Arrival)
    → merged config logs arrivals ≡ Err merges.OutOfMemory → ⊥
unfolding merged
merged-in-memory config logs arrivals is =
    let entries : List Entry = by_number (gathered logs arrivals) in
    none-unless (first_stranger 1 logs) (first_frame [] entries) (record { config = config; entries = entries })
    (no-stranger 1 logs) (no-frame [] entries) is

-- What is merged is made of all entries.
made-unless : (stranger frame : Option MergeError) (made run : Run) → run_unless stranger frame made ≡ Ok run → made ≡ run
made-unless None None made run is = cc
made-unless None (Some frame) made run is = absurd (cc)
made-unless (Some stranger) frame made run is = absurd (cc)

pub record IsMadeOf (config : Config) (logs : List Log) (arrivals : List Arrival) (run : Run) : Type 0 where
  pub config_is : run.config ≡ config
  pub counted : length run.entries ≡ length (gathered logs arrivals)

pub merged-made : (config : Config) (logs : List Log) (arrivals : List Arrival) (run : Run) → merged config logs arrivals ≡ Ok run
    → IsMadeOf config logs arrivals run
unfolding merged
merged-made config logs arrivals run is =
    let entries : List Entry = by_number (gathered logs arrivals) in
    let made : Run = record { config = config; entries = entries } in
    let same : made ≡ run = made-unless (first_stranger 1 logs) (first_frame [] entries) made run is in record {
      config_is = sym (ap (λ (r : Run). r.config) same);
      counted = sym (ap (λ (r : Run). length r.entries) same) ∙ length-by_number (gathered logs arrivals);
    }

-- Journals are short, so the record is.
few-logged : (logs : List Log) → AreJournals logs → length (logged_in logs) ≤ 200000 * length logs
few-logged [] journals = omega arith
few-logged (log ∷ rest) journals =
    let both : length (log.entries ++ logged_in rest) ≡ length log.entries + length (logged_in rest) =
    length-append log.entries (logged_in rest) in
    let first = journals.0.few in
    let later = few-logged rest journals.1 in
    omega (arith, both, first, later)

pub few-merged : (config : Config) (logs : List Log) (arrivals : List Arrival) (run : Run) → AreJournals logs
    → merged config logs arrivals ≡ Ok run → length run.entries ≤ 200000 * length logs + length arrivals
few-merged config logs arrivals run journals is =
    let all = (merged-made config logs arrivals run is).counted in
    let both : length (logged_in logs ++ map entry_of arrivals) ≡ length (logged_in logs) + length (map entry_of arrivals) =
    length-append (logged_in logs) (map entry_of arrivals) in
    let arrived : length (map entry_of arrivals) ≡ length arrivals = length-map arrivals entry_of in
    let logged = few-logged logs journals in
    omega (arith, all, both, arrived, logged)
