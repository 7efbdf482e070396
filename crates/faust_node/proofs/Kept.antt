-- What a cell keeps, through each of its changes.
use Rattle.std.proofs.Common.{◌≡◌, ◌+◌, ◌-◌, ◌<◌, ℕ, suc, All, List, [], ◌∷◌, ◌++◌, length, Option, Some, None, IfSome, slice_get, Result, Ok, refl, sym, ap, ◌∙◌, subst, arith, length-append}
use Rattle.std.proofs.lemmas.List.{length-map, map-append}
use Rattle.faust_types.specs.declared.arrival.Closing.{Closing}
use Rattle.faust_types.specs.declared.arrival.Closing.TheVariants as closings
use Rattle.faust_types.specs.declared.config.Config.{Config}
use Rattle.faust_ticket.specs.Holders.{SeatView, after_draw}
use Rattle.faust_record.specs.Journals.{IsNumberBehind, Log}
use Rattle.faust_record.specs.Merging.{numbers_of}
use Rattle.faust_record.specs.Entries.{entry_at}
use Rattle.faust_record.specs.Refusals.{StepRefuses, logged, step_of}
use Rattle.faust_record.specs.declared.entry.Input.{Input}
use Rattle.faust_record.specs.declared.errors.StepError.{StepError}
use Rattle.faust_record.specs.declared.entry.Entry.{Entry}
use Rattle.faust_node.specs.Cells.{Cell, HasNumbers, IsCell, closed_after, closed_by, each_drawn, first_cell, held_by, one_more}
use Rattle.faust_node.specs.Steps.{step_refused}
use Rattle.faust_node.proofs.Refused.{few-entries, free-step, refused-same}

-- a number above those of all entries may come behind them
all-behind : (number : ℕ) (x : ℕ) (xs : List ℕ) → All (λ (k : ℕ). k < number) (x ∷ xs) → All (λ (k : ℕ). k < number) xs
all-behind number x xs all k d inside = all (suc k) d (omega (arith, inside))

pub number-behind : (number : ℕ) (entries : List Entry) → All (λ (k : ℕ). k < number) (numbers_of entries) → IsNumberBehind entries number
number-behind number [] all = tt
number-behind number (x ∷ []) all = all 0 0 (omega arith)
number-behind number (x ∷ y ∷ xs) all =
    let rest = number-behind number (y ∷ xs) (all-behind number x.number (numbers_of (y ∷ xs)) all) in
    let place : suc (length (y ∷ xs) - 1) ≡ length (x ∷ y ∷ xs) - 1 = omega arith in
    subst (λ (k : ℕ). IfSome (slice_get (x ∷ y ∷ xs) k) (λ (last : Entry). last.number < number)) place rest

-- the numbers of a cell that isn't closed with Memory
pub numbers-drawn : (config : Config) (cell : Cell) → IsCell config cell → (cell.closed ≡ Some closings.Memory → ⊥)
    → cell.seat.drawn ≡ numbers_of cell.log.entries
numbers-drawn config cell kept awake = drawn cell.log cell.seat cell.closed kept.numbered awake where
  drawn : (log : Log) (seat : SeatView) (closed : Option Closing) → HasNumbers (numbers_of log.entries) seat.drawn closed
      → (closed ≡ Some closings.Memory → ⊥) → seat.drawn ≡ numbers_of log.entries
  drawn log seat closed (each_drawn same) awake = same
  drawn log seat closed (one_more x more memory) awake = absurd (awake memory)

pub spare-left : (config : Config) (cell : Cell) → IsCell config cell → (cell.closed ≡ Some closings.Memory → ⊥)
    → length cell.log.entries < 200000 → 0 < cell.seat.spare
spare-left config cell kept awake few =
    let same : length cell.seat.drawn ≡ length cell.log.entries =
    ap length (numbers-drawn config cell kept awake) ∙ length-map cell.log.entries (λ (e : Entry). e.number) in
    omega (arith, same, few, kept.spare_left)

pub kept-stepped : (config : Config) (log longer : Log) (seat after : SeatView) (closed : Option Closing) (entry : Entry)
    → IsCell config (record { log = log; seat = seat; closed = closed }) → (closed ≡ Some closings.Memory → ⊥) → 0 < seat.spare
    → longer ≡ logged log entry → after ≡ after_draw seat entry.number
    → IsCell config (record { log = longer; seat = after; closed = closed })
kept-stepped config log longer seat after closed entry kept awake spare longer_is after_is =
    let cell : Cell = record { log = log; seat = seat; closed = closed } in
    let before : seat.drawn ≡ numbers_of log.entries = numbers-drawn config cell kept awake in
    let drawn : after.drawn ≡ numbers_of longer.entries =
    ap (λ (s : SeatView). s.drawn) after_is ∙ ap (λ (l : List ℕ). l ++ entry.number ∷ []) before
    ∙ sym (map-append (λ (e : Entry). e.number) log.entries (entry ∷ []))
    ∙ ap (λ (l : Log). numbers_of l.entries) (sym longer_is) in
    let count : length after.drawn ≡ length seat.drawn + 1 =
    ap (λ (s : SeatView). length s.drawn) after_is ∙ length-append seat.drawn (entry.number ∷ []) in
    let less : after.spare ≡ seat.spare - 1 = ap (λ (s : SeatView). s.spare) after_is in
    record {
      of_config = ap (λ (l : Log). l.config) longer_is ∙ kept.of_config;
      numbered = each_drawn drawn;
      spare_left = omega (arith, kept.spare_left, count, less, spare);
    }

pub kept-starved : (config : Config) (log same : Log) (seat after : SeatView) (closed : Option Closing) (number : ℕ)
    → IsCell config (record { log = log; seat = seat; closed = closed }) → (closed ≡ Some closings.Memory → ⊥) → 0 < seat.spare
    → same ≡ log → after ≡ after_draw seat number
    → IsCell config (record { log = same; seat = after; closed = Some closings.Memory })
kept-starved config log same seat after closed number kept awake spare same_is after_is =
    let cell : Cell = record { log = log; seat = seat; closed = closed } in
    let before : seat.drawn ≡ numbers_of log.entries = numbers-drawn config cell kept awake in
    let drawn : after.drawn ≡ numbers_of same.entries ++ number ∷ [] =
    ap (λ (s : SeatView). s.drawn) after_is ∙ ap (λ (l : List ℕ). l ++ number ∷ []) before
    ∙ ap (λ (l : Log). numbers_of l.entries ++ number ∷ []) (sym same_is) in
    let count : length after.drawn ≡ length seat.drawn + 1 =
    ap (λ (s : SeatView). length s.drawn) after_is ∙ length-append seat.drawn (number ∷ []) in
    let less : after.spare ≡ seat.spare - 1 = ap (λ (s : SeatView). s.spare) after_is in
    record {
      of_config = ap (λ (l : Log). l.config) same_is ∙ kept.of_config;
      numbered = one_more number drawn refl;
      spare_left = omega (arith, kept.spare_left, count, less, spare);
    }

memory-stays : (cause : Closing) → closed_after (Some closings.Memory) cause ≡ Some closings.Memory
memory-stays closings.Asked = refl
memory-stays (closings.Failed notice) = refl
memory-stays closings.Ended = refl
memory-stays closings.Link = refl
memory-stays closings.Malformed = refl
memory-stays (closings.Named client) = refl
memory-stays (closings.Turn expected got) = refl
memory-stays closings.Full = refl
memory-stays closings.Memory = refl

numbered-closed : (numbers drawn : List ℕ) (closed : Option Closing) (cause : Closing) → HasNumbers numbers drawn closed
    → HasNumbers numbers drawn (closed_after closed cause)
numbered-closed numbers drawn closed cause (each_drawn same) = each_drawn same
numbered-closed numbers drawn closed cause (one_more x more memory) =
    one_more x more (ap (λ (c : Option Closing). closed_after c cause) memory ∙ memory-stays cause)

pub kept-closed : (config : Config) (cell : Cell) (cause : Closing) → IsCell config cell → IsCell config (closed_by cell cause)
kept-closed config cell cause kept = record {
  of_config = kept.of_config;
  numbered = numbered-closed (numbers_of cell.log.entries) cell.seat.drawn cell.closed cause kept.numbered;
  spare_left = kept.spare_left;
}

pub kept-first : (config : Config) (me : ℕ) → IsCell config (first_cell config me)
kept-first config me = record { of_config = refl; numbered = each_drawn refl; spare_left = omega arith }

-- the journal's step with a number that was drawn, where no refusal could be foreseen
ok-same : (a b : Log) (r : Result Log StepError) → r ≡ Ok a → r ≡ Ok b → a ≡ b
ok-same a b r first second = cc

pub kept-taken : (config : Config) (log new : Log) (seat after : SeatView) (closed : Option Closing) (number : ℕ) (input : Input)
    → IsCell config (record { log = log; seat = seat; closed = closed }) → (closed ≡ Some closings.Memory → ⊥)
    → step_refused log input ≡ None → after ≡ after_draw seat number → step_of log number input ≡ Ok new
    → IsCell config (record { log = new; seat = after; closed = closed })
kept-taken config log new seat after closed number input kept awake free after_is taken =
    let cell : Cell = record { log = log; seat = seat; closed = closed } in
    let entry : Entry = entry_at log.config log.me (held_by log) number input in
    let longer : new ≡ logged log entry = ok-same new (logged log entry) (step_of log number input) taken
    (free-step log number input free) in
    kept-stepped config log new seat after closed entry kept awake
    (spare-left config cell kept awake (few-entries log input free)) longer after_is

pub kept-refused : (config : Config) (log new : Log) (seat after : SeatView) (closed : Option Closing) (number : ℕ) (input : Input)
    (e : StepError) → IsCell config (record { log = log; seat = seat; closed = closed }) → (closed ≡ Some closings.Memory → ⊥)
    → step_refused log input ≡ None → after ≡ after_draw seat number → StepRefuses e log new (step_of log number input)
    → IsCell config (record { log = new; seat = after; closed = Some closings.Memory })
kept-refused config log new seat after closed number input e kept awake free after_is refused =
    let cell : Cell = record { log = log; seat = seat; closed = closed } in
    kept-starved config log new seat after closed number kept awake (spare-left config cell kept awake (few-entries log input free))
    (refused-same e log new (step_of log number input) refused) after_is

pub drawn-behind : (config : Config) (cell : Cell) (number : ℕ) → IsCell config cell → (cell.closed ≡ Some closings.Memory → ⊥)
    → All (λ (k : ℕ). k < number) cell.seat.drawn → IsNumberBehind cell.log.entries number
drawn-behind config cell number kept awake above =
    number-behind number cell.log.entries
    (subst (λ (l : List ℕ). All (λ (k : ℕ). k < number) l) (numbers-drawn config cell kept awake) above)
