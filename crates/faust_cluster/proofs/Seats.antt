-- Seats that are split off and taken back.
use Rattle.std.proofs.Common.{◌≡◌, ◌≢◌, ℕ, ◌+◌, ◌-◌, ◌*◌, ◌^◌, ◌≤◌, List, [], ◌∷◌, ◌++◌, cond, eqb, length, map, Option, Some, refl, sym, ap, subst, ◌∙◌, arith, append-nil}
use Rattle.std.proofs.lemmas.Grind.{flat_map-append}
use Rattle.std.proofs.lemmas.List.{map-append}
use Rattle.faust_types.specs.declared.arrival.Arrival.{Arrival}
use Rattle.faust_types.specs.declared.arrival.Closing.{Closing}
use Rattle.faust_types.specs.declared.arrival.Closing.TheVariants as closings
use Rattle.faust_types.specs.declared.config.Config.{Config}
use Rattle.faust_ticket.specs.Holders.{RootView, SeatView, after_join, after_split, first_root}
use Rattle.faust_ticket.specs.Numbers as tickets
use Rattle.faust_record.specs.Journals.{AreJournals, IsJournal, Log}
use Rattle.faust_record.specs.Merging.{AreEachBelow, AreOfConfig, entry_of, gathered, logged_in, numbers_of, times}
use Rattle.faust_record.specs.declared.entry.Entry.{Entry}
use Rattle.faust_node.specs.Cells.{Cell, HasNumbers, IsCell}
use Rattle.faust_host.specs.Arriving as hosts
use Rattle.faust_cluster.specs.Casting.{AreParts, IsJoining, IsSplitting}

pub first-splitting : IsSplitting first_root 0
first-splitting = record { none_drawn = refl; out = refl; spare = omega arith }

-- so few seats leave enough for one more
pub may-split : (root : RootView) (seats : ℕ) → IsSplitting root seats → seats ≤ 8 → 2 ^ 32 ≤ root.spare
may-split root seats is few = omega (arith, is.spare, few)

pub one-split : (root next : RootView) (seats : ℕ) → IsSplitting root seats → seats ≤ 8 → next ≡ after_split root
    → IsSplitting next (seats + 1)
one-split root next seats is few after = subst (λ (r : RootView). IsSplitting r (seats + 1)) (sym after) (record {
  none_drawn = is.none_drawn;
  out = omega (arith, is.out);
  spare = omega (arith, is.spare, few);
})

-- one more journal
journals-more : (logs : List Log) (log : Log) → AreJournals logs → IsJournal log → AreJournals (logs ++ log ∷ [])
journals-more [] log kept one = (one, tt)
journals-more (first ∷ logs) log kept one = (kept.0, journals-more logs log kept.1 one)

configs-more : (config : Config) (logs : List Log) (log : Log) → AreOfConfig config logs → log.config ≡ config
    → AreOfConfig config (logs ++ log ∷ [])
configs-more config [] log kept one = (one, tt)
configs-more config (first ∷ logs) log kept one = (kept.0, configs-more config logs log kept.1 one)

numbers-more : (logs : List Log) (log : Log)
    → numbers_of (logged_in (logs ++ log ∷ [])) ≡ numbers_of (logged_in logs) ++ numbers_of log.entries
numbers-more logs log =
    ap (λ (l : List Entry). numbers_of l) (flat_map-append (λ (l : Log). l.entries) logs (log ∷ [])
    ∙ ap (λ (l : List Entry). logged_in logs ++ l) (append-nil log.entries))
    ∙ map-append (λ (entry : Entry). entry.number) (logged_in logs) log.entries

-- a cell that isn't closed with `Memory` has all its numbers
drawn-each : (numbers drawn : List ℕ) (closed : Option Closing) → HasNumbers numbers drawn closed
    → closed ≢ Some closings.Memory → drawn ≡ numbers
drawn-each numbers drawn closed (HasNumbers.each_drawn same) other = same
drawn-each numbers drawn closed (HasNumbers.one_more x more is) other = absurd (other is)

pub none-joined : (config : Config) (root : RootView) (seats : ℕ) → root.drawn ≡ [] → root.out ≡ seats → IsJoining config root seats []
none-joined config root seats none out = record { kept = tt; one_config = tt; drawn = none; out = out }

pub one-joined : (config : Config) (root next : RootView) (seats : ℕ) (logs : List Log) (cell : Cell)
    → IsJoining config root (seats + 1) logs → IsCell config cell → cell.closed ≢ Some closings.Memory → IsJournal cell.log
    → next ≡ after_join root cell.seat → IsJoining config next seats (logs ++ cell.log ∷ [])
one-joined config root next seats logs cell is of_cell other journal after =
    let drawn : cell.seat.drawn ≡ numbers_of cell.log.entries =
    drawn-each (numbers_of cell.log.entries) cell.seat.drawn cell.closed of_cell.numbered other in
    subst (λ (r : RootView). IsJoining config r seats (logs ++ cell.log ∷ [])) (sym after) (record {
      kept = journals-more logs cell.log is.kept journal;
      one_config = configs-more config logs cell.log is.one_config of_cell.of_config;
      drawn = ap (λ (l : List ℕ). l ++ cell.seat.drawn) is.drawn ∙ ap (λ (l : List ℕ). numbers_of (logged_in logs) ++ l) drawn
          ∙ sym (numbers-more logs cell.log);
      out = omega (arith, is.out);
    })

-- the numbers of arrivals, as entries
arrived-numbers : (arrivals : List Arrival) → hosts.numbers_of arrivals ≡ numbers_of (map entry_of arrivals)
arrived-numbers [] = refl
arrived-numbers (arrival ∷ rest) = ap (λ (l : List ℕ). arrival.number ∷ l) (arrived-numbers rest)

gathered-numbers : (logs : List Log) (arrivals : List Arrival)
    → numbers_of (logged_in logs) ++ hosts.numbers_of arrivals ≡ numbers_of (gathered logs arrivals)
gathered-numbers logs arrivals =
    ap (λ (l : List ℕ). numbers_of (logged_in logs) ++ l) (arrived-numbers arrivals)
    ∙ sym (map-append (λ (entry : Entry). entry.number) (logged_in logs) (map entry_of arrivals))

-- counted in two ways
same-times : (x : ℕ) (numbers : List ℕ) → tickets.times x numbers ≡ times x numbers
same-times x [] = refl
same-times x (y ∷ numbers) = ap (λ (n : ℕ). cond (eqb x y) 1 0 + n) (same-times x numbers)

each-below : (count : ℕ) (numbers : List ℕ) → tickets.HoldsEachBelow count numbers → AreEachBelow numbers
each-below count numbers holds = record { count = count; each_once = λ x. sym (same-times x numbers) ∙ holds x }

pub all-joined : (config : Config) (n : ℕ) (root next : RootView) (logs : List Log) (arrivals : List Arrival) (seat : SeatView) (count : ℕ)
    → n ≡ config.clients → length logs ≡ config.clients → IsJoining config root 1 logs → hosts.AreServed n arrivals seat
    → next ≡ after_join root seat → tickets.HoldsEachBelow count next.drawn → AreParts config logs arrivals
all-joined config n root next logs arrivals seat count same many is served after holds =
    let drawn : next.drawn ≡ numbers_of (gathered logs arrivals) =
    ap (λ (r : RootView). r.drawn) after
    ∙ ap (λ (l : List ℕ). l ++ seat.drawn) is.drawn
    ∙ ap (λ (l : List ℕ). numbers_of (logged_in logs) ++ l) (sym served.numbered.numbers)
    ∙ gathered-numbers logs arrivals in
    record {
      as_many = many;
      kept = is.kept;
      one_config = is.one_config;
      few_arrivals = subst (λ (k : ℕ). length arrivals ≤ k * 200000) same served.numbered.bounded;
      numbered = each-below count (numbers_of (gathered logs arrivals))
          (subst (λ (l : List ℕ). tickets.HoldsEachBelow count l) drawn holds);
    }

pub last-out : (root next : RootView) (seat : SeatView) → root.out ≡ 1 → next ≡ after_join root seat → next.out ≡ 0
last-out root next seat out after = ap (λ (r : RootView). r.out) after ∙ omega (arith, out)
