-- The generated script is in range, and how many events it has.
use Rattle.std.proofs.Common.{◌≡◌, ◌≢◌, ℕ, ◌+◌, ◌-◌, ◌*◌, ◌^◌, ◌<◌, ◌≤◌, zero, suc, Bool, true, false, cond, List, [], ◌∷◌, ◌++◌, length, length-append, append_assoc, append-nil, refl, sym, ap, ◌∙◌, inl, inr, lit≤, lit<, arith}
use Rattle.std.proofs.lemmas.Bool.{cases_eq, cond_both, cond-true, cond-false, eq-eqb, ne_eqb}
use Rattle.std.proofs.Math.Nat.{mul-le-mul, suc-mul, zero-mul}
use Rattle.std.specs.Prelude.{nat_eq}
use Rattle.std.specs.List.{AllByRecursion}
use Rattle.faust_types.specs.Bytes.{IsKey}
use Rattle.faust_types.specs.Clients.{IsClient, IsClientCount}
use Rattle.faust_types.specs.declared.config.Config.{Config}
use Rattle.faust_script.specs.declared.script.Script.{Script}
use Rattle.faust_script.specs.declared.event.Event.{Event}
use Rattle.faust_script.specs.declared.event.Event.TheVariants as event
use Rattle.faust_script.specs.Generated.{IsSampleSize, after_steps, beginning, drawn_events, each_up_to, from_each, generated, last_operation, round_of, sample_config, sample_key, step_count, ticks, to_another, to_each}
use Rattle.faust_script.specs.InRange.{IsEventFor, IsPlace, IsScript}
use Rattle.faust_script.proofs.Steps.{IsUnderway, all_append, underway}

-- The events for one more number.
pub each_more : (k : ℕ) (events : ℕ → List Event) → each_up_to (k + 1) events ≡ each_up_to k events ++ events (k + 1)
unfolding each_up_to
each_more k events =
    let step : suc k ≡ k + 1 = omega arith in
    ap (λ (m : ℕ). each_up_to m events) (sym step) ∙ ap (λ (m : ℕ). each_up_to k events ++ events m) step

-- One more number's events behind a text so far.
pub each_more_behind : (before now : List Event) (k : ℕ) (events : ℕ → List Event) → now ≡ before ++ each_up_to k events
    → now ++ events (k + 1) ≡ before ++ each_up_to (k + 1) events
each_more_behind before now k events so_far =
    ap (λ (l : List Event). l ++ events (k + 1)) so_far
    ∙ (append_assoc before (each_up_to k events) (events (k + 1)) ∙ ap (λ (l : List Event). before ++ l) (sym (each_more k events)))

pub each_first : (before : List Event) (events : ℕ → List Event) → before ≡ before ++ each_up_to 0 events
unfolding each_up_to
each_first before events = sym (append-nil before)

-- What holds of the events for each number holds of all.
each_in_range : (n m : ℕ) (events : ℕ → List Event) → ((k : ℕ) → IsClient n k → AllByRecursion (IsEventFor n) (events k)) → m ≤ n
    → AllByRecursion (IsEventFor n) (each_up_to m events)
unfolding each_up_to
each_in_range n zero events each within = tt
each_in_range n (suc m) events each within =
    all_append (IsEventFor n) (each_up_to m events) (events (suc m)) (each_in_range n m events each (omega arith))
    (each (suc m) (record { from_one = omega arith; to_n = within }))

-- As many events as each number has, times the numbers.
each_counted : (n m count : ℕ) (events : ℕ → List Event) → ((k : ℕ) → IsClient n k → length (events k) ≡ count) → m ≤ n
    → length (each_up_to m events) ≡ m * count
unfolding each_up_to
each_counted n zero count events each within = sym (zero-mul count)
each_counted n (suc m) count events each within =
    let before = each_counted n m count events each (omega arith) in
    let here = each (suc m) (record { from_one = omega arith; to_n = within }) in
    omega (arith, length-append (each_up_to m events) (events (suc m)), before, here, suc-mul m count)

-- One event for each number but one.
pub record IsOneEach (i m : ℕ) (events : List Event) : Type 0 where
  pub behind : i ≤ m → length events + 1 ≡ m
  pub before : m < i → length events ≡ m

all_but_one : (i m : ℕ) (test : ℕ → Bool) (made : ℕ → Event) → 1 ≤ i → test i ≡ true → ((j : ℕ) → j ≢ i → test j ≡ false)
    → IsOneEach i m (each_up_to m (λ j. cond (test j) [] (made j ∷ [])))
unfolding each_up_to
all_but_one i zero test made one own others = record { behind = λ h. absurd (omega arith); before = λ h. refl }
all_but_one i (suc m) test made one own others =
    let front : List Event = each_up_to m (λ j. cond (test j) [] (made j ∷ [])) in
    let last : List Event = cond (test (suc m)) [] (made (suc m) ∷ []) in
    let is : IsOneEach i m front = all_but_one i m test made one own others in
    elim (cases_eq (suc m) i) [
      | inl same ↦
          let none : last ≡ [] = cond-true (test (suc m)) [] (made (suc m) ∷ []) (ap test same ∙ own) in
          let whole : length (front ++ last) ≡ length front + 0 = length-append front last
          ∙ ap (λ (l : List Event). length front + length l) none in
          record { behind = λ h. omega (arith, whole, is.before (omega arith)); before = λ h. absurd (omega arith) }
      | inr other ↦
          let some : last ≡ made (suc m) ∷ [] = cond-false (test (suc m)) [] (made (suc m) ∷ []) (others (suc m) other) in
          let whole : length (front ++ last) ≡ length front + 1 = length-append front last
          ∙ ap (λ (l : List Event). length front + length l) some in
          record {
            behind = λ h. omega (arith, whole, is.behind (omega (arith, other)));
            before = λ h. omega (arith, whole, is.before (omega arith));
          }
    ]

-- The events of a round.
ticks_in_range : (n moment : ℕ) → moment < 2 ^ 40 → AllByRecursion (IsEventFor n) (ticks n moment)
ticks_in_range n moment small = each_in_range n n (λ i. event.Tick i moment ∷ []) (λ k is. ((is, small), tt)) (omega arith)

from_each_in_range : (n k : ℕ) → IsPlace k → AllByRecursion (IsEventFor n) (from_each n k)
from_each_in_range n k place =
    each_in_range n n (λ i. each_up_to n (λ j. to_another k i j))
    (λ i sender. each_in_range n n (λ j. to_another k i j)
    (λ j receiver. cond_both (nat_eq i j) [] (event.Peer i j k ∷ []) (AllByRecursion (IsEventFor n)) (λ same. tt)
    (λ other. ((sender, receiver, place), tt))) (omega arith))
    (omega arith)

to_each_in_range : (n k : ℕ) → IsPlace k → AllByRecursion (IsEventFor n) (to_each n k)
to_each_in_range n k place =
    each_in_range n n (λ i. each_up_to n (λ j. to_another k j i))
    (λ i receiver. each_in_range n n (λ j. to_another k j i)
    (λ j sender. cond_both (nat_eq j i) [] (event.Peer j i k ∷ []) (AllByRecursion (IsEventFor n)) (λ same. tt)
    (λ other. ((sender, receiver, place), tt))) (omega arith))
    (omega arith)

round_in_range : (n r : ℕ) → 1 ≤ r → r ≤ 2 → AllByRecursion (IsEventFor n) (round_of n r)
round_in_range n r from_one to_two =
    let back = all_append (IsEventFor n) (from_each n (2 * r - 1)) (to_each n (2 * r))
    (from_each_in_range n (2 * r - 1) (record { from_one = omega arith; to_20000 = omega arith }))
    (to_each_in_range n (2 * r) (record { from_one = omega arith; to_20000 = omega arith })) in
    all_append (IsEventFor n) (ticks n (1000 * r)) (from_each n (2 * r - 1) ++ to_each n (2 * r))
    (ticks_in_range n (1000 * r) (omega arith)) back

ticks_counted : (n moment : ℕ) → length (ticks n moment) ≡ n * 1
ticks_counted n moment = each_counted n n 1 (λ i. event.Tick i moment ∷ []) (λ k is. refl) (omega arith)

from_each_counted : (n k : ℕ) → length (from_each n k) ≡ n * (n - 1)
from_each_counted n k =
    each_counted n n (n - 1) (λ i. each_up_to n (λ j. to_another k i j))
    (λ i is. let one = all_but_one i n (λ j. nat_eq i j) (λ j. event.Peer i j k) is.from_one (eq-eqb i i refl)
    (λ j other. ne_eqb i j (λ e. other (sym e))) in omega (arith, one.behind is.to_n)) (omega arith)

to_each_counted : (n k : ℕ) → length (to_each n k) ≡ n * (n - 1)
to_each_counted n k =
    each_counted n n (n - 1) (λ i. each_up_to n (λ j. to_another k j i))
    (λ i is. let one = all_but_one i n (λ j. nat_eq j i) (λ j. event.Peer j i k) is.from_one (eq-eqb i i refl)
    (λ j other. ne_eqb j i other) in omega (arith, one.behind is.to_n)) (omega arith)

round_counted : (n r : ℕ) → length (round_of n r) ≡ n + 2 * (n * (n - 1))
round_counted n r =
    let whole = length-append (ticks n (1000 * r)) (from_each n (2 * r - 1) ++ to_each n (2 * r)) in
    let back = length-append (from_each n (2 * r - 1)) (to_each n (2 * r)) in
    omega (arith, whole, back, ticks_counted n (1000 * r), from_each_counted n (2 * r - 1), to_each_counted n (2 * r))

-- The whole script.
last_in_range : (n : ℕ) → IsClientCount n → AllByRecursion (IsEventFor n) (last_operation n)
last_in_range n count =
    let last : IsClient n n = record { from_one = omega (arith, count.at_least_two); to_n = omega arith } in
    let first : IsClient n 1 = record { from_one = omega arith; to_n = omega (arith, count.at_least_two) } in
    ((last, first), (last, (last, (last, tt))))

pub generated_counted : (seed n ops : ℕ) → IsSampleSize n ops → length (generated seed n ops).events ≡ 4 * ops + 2 * (n + 2 * (n * (n - 1)))
unfolding generated drawn_events
generated_counted seed n ops size =
    let drawn : List Event = (after_steps n ops (beginning seed n) (step_count ops)).events in
    let is : IsUnderway n ops (step_count ops) (after_steps n ops (beginning seed n) (step_count ops)) =
    underway seed n ops (step_count ops) size (omega arith) in
    let whole = length-append drawn (last_operation n ++ (round_of n 1 ++ round_of n 2)) in
    let back = length-append (last_operation n) (round_of n 1 ++ round_of n 2) in
    let rounds = length-append (round_of n 1) (round_of n 2) in
    omega (arith, whole, back, rounds, round_counted n 1, round_counted n 2, is.events_counted, size.from_one)

key_is : IsKey sample_key
key_is = record { not_empty = lit≤ tt; sized = lit≤ tt }

pub generated_in_range : (seed n ops : ℕ) → IsSampleSize n ops → IsScript (generated seed n ops)
unfolding generated drawn_events
generated_in_range seed n ops size =
    let drawn : List Event = (after_steps n ops (beginning seed n) (step_count ops)).events in
    let is : IsUnderway n ops (step_count ops) (after_steps n ops (beginning seed n) (step_count ops)) =
    underway seed n ops (step_count ops) size (omega arith) in
    let few : n * (n - 1) ≤ 32 * 31 = mul-le-mul {n₁ = n} {m₁ = n - 1} {n₂ = 32} {m₂ = 31} (omega (arith, size.clients_count.at_most_32))
    (omega (arith, size.clients_count.at_most_32)) in
    record {
      format_known = inl (refl, refl);
      config_in_range = record {
        clients_count = size.clients_count;
        key_sized = key_is;
        delta_span = record { from_one = lit≤ tt; below = lit< tt };
        dummy_span = record { from_one = lit≤ tt; below = lit< tt };
        wire_known = record { from_one = lit≤ tt; to_two = lit≤ tt };
      };
      events_in_range = all_append (IsEventFor n) drawn (last_operation n ++ (round_of n 1 ++ round_of n 2)) is.events_in_range
          (all_append (IsEventFor n) (last_operation n) (round_of n 1 ++ round_of n 2) (last_in_range n size.clients_count)
          (all_append (IsEventFor n) (round_of n 1) (round_of n 2) (round_in_range n 1 (lit≤ tt) (lit≤ tt))
          (round_in_range n 2 (lit≤ tt) (lit≤ tt))));
      few_events = omega (arith, generated_counted seed n ops size, few, size.to_3000, size.clients_count.at_most_32);
    }

-- A script of these parts, one behind the other.
abbrev pub script_of : Config → List Event → Script
script_of config events = record { format = 1; config = config; events = events }

pub generated_is : (seed n ops : ℕ) (config : Config) (drawn ended one two : List Event) → drawn ≡ drawn_events seed n ops
    → ended ≡ drawn ++ last_operation n → one ≡ ended ++ round_of n 1 → two ≡ one ++ round_of n 2 → config ≡ sample_config n
    → script_of config two ≡ generated seed n ops
unfolding generated
generated_is seed n ops config drawn ended one two first second third fourth shared =
    let front : List Event = drawn_events seed n ops in
    let ended_is : ended ≡ front ++ last_operation n = second ∙ ap (λ (l : List Event). l ++ last_operation n) first in
    let one_is : one ≡ (front ++ last_operation n) ++ round_of n 1 = third ∙ ap (λ (l : List Event). l ++ round_of n 1) ended_is in
    let two_is : two ≡ ((front ++ last_operation n) ++ round_of n 1) ++ round_of n 2 = fourth
    ∙ ap (λ (l : List Event). l ++ round_of n 2) one_is in
    let whole : two ≡ front ++ (last_operation n ++ (round_of n 1 ++ round_of n 2)) =
    two_is ∙ (append_assoc (front ++ last_operation n) (round_of n 1) (round_of n 2)
    ∙ append_assoc front (last_operation n) (round_of n 1 ++ round_of n 2)) in
    ap (λ (c : Config). script_of c two) shared ∙ ap (λ (l : List Event). script_of (sample_config n) l) whole
