-- Some client can act in each step of the generated script, and none after the last.
use Rattle.std.proofs.Common.{◌≡◌, ◌≢◌, ℕ, ◌+◌, ◌-◌, ◌*◌, ◌%◌, ◌/◌, ◌^◌, ◌<◌, ◌≤◌, zero, suc, Bool, true, false, cond, List, [], ◌∷◌, ◌++◌, length, get_or, set, drop, replicate, length-set, length-append, refl, sym, ap, ◌∙◌, subst, inl, inr, lit<, arith}
use Rattle.std.proofs.lemmas.Bool.{cases_Bool, cases_lt, cond_both, cond-true, cond-false, ltb-true, le-ltb, ltb-false, false≢true}
use Rattle.std.proofs.lemmas.List.{get_or_past, length-replicate}
use Rattle.std.proofs.Math.Seq.{drop-cons}
use Rattle.std.proofs.Math.Nat.{mod-add-mod}
use Rattle.std.specs.Prelude.{nat_eq}
use Rattle.std.specs.List.{AllByRecursion}
use Rattle.std.specs.Fmt.{decimal}
use Rattle.std.proofs.lemmas.Fmt.{length-decimal-le}
use Rattle.faust_types.specs.Bytes.{AreBytes, IsValue}
use Rattle.faust_types.specs.Clients.{IsClient, IsClientCount}
use Rattle.faust_script.specs.declared.event.Event.{Event}
use Rattle.faust_script.specs.declared.event.Event.TheVariants as event
use Rattle.faust_script.specs.declared.progress.Actor.{Actor}
use Rattle.faust_script.specs.declared.progress.Phase.{Phase}
use Rattle.faust_script.specs.declared.progress.Phase.TheVariants as phases
use Rattle.faust_script.specs.declared.progress.Progress.{Progress}
use Rattle.faust_script.specs.Generated.{IsSampleSize, able, able_from, acted, after_draw, after_steps, answer, beginning, begins_read, begins_with, can_act, drawn, goes_on, idle, may_begin_one, step_count, value_of}
use Rattle.faust_script.specs.InRange.{IsEventFor}
use Rattle.faust_text.proofs.NumberLaws.{digits_at, is_number-decimal}
use Rattle.faust_script.specs.Stepping.{CanAct, CanStep, IsCounted}

-- Events in range.
pub all_append : {X : Type 0} (P : X → Type 0) (xs ys : List X) → AllByRecursion P xs → AllByRecursion P ys → AllByRecursion P (xs ++ ys)
all_append P [] ys front back = back
all_append P (x ∷ xs) ys front back = (front.0, all_append P xs ys front.1 back)

bytes_append : (xs ys : List ℕ) → AreBytes xs → AreBytes ys → AreBytes (xs ++ ys)
bytes_append [] ys front back i = back i
bytes_append (x ∷ xs) ys front back zero = front zero
bytes_append (x ∷ xs) ys front back (suc i) = bytes_append xs ys (λ j. front (suc j)) back i

decimal_bytes : (x : ℕ) → x < 2 ^ 64 → AreBytes (decimal x)
decimal_bytes x small i =
    elim (cases_lt i (length (decimal x))) [
      | inl within ↦ omega (arith, digits_at (decimal x) i (is_number-decimal x small) within)
      | inr past ↦ subst (λ (byte : ℕ). byte < 256) (sym (get_or_past (decimal x) i 0 past)) (omega arith)
    ]

dash_bytes : AreBytes (45 ∷ [])
dash_bytes zero = omega arith
dash_bytes (suc i) = omega arith

value_in_range : (client number : ℕ) → client < 2 ^ 64 → number < 2 ^ 64 → IsValue (value_of client number)
value_in_range client number small few =
    let front : length (decimal client) ≤ 20 = length-decimal-le 20 client (lit< tt) (omega arith) small in
    let back : length (decimal number) ≤ 20 = length-decimal-le 20 number (lit< tt) (omega arith) few in
    record {
      sized = omega (arith, front, back, length-append (decimal client) (45 ∷ decimal number));
      bytes_each = bytes_append (decimal client) (45 ∷ decimal number) (decimal_bytes client small)
          (bytes_append (45 ∷ []) (decimal number) dash_bytes (decimal_bytes number few));
    }

client_small : (n client : ℕ) → IsClientCount n → IsClient n client → client < 2 ^ 64
client_small n client count is = omega (arith, is.to_n, count.at_most_32)

drawn_register : (n x : ℕ) → IsClientCount n → IsClient n (x % n + 1)
drawn_register n x count = let some : 0 < n = omega (arith, count.at_least_two) in record { from_one = omega arith; to_n = omega arith }

-- How many steps are owed to an operation in its midst.
abbrev pub owed_in : Phase → ℕ
owed_in phases.Idle = 0
owed_in phases.Begun = 3
owed_in phases.Arrived = 2
owed_in phases.Replied = 1

abbrev pub owed_by : Actor → ℕ
owed_by actor = owed_in actor.phase

abbrev pub owed : List Actor → ℕ
owed [] = 0
owed (actor ∷ actors) = owed_by actor + owed actors

owed_after : (actors : List Actor) (place : ℕ) (actor : Actor) → place < length actors
    → owed (set actors place actor) + owed_by (get_or actors place idle) ≡ owed actors + owed_by actor
owed_after [] place actor within = absurd (omega arith)
owed_after (first ∷ actors) zero actor within = omega arith
owed_after (first ∷ actors) (suc place) actor within = omega (arith, owed_after actors place actor (omega arith))

-- The client in a place of those that can act.
pub record IsAble (may : Bool) (first : ℕ) (actors : List Actor) (client : ℕ) : Type 0 where
  pub not_before : first ≤ client
  pub before_end : client < first + length actors
  pub can : can_act may (get_or actors (client - first) idle).phase ≡ true

later : (may : Bool) (first client : ℕ) (actor : Actor) (actors : List Actor) → IsAble may (first + 1) actors client
    → IsAble may first (actor ∷ actors) client
later may first client actor actors is =
    let place : client - first ≡ suc (client - (first + 1)) = omega (arith, is.not_before) in
    record {
      not_before = omega (arith, is.not_before);
      before_end = omega (arith, is.before_end);
      can = ap (λ (k : ℕ). can_act may (get_or (actor ∷ actors) k idle).phase) place ∙ is.can;
    }

first_able : (may : Bool) (first : ℕ) (actor : Actor) (actors : List Actor) → can_act may actor.phase ≡ true
    → IsAble may first (actor ∷ actors) first
first_able may first actor actors can =
    let place : first - first ≡ 0 = omega arith in
    record {
      not_before = omega arith;
      before_end = omega arith;
      can = ap (λ (k : ℕ). can_act may (get_or (actor ∷ actors) k idle).phase) place ∙ can;
    }

pub able_is : (may : Bool) (first : ℕ) (actors : List Actor) (place : ℕ) → place < length (able_from may first actors)
    → IsAble may first actors (get_or (able_from may first actors) place 0)
able_is may first [] place within = absurd (omega arith)
able_is may first (actor ∷ actors) place within =
    let rest : List ℕ = able_from may (first + 1) actors in
    let P : List ℕ → Type 0 = λ clients. place < length clients → IsAble may first (actor ∷ actors) (get_or clients place 0) in
    let whole : P (cond (can_act may actor.phase) (first ∷ rest) rest) =
    cond_both (can_act may actor.phase) (first ∷ rest) rest P
    (λ can. elim place as (λ (k : ℕ). k < suc (length rest) → IsAble may first (actor ∷ actors) (get_or (first ∷ rest) k 0)) [
      | zero ↦ λ low. first_able may first actor actors can
      | suc k ↦ λ low. later may first (get_or rest k 0) actor actors (able_is may (first + 1) actors k (omega (arith, low)))
    ])
    (λ cannot low. later may first (get_or rest place 0) actor actors (able_is may (first + 1) actors place low)) in
    whole within

not_owed : (may : Bool) (phase : Phase) → can_act may phase ≡ false → owed_in phase ≡ 0
not_owed may phases.Idle cannot = refl
not_owed may phases.Begun cannot = absurd (false≢true (sym cannot))
not_owed may phases.Arrived cannot = absurd (false≢true (sym cannot))
not_owed may phases.Replied cannot = absurd (false≢true (sym cannot))

-- The clients that can act from one on: this one and the later ones, or the later ones alone.
able_next : (may : Bool) (actors : List Actor) (i : ℕ) (d : Actor) → i < length actors
    → able_from may (i + 1) (drop i actors) ≡ able_from may (i + 1) (get_or actors i d ∷ drop (i + 1) actors)
able_next may actors i d within =
    let step : suc i ≡ i + 1 = omega arith in
    ap (λ (l : List Actor). able_from may (i + 1) l) (drop-cons actors i d within ∙ ap (λ (k : ℕ). get_or actors i d ∷ drop k actors) step)

pub able_taken : (may : Bool) (actors : List Actor) (i : ℕ) (d : Actor) → i < length actors → can_act may (get_or actors i d).phase ≡ true
    → able_from may (i + 1) (drop i actors) ≡ (i + 1) ∷ able_from may (i + 1 + 1) (drop (i + 1) actors)
able_taken may actors i d within can =
    able_next may actors i d within
    ∙ cond-true (can_act may (get_or actors i d).phase) ((i + 1) ∷ able_from may (i + 1 + 1) (drop (i + 1) actors))
    (able_from may (i + 1 + 1) (drop (i + 1) actors)) can

pub able_passed : (may : Bool) (actors : List Actor) (i : ℕ) (d : Actor) → i < length actors → can_act may (get_or actors i d).phase ≡ false
    → able_from may (i + 1) (drop i actors) ≡ able_from may (i + 1 + 1) (drop (i + 1) actors)
able_passed may actors i d within cannot =
    able_next may actors i d within
    ∙ cond-false (can_act may (get_or actors i d).phase) ((i + 1) ∷ able_from may (i + 1 + 1) (drop (i + 1) actors))
    (able_from may (i + 1 + 1) (drop (i + 1) actors)) cannot

-- A step more.
pub one_more_step : (n ops : ℕ) (progress : Progress) (steps : ℕ)
    → acted n ops (after_steps n ops progress steps) ≡ after_steps n ops progress (steps + 1)
unfolding after_steps
one_more_step n ops progress steps = let step : suc steps ≡ steps + 1 = omega arith in ap (λ (k : ℕ). after_steps n ops progress k) step

pub no_step : (n ops : ℕ) (progress : Progress) → after_steps n ops progress 0 ≡ progress
unfolding after_steps
no_step n ops progress = refl

-- A draw as the machine computes it.
pub drawn_wraps : (state : ℕ) → (state * 6364136223846793005 % 2 ^ 64 + 1442695040888963407) % 2 ^ 64 ≡ drawn state
unfolding drawn
drawn_wraps state = mod-add-mod (state * 6364136223846793005) (2 ^ 64) 1442695040888963407

pub answer_shifts : (state : ℕ) → state / 2 ^ 33 ≡ answer state
unfolding answer
answer_shifts state = refl

-- Where a step is owed some client can act, and where an operation may begin each can.
owed_more : (actor : Actor) (actors : List Actor) → owed (actor ∷ actors) ≡ owed_in actor.phase + owed actors
owed_more actor actors = refl

some_behind : (actor : Actor) (actors : List Actor) → owed_in actor.phase ≡ 0 → 0 < owed (actor ∷ actors) → 0 < owed actors
some_behind actor actors nothing some = let more : 0 < owed_in actor.phase + owed actors =
    subst (λ (k : ℕ). 0 < k) (owed_more actor actors) some in omega arith

none_here : (actor : Actor) (actors : List Actor) → owed (actor ∷ actors) ≡ 0 → owed_in actor.phase ≡ 0
none_here actor actors none = let both : owed_in actor.phase + owed actors ≡ 0 = sym (owed_more actor actors) ∙ none in omega arith

none_behind : (actor : Actor) (actors : List Actor) → owed (actor ∷ actors) ≡ 0 → owed actors ≡ 0
none_behind actor actors none = let both : owed_in actor.phase + owed actors ≡ 0 = sym (owed_more actor actors) ∙ none in omega arith

some_from_owed : (may : Bool) (first : ℕ) (actors : List Actor) → 0 < owed actors → 0 < length (able_from may first actors)
some_from_owed may first [] some = absurd (omega arith)
some_from_owed may first (actor ∷ actors) some =
    cond_both (can_act may actor.phase) (first ∷ able_from may (first + 1) actors) (able_from may (first + 1) actors)
    (λ (clients : List ℕ). 0 < length clients)
    (λ can. omega arith)
    (λ cannot. some_from_owed may (first + 1) actors (some_behind actor actors (not_owed may actor.phase cannot) some))

can_begin : (phase : Phase) → can_act true phase ≡ true
can_begin phases.Idle = refl
can_begin phases.Begun = refl
can_begin phases.Arrived = refl
can_begin phases.Replied = refl

some_where_open : (first : ℕ) (actors : List Actor) → 0 < length actors → 0 < length (able_from true first actors)
some_where_open first [] some = absurd (omega arith)
some_where_open first (actor ∷ actors) some =
    subst (λ (clients : List ℕ). 0 < length clients)
    (sym (cond-true (can_act true actor.phase) (first ∷ able_from true (first + 1) actors) (able_from true (first + 1) actors)
    (can_begin actor.phase)))
    (omega arith)

owed_nothing : (phase : Phase) → owed_in phase ≡ 0 → can_act false phase ≡ false
owed_nothing phases.Idle none = refl
owed_nothing phases.Begun none = absurd (omega arith)
owed_nothing phases.Arrived none = absurd (omega arith)
owed_nothing phases.Replied none = absurd (omega arith)

none_from_owed : (first : ℕ) (actors : List Actor) → owed actors ≡ 0 → able_from false first actors ≡ []
none_from_owed first [] none = refl
none_from_owed first (actor ∷ actors) none =
    cond-false (can_act false actor.phase) (first ∷ able_from false (first + 1) actors) (able_from false (first + 1) actors)
    (owed_nothing actor.phase (none_here actor actors none))
    ∙ none_from_owed (first + 1) actors (none_behind actor actors none)

-- What holds after each number of steps.
pub record IsUnderway (n ops steps : ℕ) (progress : Progress) : Type 0 where
  pub each_counted : length progress.actors ≡ n
  pub few_begun : progress.begun ≤ ops - 1
  pub numbers_low : (i : ℕ) → (get_or progress.actors i idle).number ≤ progress.begun
  pub left : steps + (4 * ((ops - 1) - progress.begun) + owed progress.actors) ≡ step_count ops
  pub events_counted : length progress.events ≡ steps
  pub events_in_range : AllByRecursion (IsEventFor n) progress.events

numbers_after : (actors : List Actor) (place number low high : ℕ) (phase : Phase) → ((i : ℕ) → (get_or actors i idle).number ≤ low)
    → low ≤ high → number ≤ high → (i : ℕ) → (get_or (set actors place (record { phase = phase; number = number })) i idle).number ≤ high
numbers_after [] place number low high phase before above small i = omega (arith, before i)
numbers_after (actor ∷ actors) zero number low high phase before above small zero = small
numbers_after (actor ∷ actors) zero number low high phase before above small (suc i) = omega (arith, before (suc i))
numbers_after (actor ∷ actors) (suc place) number low high phase before above small zero = omega (arith, before zero)
numbers_after (actor ∷ actors) (suc place) number low high phase before above small (suc i) =
    numbers_after actors place number low high phase (λ j. before (suc j)) above small i

-- One event by a client, which is owed one step less.
stepped : (n ops steps state begun client number : ℕ) (phase : Phase) (made : Event) (progress : Progress)
    → IsUnderway n ops steps progress → IsClient n client → IsEventFor n made → progress.begun ≤ begun → begun ≤ ops - 1 → number ≤ begun
    → owed_in phase + 4 * ((ops - 1) - begun) + 1 ≡ owed_by (get_or progress.actors (client - 1) idle) + 4 * ((ops - 1) - progress.begun)
    → IsUnderway n ops (suc steps) (record {
      state = state;
      begun = begun;
      actors = set progress.actors (client - 1) (record { phase = phase; number = number });
      events = progress.events ++ made ∷ [];
    })
stepped n ops steps state begun client number phase made progress underway is in_range above few small less =
    let place : client - 1 < length progress.actors = omega (arith, underway.each_counted, is.from_one, is.to_n) in
    let same : owed (set progress.actors (client - 1) (record { phase = phase; number = number })) + owed_by
    (get_or progress.actors (client - 1) idle)
    ≡ owed progress.actors + owed_in phase = owed_after progress.actors (client - 1) (record { phase = phase; number = number }) place in
    record {
      each_counted = length-set progress.actors (client - 1) (record { phase = phase; number = number }) ∙ underway.each_counted;
      few_begun = few;
      numbers_low = numbers_after progress.actors (client - 1) number progress.begun begun phase underway.numbers_low above small;
      left = omega (arith, same, less, underway.left);
      events_counted = omega (arith, length-append progress.events (made ∷ []), underway.events_counted);
      events_in_range = all_append (IsEventFor n) progress.events (made ∷ []) underway.events_in_range (in_range, tt);
    }

-- A draw changes the state alone.
underway_drawn : (n ops steps : ℕ) (progress : Progress) → IsUnderway n ops steps progress → IsUnderway n ops steps (after_draw progress)
underway_drawn n ops steps progress underway = record {
  each_counted = underway.each_counted;
  few_begun = underway.few_begun;
  numbers_low = underway.numbers_low;
  left = underway.left;
  events_counted = underway.events_counted;
  events_in_range = underway.events_in_range;
}

-- The next event of a client in a phase.
goes_on_underway : (n ops steps client number : ℕ) (phase : Phase) (progress : Progress) → IsSampleSize n ops
    → IsUnderway n ops steps progress
    → IsClient n client → number ≤ progress.begun → owed_by (get_or progress.actors (client - 1) idle) ≡ owed_in phase
    → can_act (may_begin_one ops progress) phase ≡ true → IsUnderway n ops (suc steps) (goes_on n client number phase progress)
goes_on_underway n ops steps client number phases.Idle progress size underway is low owes can =
    let more : progress.begun < ops - 1 = ltb-true progress.begun (ops - 1) can in
    let few : number + 1 < 2 ^ 64 = omega (arith, size.to_3000) in
    let register : IsClient n (answer (drawn (drawn progress.state)) % n + 1) =
    drawn_register n (answer (drawn (drawn progress.state))) size.clients_count in
    let less : owed_in phases.Begun + 4 * ((ops - 1) - (progress.begun + 1)) + 1
    ≡ owed_by (get_or progress.actors (client - 1) idle) + 4 * ((ops - 1) - progress.begun) = omega (arith, owes) in
    cond_both (nat_eq (answer (drawn progress.state) % 2) 0)
    (begins_with client (number + 1) (event.Write client (value_of client (number + 1))) (after_draw progress))
    (begins_read n client (number + 1) (after_draw (after_draw progress)))
    (IsUnderway n ops (suc steps))
    (λ even. stepped n ops steps (drawn progress.state) (progress.begun + 1) client (number + 1) phases.Begun
    (event.Write client (value_of client (number + 1))) progress
    underway is (is, value_in_range client (number + 1) (client_small n client size.clients_count is) few) (omega arith) (omega arith)
    (omega arith) less)
    (λ odd. stepped n ops steps (drawn (drawn progress.state)) (progress.begun + 1) client (number + 1) phases.Begun
    (event.Read client (answer (drawn (drawn progress.state)) % n + 1)) progress underway is (
      is,
      register,
    ) (omega arith) (omega arith) (omega arith) less)
goes_on_underway n ops steps client number phases.Begun progress size underway is low owes can =
    stepped n ops steps progress.state progress.begun client number phases.Arrived (event.Arrive client) progress underway is is
    (omega arith) underway.few_begun low (omega (arith, owes))
goes_on_underway n ops steps client number phases.Arrived progress size underway is low owes can =
    stepped n ops steps progress.state progress.begun client number phases.Replied (event.Reply client) progress underway is is
    (omega arith) underway.few_begun low (omega (arith, owes))
goes_on_underway n ops steps client number phases.Replied progress size underway is low owes can =
    stepped n ops steps progress.state progress.begun client number phases.Idle (event.Arrive client) progress underway is is
    (omega arith) underway.few_begun low (omega (arith, owes))

-- As long as steps are left some client can act.
pub some_able : (n ops steps : ℕ) (progress : Progress) → IsSampleSize n ops → IsUnderway n ops steps progress → steps < step_count ops
    → 0 < length (able ops progress)
some_able n ops steps progress size underway more =
    elim (cases_Bool (may_begin_one ops progress)) [
      | inl may ↦ subst (λ (b : Bool). 0 < length (able_from b 1 progress.actors)) (sym may)
          (some_where_open 1 progress.actors (omega (arith, underway.each_counted, size.clients_count.at_least_two)))
      | inr may_not ↦
          let all_begun : ops - 1 ≤ progress.begun = ltb-false progress.begun (ops - 1) may_not in
          some_from_owed (may_begin_one ops progress) 1 progress.actors (omega (arith, underway.left))
    ]

pub able_client : (n ops steps place : ℕ) (progress : Progress) → IsUnderway n ops steps progress → place < length (able ops progress)
    → IsClient n (get_or (able ops progress) place 0)
able_client n ops steps place progress underway within =
    let is = able_is (may_begin_one ops progress) 1 progress.actors place within in
    record { from_one = is.not_before; to_n = omega (arith, is.before_end, underway.each_counted) }

pub underway_acted : (n ops steps : ℕ) (progress : Progress) → IsSampleSize n ops → IsUnderway n ops steps progress → steps < step_count ops
    → IsUnderway n ops (suc steps) (acted n ops progress)
underway_acted n ops steps progress size underway more =
    let some : 0 < length (able ops progress) = some_able n ops steps progress size underway more in
    let place : ℕ = answer (drawn progress.state) % length (able ops progress) in
    let within : place < length (able ops progress) = omega (arith, some) in
    let client : ℕ = get_or (able ops progress) place 0 in
    let is = able_is (may_begin_one ops progress) 1 progress.actors place within in
    goes_on_underway n ops steps client (get_or progress.actors (client - 1) idle).number (get_or progress.actors (client - 1) idle).phase
    (after_draw progress) size
    (underway_drawn n ops steps progress underway) (able_client n ops steps place progress underway within)
    (underway.numbers_low (client - 1)) refl is.can

idle_owes : (n : ℕ) → owed (replicate n idle) ≡ 0
idle_owes zero = refl
idle_owes (suc n) = omega (arith, idle_owes n)

idle_number : (n i : ℕ) → (get_or (replicate n idle) i idle).number ≤ 0
idle_number zero i = omega arith
idle_number (suc n) zero = omega arith
idle_number (suc n) (suc i) = idle_number n i

pub underway_first : (seed n ops : ℕ) → IsUnderway n ops 0 (beginning seed n)
underway_first seed n ops = record {
  each_counted = length-replicate n idle;
  few_begun = omega arith;
  numbers_low = idle_number n;
  left = omega (arith, idle_owes n);
  events_counted = refl;
  events_in_range = tt;
}

pub underway : (seed n ops steps : ℕ) → IsSampleSize n ops → steps ≤ step_count ops
    → IsUnderway n ops steps (after_steps n ops (beginning seed n) steps)
unfolding after_steps
underway seed n ops zero size within = underway_first seed n ops
underway seed n ops (suc steps) size within =
    underway_acted n ops steps (after_steps n ops (beginning seed n) steps) size (underway seed n ops steps size (omega arith))
    (omega arith)

counted : (n ops steps : ℕ) (progress : Progress) → IsSampleSize n ops → IsUnderway n ops steps progress → IsCounted n progress
counted n ops steps progress size underway = record {
  clients_count = size.clients_count;
  each_counted = underway.each_counted;
  few_begun = omega (arith, underway.few_begun, size.from_one, size.to_3000);
  numbers_low = underway.numbers_low;
}

pub can_step : (seed n ops steps : ℕ) → IsSampleSize n ops → steps < step_count ops
    → CanStep n ops (after_steps n ops (beginning seed n) steps)
can_step seed n ops steps size more =
    let progress : Progress = after_steps n ops (beginning seed n) steps in
    let is : IsUnderway n ops steps progress = underway seed n ops steps size (omega arith) in
    record {
      counted = counted n ops steps progress size is;
      from_one = size.from_one;
      some_able = some_able n ops steps progress size is more;
    }

-- A client that can act may act after the draw.
pub step_can_act : (n ops client : ℕ) (actors : List Actor) (before after : Progress) → CanStep n ops before → after ≡ after_draw before
    → actors ≡ after.actors → IsClient (length actors) client → CanAct n client after
step_can_act n ops client actors before after can drawn_is same is =
    let counted : IsCounted n before = can.counted in
    let kept : IsCounted n (after_draw before) = record {
      clients_count = counted.clients_count;
      each_counted = counted.each_counted;
      few_begun = counted.few_begun;
      numbers_low = counted.numbers_low;
    } in
    let actors_of : Progress → List Actor = λ progress. progress.actors in
    let sized : length actors ≡ n = ap (λ (l : List Actor). length l) (same ∙ ap actors_of drawn_is) ∙ counted.each_counted in
    record {
      is_client = record { from_one = is.from_one; to_n = omega (arith, is.to_n, sized) };
      counted = subst (λ (progress : Progress). IsCounted n progress) (sym drawn_is) kept;
    }

-- After the last step none can.
pub none_able : (seed n ops : ℕ) → IsSampleSize n ops → able ops (after_steps n ops (beginning seed n) (step_count ops)) ≡ []
none_able seed n ops size =
    let progress : Progress = after_steps n ops (beginning seed n) (step_count ops) in
    let is : IsUnderway n ops (step_count ops) progress = underway seed n ops (step_count ops) size (omega arith) in
    let all_begun : ops - 1 ≤ progress.begun = omega (arith, is.left) in
    let nothing_owed : owed progress.actors ≡ 0 = omega (arith, is.left) in
    subst (λ (b : Bool). able_from b 1 progress.actors ≡ []) (sym (le-ltb progress.begun (ops - 1) all_begun))
    (none_from_owed 1 progress.actors nothing_owed)

-- Of each step some client can act.
pub each_able : (seed n ops steps : ℕ) → IsSampleSize n ops → steps < step_count ops
    → able ops (after_steps n ops (beginning seed n) steps) ≢ []
each_able seed n ops steps size more none =
    let some = (can_step seed n ops steps size more).some_able in
    let empty : length (able ops (after_steps n ops (beginning seed n) steps)) ≡ 0 = ap length none in
    absurd (omega (arith, some, empty))
