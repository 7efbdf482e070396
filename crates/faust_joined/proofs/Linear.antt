-- Where no reply departs, the operations in the order in which their SUBMITs arrived are a linearization.
use Rattle.std.proofs.Common.{◌≡◌, ◌+◌, ◌-◌, ◌≤◌, ◌<◌, ◌==◌, ℕ, zero, suc, Bool, true, false, cond, List, [], ◌∷◌, ◌++◌, length, option_to_list, Option, Some, None, refl, sym, ap, ◌∙◌, subst, inl, inr, arith, append_assoc, append-nil}
use Rattle.std.specs.Prelude.{◌⊎◌, ◌||◌, is_some, nat_le, option_map, slice_get}
use Rattle.std.proofs.lemmas.Bool.{and_parts, cases_Bool, cases_eq, cond-false, cond-true, eq-eqb, eqb-true, leb-false, leb-true, ne_eqb}
use Rattle.std.proofs.lemmas.Option.{same_Some}
use Rattle.faust_types.specs.Clients.{IsClient}
use Rattle.faust_types.specs.declared.config.Config.{Config}
use Rattle.faust_types.specs.declared.operation.Kind.{Kind}
use Rattle.faust_types.specs.declared.operation.Kind.TheVariants.{Write, Read}
use Rattle.faust_types.specs.declared.operation.OpName.{OpName}
use Rattle.faust_types.specs.declared.operation.Operation.{Operation}
use Rattle.faust_types.specs.declared.operation.Answer.{Answer}
use Rattle.faust_types.specs.declared.outcome.Outcome.{Outcome}
use Rattle.faust_lists.specs.Lists.{count, upto, IsTail}
use Rattle.faust_lists.specs.Names.{AreDistinct, Has, IsKept, name_of, sift}
use Rattle.faust_lists.proofs.Counts.{count-other, count-own}
use Rattle.faust_lists.proofs.Fronts.{count-upto, upto-own}
use Rattle.faust_lists.proofs.Sifted.{has-kept, has-tail, name-same, sift-tail}
use Rattle.faust_lists.proofs.Tails.{AreClients-tail, count-tail, tail-cons, tail-linear, tail-refl, tail-trans}
use Rattle.faust_forks.specs.Answers as forks
use Rattle.faust_forks.specs.Books.{Begun}
use Rattle.faust_names.specs.ForkViews.{listed}
use Rattle.faust_names.specs.Histories.{History, Precedes, named}
use Rattle.faust_names.specs.Histories as seen
use Rattle.faust_names.specs.Views.{IsAnsweredAfter, IsBefore, IsPrefix, held_after, held_by, last_written}
use Rattle.faust_names.proofs.Listed.{IsListedAt, IsPlaced, kept-listed, listed-dropped, listed-kept, listed_at, older-before, placed, sift-listed}
use Rattle.faust_names.proofs.Viewed.{listed-distinct}
use Rattle.faust_honest.specs.World.{World, written, written_by}
use Rattle.faust_agent.specs.declared.deed.Order.{Order}
use Rattle.faust_record.specs.Operations.{Finished, Started, completion_named, dummy_read_of, finished_among, finished_in, first_finished, is_named, operation_named, order_in, started_among, started_in}
use Rattle.faust_record.specs.Runs.{AreNumbered, AreOfClients, IsRun, entries_of}
use Rattle.faust_record.specs.declared.entry.Input.{Input}
use Rattle.faust_record.specs.declared.entry.Input.TheVariants as inputs
use Rattle.faust_record.specs.declared.entry.Entry.{Entry}
use Rattle.faust_record.proofs.Own.{entries_of-append}
use Rattle.faust_record.proofs.Runs.{run-front}
use Rattle.faust_audit.specs.Departure.{Line, departs, first_departure, first_departure_from, first_line, line_after, line_from, line_of, times_of}
use Rattle.faust_audit.specs.Findings.{is_write, order_of}
use Rattle.faust_audit.proofs.CompletedNames.{finished-append}
use Rattle.faust_runs.specs.Histories.{began_in, begun_as, finished_as, history_read}
use Rattle.faust_joined.specs.Joined.{AreTold, IsJoined, IsToldAt, is_named_in, kind_of_order, order_at, order_of_started, register_of_order, value_of_order, world_of}
use Rattle.faust_joined.specs.Promised.{ArePeersMade, AreWellGiven, IsLinearizableBy}
use Rattle.faust_joined.proofs.Queues.{lead-le}
use Rattle.faust_joined.proofs.Running.{IsKnown, joined-from, known-front, made-front, none-here}

-- ---- what is found among completions

found-place : (name : OpName) (xs : List Finished) (x : Finished) → first_finished name xs ≡ Some x
    → (s : ℕ) × (slice_get xs s ≡ Some x) × (is_named name x.answer.op.name ≡ true)
found-place name [] x found = absurd cc
found-place name (y ∷ xs) x found = elim (cases_Bool (is_named name y.answer.op.name)) [
  | inl holds ↦
      let same : y ≡ x = same_Some y x (sym (cond-true (is_named name y.answer.op.name) (Some y) (first_finished name xs) holds) ∙ found) in
      (0, ap (λ (z : Finished). Some z) same, subst (λ (z : Finished). is_named name z.answer.op.name ≡ true) same holds)
  | inr fails ↦
      let rest = found-place name xs x
      (sym (cond-false (is_named name y.answer.op.name) (Some y) (first_finished name xs) fails) ∙ found) in
      (suc rest.0, rest.1, rest.2)
]

named-same : (a : OpName) (k t : ℕ) (other : OpName) → is_named a other ≡ true → other ≡ named k t → (a.client ≡ k) × (a.t ≡ t)
named-same a k t other is same =
    let parts = and_parts (a.client == other.client) (a.t == other.t) is in (
      eqb-true a.client other.client parts.0 ∙ ap (λ (x : OpName). x.client) same,
      eqb-true a.t other.t parts.1 ∙ ap (λ (x : OpName). x.t) same,
    )

-- a number that is no client has no entries
stranger-none : (n k : ℕ) (xs : List Entry) → AreOfClients n xs → (IsClient n k → ⊥) → entries_of k xs ≡ []
stranger-none n k [] all stranger = refl
stranger-none n k (x ∷ xs) all stranger =
    let other : x.client ≡ k → ⊥ = λ same. stranger (subst (IsClient n) same all.0) in
    ap (λ (b : Bool). cond b (x ∷ entries_of k xs) (entries_of k xs)) (ne_eqb x.client k other) ∙ stranger-none n k xs all.1 stranger

is-client : (n k : ℕ) → IsClient n k ⊎ (IsClient n k → ⊥)
is-client n zero = inr (λ c. omega (arith, c.from_one))
is-client n (suc k) = elim (cases_Bool (nat_le (suc k) n)) [
  | inl holds ↦ inl (record { from_one = omega arith; to_n = leb-true (suc k) n holds })
  | inr fails ↦ inr (λ c. omega (arith, c.to_n, leb-false (suc k) n fails))
]

-- A completed operation, and what was told of it.
record IsToldOf (config : Config) (world : World) (entries : List Entry) (arrived : List ℕ) (a : OpName) (x : Finished) : Type 0 where
  client : IsClient config.clients a.client
  from_one : 1 ≤ a.t
  told : IsToldAt world arrived a.client a.t x

told-of : (config : Config) (world : World) (entries : List Entry) (a : OpName) (x : Finished) → AreOfClients config.clients entries
    → (known : IsKnown config world entries) → completion_named entries a ≡ Some x → IsToldOf config world entries known.joined.arrived a x
told-of config world entries a x of_clients known found =
    let k : ℕ = a.client in
    elim (is-client config.clients k) [
      | inl client ↦
          let told : AreTold world known.joined.arrived k (finished_among (entries_of k entries))
          (times_of k (line_of config entries).handed) =
          known.told k client in
          let place = found-place a (finished_among (entries_of k entries)) x found in
          let at : IsToldAt world known.joined.arrived k (suc place.0) x = told.each place.0 x place.1 in
          let names = named-same a k (suc place.0) x.answer.op.name place.2 at.same_name in
          record {
            client = client;
            from_one = omega (arith, names.1);
            told = subst (λ (t : ℕ). IsToldAt world known.joined.arrived k t x) (sym names.1) at;
          }
      | inr stranger ↦
          let none : completion_named entries a ≡ None =
          ap (λ (l : List Entry). first_finished a (finished_among l)) (stranger-none config.clients k entries of_clients stranger) in
          let never : Some x ≡ None = sym found ∙ none in
          absurd (cc never)
    ]

-- ---- every completed operation is in the order

or-true : (a b : Bool) → b ≡ true → (a || b) ≡ true
or-true true b holds = refl
or-true false b holds = holds

kept-test : (world : World) (all : List Entry) (k : ℕ) (w : List ℕ) (x : Finished) → completion_named all (name_of k w) ≡ Some x
    → is_named_in world all (k ∷ w) ≡ true
kept-test world all k w x found = or-true (is_write (world.kind k (suc (count k w)))) _ (ap (λ (o : Option Finished). is_some o) found)

kept-completed : (config : Config) (world : World) (all entries : List Entry) (arrived : List ℕ) (a : OpName) (x : Finished)
    → completion_named all a ≡ Some x → IsToldOf config world entries arrived a x → IsKept (is_named_in world all) arrived a
kept-completed config world all entries arrived a x found of =
    let t : ℕ = a.t in
    let k : ℕ = a.client in
    let before : List ℕ = of.told.before in
    let counted : suc (count k before) ≡ t =
    sym (count-own k k before refl) ∙ ap (count k) (sym of.told.arrived_then) ∙ count-upto k t arrived of.told.has_arrived in
    let name : a ≡ name_of k before = name-same a k before refl (sym counted) in
    record {
      from_one = of.from_one;
      within = of.told.has_arrived;
      kept = ap (is_named_in world all) of.told.arrived_then
          ∙ kept-test world all k before x (ap (completion_named all) (sym name) ∙ found);
    }

-- ---- what a read answers

-- An operation of the run, as it began.
record IsBegunAs (config : Config) (all : List Entry) (a : OpName) (started : Started) : Type 0 where
  found : operation_named all a ≡ Some started
  from_one : 1 ≤ a.t
  ordered : order_at all a.client a.t ≡ Some started.order
  seen_as : began_in all a ≡ Some (record {
    client = a.client;
    number = a.t;
    kind = started.order.kind;
    register = started.order.register;
    value = started.order.value;
    entry = started.number;
  })

begun-of : (config : Config) (all : List Entry) (a : OpName) (started : Started) → 1 ≤ a.t → operation_named all a ≡ Some started
    → IsBegunAs config all a started
begun-of config all a started one found =
    let apart : a.t ≡ 0 → ⊥ = λ zero_is. omega (arith, one, zero_is) in
    record {
      found = found;
      from_one = one;
      ordered = ap (option_map order_of_started) found;
      seen_as = ap (λ (b : Bool). cond b None (begun_as a (operation_named all a))) (ne_eqb a.t 0 apart) ∙ ap (begun_as a) found;
    }

begun-found : (config : Config) (all : List Entry) (a : OpName) (begun : Begun) (o : Option Started) → operation_named all a ≡ o → 1 ≤ a.t
    → begun_as a o ≡ Some begun
    → (started : Started) × IsBegunAs config all a started × (begun.kind ≡ started.order.kind) × (begun.register ≡ started.order.register)
    × (begun.entry ≡ started.number)
begun-found config all a begun None is one read = absurd (cc read)
begun-found config all a begun (Some started) is one read =
    let same = same_Some _ begun read in (
      started,
      begun-of config all a started one is,
      ap (λ (b : Begun). b.kind) (sym same),
      ap (λ (b : Begun). b.register) (sym same),
      ap (λ (b : Begun). b.entry) (sym same),
    )

-- what a history saw begin, began
seen-begun : (config : Config) (all : List Entry) (a : OpName) (begun : Begun) → began_in all a ≡ Some begun
    → (started : Started) × IsBegunAs config all a started × (begun.kind ≡ started.order.kind) × (begun.register ≡ started.order.register)
    × (begun.entry ≡ started.number)
seen-begun config all a begun is = elim (cases_eq a.t 0) [
  | inl none ↦
      let never : None ≡ Some begun =
      sym (ap (λ (b : Bool). cond b None (begun_as a (operation_named all a))) (eq-eqb a.t 0 none)) ∙ is in
      absurd (cc never)
  | inr some ↦
      let read : begun_as a (operation_named all a) ≡ Some begun =
      sym (ap (λ (b : Bool). cond b None (begun_as a (operation_named all a))) (ne_eqb a.t 0 some)) ∙ is in
      begun-found config all a begun (operation_named all a) refl (omega (arith, some)) read
]

by-tick : (began : Option Operation) (order : Order) → option_map dummy_read_of began ≡ Some order → order.kind ≡ Write → (i : ℕ)
    → order.register ≡ i
by-tick None order is writes i = absurd (cc is)
by-tick (Some op) order is writes i =
    let never : Read ≡ Write = ap (λ (o : Order). o.kind) (same_Some _ order is) ∙ writes in absurd (cc never)

-- writes are of the own register
own-register : (i : ℕ) (input : Input) (outcome : Outcome) (order : Order) → order_in i input outcome ≡ Some order → order.kind ≡ Write
    → order.register ≡ i
own-register i (inputs.Write value) outcome order is writes =
    ap (λ (o : Order). o.register) (sym (same_Some _ order is))
own-register i (inputs.Read register) outcome order is writes =
    let never : Read ≡ Write = ap (λ (o : Order). o.kind) (same_Some _ order is) ∙ writes in absurd (cc never)
own-register i (inputs.Reply bytes) outcome order is writes = absurd (cc is)
own-register i (inputs.Peer bytes) outcome order is writes = absurd (cc is)
own-register i (inputs.Tick m) outcome order is writes = by-tick outcome.began order is writes i
own-register i (inputs.Arrive message) outcome order is writes = absurd (cc is)

-- a started operation began in an entry of its client, behind those that its client began before
record IsBeginAt (k s : ℕ) (xs : List Entry) (x : Started) : Type 0 where
  front : List Entry
  entry : Entry
  rest : List Entry
  whole : xs ≡ front ++ entry ∷ rest
  of_client : entry.client ≡ k
  started : started_in entry ≡ Some x
  counted : length (started_among (entries_of k front)) ≡ s

own-cons : (k : ℕ) (y : Entry) (l : List Entry) → y.client ≡ k → entries_of k (y ∷ l) ≡ y ∷ entries_of k l
own-cons k y l own = ap (λ (b : Bool). cond b (y ∷ entries_of k l) (entries_of k l)) (eq-eqb y.client k own)

other-cons : (k : ℕ) (y : Entry) (l : List Entry) → (y.client ≡ k → ⊥) → entries_of k (y ∷ l) ≡ entries_of k l
other-cons k y l other = ap (λ (b : Bool). cond b (y ∷ entries_of k l) (entries_of k l)) (ne_eqb y.client k other)

begin-more : (k s t : ℕ) (y : Entry) (xs : List Entry) (x : Started) → IsBeginAt k s xs x
    → ((l : List Entry) → length (started_among (entries_of k l)) ≡ s → length (started_among (entries_of k (y ∷ l))) ≡ t)
    → IsBeginAt k t (y ∷ xs) x
begin-more k s t y xs x h longer = record {
  front = y ∷ h.front;
  entry = h.entry;
  rest = h.rest;
  whole = ap (λ (l : List Entry). y ∷ l) h.whole;
  of_client = h.of_client;
  started = h.started;
  counted = longer h.front h.counted;
}

begin-own : (k s : ℕ) (y : Entry) (xs : List Entry) (x : Started) → y.client ≡ k → (o : Option Started) → started_in y ≡ o
    → slice_get (option_to_list o ++ started_among (entries_of k xs)) s ≡ Some x
    → ((t : ℕ) → slice_get (started_among (entries_of k xs)) t ≡ Some x → IsBeginAt k t xs x) → IsBeginAt k s (y ∷ xs) x
begin-own k s y xs x own None is found rest =
    begin-more k s s y xs x (rest s found) (λ l counted.
    ap (λ (z : List Entry). length (started_among z)) (own-cons k y l own)
    ∙ ap (λ (o : Option Started). length (option_to_list o ++ started_among (entries_of k l))) is ∙ counted)
begin-own k zero y xs x own (Some z) is found rest = record {
  front = [];
  entry = y;
  rest = xs;
  whole = refl;
  of_client = own;
  started = is ∙ found;
  counted = refl;
}
begin-own k (suc s) y xs x own (Some z) is found rest =
    begin-more k s (suc s) y xs x (rest s found) (λ l counted.
    ap (λ (z : List Entry). length (started_among z)) (own-cons k y l own)
    ∙ ap (λ (o : Option Started). length (option_to_list o ++ started_among (entries_of k l))) is ∙ ap (λ (n : ℕ). suc n) counted)

begin-at : (k s : ℕ) (xs : List Entry) (x : Started) → slice_get (started_among (entries_of k xs)) s ≡ Some x → IsBeginAt k s xs x
begin-at k s [] x found = absurd cc
begin-at k s (y ∷ xs) x found = elim (cases_eq y.client k) [
  | inl own ↦ begin-own k s y xs x own (started_in y) refl
      (sym (ap (λ (l : List Entry). slice_get (started_among l) s) (own-cons k y xs own)) ∙ found) (λ t at. begin-at k t xs x at)
  | inr other ↦ begin-more k s s y xs x
      (begin-at k s xs x (sym (ap (λ (l : List Entry). slice_get (started_among l) s) (other-cons k y xs other)) ∙ found))
      (λ l counted. ap (λ (z : List Entry). length (started_among z)) (other-cons k y l other) ∙ counted)
]

-- its order and its number are those of the entry
started-parts : (o : Option Order) (number : ℕ) (x : Started)
    → option_map (λ (order : Order). let s : Started = record { order = order; number = number } in s) o ≡ Some x
    → (o ≡ Some x.order) × (x.number ≡ number)
started-parts None number x is = absurd (cc is)
started-parts (Some order) number x is =
    let same = same_Some _ x is in
    (ap (λ (s : Started). Some s.order) same, ap (λ (s : Started). s.number) (sym same))

-- a write of a client is of its own register
write-own : (all : List Entry) (a : OpName) (x : Started) → operation_named all a ≡ Some x → x.order.kind ≡ Write
    → x.order.register ≡ a.client
write-own all a x found writes =
    let at : IsBeginAt a.client (a.t - 1) all x = begin-at a.client (a.t - 1) all x found in
    let e : Entry = at.entry in
    let parts = started-parts (order_in e.client e.input e.outcome) e.number x at.started in
    own-register e.client e.input e.outcome x.order parts.0 writes ∙ at.of_client

-- ---- what is written last in the order

held-snoc : (h : History) (r : ℕ) (l : List OpName) (a : OpName) (value : Option (List ℕ))
    → held_after h r (l ++ a ∷ []) value ≡ held_by r (h.began a) (held_after h r l value)
held-snoc h r [] a value = refl
held-snoc h r (x ∷ l) a value = held-snoc h r l a (held_by r (h.began x) value)

by-kind : (kind : Kind) (value before : Option (List ℕ)) → forks.written_by kind value before ≡ written_by kind value before
by-kind Write value before = refl
by-kind Read value before = refl

cond-same : (b : Bool) (value : Option (List ℕ)) → cond b value value ≡ value
cond-same true value = refl
cond-same false value = refl

-- one more operation: what its register holds, and what was written
held-one : (register r k : ℕ) (kind : Kind) (value before : Option (List ℕ)) → (kind ≡ Write → register ≡ k)
    → cond (register == r) (forks.written_by kind value before) before ≡ cond (k == r) (written_by kind value before) before
held-one register r k Write value before own =
    ap (λ (j : ℕ). cond (j == r) value before) (own refl)
held-one register r k Read value before own = cond-same (register == r) before ∙ sym (cond-same (k == r) before)

written-one : (world : World) (r k : ℕ) (w : List ℕ)
    → written world r (count r (k ∷ w))
    ≡ cond (k == r) (written_by (world.kind k (suc (count k w))) (world.value k (suc (count k w))) (written world r (count r w)))
    (written world r (count r w))
written-one world r k w = elim (cases_eq k r) [
  | inl same ↦
      let step : ℕ → Option (List ℕ) = λ (j : ℕ). written_by (world.kind j (suc (count j w))) (world.value j (suc (count j w)))
      (written world r (count r w)) in
      ap (written world r) (count-own r k w same) ∙ sym (ap step same)
      ∙ sym (ap (λ (b : Bool). cond b (step k) (written world r (count r w))) (eq-eqb k r same))
  | inr other ↦
      ap (written world r) (count-other r k w other)
      ∙ sym (ap (λ (b : Bool). cond b
      (written_by (world.kind k (suc (count k w))) (world.value k (suc (count k w))) (written world r (count r w)))
      (written world r (count r w)))
      (ne_eqb k r other))
]

-- a read doesn't change what was written
read-same : (world : World) (r k : ℕ) (w : List ℕ) → world.kind k (suc (count k w)) ≡ Read
    → written world r (count r (k ∷ w)) ≡ written world r (count r w)
read-same world r k w reads =
    let before : Option (List ℕ) = written world r (count r w) in
    written-one world r k w
    ∙ ap (λ (kind : Kind). cond (k == r) (written_by kind (world.value k (suc (count k w))) before) before) reads
    ∙ cond-same (k == r) before

-- what is left out of the order is a read
dropped-same : (kind : Kind) (b : Bool) (value before : Option (List ℕ)) (done : Bool) → (is_write kind || done) ≡ false
    → cond b (written_by kind value before) before ≡ before
dropped-same Write b value before done fails = absurd (cc fails)
dropped-same Read b value before done fails = cond-same b before

-- each operation of the history began
abbrev AreStarted : Config → List Entry → List ℕ → Type 0
AreStarted config all w = (k : ℕ) (u : List ℕ) → IsTail (k ∷ u) w → (x : Started) × IsBegunAs config all (name_of k u) x

last-order : (config : Config) (all : List Entry) (r : ℕ) (w : List ℕ) → AreStarted config all w
    → last_written (history_read all) r (listed (is_named_in (world_of config all) all) w)
    ≡ written (world_of config all) r (count r w)
last-order config all r [] started = refl
last-order config all r (k ∷ w) started =
    let h : History = history_read all in
    let world : World = world_of config all in
    let keep : List ℕ → Bool = is_named_in world all in
    let name : OpName = name_of k w in
    let t : ℕ = suc (count k w) in
    let here = started k w (inl refl) in
    let x : Started = here.0 in
    let before : Option (List ℕ) = written world r (count r w) in
    let kind : world.kind k t ≡ x.order.kind = ap kind_of_order here.1.ordered in
    let value : world.value k t ≡ x.order.value = ap value_of_order here.1.ordered in
    let rest : last_written h r (listed keep w) ≡ before = last-order config all r w (λ j u tail. started j u (inr tail)) in
    let now : written world r (count r (k ∷ w)) ≡ cond (k == r) (written_by x.order.kind x.order.value before) before =
    written-one world r k w
    ∙ ap (λ (z : Kind). cond (k == r) (written_by z (world.value k t) before) before) kind
    ∙ ap (λ (z : Option (List ℕ)). cond (k == r) (written_by x.order.kind z before) before) value in
    elim (cases_Bool (keep (k ∷ w))) [
      | inl holds ↦
          ap (last_written h r) (listed-kept keep k w holds)
          ∙ held-snoc h r (listed keep w) name None
          ∙ ap (λ (o : Option Begun). held_by r o (held_after h r (listed keep w) None)) here.1.seen_as
          ∙ ap (λ (v : Option (List ℕ)). cond (x.order.register == r) (forks.written_by x.order.kind x.order.value v) v) rest
          ∙ held-one x.order.register r k x.order.kind x.order.value before (λ writes. write-own all name x here.1.found writes)
          ∙ sym now
      | inr fails ↦
          ap (last_written h r) (listed-dropped keep k w fails) ∙ rest
          ∙ sym (now ∙ dropped-same x.order.kind (k == r) x.order.value before
          (is_some (completion_named all name)) (sym (ap (λ (z : Kind). is_write z || is_some (completion_named all name)) kind) ∙ fails))
    ]

get-there : {X : Type 0} (xs : List X) (i : ℕ) → i < length xs → (x : X) × (slice_get xs i ≡ Some x)
get-there {X} [] i inside = absurd (omega (arith, inside))
get-there {X} (x ∷ xs) zero inside = (x, refl)
get-there {X} (x ∷ xs) (suc i) inside = get-there xs i (omega (arith, inside))

all-started : (config : Config) (all : List Entry) (known : IsKnown config (world_of config all) all)
    → AreStarted config all known.joined.arrived
all-started config all known k u tail =
    let h : IsJoined config (world_of config all) all = known.joined in
    let client : IsClient config.clients k = (AreClients-tail config.clients (k ∷ u) h.arrived h.honest.clients tail).0 in
    let mine = h.each k client in
    let own : ℕ = length (started_among (entries_of k all)) in
    let most : count k h.arrived ≤ own =
    lead-le config (world_of config all) h.arrived k (count k h.arrived) (count k h.handled) mine.queue own mine.in_step.all_committed
    mine.in_step.leads in
    let inside : count k u < own =
    omega (arith, most, count-tail k (k ∷ u) h.arrived tail, count-own k k u refl) in
    let place : suc (count k u) - 1 ≡ count k u = omega arith in
    let there = get-there (started_among (entries_of k all)) (count k u) inside in (
      there.0,
      begun-of config all (name_of k u) there.0 (omega arith)
          (ap (slice_get (started_among (entries_of k all))) place ∙ there.1),
    )

-- the order as a history
order-is : (config : Config) (all : List Entry) (known : IsKnown config (world_of config all) all)
    → order_of config all ≡ listed (is_named_in (world_of config all) all) known.joined.arrived
order-is config all known = known.ordered all

-- the two sides of a choice
or-either : (a b : Bool) → (a || b) ≡ true → a ≡ false → b ≡ true
or-either true b holds fails = absurd (cc fails)
or-either false b holds fails = holds

some-found : {X : Type 0} (o : Option X) → is_some o ≡ true → (x : X) × (o ≡ Some x)
some-found {X} None holds = absurd (cc holds)
some-found {X} (Some x) holds = (x, refl)

legal-order : (config : Config) (all : List Entry) → AreOfClients config.clients all → (known : IsKnown config (world_of config all) all)
    → (before : List OpName) (a : OpName) (begun : Begun)
    → IsPrefix (before ++ a ∷ []) (listed (is_named_in (world_of config all) all) known.joined.arrived)
    → (history_read all).began a ≡ Some begun → begun.kind ≡ Read → IsAnsweredAfter (history_read all) before begun.register a
legal-order config all of_clients known before a begun prefix began reads =
    let h : History = history_read all in
    let world : World = world_of config all in
    let keep : List ℕ → Bool = is_named_in world all in
    let arrived : List ℕ = known.joined.arrived in
    let at : IsListedAt keep arrived before a = listed_at keep arrived before a prefix in
    let k : ℕ = a.client in
    let older : List ℕ = at.older in
    let t : ℕ = suc (count k older) in
    let name : a ≡ name_of k older = name-same a k older refl at.number in
    let seen_as = seen-begun config all a begun began in
    let x : Started = seen_as.0 in
    let order : order_at all k t ≡ Some x.order = ap (order_at all k) (sym at.number) ∙ seen_as.1.ordered in
    let kind : world.kind k t ≡ Read = ap kind_of_order order ∙ sym seen_as.2 ∙ reads in
    let register : world.register k t ≡ begun.register = ap register_of_order order ∙ sym seen_as.3 in
    let done = some-found (completion_named all (name_of k older))
    (or-either (is_write (world.kind k t)) (is_some (completion_named all (name_of k older))) at.kept (ap is_write kind)) in
    let f : Finished = done.0 in
    let found : completion_named all a ≡ Some f = ap (completion_named all) name ∙ done.1 in
    let of : IsToldOf config world all arrived a f = told-of config world all a f of_clients known found in
    let same_past : k ∷ of.told.before ≡ k ∷ older =
    sym of.told.arrived_then ∙ ap (λ (z : ℕ). upto k z arrived) at.number ∙ upto-own k older arrived at.front in
    let j : ℕ = world.register k t in
    let value : f.answer.value ≡ written world j (count j (k ∷ of.told.before)) =
    subst (λ (z : ℕ). f.answer.value ≡ written world (world.register k z) (count (world.register k z) (k ∷ of.told.before))) at.number
    (of.told.value (ap (world.kind k) at.number ∙ kind)) in
    let tail : IsTail older arrived = tail-cons k older arrived at.front in
    let wrote : last_written h j (listed keep older) ≡ written world j (count j older) =
    last-order config all j older (λ i u front. all-started config all known i u (tail-trans (i ∷ u) older arrived front tail)) in
    let answered : f.answer.value ≡ last_written h j before =
    value ∙ ap (λ (w : List ℕ). written world j (count j w)) same_past ∙ read-same world j k older kind ∙ sym wrote
    ∙ ap (last_written h j) (sym at.before_is) in
    record {
      finished = record { entry = f.number; value = f.answer.value; asof = f.answer.asof };
      completed = ap finished_as found;
      value = answered ∙ ap (λ (r : ℕ). last_written h r before) register;
    }

-- ---- real time

first-either : (a : OpName) (xs ys : List Finished) (x : Finished) → first_finished a (xs ++ ys) ≡ Some x
    → (first_finished a xs ≡ Some x) ⊎ (first_finished a ys ≡ Some x)
first-either a [] ys x found = inr found
first-either a (y ∷ xs) ys x found = elim (cases_Bool (is_named a y.answer.op.name)) [
  | inl holds ↦ inl
      (cond-true (is_named a y.answer.op.name) (Some y) (first_finished a xs) holds
      ∙ sym (cond-true (is_named a y.answer.op.name) (Some y) (first_finished a (xs ++ ys)) holds) ∙ found)
  | inr fails ↦ elim (first-either a xs ys x
      (sym (cond-false (is_named a y.answer.op.name) (Some y) (first_finished a (xs ++ ys)) fails) ∙ found)) [
        | inl front ↦ inl (cond-false (is_named a y.answer.op.name) (Some y) (first_finished a xs) fails ∙ front)
        | inr back ↦ inr back
      ]
]

finished-number : (o : Option Answer) (number : ℕ) (a : OpName) (x : Finished)
    → first_finished a (option_to_list (option_map
    (λ (z : Answer). let f : Finished = record { answer = z; number = number } in f) o)) ≡ Some x
    → x.number ≡ number
finished-number None number a x found = absurd (cc found)
finished-number (Some z) number a x found = elim (cases_Bool (is_named a z.op.name)) [
  | inl holds ↦
      ap (λ (f : Finished). f.number)
      (sym (same_Some _ x (sym (cond-true (is_named a z.op.name) (Some (record { answer = z; number = number })) None holds) ∙ found)))
  | inr fails ↦
      let never : None ≡ Some x =
      sym (cond-false (is_named a z.op.name) (Some (record { answer = z; number = number })) None fails) ∙ found in
      absurd (cc never)
]

-- completions in entries from number p on have numbers from p on
numbered-from : (p k : ℕ) (xs : List Entry) (a : OpName) (x : Finished) → AreNumbered p xs
    → first_finished a (finished_among (entries_of k xs)) ≡ Some x → p ≤ x.number
numbered-from p k [] a x numbered found = absurd (cc found)
numbered-from p k (y ∷ xs) a x numbered found = elim (cases_eq y.client k) [
  | inl own ↦ elim (first-either a (option_to_list (finished_in y)) (finished_among (entries_of k xs)) x
      (sym (ap (λ (l : List Entry). first_finished a (finished_among l)) (own-cons k y xs own)) ∙ found)) [
        | inl here ↦
            let number : x.number ≡ y.number = finished-number y.outcome.answer y.number a x here in
            omega (arith, number, numbered.0)
        | inr later ↦ omega (arith, numbered-from (suc p) k xs a x numbered.1 later)
      ]
  | inr other ↦ omega (
    arith,
    numbered-from (suc p) k xs a x numbered.1
        (sym (ap (λ (l : List Entry). first_finished a (finished_among l)) (other-cons k y xs other)) ∙ found),
  )
]

numbered-behind : (p : ℕ) (xs ys : List Entry) → AreNumbered p (xs ++ ys) → AreNumbered (p + length xs) ys
numbered-behind p [] ys all = let same : p ≡ p + 0 = omega arith in subst (λ (q : ℕ). AreNumbered q ys) same all
numbered-behind p (x ∷ xs) ys all =
    let same : suc p + length xs ≡ p + suc (length xs) = omega arith in
    subst (λ (q : ℕ). AreNumbered q ys) same (numbered-behind (suc p) xs ys all.1)

-- what completed before an entry began completed in front of it
completed-in-front : (front rest : List Entry) (a : OpName) (x : Finished) → AreNumbered 0 (front ++ rest)
    → completion_named (front ++ rest) a ≡ Some x → x.number < length front → completion_named front a ≡ Some x
completed-in-front front rest a x numbered found earlier =
    let k : ℕ = a.client in
    let parts : finished_among (entries_of k (front ++ rest)) ≡ finished_among (entries_of k front) ++ finished_among (entries_of k rest) =
    ap finished_among (entries_of-append k front rest) ∙ finished-append (entries_of k front) (entries_of k rest) in
    elim (first-either a (finished_among (entries_of k front)) (finished_among (entries_of k rest)) x
    (sym (ap (first_finished a) parts) ∙ found)) [
      | inl before ↦ before
      | inr behind ↦
          let late : 0 + length front ≤ x.number =
          numbered-from (0 + length front) k rest a x (numbered-behind 0 front rest numbered) behind in
          absurd (omega (arith, late, earlier))
    ]

-- ---- a front of a run, and the whole

pub none-front : (config : Config) (line : Line) (xs ys : List Entry) → first_departure_from config line (xs ++ ys) ≡ None
    → first_departure_from config line xs ≡ None
none-front config line [] ys none = refl
none-front config line (x ∷ xs) ys none =
    let parts = none-here (departs config line x) x.number (first_departure_from config (line_after config line x) (xs ++ ys)) none in
    ap (λ (b : Bool). cond b (Some x.number) (first_departure_from config (line_after config line x) xs)) parts.0
    ∙ none-front config (line_after config line x) xs ys parts.1

none-behind : (config : Config) (line : Line) (xs ys : List Entry) → first_departure_from config line (xs ++ ys) ≡ None
    → first_departure_from config (line_from config line xs) ys ≡ None
none-behind config line [] ys none = none
none-behind config line (x ∷ xs) ys none =
    none-behind config (line_after config line x) xs ys
    (none-here (departs config line x) x.number (first_departure_from config (line_after config line x) (xs ++ ys)) none).1

made-behind : (config : Config) (before xs ys : List Entry) → ArePeersMade config before (xs ++ ys) → ArePeersMade config (before ++ xs) ys
made-behind config before [] ys all = subst (λ (l : List Entry). ArePeersMade config l ys) (sym (append-nil before)) all
made-behind config before (x ∷ xs) ys all =
    subst (λ (l : List Entry). ArePeersMade config l ys) (append_assoc before (x ∷ []) xs)
    (made-behind config (before ++ x ∷ []) xs ys all.1)

well-both : (xs ys : List Entry) → AreWellGiven xs → AreWellGiven ys → AreWellGiven (xs ++ ys)
well-both [] ys front back = back
well-both (x ∷ xs) ys front back = (front.0, well-both xs ys front.1 back)

pub record IsThrough (config : Config) (world : World) (front all : List Entry) : Type 0 where
  pub early : IsKnown config world front
  pub late : IsKnown config world all
  pub on : IsTail early.joined.arrived late.joined.arrived

pub through : (config : Config) (front rest : List Entry) → IsRun config (front ++ rest) → ArePeersMade config [] (front ++ rest)
    → first_departure config (front ++ rest) ≡ None → IsThrough config (world_of config (front ++ rest)) front (front ++ rest)
through config front rest run made none =
    let all : List Entry = front ++ rest in
    let early : IsKnown config (world_of config all) front =
    known-front config all front rest run refl (made-front config [] front rest made)
    (none-front config (first_line config.clients) front rest none) in
    let later = joined-from config all front rest [] run (append-nil all) (made-behind config [] front rest made)
    (none-behind config (first_line config.clients) front rest none) early.joined in
    record {
      early = early;
      late = record {
        joined = later.joined;
        told = later.told_on early.told;
        ordered = λ every. later.listed_on every (early.ordered every);
        well = well-both front rest early.well later.well;
      };
      on = later.goes_on;
    }

-- a front that lacks the operation is a front of what stands before it
tail-below : (soon older : List ℕ) (j : ℕ) → IsTail soon (j ∷ older) → (IsTail (j ∷ older) soon → ⊥) → IsTail soon older
tail-below soon older j (inl same) never = absurd (never (subst (λ (w : List ℕ). IsTail w soon) same (tail-refl soon)))
tail-below soon older j (inr below) never = below

older-tail : (soon older arrived : List ℕ) (j : ℕ) → IsTail soon arrived → IsTail (j ∷ older) arrived → (IsTail (j ∷ older) soon → ⊥)
    → IsTail soon older
older-tail soon older arrived j on front never = elim (tail-linear soon (j ∷ older) arrived on front) [
  | inl below ↦ tail-below soon older j below never
  | inr above ↦ absurd (never above)
]

-- ---- the promise

found-as : (o : Option Finished) (finished : seen.Finished) → finished_as o ≡ Some finished
    → (x : Finished) × (o ≡ Some x) × (finished.entry ≡ x.number)
found-as None finished is = absurd (cc is)
found-as (Some x) finished is = (x, refl, ap (λ (f : seen.Finished). f.entry) (sym (same_Some _ finished is)))

client-of : (n : ℕ) (front rest : List Entry) (e : Entry) → AreOfClients n (front ++ e ∷ rest) → IsClient n e.client
client-of n [] rest e all = all.0
client-of n (x ∷ front) rest e all = client-of n front rest e all.1

in-time : (config : Config) (all : List Entry) → IsRun config all → ArePeersMade config [] all → first_departure config all ≡ None
    → (a b : OpName) → Precedes (history_read all) a b → Has (order_of config all) b → IsBefore (order_of config all) a b
in-time config all run made none a b p has_b =
    let n = config.clients in
    let world : World = world_of config all in
    let keep : List ℕ → Bool = is_named_in world all in
    let done = found-as (completion_named all a) p.finished p.completed in
    let x : Finished = done.0 in
    let seen_b = seen-begun config all b p.begun p.began in
    let sb : Started = seen_b.0 in
    let j : ℕ = b.client in
    let at : IsBeginAt j (b.t - 1) all sb = begin-at j (b.t - 1) all sb seen_b.1.found in
    let e : Entry = at.entry in
    let back : List Entry = e ∷ at.rest in
    let parts = started-parts (order_in e.client e.input e.outcome) e.number sb at.started in
    let numbered : AreNumbered 0 (at.front ++ back) = subst (AreNumbered 0) at.whole run.numbered in
    let number : e.number ≡ 0 + length at.front = (numbered-behind 0 at.front back numbered).0 in
    let earlier : x.number < length at.front = omega (arith, p.earlier, done.2, seen_b.4, parts.1, number) in
    let t : IsThrough config world at.front all =
    subst (λ (l : List Entry). IsThrough config (world_of config l) at.front l) (sym at.whole)
    (through config at.front back (subst (IsRun config) at.whole run) (subst (ArePeersMade config []) at.whole made)
    (sym (ap (first_departure config) at.whole) ∙ none)) in
    let arrived : List ℕ = t.late.joined.arrived in
    let soon : List ℕ = t.early.joined.arrived in
    let found : completion_named at.front a ≡ Some x =
    completed-in-front at.front back a x numbered (sym (ap (λ (l : List Entry). completion_named l a) at.whole) ∙ done.1) earlier in
    let front_clients : AreOfClients n at.front =
    (run-front config at.front back (subst (IsRun config) at.whole run)).of_clients in
    let of : IsToldOf config world at.front soon a x = told-of config world at.front a x front_clients t.early found in
    let kept : IsKept keep soon a = kept-completed config world all at.front soon a x done.1 of in
    let listed_is : order_of config all ≡ listed keep arrived = t.late.ordered all in
    let place : IsPlaced keep arrived b = placed keep arrived b (subst (λ (l : List OpName). Has l b) listed_is has_b) in
    let client : IsClient n j =
    subst (IsClient n) at.of_client (client-of n at.front at.rest e (subst (AreOfClients n) at.whole run.of_clients)) in
    let mine = t.early.joined.each j client in
    let begun : ℕ = length (started_among (entries_of j at.front)) in
    let most : count j soon ≤ begun =
    lead-le config world soon j (count j soon)
    (count j t.early.joined.handled) mine.queue begun mine.in_step.all_committed mine.in_step.leads in
    let never : IsTail (j ∷ place.older) soon → ⊥ = λ tail.
    omega (
      arith,
      most,
      at.counted,
      count-tail j (j ∷ place.older) soon tail,
      count-own j j place.older refl,
      place.number,
      seen_b.1.from_one,
    ) in
    let older : IsTail soon place.older = older-tail soon place.older arrived j t.on place.front never in
    let has_a : Has (listed keep place.older) a =
    sift-listed keep place.older a (has-tail (sift keep soon) (sift keep place.older) a (sift-tail keep soon place.older older)
    (has-kept keep soon a kept)) in
    subst (λ (l : List OpName). IsBefore l a b) (sym listed_is) (older-before keep arrived a b place has_a)

pub order-linear : (config : Config) (all : List Entry) → IsRun config all → ArePeersMade config [] all → first_departure config all ≡ None
    → IsLinearizableBy (history_read all) (order_of config all)
order-linear config all run made none =
    let world : World = world_of config all in
    let known : IsKnown config world all = known-front config all all [] run (append-nil all) made none in
    let keep : List ℕ → Bool = is_named_in world all in
    let listed_is : order_of config all ≡ listed keep known.joined.arrived = known.ordered all in
    record {
      operations = λ a has.
          let place : IsPlaced keep known.joined.arrived a =
          placed keep known.joined.arrived a (subst (λ (l : List OpName). Has l a) listed_is has) in
          let began = all-started config all known a.client place.older place.front in
          record {
            begun = _;
            began = ap (began_in all) (name-same a a.client place.older refl place.number) ∙ began.1.seen_as;
          };
      distinct = subst AreDistinct (sym listed_is) (listed-distinct keep known.joined.arrived);
      complete = λ a completed.
          let done = found-as (completion_named all a) completed.finished completed.completed in
          let of = told-of config world all a done.0 run.of_clients known done.1 in
          subst (λ (l : List OpName). Has l a) (sym listed_is)
          (kept-listed keep known.joined.arrived a (kept-completed config world all all known.joined.arrived a done.0 done.1 of));
      legal = λ before a begun prefix began reads.
          legal-order config all run.of_clients known before a begun
          (subst (λ (l : List OpName). IsPrefix (before ++ a ∷ []) l) listed_is prefix) began reads;
      real_time = λ a b precedes has_a has_b. in-time config all run made none a b precedes has_b;
    }
