-- The kinds of operations, noted entry by entry.
use Rattle.std.proofs.Common.{◌≡◌, ℕ, zero, suc, ◌+◌, ◌-◌, ◌<◌, ◌≢◌, Bool, List, [], ◌∷◌, ◌++◌, Option, Some, None, length, get_or, take, map, option_map, option_to_list, refl, sym, ap, ◌∙◌, subst, inl, inr, get_or-set_other, get_or-set_same, length-set, append_assoc}
use Rattle.std.specs.List.{slice_get}
use Rattle.std.proofs.lemmas.List.{append-nil, map-append, take_more}
use Rattle.std.proofs.lemmas.Bool.{cases_eq}
use Rattle.std.proofs.lemmas.Option.{get_or_from_slice_get, slice_get-map, slice_get_within}
use Rattle.faust_types.specs.Clients.{IsClient}
use Rattle.faust_types.specs.declared.operation.OpName.{OpName}
use Rattle.faust_record.specs.Operations.{Started, operation_named, started_among, started_in}
use Rattle.faust_record.specs.Runs.{AreOfClients, entries_of}
use Rattle.faust_record.specs.declared.entry.Entry.{Entry}
use Rattle.faust_record.proofs.Own.{entries_of-other, entries_of-own}
use Rattle.faust_runs.specs.ForkViews.{is_write}
use Rattle.faust_views.specs.Noted.{AreNoted, is_noted_write, is_true, kind_in, kinds_among, noted, noted_by, writes_of}

started-append : (xs ys : List Entry) → started_among (xs ++ ys) ≡ started_among xs ++ started_among ys
started-append [] ys = refl
started-append (x ∷ xs) ys =
    ap (λ (l : List Started). option_to_list (started_in x) ++ l) (started-append xs ys)
    ∙ sym (append_assoc (option_to_list (started_in x)) (started_among xs) (started_among ys))

map-option : {X Y : Type 0} (f : X → Y) (o : Option X) → map f (option_to_list o) ≡ option_to_list (option_map f o)
map-option f None = refl
map-option f (Some x) = refl

kinds-push : (xs : List Entry) (e : Entry) → kinds_among (xs ++ e ∷ []) ≡ kinds_among xs ++ option_to_list (kind_in e)
kinds-push xs e =
    ap (map writes_of)
    (started-append xs (e ∷ [])
    ∙ ap (λ (l : List Started). started_among xs ++ l) (append-nil (option_to_list (started_in e))))
    ∙ map-append writes_of (started_among xs) (option_to_list (started_in e))
    ∙ ap (λ (l : List Bool). kinds_among xs ++ l) (map-option writes_of (started_in e))

-- what is noted of the client of an entry, and of the others
own-noted : (kinds : List (List Bool)) (k : ℕ) (kind : Option Bool) → k < length kinds
    → get_or (noted_by kinds k kind) k [] ≡ get_or kinds k [] ++ option_to_list kind
own-noted kinds k None h = sym (append-nil (get_or kinds k []))
own-noted kinds k (Some b) h = get_or-set_same kinds k (get_or kinds k [] ++ b ∷ []) [] h

other-noted : (kinds : List (List Bool)) (k j : ℕ) (kind : Option Bool) → j ≢ k → get_or (noted_by kinds k kind) j [] ≡ get_or kinds j []
other-noted kinds k j None h = refl
other-noted kinds k j (Some b) h = get_or-set_other kinds k j (get_or kinds k [] ++ b ∷ []) [] h

pub noted-step : (kinds : List (List Bool)) (xs : List Entry) (e : Entry) → e.client < length kinds → AreNoted kinds xs
    → AreNoted (noted kinds e) (xs ++ e ∷ [])
noted-step kinds xs e h are k = elim (cases_eq e.client k) [
  | inl same ↦
      subst (λ (i : ℕ). get_or (noted kinds e) i [] ≡ kinds_among (entries_of k (xs ++ e ∷ []))) same
      (own-noted kinds e.client (kind_in e) h
      ∙ ap (λ (l : List Bool). l ++ option_to_list (kind_in e)) (are e.client ∙ ap (λ (i : ℕ). kinds_among (entries_of i xs)) same)
      ∙ sym (kinds-push (entries_of k xs) e)
      ∙ sym (ap kinds_among (entries_of-own k xs e same)))
  | inr other ↦
      other-noted kinds e.client k (kind_in e) (λ same. other (sym same)) ∙ are k
      ∙ sym (ap kinds_among (entries_of-other k xs e other))
]

pub length-noted : (kinds : List (List Bool)) (k : ℕ) (kind : Option Bool) → length (noted_by kinds k kind) ≡ length kinds
length-noted kinds k None = refl
length-noted kinds k (Some b) = length-set kinds k (get_or kinds k [] ++ b ∷ [])

-- entries up to a place and the one there
pub take-at : {X : Type 0} (xs : List X) (q : ℕ) (x : X) → slice_get xs q ≡ Some x → take (q + 1) xs ≡ take q xs ++ x ∷ []
take-at xs q x h =
    take_more xs q x (slice_get_within xs q x h) ∙ ap (λ (y : _). take q xs ++ y ∷ []) (get_or_from_slice_get xs q x x h)

pub client-at : (n : ℕ) (entries : List Entry) (q : ℕ) (e : Entry) → AreOfClients n entries → slice_get entries q ≡ Some e
    → IsClient n e.client
client-at n [] q e are h = cc
client-at n (x ∷ entries) zero e are h = let same : x ≡ e = cc in subst (λ (y : Entry). IsClient n y.client) same are.0
client-at n (x ∷ entries) (suc q) e are h = client-at n entries q e are.1 h

-- a noted write is a write
true-map : (o : Option Started) → is_true (option_map writes_of o) ≡ is_write o
true-map None = refl
true-map (Some started) = refl

pub noted-write : (kinds : List (List Bool)) (entries : List Entry) (name : OpName) → AreNoted kinds entries
    → is_noted_write kinds name ≡ is_write (operation_named entries name)
noted-write kinds entries name are =
    ap (λ (l : List Bool). is_true (slice_get l (name.t - 1))) (are name.client)
    ∙ ap is_true (slice_get-map writes_of (started_among (entries_of name.client entries)) (name.t - 1))
    ∙ true-map (operation_named entries name)
