-- The readers of the smallest pieces.
use Rattle.std.proofs.Common.{◌≡◌, ◌≢◌, ℕ, ◌^◌, ◌<◌, ◌≤◌, false, cond, ltb, List, [], ◌∷◌, ◌++◌, length, Option, Some, None, refl, sym, ap, subst, ◌∙◌, append_assoc, arith, inl, inr}
use Rattle.std.specs.Prelude.{IfSome, nat_lt, ◌==◌, ◌||◌}
use Rattle.std.specs.Int.{w16, w64, from_be_bytes, to_be_bytes}
use Rattle.std.proofs.lemmas.Bool.{ltb-true, ltb-false, lt-ltb, le-ltb, eqb-true, eqb-false, ne_eqb, or_parts, or_from}
use Rattle.std.proofs.lemmas.Option.{same_Some, cond_some}
use Rattle.std.proofs.lemmas.List.{take_at, drop_at, take-append-drop, length-append, length-take}
use Rattle.std.proofs.lemmas.Nat.{be_bytes_2, be_bytes_8, from_be_bytes-to_be_bytes_2, from_be_bytes-to_be_bytes_8}
use Rattle.faust_types.specs.Clients.{IsClient}
use Rattle.faust_types.specs.Ranges.{AreBytes, IsDigest, IsValue, IsOperationNumber}
use Rattle.faust_types.specs.Spelling.{be64, optional, kind_byte}
use Rattle.faust_types.specs.declared.operation.Kind.{Kind}
use Rattle.faust_types.specs.declared.operation.Kind.TheVariants.{Write, Read}
use Rattle.faust_wire.specs.Grammar.{value_bytes, optional_value_bytes}
use Rattle.faust_wire.specs.Reading.{next_bytes, next_up_to, next_kind, next_timestamp, next_number, next_tag, next_optional, next_value, optionally}
use Rattle.faust_wire.proofs.Readers.{bind_ok, bind_some, unless_ok, chosen, AreBytes-drop, AreBytes-take, AreBytes-rest, Takes, takes_then, IsRead, IsReader, optionally_reader}

pub record IsCut (len : ℕ) (bytes : List ℕ) (x : List ℕ × List ℕ) : Type 0 where
  pub taken : Takes bytes x.0 x.1
  pub sized : length x.0 ≡ len
  pub front_bytes : AreBytes x.0

pub bytes_take : (len : ℕ) (bytes : List ℕ) (x : List ℕ × List ℕ) → AreBytes bytes → next_bytes len bytes ≡ Some x
    → IsCut len bytes x
unfolding next_bytes
bytes_take len bytes x fits e =
    let g = unless_ok _ _ _ e in
    let long : len ≤ length bytes = ltb-false _ _ g.0 in
    subst (IsCut len bytes) (same_Some _ _ g.1) (record {
      taken = record { parts = sym (take-append-drop len bytes); rest_bytes = AreBytes-drop len bytes fits };
      sized = omega (arith, length-take len bytes);
      front_bytes = AreBytes-take len bytes fits;
    })

pub bytes_again : (front rest : List ℕ) (len : ℕ) → length front ≡ len → next_bytes len (front ++ rest) ≡ Some (front, rest)
unfolding next_bytes
bytes_again front rest len sized =
    let long : ltb (length (front ++ rest)) len ≡ false = le-ltb _ _ (omega (arith, length-append front rest)) in
    rw (long, take_at front rest len sized, drop_at front rest len sized) refl

pub tag_reader : IsReader (List ℕ) (λ bytes. next_tag bytes) (λ tag. tag) IsDigest
tag_reader = record {
  takes = λ bytes x fits e. let cut = bytes_take 32 bytes x fits e in record
      { taken = cut.taken; fits = record { sized = cut.sized; bytes_each = cut.front_bytes } };
  again = λ tag rest fits. bytes_again tag rest 32 fits.sized;
}

pub optional_reader : IsReader (Option (List ℕ)) next_optional optional (λ o. IfSome o IsDigest)
unfolding next_optional
optional_reader = optionally_reader (λ bytes. next_tag bytes) (λ tag. tag) IsDigest optional tag_reader refl (λ x. refl)

-- ---- single bytes

up_to_takes : (most : ℕ) (bytes : List ℕ) (x : ℕ × List ℕ) → AreBytes bytes → next_up_to most bytes ≡ Some x
    → IsRead ℕ (λ k. k ∷ []) (IsClient most) bytes x
unfolding next_up_to
up_to_takes most [] x fits e = absurd cc
up_to_takes most (k ∷ bytes) x fits e =
    let g = unless_ok _ _ _ e in
    let tests = or_parts _ _ g.0 in
    let positive : k ≢ 0 = eqb-false _ _ tests.0 in
    let low : k ≤ most = ltb-false _ _ tests.1 in
    subst (IsRead ℕ (λ k. k ∷ []) (IsClient most) (k ∷ bytes)) (same_Some _ _ g.1) (record {
      taken = record { parts = refl; rest_bytes = AreBytes-rest k bytes fits };
      fits = record { from_one = omega (arith, positive); to_n = low };
    })

up_to_again : (most k : ℕ) (rest : List ℕ) → IsClient most k → next_up_to most (k ∷ rest) ≡ Some (k, rest)
unfolding next_up_to
up_to_again most k rest c =
    let test : ((k == 0) || nat_lt most k) ≡ false =
    or_from _ _ (ne_eqb k 0 (λ q. absurd (omega (arith, c.from_one, q)))) (le-ltb most k c.to_n) in
    rw test refl

pub client_reader : (n : ℕ) → IsReader ℕ (next_up_to n) (λ k. k ∷ []) (IsClient n)
client_reader n = record { takes = up_to_takes n; again = up_to_again n }

kind_is : (kind : Kind) (k : ℕ) (bytes : List ℕ) (x : Kind × List ℕ) → k ≡ kind_byte kind → AreBytes bytes
    → ◌≡◌ {A = Kind × List ℕ} (kind, bytes) x
    → IsRead Kind (λ kind. kind_byte kind ∷ []) (λ kind. Unit {0}) (k ∷ bytes) x
kind_is kind k bytes x same fits e =
    subst (IsRead Kind (λ kind. kind_byte kind ∷ []) (λ kind. Unit {0}) (k ∷ bytes)) e
    (record { taken = record { parts = ap (λ (b : ℕ). b ∷ bytes) same; rest_bytes = fits }; fits = tt })

kind_takes : (bytes : List ℕ) (x : Kind × List ℕ) → AreBytes bytes → next_kind bytes ≡ Some x
    → IsRead Kind (λ kind. kind_byte kind ∷ []) (λ kind. Unit {0}) bytes x
unfolding next_kind
kind_takes [] x fits e = absurd cc
kind_takes (k ∷ bytes) x fits e =
    elim (chosen (k == 1) _ _ _ e) [
      | inl w ↦ kind_is Write k bytes x (eqb-true _ _ w.0) (AreBytes-rest k bytes fits) (same_Some _ _ w.1)
      | inr w ↦ let g = cond_some _ _ _ w.1 in kind_is Read k bytes x (eqb-true _ _ g.0) (AreBytes-rest k bytes fits) g.1
    ]

kind_again : (kind : Kind) (rest : List ℕ) → Unit {0} → next_kind (kind_byte kind ∷ rest) ≡ Some (kind, rest)
unfolding next_kind
kind_again Write rest u = refl
kind_again Read rest u = refl

pub kind_reader : IsReader Kind next_kind (λ kind. kind_byte kind ∷ []) (λ kind. Unit {0})
kind_reader = record { takes = kind_takes; again = kind_again }

-- ---- numbers

pub length-be64 : (t : ℕ) → length (be64 t) ≡ 8
unfolding be64
length-be64 t = refl

timestamp_takes : (bytes : List ℕ) (x : ℕ × List ℕ) → AreBytes bytes → next_timestamp bytes ≡ Some x
    → IsRead ℕ be64 (λ t. t < 2 ^ 40) bytes x
unfolding next_timestamp be64
timestamp_takes bytes x fits e =
    bind_ok (next_bytes 8 bytes) _ x e (λ a a-is a-then.
    let cut = bytes_take 8 bytes a fits a-is in
    let g = cond_some _ _ _ a-then in
    let back : to_be_bytes w64 (from_be_bytes w64 a.0) ≡ a.0 = be_bytes_8 a.0 _ cut.sized cut.front_bytes refl in
    subst (IsRead ℕ (λ t. to_be_bytes w64 t) (λ t. t < 2 ^ 40) bytes) g.1 (record {
      taken = subst (λ (front : List ℕ). Takes bytes front a.1) (sym back) cut.taken;
      fits = ltb-true _ _ g.0;
    }))

timestamp_back : (t : ℕ) (rest : List ℕ) → t < 2 ^ 40
    → cond {A = Option (ℕ × List ℕ)} (nat_lt (from_be_bytes w64 (be64 t)) (2 ^ 40)) (Some (from_be_bytes w64 (be64 t), rest)) None
    ≡ Some (t, rest)
unfolding be64
timestamp_back t rest lt =
    let same : from_be_bytes w64 (to_be_bytes w64 t) ≡ t = from_be_bytes-to_be_bytes_8 t (omega (arith, lt)) in
    rw (same, lt-ltb t (2 ^ 40) lt) refl

timestamp_again : (t : ℕ) (rest : List ℕ) → t < 2 ^ 40 → next_timestamp (be64 t ++ rest) ≡ Some (t, rest)
unfolding next_timestamp
timestamp_again t rest lt =
    bind_some _ _ _ _ (bytes_again (be64 t) rest 8 (length-be64 t)) (timestamp_back t rest lt)

pub timestamp_reader : IsReader ℕ next_timestamp be64 (λ t. t < 2 ^ 40)
timestamp_reader = record { takes = timestamp_takes; again = timestamp_again }

number_takes : (bytes : List ℕ) (x : ℕ × List ℕ) → AreBytes bytes → next_number bytes ≡ Some x
    → IsRead ℕ be64 IsOperationNumber bytes x
unfolding next_number
number_takes bytes x fits e =
    bind_ok (next_timestamp bytes) _ x e (λ a a-is a-then.
    let t = timestamp_takes bytes a fits a-is in
    let g = unless_ok _ _ _ a-then in
    let positive : a.0 ≢ 0 = eqb-false _ _ g.0 in
    subst (IsRead ℕ be64 IsOperationNumber bytes) (same_Some _ _ g.1)
    (record { taken = t.taken; fits = record { from_one = omega (arith, positive); below = t.fits } }))

number_again : (t : ℕ) (rest : List ℕ) → IsOperationNumber t → next_number (be64 t ++ rest) ≡ Some (t, rest)
unfolding next_number
number_again t rest fits =
    let test : (t == 0) ≡ false = ne_eqb t 0 (λ q. absurd (omega (arith, fits.from_one, q))) in
    bind_some _ _ _ _ (timestamp_again t rest fits.below) (rw test refl)

pub number_reader : IsReader ℕ next_number be64 IsOperationNumber
number_reader = record { takes = number_takes; again = number_again }

-- ---- values

value_takes : (bytes : List ℕ) (x : List ℕ × List ℕ) → AreBytes bytes → next_value bytes ≡ Some x
    → IsRead (List ℕ) value_bytes IsValue bytes x
unfolding next_value value_bytes
value_takes bytes x fits e =
    bind_ok (next_bytes 2 bytes) _ x e (λ a a-is a-then.
    let cut = bytes_take 2 bytes a fits a-is in
    let g = unless_ok _ _ _ a-then in
    let short : from_be_bytes w16 a.0 ≤ 4096 = ltb-false _ _ g.0 in
    let front = bytes_take (from_be_bytes w16 a.0) a.1 x cut.taken.rest_bytes g.1 in
    let back : to_be_bytes w16 (length x.0) ≡ a.0 = be_bytes_2 a.0 _ cut.sized cut.front_bytes front.sized in
    record {
      taken = takes_then (subst (λ (len : List ℕ). Takes bytes len a.1) (sym back) cut.taken) front.taken;
      fits = record { sized = omega (arith, front.sized, short); bytes_each = front.front_bytes };
    })

value_again : (bytes rest : List ℕ) → IsValue bytes → next_value (value_bytes bytes ++ rest) ≡ Some (bytes, rest)
unfolding next_value value_bytes
value_again bytes rest fits =
    let back : from_be_bytes w16 (to_be_bytes w16 (length bytes)) ≡ length bytes =
    from_be_bytes-to_be_bytes_2 (length bytes) (omega (arith, fits.sized)) in
    let short : ltb 4096 (length bytes) ≡ false = le-ltb _ _ fits.sized in
    ap next_value (append_assoc (to_be_bytes w16 (length bytes)) bytes rest)
    ∙ bind_some _ _ _ _ (bytes_again (to_be_bytes w16 (length bytes)) (bytes ++ rest) 2 refl)
    (rw (back, short) (bytes_again bytes rest (length bytes) refl))

pub value_reader : IsReader (List ℕ) next_value value_bytes IsValue
value_reader = record { takes = value_takes; again = value_again }

pub optional_value_reader : IsReader (Option (List ℕ)) (λ bytes. optionally next_value bytes) optional_value_bytes (λ o. IfSome o IsValue)
optional_value_reader = optionally_reader next_value value_bytes IsValue optional_value_bytes value_reader refl (λ x. refl)
