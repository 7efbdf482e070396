-- The readers of signed versions, tuples, memories and read parts.
use Rattle.std.proofs.Common.{◌≡◌, ℕ, zero, suc, ◌≤◌, Bool, true, false, cond, List, [], ◌∷◌, ◌++◌, length, Option, Some, refl, sym, ap, subst, ◌∙◌, append_assoc, arith, inl, inr}
use Rattle.std.specs.Prelude.{IfSome, nat_lt, ◌==◌, flat_map}
use Rattle.std.specs.List.{AllByRecursion}
use Rattle.std.proofs.lemmas.Bool.{both_ways, cases_Bool, ltb-false, le-ltb, eqb-true, eqb-false, ne_eqb}
use Rattle.std.proofs.lemmas.Option.{same_Some}
use Rattle.faust_types.specs.Clients.{IsClientCount, IsClient}
use Rattle.faust_types.specs.Versions.{Vector, is_initial}
use Rattle.faust_types.specs.Ranges.{AreBytes, IsKnownBy, IsAnnouncedFor, IsTupleFor, IsMem, IsReadPartFor}
use Rattle.faust_types.specs.Messages.{unmade}
use Rattle.faust_types.specs.Spelling.{be64, version_bytes, announced}
use Rattle.faust_types.proofs.Messages.{is_initial-initial, IsKnownBy-unmade, unmade-only}
use Rattle.faust_types.specs.declared.message.Known.{Known}
use Rattle.faust_types.specs.declared.message.Tuple.{Tuple}
use Rattle.faust_types.specs.declared.message.Mem.{Mem}
use Rattle.faust_types.specs.declared.message.ReadPart.{ReadPart}
use Rattle.faust_wire.specs.Grammar.{signed_bytes, optional_value_bytes, memory_bytes, tuple_bytes, read_part_bytes}
use Rattle.faust_wire.specs.Reading.{next_flag, next_version, next_tag, next_known, next_signed, next_announced, next_up_to, next_kind, next_number, next_tuple, next_pending, next_value, next_mem, next_read_part, optionally}
use Rattle.faust_wire.proofs.Readers.{bind_ok, bind_some, unless_ok, chosen, AreBytes-rest, takes_then, IsRead, IsReader, optionally_reader, items_reader}
use Rattle.faust_wire.proofs.SmallParts.{tag_reader, client_reader, kind_reader, number_reader, optional_value_reader}
use Rattle.faust_wire.proofs.Entries.{version_reader}

-- ---- known versions

-- made by this client, and so not the initial version
pub record IsSigned (n maker : ℕ) (known : Known) : Type 0 where
  pub known_by : IsKnownBy n maker known
  pub not_initial : is_initial known.version ≡ false

abbrev pub known_text : Known → List ℕ
known_text known = version_bytes known.version ++ known.tag

abbrev known_of : ℕ → Vector → List ℕ → Known
known_of maker version tag = record { maker = maker; version = version; tag = tag }

known_takes : (n : ℕ) → IsClientCount n → (maker : ℕ) (bytes : List ℕ) (x : Known × List ℕ) → AreBytes bytes
    → next_known n maker bytes ≡ Some x → IsRead Known known_text (IsSigned n maker) bytes x
unfolding next_known
known_takes n count maker bytes x fits e =
    bind_ok (next_version n bytes) _ x e (λ a a-is a-then.
    let version = (version_reader n count).takes bytes a fits a-is in
    bind_ok (next_tag a.1) _ x a-then (λ b b-is b-then.
    let tag = tag_reader.takes a.1 b version.taken.rest_bytes b-is in
    let g = unless_ok _ _ _ b-then in
    subst (IsRead Known known_text (IsSigned n maker) bytes) (same_Some _ _ g.1) (record {
      taken = takes_then version.taken tag.taken;
      fits = record {
        known_by = record {
          version_in_range = version.fits;
          tag_sized = tag.fits;
          unsigned = λ h. absurd (both_ways _ g.0 h);
          signed = λ h. refl;
        };
        not_initial = g.0;
      };
    })))

known_again : (n : ℕ) → IsClientCount n → (maker : ℕ) (known : Known) (rest : List ℕ) → IsSigned n maker known
    → next_known n maker (known_text known ++ rest) ≡ Some (known, rest)
unfolding next_known
known_again n count maker known rest fits =
    let made : known_of maker known.version known.tag ≡ known =
    ap (λ (m : ℕ). known_of m known.version known.tag) (sym (fits.known_by.signed fits.not_initial)) in
    ap (next_known n maker) (append_assoc (version_bytes known.version) known.tag rest)
    ∙ bind_some _ _ _ _ ((version_reader n count).again known.version (known.tag ++ rest) fits.known_by.version_in_range)
    (bind_some _ _ _ _ (tag_reader.again known.tag rest fits.known_by.tag_sized)
    (rw fits.not_initial (ap (λ (k : Known). Some (k, rest)) made)))

pub known_reader : (n : ℕ) → IsClientCount n → (maker : ℕ) → IsReader Known (next_known n maker) known_text (IsSigned n maker)
known_reader n count maker = record { takes = known_takes n count maker; again = known_again n count maker }

-- a spelling that is one byte for the initial version
cond_text : (known : Known) (b : Bool) (x y : List ℕ) → is_initial known.version ≡ b
    → cond (is_initial known.version) x y ≡ cond b x y
cond_text known b x y e = ap (λ (c : Bool). cond c x y) e

signed_takes : (n : ℕ) → IsClientCount n → (maker : ℕ) (bytes : List ℕ) (x : Known × List ℕ) → AreBytes bytes
    → next_signed n maker bytes ≡ Some x → IsRead Known signed_bytes (IsKnownBy n maker) bytes x
unfolding next_signed next_flag signed_bytes
signed_takes n count maker [] x fits e = absurd cc
signed_takes n count maker (zero ∷ bytes) x fits e =
    let text : 0 ∷ [] ≡ signed_bytes (unmade n) =
    sym (cond_text (unmade n) true (0 ∷ []) (1 ∷ known_text (unmade n)) (is_initial-initial n count)) in
    subst (IsRead Known signed_bytes (IsKnownBy n maker) (0 ∷ bytes)) (same_Some _ _ e) (record {
      taken = record { parts = ap (λ (t : List ℕ). t ++ bytes) text; rest_bytes = AreBytes-rest 0 bytes fits };
      fits = IsKnownBy-unmade n maker count;
    })
signed_takes n count maker (suc zero ∷ bytes) x fits e =
    let r = known_takes n count maker bytes x (AreBytes-rest 1 bytes fits) e in
    let text : 1 ∷ known_text x.0 ≡ signed_bytes x.0 = sym (cond_text x.0 false (0 ∷ []) (1 ∷ known_text x.0) r.fits.not_initial) in
    record {
      taken = record {
        parts = ap (λ (t : List ℕ). 1 ∷ t) r.taken.parts
            ∙ ap (λ (t : List ℕ). t ++ x.1) text;
        rest_bytes = r.taken.rest_bytes;
      };
      fits = r.fits.known_by;
    }
signed_takes n count maker (suc (suc b) ∷ bytes) x fits e = absurd cc

signed_again : (n : ℕ) → IsClientCount n → (maker : ℕ) (known : Known) (rest : List ℕ) → IsKnownBy n maker known
    → next_signed n maker (signed_bytes known ++ rest) ≡ Some (known, rest)
unfolding next_signed next_flag signed_bytes
signed_again n count maker known rest fits =
    elim (cases_Bool (is_initial known.version)) [
      | inl h ↦
          ap (λ (t : List ℕ). next_signed n maker (t ++ rest)) (cond_text known true (0 ∷ []) (1 ∷ known_text known) h)
          ∙ ap (λ (k : Known). Some (k, rest)) (sym (unmade-only n maker known fits h))
      | inr h ↦
          ap (λ (t : List ℕ). next_signed n maker (t ++ rest)) (cond_text known false (0 ∷ []) (1 ∷ known_text known) h)
          ∙ known_again n count maker known rest (record { known_by = fits; not_initial = h })
    ]

pub signed_reader : (n : ℕ) → IsClientCount n → (maker : ℕ)
    → IsReader Known (next_signed n maker) signed_bytes (IsKnownBy n maker)
signed_reader n count maker = record { takes = signed_takes n count maker; again = signed_again n count maker }

announced_takes : (n : ℕ) → IsClientCount n → (bytes : List ℕ) (x : Known × List ℕ) → AreBytes bytes
    → next_announced n bytes ≡ Some x → IsRead Known announced (IsAnnouncedFor n) bytes x
unfolding next_announced announced
announced_takes n count [] x fits e = absurd cc
announced_takes n count (k ∷ bytes) x fits e =
    elim (chosen (k == 0) _ _ _ e) [
      | inl w ↦
          let text : k ∷ [] ≡ announced (unmade n) =
          ap (λ (m : ℕ). m ∷ []) (eqb-true k 0 w.0)
          ∙ sym (cond_text (unmade n) true (0 ∷ []) (0 ∷ known_text (unmade n)) (is_initial-initial n count)) in
          subst (IsRead Known announced (IsAnnouncedFor n) (k ∷ bytes)) (same_Some _ _ w.1) (record {
            taken = record { parts = ap (λ (t : List ℕ). t ++ bytes) text; rest_bytes = AreBytes-rest k bytes fits };
            fits = record {
              known_by = IsKnownBy-unmade n 0 count;
              maker_in_range = λ h. absurd (both_ways _ h (is_initial-initial n count));
            };
          })
      | inr w ↦
          let g = unless_ok _ _ _ w.1 in
          let r = known_takes n count k bytes x (AreBytes-rest k bytes fits) g.1 in
          let maker_is : x.0.maker ≡ k = r.fits.known_by.signed r.fits.not_initial in
          let text : k ∷ known_text x.0 ≡ announced x.0 =
          ap (λ (m : ℕ). m ∷ known_text x.0) (sym maker_is)
          ∙ sym (cond_text x.0 false (0 ∷ []) (x.0.maker ∷ known_text x.0) r.fits.not_initial) in
          let c : IsClient n k = record { from_one = one_or_more k (eqb-false k 0 w.0); to_n = ltb-false n k g.0 } in
          record {
            taken = record {
              parts = ap (λ (t : List ℕ). k ∷ t) r.taken.parts
                  ∙ ap (λ (t : List ℕ). t ++ x.1) text;
              rest_bytes = r.taken.rest_bytes;
            };
            fits = record {
              known_by = subst (λ (m : ℕ). IsKnownBy n m x.0) (sym maker_is) r.fits.known_by;
              maker_in_range = λ h. subst (IsClient n) (sym maker_is) c;
            };
          }
    ]
  where
    one_or_more : (k : ℕ) → (k ≡ 0 → ⊥) → 1 ≤ k
    one_or_more k ne = omega (arith, ne)

announced_again : (n : ℕ) → IsClientCount n → (known : Known) (rest : List ℕ) → IsAnnouncedFor n known
    → next_announced n (announced known ++ rest) ≡ Some (known, rest)
unfolding next_announced announced
announced_again n count known rest fits =
    elim (cases_Bool (is_initial known.version)) [
      | inl h ↦
          ap (λ (t : List ℕ). next_announced n (t ++ rest)) (cond_text known true (0 ∷ []) (known.maker ∷ known_text known) h)
          ∙ ap (λ (k : Known). Some (k, rest)) (sym (unmade-only n known.maker known fits.known_by h))
      | inr h ↦
          let c = fits.maker_in_range h in
          let positive : (known.maker == 0) ≡ false = ne_eqb known.maker 0 (λ q. absurd (omega (arith, c.from_one, q))) in
          let low : nat_lt n known.maker ≡ false = le-ltb n known.maker c.to_n in
          ap (λ (t : List ℕ). next_announced n (t ++ rest)) (cond_text known false (0 ∷ []) (known.maker ∷ known_text known) h)
          ∙ rw (positive, low) (known_again n count known.maker known rest (record { known_by = fits.known_by; not_initial = h }))
    ]

pub announced_reader : (n : ℕ) → IsClientCount n → IsReader Known (next_announced n) announced (IsAnnouncedFor n)
announced_reader n count = record { takes = announced_takes n count; again = announced_again n count }

-- ---- tuples

tuple_takes : (n : ℕ) (bytes : List ℕ) (x : Tuple × List ℕ) → AreBytes bytes → next_tuple n bytes ≡ Some x
    → IsRead Tuple tuple_bytes (IsTupleFor n) bytes x
unfolding next_tuple
tuple_takes n bytes x fits e =
    bind_ok (next_up_to n bytes) _ x e (λ a a-is a-then.
    let client = (client_reader n).takes bytes a fits a-is in
    bind_ok (next_kind a.1) _ x a-then (λ b b-is b-then.
    let kind = kind_reader.takes a.1 b client.taken.rest_bytes b-is in
    bind_ok (next_up_to n b.1) _ x b-then (λ c c-is c-then.
    let register = (client_reader n).takes b.1 c kind.taken.rest_bytes c-is in
    bind_ok (next_tag c.1) _ x c-then (λ d d-is d-then.
    let tag = tag_reader.takes c.1 d register.taken.rest_bytes d-is in
    subst (IsRead Tuple tuple_bytes (IsTupleFor n) bytes) (same_Some _ _ d-then) (record {
      taken = takes_then (takes_then (takes_then client.taken kind.taken) register.taken) tag.taken;
      fits = record { client_in_range = client.fits; register_in_range = register.fits; tag_sized = tag.fits };
    })))))

tuple_again : (n : ℕ) (t : Tuple) (rest : List ℕ) → IsTupleFor n t → next_tuple n (tuple_bytes t ++ rest) ≡ Some (t, rest)
unfolding next_tuple
tuple_again n t rest fits =
    bind_some _ _ _ _ ((client_reader n).again t.client _ fits.client_in_range)
    (bind_some _ _ _ _ (kind_reader.again t.kind _ tt)
    (bind_some _ _ _ _ ((client_reader n).again t.register _ fits.register_in_range)
    (bind_some _ _ _ _ (tag_reader.again t.tag rest fits.tag_sized) refl)))

pub tuple_reader : (n : ℕ) → IsReader Tuple (next_tuple n) tuple_bytes (IsTupleFor n)
tuple_reader n = record { takes = tuple_takes n; again = tuple_again n }

-- at most 31 tuples
pub record ArePending (n : ℕ) (tuples : List Tuple) : Type 0 where
  pub few : length tuples ≤ 31
  pub in_range : AllByRecursion (IsTupleFor n) tuples

abbrev pub pending_text : List Tuple → List ℕ
pending_text tuples = length tuples ∷ flat_map tuple_bytes tuples

pending_takes : (n : ℕ) (bytes : List ℕ) (x : List Tuple × List ℕ) → AreBytes bytes → next_pending n bytes ≡ Some x
    → IsRead (List Tuple) pending_text (ArePending n) bytes x
unfolding next_pending
pending_takes n [] x fits e = absurd cc
pending_takes n (k ∷ bytes) x fits e =
    let g = unless_ok _ _ _ e in
    let few : k ≤ 31 = ltb-false 31 k g.0 in
    let r = (items_reader (next_tuple n) tuple_bytes (IsTupleFor n) (tuple_reader n) k).takes bytes x (AreBytes-rest k bytes fits) g.1 in
    record {
      taken = record {
        parts = ap (λ (t : List ℕ). k ∷ t) r.taken.parts
            ∙ ap (λ (m : ℕ). m ∷ (flat_map tuple_bytes x.0 ++ x.1)) (sym r.fits.counted);
        rest_bytes = r.taken.rest_bytes;
      };
      fits = record { few = omega (arith, few, r.fits.counted); in_range = r.fits.fit };
    }

pending_again : (n : ℕ) (tuples : List Tuple) (rest : List ℕ) → ArePending n tuples
    → next_pending n (pending_text tuples ++ rest) ≡ Some (tuples, rest)
unfolding next_pending
pending_again n tuples rest fits =
    let few : nat_lt 31 (length tuples) ≡ false = le-ltb 31 (length tuples) fits.few in
    rw few ((items_reader (next_tuple n) tuple_bytes (IsTupleFor n) (tuple_reader n) (length tuples)).again tuples rest
    (record { counted = refl; fit = fits.in_range }))

pub pending_reader : (n : ℕ) → IsReader (List Tuple) (next_pending n) pending_text (ArePending n)
pending_reader n = record { takes = pending_takes n; again = pending_again n }

-- ---- memories

abbrev mem_text : Mem → List ℕ
mem_text mem = be64 mem.t ++ optional_value_bytes mem.value ++ mem.tag

mem_takes : (bytes : List ℕ) (x : Mem × List ℕ) → AreBytes bytes → next_mem bytes ≡ Some x → IsRead Mem mem_text IsMem bytes x
unfolding next_mem
mem_takes bytes x fits e =
    bind_ok (next_number bytes) _ x e (λ a a-is a-then.
    let t = number_reader.takes bytes a fits a-is in
    bind_ok (optionally next_value a.1) _ x a-then (λ b b-is b-then.
    let value = optional_value_reader.takes a.1 b t.taken.rest_bytes b-is in
    bind_ok (next_tag b.1) _ x b-then (λ c c-is c-then.
    let tag = tag_reader.takes b.1 c value.taken.rest_bytes c-is in
    subst (IsRead Mem mem_text IsMem bytes) (same_Some _ _ c-then) (record {
      taken = takes_then (takes_then t.taken value.taken) tag.taken;
      fits = record { number = t.fits; value_in_range = value.fits; tag_sized = tag.fits };
    }))))

mem_again : (mem : Mem) (rest : List ℕ) → IsMem mem → next_mem (mem_text mem ++ rest) ≡ Some (mem, rest)
unfolding next_mem
mem_again mem rest fits =
    let regrouped : mem_text mem ++ rest ≡ be64 mem.t ++ (optional_value_bytes mem.value ++ (mem.tag ++ rest)) = simp append_assoc in
    ap next_mem regrouped
    ∙ bind_some _ _ _ _ (number_reader.again mem.t (optional_value_bytes mem.value ++ (mem.tag ++ rest)) fits.number)
    (bind_some _ _ _ _ (optional_value_reader.again mem.value (mem.tag ++ rest) fits.value_in_range)
    (bind_some _ _ _ _ (tag_reader.again mem.tag rest fits.tag_sized) refl))

mem_reader : IsReader Mem next_mem mem_text IsMem
mem_reader = record { takes = mem_takes; again = mem_again }

pub memory_reader : IsReader (Option Mem) (λ bytes. optionally next_mem bytes) memory_bytes (λ o. IfSome o IsMem)
memory_reader = optionally_reader next_mem mem_text IsMem memory_bytes mem_reader refl (λ x. refl)

-- ---- read parts

abbrev part_text : ReadPart → List ℕ
part_text part = part.register ∷ (signed_bytes part.version ++ memory_bytes part.mem)

part_takes : (n : ℕ) → IsClientCount n → (bytes : List ℕ) (x : ReadPart × List ℕ) → AreBytes bytes
    → next_read_part n bytes ≡ Some x → IsRead ReadPart part_text (IsReadPartFor n) bytes x
unfolding next_read_part
part_takes n count bytes x fits e =
    bind_ok (next_up_to n bytes) _ x e (λ a a-is a-then.
    let register = (client_reader n).takes bytes a fits a-is in
    bind_ok (next_signed n a.0 a.1) _ x a-then (λ b b-is b-then.
    let version = (signed_reader n count a.0).takes a.1 b register.taken.rest_bytes b-is in
    bind_ok (optionally next_mem b.1) _ x b-then (λ c c-is c-then.
    let mem = memory_reader.takes b.1 c version.taken.rest_bytes c-is in
    subst (IsRead ReadPart part_text (IsReadPartFor n) bytes) (same_Some _ _ c-then) (record {
      taken = takes_then (takes_then register.taken version.taken) mem.taken;
      fits = record { register_in_range = register.fits; version_known = version.fits; mem_in_range = mem.fits };
    }))))

part_again : (n : ℕ) → IsClientCount n → (part : ReadPart) (rest : List ℕ) → IsReadPartFor n part
    → next_read_part n (part_text part ++ rest) ≡ Some (part, rest)
unfolding next_read_part
part_again n count part rest fits =
    let regrouped : part_text part ++ rest ≡ part.register ∷ (signed_bytes part.version ++ (memory_bytes part.mem ++ rest)) =
    ap (λ (t : List ℕ). part.register ∷ t) (append_assoc (signed_bytes part.version) (memory_bytes part.mem) rest) in
    ap (next_read_part n) regrouped
    ∙ bind_some _ _ _ _ ((client_reader n).again part.register
    (signed_bytes part.version ++ (memory_bytes part.mem ++ rest)) fits.register_in_range)
    (bind_some _ _ _ _ ((signed_reader n count part.register).again part.version (memory_bytes part.mem ++ rest) fits.version_known)
    (bind_some _ _ _ _ (memory_reader.again part.mem rest fits.mem_in_range) refl))

part_reader : (n : ℕ) → IsClientCount n → IsReader ReadPart (next_read_part n) part_text (IsReadPartFor n)
part_reader n count = record { takes = part_takes n count; again = part_again n count }

pub read_part_reader : (n : ℕ) → IsClientCount n
    → IsReader (Option ReadPart) (λ bytes. optionally (next_read_part n) bytes) read_part_bytes (λ o. IfSome o (IsReadPartFor n))
read_part_reader n count =
    optionally_reader (next_read_part n) part_text (IsReadPartFor n) read_part_bytes (part_reader n count) refl (λ x. refl)
