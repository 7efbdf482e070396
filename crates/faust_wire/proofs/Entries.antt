-- The reader of versions: timestamps and digests, read side by side.
use Rattle.std.proofs.Common.{◌≡◌, ◌↔◌, ℕ, zero, suc, ◌+◌, ◌-◌, ◌*◌, ◌^◌, ◌<◌, true, false, List, [], ◌∷◌, ◌++◌, length, get_or, replicate, Option, Some, None, refl, sym, ap, subst, ◌∙◌, append_assoc, arith, inl, inr}
use Rattle.std.specs.Prelude.{IfSome, IsNone, is_none, ◌==◌, flat_map, slice_set}
use Rattle.std.specs.List.{AllZip, AllByRecursion}
use Rattle.std.proofs.lemmas.Bool.{eqb-true, eqb-false, eq-eqb, ne_eqb, true≢false, false≢true}
use Rattle.std.proofs.lemmas.Option.{same_Some}
use Rattle.std.proofs.lemmas.List.{append-nil, length_push, length-append, set_at, nil_from_length}
use Rattle.faust_types.specs.Clients.{IsClientCount, IsClient}
use Rattle.faust_types.specs.Versions.{Vector, clients_of, initial}
use Rattle.faust_types.specs.Ranges.{AreBytes, IsDigest, IsVersionFor}
use Rattle.faust_types.specs.Spelling.{be64, optional, version_bytes}
use Rattle.faust_wire.specs.Reading.{next_bytes, next_timestamp, next_optional, next_digest, next_entries, next_version, entered}
use Rattle.faust_wire.proofs.Readers.{bind_ok, bind_some, unless_ok, chosen, Takes, takes_then, IsRead, IsReader}
use Rattle.faust_wire.proofs.SmallParts.{bytes_take, bytes_again, length-be64, timestamp_reader, optional_reader}

-- a timestamp below the limit, and a digest of 32 bytes, which is absent exactly at timestamp 0
pub record IsEntry (t : ℕ) (digest : Option (List ℕ)) : Type 0 where
  pub below : t < 2 ^ 40
  pub absent : IsNone digest ↔ (t ≡ 0)
  pub sized : IfSome digest IsDigest

absent_both : (d : Option (List ℕ)) (t : ℕ) → is_none d ≡ true → (t == 0) ≡ true → IsNone d ↔ (t ≡ 0)
absent_both None t none zero_t = (λ h. eqb-true t 0 zero_t, λ h. refl)
absent_both (Some d) t none zero_t = absurd (false≢true none)

absent_neither : (d : Option (List ℕ)) (t : ℕ) → is_none d ≡ false → (t == 0) ≡ false → IsNone d ↔ (t ≡ 0)
absent_neither None t some positive = absurd (true≢false some)
absent_neither (Some d) t some positive = (λ h. absurd (true≢false h), λ h. absurd (eqb-false t 0 positive h))

pub digest_takes : (t : ℕ) (bytes : List ℕ) (x : Option (List ℕ) × List ℕ) → t < 2 ^ 40 → AreBytes bytes
    → next_digest t bytes ≡ Some x → IsRead (Option (List ℕ)) optional (IsEntry t) bytes x
unfolding next_digest
digest_takes t bytes x lt fits e =
    bind_ok (next_optional bytes) _ x e (λ a a-is a-then.
    let read = optional_reader.takes bytes a fits a-is in
    elim (chosen (is_none a.0) _ _ _ a-then) [
      | inl w ↦
          elim (chosen (t == 0) _ _ _ w.1) [
            | inl v ↦
                subst (IsRead (Option (List ℕ)) optional (IsEntry t) bytes) (same_Some _ _ v.1)
                (record {
                  taken = read.taken;
                  fits = record { below = lt; absent = absent_both a.0 t w.0 v.0; sized = read.fits };
                })
            | inr v ↦ absurd cc
          ]
      | inr w ↦
          let g = unless_ok _ _ _ w.1 in
          subst (IsRead (Option (List ℕ)) optional (IsEntry t) bytes) (same_Some _ _ g.1)
          (record {
            taken = read.taken;
            fits = record { below = lt; absent = absent_neither a.0 t w.0 g.0; sized = read.fits };
          })
    ])

pub digest_again : (t : ℕ) (d : Option (List ℕ)) (rest : List ℕ) → IsEntry t d
    → next_digest t (optional d ++ rest) ≡ Some (d, rest)
unfolding next_digest
digest_again t None rest entry =
    let test : (t == 0) ≡ true = eq-eqb t 0 (entry.absent.0 refl) in
    bind_some _ _ _ _ (optional_reader.again None rest tt) (rw test refl)
digest_again t (Some d) rest entry =
    let test : (t == 0) ≡ false = ne_eqb t 0 (λ q. absurd (true≢false (entry.absent.1 q))) in
    bind_some _ _ _ _ (optional_reader.again (Some d) rest entry.sized) (rw test refl)

-- ---- all entries, one after the other

-- a version of which the first entries are known and the others not yet
abbrev partial : List ℕ → List (Option (List ℕ)) → ℕ → Vector
partial ts ds left = record { timestamps = ts ++ replicate left 0; digests = ds ++ replicate left None }

abbrev vector : List ℕ → List (Option (List ℕ)) → Vector
vector ts ds = record { timestamps = ts; digests = ds }

-- one more entry behind the front, or the first of the others
vector_assoc : (ts0 : List ℕ) (t : ℕ) (ts : List ℕ) (ds0 : List (Option (List ℕ))) (d : Option (List ℕ)) (ds : List (Option (List ℕ)))
    → vector (ts0 ++ t ∷ ts) (ds0 ++ d ∷ ds) ≡ vector ((ts0 ++ t ∷ []) ++ ts) ((ds0 ++ d ∷ []) ++ ds)
vector_assoc ts0 t ts ds0 d ds =
    ap (λ (y : List ℕ). vector y (ds0 ++ d ∷ ds)) (sym (append_assoc ts0 (t ∷ []) ts))
    ∙ ap (vector ((ts0 ++ t ∷ []) ++ ts)) (sym (append_assoc ds0 (d ∷ []) ds))

entered-partial : (ts : List ℕ) (ds : List (Option (List ℕ))) (left k t : ℕ) (d : Option (List ℕ)) → length ts ≡ k → length ds ≡ k
    → IsEntry t d
    → entered (partial ts ds (suc left)) (k + 1) t d ≡ partial (ts ++ t ∷ []) (ds ++ d ∷ []) left
entered-partial ts ds left k t None ts_len ds_len entry =
    let zero_t : t ≡ 0 = entry.absent.0 refl in
    let times : ts ++ 0 ∷ replicate left 0 ≡ (ts ++ t ∷ []) ++ replicate left 0 =
    rw zero_t (sym (append_assoc ts (0 ∷ []) (replicate left 0))) in
    let marks : ds ++ None ∷ replicate left None ≡ (ds ++ None ∷ []) ++ replicate left None =
    sym (append_assoc ds (None ∷ []) (replicate left None)) in
    ap (λ (x : List ℕ). vector x (ds ++ None ∷ replicate left None)) times ∙ ap (vector ((ts ++ t ∷ []) ++ replicate left 0)) marks
entered-partial ts ds left k t (Some d) ts_len ds_len entry =
    let place : (k + 1) - 1 ≡ k = omega arith in
    let times : slice_set (ts ++ 0 ∷ replicate left 0) ((k + 1) - 1) t ≡ (ts ++ t ∷ []) ++ replicate left 0 =
    rw place (set_at ts 0 (replicate left 0) t k ts_len ∙ sym (append_assoc ts (t ∷ []) (replicate left 0))) in
    let marks : slice_set (ds ++ None ∷ replicate left None) ((k + 1) - 1) (Some d) ≡ (ds ++ Some d ∷ []) ++ replicate left None =
    rw place (set_at ds None (replicate left None) (Some d) k ds_len ∙ sym (append_assoc ds (Some d ∷ []) (replicate left None))) in
    ap (λ (x : List ℕ). vector x (slice_set (ds ++ None ∷ replicate left None) ((k + 1) - 1) (Some d))) times
    ∙ ap (vector ((ts ++ t ∷ []) ++ replicate left 0)) marks

record HaveEntries (left : ℕ) (ts0 : List ℕ) (ds0 : List (Option (List ℕ))) (times marks : List ℕ) (x : Vector × List ℕ) : Type 0 where
  ts : List ℕ
  ds : List (Option (List ℕ))
  version : vector (ts0 ++ ts) (ds0 ++ ds) ≡ x.0
  counted : length ts ≡ left
  entries : AllZip IsEntry ts ds
  times_rest : List ℕ
  times_taken : Takes times (flat_map be64 ts) times_rest
  marks_taken : Takes marks (flat_map optional ds) x.1

have_more : (left : ℕ) (ts0 : List ℕ) (ds0 : List (Option (List ℕ))) (times marks : List ℕ) (t : ℕ) (later_times : List ℕ)
    (d : Option (List ℕ)) (later_marks : List ℕ) (x : Vector × List ℕ)
    → Takes times (be64 t) later_times → Takes marks (optional d) later_marks → IsEntry t d
    → HaveEntries left (ts0 ++ t ∷ []) (ds0 ++ d ∷ []) later_times later_marks x → HaveEntries (suc left) ts0 ds0 times marks x
have_more left ts0 ds0 times marks t later_times d later_marks x t-taken d-taken entry others = record {
  ts = t ∷ others.ts;
  ds = d ∷ others.ds;
  version = vector_assoc ts0 t others.ts ds0 d others.ds ∙ others.version;
  counted = ap suc others.counted;
  entries = (entry, others.entries);
  times_rest = others.times_rest;
  times_taken = takes_then t-taken others.times_taken;
  marks_taken = takes_then d-taken others.marks_taken;
}

entries_take : (left k : ℕ) (ts0 : List ℕ) (ds0 : List (Option (List ℕ))) (times marks : List ℕ) (x : Vector × List ℕ)
    → length ts0 ≡ k → length ds0 ≡ k → AreBytes times → AreBytes marks
    → next_entries left k (partial ts0 ds0 left) times marks ≡ Some x → HaveEntries left ts0 ds0 times marks x
unfolding next_entries
entries_take zero k ts0 ds0 times marks x ts_len ds_len times_fit marks_fit e =
    subst (λ (y : Vector × List ℕ). HaveEntries 0 ts0 ds0 times marks y) (same_Some _ _ e) (record {
      ts = [];
      ds = [];
      version = refl;
      counted = refl;
      entries = tt;
      times_rest = times;
      times_taken = record { parts = refl; rest_bytes = times_fit };
      marks_taken = record { parts = refl; rest_bytes = marks_fit };
    })
entries_take (suc left) k ts0 ds0 times marks x ts_len ds_len times_fit marks_fit e =
    bind_ok (next_timestamp times) _ x e (λ a a-is a-then.
    let t = timestamp_reader.takes times a times_fit a-is in
    bind_ok (next_digest a.0 marks) _ x a-then (λ b b-is b-then.
    let d = digest_takes a.0 marks b t.fits marks_fit b-is in
    let same = entered-partial ts0 ds0 left k a.0 b.0 ts_len ds_len d.fits in
    let later : next_entries left (k + 1) (partial (ts0 ++ a.0 ∷ []) (ds0 ++ b.0 ∷ []) left) a.1 b.1 ≡ Some x =
    subst (λ (v : Vector). next_entries left (k + 1) v a.1 b.1 ≡ Some x) same b-then in
    let others = entries_take left (k + 1) (ts0 ++ a.0 ∷ []) (ds0 ++ b.0 ∷ []) a.1 b.1 x
    (omega (arith, length_push ts0 a.0, ts_len))
    (omega (arith, length_push ds0 b.0, ds_len)) t.taken.rest_bytes d.taken.rest_bytes later in
    have_more left ts0 ds0 times marks a.0 a.1 b.0 b.1 x t.taken d.taken d.fits others))

entries_again : (ts : List ℕ) (ds : List (Option (List ℕ))) (k : ℕ) (ts0 : List ℕ) (ds0 : List (Option (List ℕ))) (rest : List ℕ)
    → AllZip IsEntry ts ds → length ts0 ≡ k → length ds0 ≡ k
    → next_entries (length ts) k (partial ts0 ds0 (length ts)) (flat_map be64 ts) (flat_map optional ds ++ rest)
    ≡ Some (vector (ts0 ++ ts) (ds0 ++ ds), rest)
unfolding next_entries
entries_again [] [] k ts0 ds0 rest entries ts_len ds_len = refl
entries_again [] (d ∷ ds) k ts0 ds0 rest entries ts_len ds_len = absurd entries
entries_again (t ∷ ts) [] k ts0 ds0 rest entries ts_len ds_len = absurd entries
entries_again (t ∷ ts) (d ∷ ds) k ts0 ds0 rest entries ts_len ds_len =
    let regrouped : flat_map optional (d ∷ ds) ++ rest ≡ optional d ++ (flat_map optional ds ++ rest) =
    append_assoc (optional d) (flat_map optional ds) rest in
    let same = entered-partial ts0 ds0 (length ts) k t d ts_len ds_len entries.0 in
    let later = entries_again ts ds (k + 1) (ts0 ++ t ∷ []) (ds0 ++ d ∷ []) rest entries.1
    (omega (arith, length_push ts0 t, ts_len)) (omega (arith, length_push ds0 d, ds_len)) in
    ap (λ (m : List ℕ). next_entries (suc (length ts)) k (partial ts0 ds0 (suc (length ts))) (flat_map be64 (t ∷ ts)) m) regrouped
    ∙ bind_some _ _ _ _ (timestamp_reader.again t (flat_map be64 ts) entries.0.below)
    (bind_some _ _ _ _ (digest_again t d (flat_map optional ds ++ rest) entries.0)
    (ap (λ (v : Vector). next_entries (length ts) (k + 1) v (flat_map be64 ts) (flat_map optional ds ++ rest)) same ∙ later
    ∙ ap (λ (v : Vector). Some (v, rest)) (sym (vector_assoc ts0 t ts ds0 d ds))))

-- ---- versions

pub length-timestamps : (ts : List ℕ) → length (flat_map be64 ts) ≡ 8 * length ts
length-timestamps [] = refl
length-timestamps (t ∷ ts) = omega (arith, length-append (be64 t) (flat_map be64 ts), length-be64 t, length-timestamps ts)

entries_from : (ts : List ℕ) (ds : List (Option (List ℕ))) → length ts ≡ length ds
    → ((i : ℕ) → i < length ts → IsEntry (get_or ts i 0) (get_or ds i None)) → AllZip IsEntry ts ds
entries_from [] [] same each = tt
entries_from [] (d ∷ ds) same each = absurd (omega (arith, same))
entries_from (t ∷ ts) [] same each = absurd (omega (arith, same))
entries_from (t ∷ ts) (d ∷ ds) same each =
    (each 0 (omega arith), entries_from ts ds (omega (arith, same)) (λ i lt. each (suc i) (omega (arith, lt))))

entries_at : (ts : List ℕ) (ds : List (Option (List ℕ))) (i : ℕ) → AllZip IsEntry ts ds → i < length ts
    → IsEntry (get_or ts i 0) (get_or ds i None)
entries_at [] [] i entries lt = absurd (omega (arith, lt))
entries_at [] (d ∷ ds) i entries lt = absurd entries
entries_at (t ∷ ts) [] i entries lt = absurd entries
entries_at (t ∷ ts) (d ∷ ds) zero entries lt = entries.0
entries_at (t ∷ ts) (d ∷ ds) (suc i) entries lt = entries_at ts ds i entries.1 (omega (arith, lt))

entries_paired : (ts : List ℕ) (ds : List (Option (List ℕ))) → AllZip IsEntry ts ds → length ds ≡ length ts
entries_paired [] [] entries = refl
entries_paired [] (d ∷ ds) entries = absurd entries
entries_paired (t ∷ ts) [] entries = absurd entries
entries_paired (t ∷ ts) (d ∷ ds) entries = ap suc (entries_paired ts ds entries.1)

pub version_entries : (n : ℕ) (v : Vector) → IsVersionFor n v → AllZip IsEntry v.timestamps v.digests
version_entries n v fits =
    entries_from v.timestamps v.digests (sym fits.kept.paired)
    (λ i lt.
    let back : (i + 1) - 1 ≡ i = omega arith in
    let c : IsClient (clients_of v) (i + 1) = record { from_one = omega arith; to_n = omega (arith, lt) } in
    record {
      below = subst (λ (j : ℕ). get_or v.timestamps j 0 < 2 ^ 40) back (fits.kept.below (i + 1) c);
      absent = subst (λ (j : ℕ). IsNone (get_or v.digests j None) ↔ (get_or v.timestamps j 0 ≡ 0)) back (fits.kept.absent (i + 1) c);
      sized = subst (λ (j : ℕ). IfSome (get_or v.digests j None) IsDigest) back (fits.kept.sized (i + 1) c);
    })

digests_sized : (ts : List ℕ) (ds : List (Option (List ℕ))) → AllZip IsEntry ts ds → AllByRecursion (λ d. IfSome d IsDigest) ds
digests_sized [] [] entries = tt
digests_sized [] (d ∷ ds) entries = absurd entries
digests_sized (t ∷ ts) [] entries = absurd entries
digests_sized (t ∷ ts) (d ∷ ds) entries = (entries.0.sized, digests_sized ts ds entries.1)

-- each digest of a version in range has 32 bytes
pub version_digests : (n : ℕ) (v : Vector) → IsVersionFor n v → AllByRecursion (λ d. IfSome d IsDigest) v.digests
version_digests n v fits = digests_sized v.timestamps v.digests (version_entries n v fits)

version_fits : (n : ℕ) (ts : List ℕ) (ds : List (Option (List ℕ))) → IsClientCount n → length ts ≡ n → AllZip IsEntry ts ds
    → IsVersionFor n (vector ts ds)
version_fits n ts ds count counted entries =
    let at : (k : ℕ) → IsClient n k → IsEntry (get_or ts (k - 1) 0) (get_or ds (k - 1) None) =
    λ k c. entries_at ts ds (k - 1) entries (omega (arith, c.from_one, c.to_n, counted)) in
    let of : (k : ℕ) → IsClient (length ts) k → IsClient n k = λ k c. subst (λ (m : ℕ). IsClient m k) counted c in
    record {
      count = counted;
      kept = record {
        count = subst IsClientCount (sym counted) count;
        paired = entries_paired ts ds entries;
        below = λ k c. (at k (of k c)).below;
        absent = λ k c. (at k (of k c)).absent;
        sized = λ k c. (at k (of k c)).sized;
      };
    }

version_takes : (n : ℕ) → IsClientCount n → (bytes : List ℕ) (x : Vector × List ℕ) → AreBytes bytes
    → next_version n bytes ≡ Some x → IsRead Vector version_bytes (IsVersionFor n) bytes x
unfolding next_version version_bytes
version_takes n count bytes x fits e =
    bind_ok (next_bytes (8 * n) bytes) _ x e (λ a a-is a-then.
    let cut = bytes_take (8 * n) bytes a fits a-is in
    let r = entries_take n 0 [] [] a.0 a.1 x refl refl cut.front_bytes cut.taken.rest_bytes a-then in
    let no_rest : length r.times_rest ≡ 0 =
    omega (
      arith,
      cut.sized,
      ap (λ (z : List ℕ). length z) r.times_taken.parts,
      length-append (flat_map be64 r.ts) r.times_rest,
      length-timestamps r.ts,
      r.counted,
    ) in
    let times : a.0 ≡ flat_map be64 r.ts =
    r.times_taken.parts ∙ ap (λ (z : List ℕ). flat_map be64 r.ts ++ z) (nil_from_length r.times_rest no_rest)
    ∙ append-nil (flat_map be64 r.ts) in
    let taken : Takes bytes (flat_map be64 r.ts ++ flat_map optional r.ds) x.1 =
    takes_then (subst (λ (z : List ℕ). Takes bytes z a.1) times cut.taken) r.marks_taken in
    record {
      taken = subst (λ (v : Vector). Takes bytes (flat_map be64 v.timestamps ++ flat_map optional v.digests) x.1) r.version taken;
      fits = subst (IsVersionFor n) r.version (version_fits n r.ts r.ds count r.counted r.entries);
    })

version_again : (n : ℕ) (v : Vector) (rest : List ℕ) → IsVersionFor n v
    → next_version n (version_bytes v ++ rest) ≡ Some (v, rest)
unfolding next_version version_bytes
version_again n v rest fits =
    let sized : length (flat_map be64 v.timestamps) ≡ 8 * n = omega (arith, length-timestamps v.timestamps, fits.count) in
    let whole : next_entries n 0 (initial n) (flat_map be64 v.timestamps) (flat_map optional v.digests ++ rest) ≡ Some (v, rest) =
    subst (λ (m : ℕ). next_entries m 0 (initial m) (flat_map be64 v.timestamps) (flat_map optional v.digests ++ rest)
    ≡ Some (v, rest)) fits.count (entries_again v.timestamps v.digests 0 [] [] rest
    (version_entries n v fits) refl refl) in
    ap (next_version n) (append_assoc (flat_map be64 v.timestamps) (flat_map optional v.digests) rest)
    ∙ bind_some _ _ _ _ (bytes_again (flat_map be64 v.timestamps) (flat_map optional v.digests ++ rest) (8 * n) sized) whole

pub version_reader : (n : ℕ) → IsClientCount n → IsReader Vector (next_version n) version_bytes (IsVersionFor n)
version_reader n count = record { takes = version_takes n count; again = version_again n }
