-- A reader and a spelling that fit: what is read is spelled so, and what is spelled so is read again, whatever
-- follows. Readers of optional pieces and of lists are made from that of one piece.
use Rattle.std.proofs.Common.{◌≡◌, ℕ, zero, suc, ◌+◌, Bool, true, false, cond, List, [], ◌∷◌, ◌++◌, length, take, drop, Option, Some, None, refl, sym, ap, subst, ◌∙◌, append_assoc, arith, inl, inr, ◌⊎◌}
use Rattle.std.specs.Prelude.{IfSome, flat_map}
use Rattle.std.specs.List.{AllByRecursion}
use Rattle.std.proofs.lemmas.Bool.{cases_lt}
use Rattle.std.proofs.lemmas.Option.{same_Some}
use Rattle.std.proofs.lemmas.List.{append-nil, length-take, get_or-drop, get_or-take, get_or_past}
use Rattle.faust_types.specs.Ranges.{AreBytes}
use Rattle.faust_wire.specs.Reading.{◌>>=◌, next_flag, optionally, next_items}

-- the value of a step that did not fail
pub bind_ok : {A B P : Type 0} (r : Option A) (f : A → Option B) (y : B) → (r >>= f) ≡ Some y
    → ((x : A) → r ≡ Some x → f x ≡ Some y → P) → P
bind_ok (Some x) f y e then = then x refl e
bind_ok None f y e then = absurd cc

-- a step that does not fail, and what comes after it
pub bind_some : {A B : Type 0} (r : Option A) (x : A) (f : A → Option B) (y : Option B) → r ≡ Some x → f x ≡ y → (r >>= f) ≡ y
bind_some (Some z) x f y e h = ap f (same_Some z x e) ∙ h
bind_some None x f y e h = absurd cc

-- a test that did not refuse
pub unless_ok : {A : Type 0} (b : Bool) (r : Option A) (y : A) → cond b None r ≡ Some y → (b ≡ false) × (r ≡ Some y)
unless_ok true r y e = absurd cc
unless_ok false r y e = (refl, e)

pub if_ok : {A : Type 0} (b : Bool) (r : Option A) (y : A) → cond b r None ≡ Some y → (b ≡ true) × (r ≡ Some y)
if_ok true r y e = (refl, e)
if_ok false r y e = absurd cc

pub chosen : {A : Type 0} (b : Bool) (x y z : A) → cond b x y ≡ z → ((b ≡ true) × (x ≡ z)) ⊎ ((b ≡ false) × (y ≡ z))
chosen true x y z e = inl (refl, e)
chosen false x y z e = inr (refl, e)

pub AreBytes-drop : (n : ℕ) (bytes : List ℕ) → AreBytes bytes → AreBytes (drop n bytes)
AreBytes-drop n bytes h i = rw get_or-drop (h (n + i))

pub AreBytes-take : (n : ℕ) (bytes : List ℕ) → AreBytes bytes → AreBytes (take n bytes)
AreBytes-take n bytes h i =
    elim (cases_lt i n) [
      | inl lt ↦ rw (get_or-take n bytes i 0 lt) (h i)
      | inr le ↦ rw (get_or_past (take n bytes) i 0 (omega (arith, length-take n bytes))) (omega arith)
    ]

pub AreBytes-rest : (b : ℕ) (bytes : List ℕ) → AreBytes (b ∷ bytes) → AreBytes bytes
AreBytes-rest b bytes h i = h (suc i)

-- what a reader took from the front
pub record Takes (bytes text rest : List ℕ) : Type 0 where
  pub parts : bytes ≡ text ++ rest
  pub rest_bytes : AreBytes rest

pub takes_then : {a x b y c : List ℕ} → Takes a x b → Takes b y c → Takes a (x ++ y) c
takes_then {a} {x} {b} {y} {c} p q =
    record { parts = p.parts ∙ ap (λ (t : List ℕ). x ++ t) q.parts ∙ sym (append_assoc x y c); rest_bytes = q.rest_bytes }

pub record IsRead (X : Type 0) (spell : X → List ℕ) (Fits : X → Type 0) (bytes : List ℕ) (x : X × List ℕ) : Type 0 where
  pub taken : Takes bytes (spell x.0) x.1
  pub fits : Fits x.0

pub record IsReader (X : Type 0) (next : List ℕ → Option (X × List ℕ)) (spell : X → List ℕ) (Fits : X → Type 0) : Type 0 where
  pub takes : (bytes : List ℕ) (x : X × List ℕ) → AreBytes bytes → next bytes ≡ Some x → IsRead X spell Fits bytes x
  pub again : (x : X) (rest : List ℕ) → Fits x → next (spell x ++ rest) ≡ Some (x, rest)

-- ---- an optional piece

optionally_takes : {X : Type 0} (next : List ℕ → Option (X × List ℕ)) (spell : X → List ℕ) (Fits : X → Type 0) (text : Option X → List ℕ)
    → IsReader X next spell Fits → text None ≡ 0 ∷ [] → ((x : X) → text (Some x) ≡ 1 ∷ spell x)
    → (bytes : List ℕ) (x : Option X × List ℕ) → AreBytes bytes → optionally next bytes ≡ Some x
    → IsRead (Option X) text (λ o. IfSome o Fits) bytes x
unfolding next_flag
optionally_takes {X} next spell Fits text reader none some [] x fits e = absurd cc
optionally_takes {X} next spell Fits text reader none some (zero ∷ bytes) x fits e =
    subst (λ (y : Option X × List ℕ). IsRead (Option X) text (λ o. IfSome o Fits) (0 ∷ bytes) y) (same_Some _ _ e)
    (record {
      taken = record {
        parts = ap (λ (t : List ℕ). t ++ bytes) (sym none);
        rest_bytes = AreBytes-rest 0 bytes fits;
      };
      fits = tt;
    })
optionally_takes {X} next spell Fits text reader none some (suc zero ∷ bytes) x fits e =
    bind_ok (next bytes) _ x e (λ a a-is a-then.
    let t = reader.takes bytes a (AreBytes-rest 1 bytes fits) a-is in
    let parts : 1 ∷ bytes ≡ text (Some a.0) ++ a.1 =
    ap (λ (w : List ℕ). 1 ∷ w) t.taken.parts ∙ ap (λ (w : List ℕ). w ++ a.1) (sym (some a.0)) in
    subst (λ (y : Option X × List ℕ). IsRead (Option X) text (λ o. IfSome o Fits) (1 ∷ bytes) y) (same_Some _ _ a-then)
    (record { taken = record { parts = parts; rest_bytes = t.taken.rest_bytes }; fits = t.fits }))
optionally_takes {X} next spell Fits text reader none some (suc (suc b) ∷ bytes) x fits e = absurd cc

optionally_again : {X : Type 0} (next : List ℕ → Option (X × List ℕ)) (spell : X → List ℕ) (Fits : X → Type 0) (text : Option X → List ℕ)
    → IsReader X next spell Fits → text None ≡ 0 ∷ [] → ((x : X) → text (Some x) ≡ 1 ∷ spell x)
    → (o : Option X) (rest : List ℕ) → IfSome o Fits → optionally next (text o ++ rest) ≡ Some (o, rest)
unfolding next_flag
optionally_again next spell Fits text reader none some None rest fits = ap (λ (t : List ℕ). optionally next (t ++ rest)) none
optionally_again next spell Fits text reader none some (Some x) rest fits =
    ap (λ (t : List ℕ). optionally next (t ++ rest)) (some x) ∙ bind_some _ _ _ _ (reader.again x rest fits) refl

pub optionally_reader : {X : Type 0} (next : List ℕ → Option (X × List ℕ)) (spell : X → List ℕ) (Fits : X → Type 0)
    (text : Option X → List ℕ)
    → IsReader X next spell Fits → text None ≡ 0 ∷ [] → ((x : X) → text (Some x) ≡ 1 ∷ spell x)
    → IsReader (Option X) (λ bytes. optionally next bytes) text (λ o. IfSome o Fits)
optionally_reader next spell Fits text reader none some = record {
  takes = optionally_takes next spell Fits text reader none some;
  again = optionally_again next spell Fits text reader none some;
}

-- ---- so many pieces

pub record HaveBeenRead (X : Type 0) (spell : X → List ℕ) (Fits : X → Type 0) (n : ℕ) (front : List X) (bytes : List ℕ)
    (x : List X × List ℕ) : Type 0 where
  pub items : List X
  pub all : front ++ items ≡ x.0
  pub counted : length items ≡ n
  pub taken : Takes bytes (flat_map spell items) x.1
  pub fit : AllByRecursion Fits items

items_take : {X : Type 0} (next : List ℕ → Option (X × List ℕ)) (spell : X → List ℕ) (Fits : X → Type 0)
    → IsReader X next spell Fits
    → (n : ℕ) (front : List X) (bytes : List ℕ) (x : List X × List ℕ) → AreBytes bytes
    → next_items next n front bytes ≡ Some x → HaveBeenRead X spell Fits n front bytes x
unfolding next_items
items_take {X} next spell Fits reader zero front bytes x fits e =
    subst (λ (y : List X × List ℕ). HaveBeenRead X spell Fits 0 front bytes y) (same_Some _ _ e)
    (record {
      items = [];
      all = append-nil front;
      counted = refl;
      taken = record { parts = refl; rest_bytes = fits };
      fit = tt;
    })
items_take {X} next spell Fits reader (suc n) front bytes x fits e =
    bind_ok (next bytes) _ x e (λ a a-is a-then.
    let t = reader.takes bytes a fits a-is in
    let others = items_take next spell Fits reader n (front ++ a.0 ∷ []) a.1 x t.taken.rest_bytes a-then in
    record {
      items = a.0 ∷ others.items;
      all = sym (append_assoc front (a.0 ∷ []) others.items) ∙ others.all;
      counted = ap suc others.counted;
      taken = takes_then t.taken others.taken;
      fit = (t.fits, others.fit);
    })

items_again : {X : Type 0} (next : List ℕ → Option (X × List ℕ)) (spell : X → List ℕ) (Fits : X → Type 0)
    → IsReader X next spell Fits
    → (xs front : List X) (rest : List ℕ) → AllByRecursion Fits xs
    → next_items next (length xs) front (flat_map spell xs ++ rest) ≡ Some (front ++ xs, rest)
unfolding next_items
items_again {X} next spell Fits reader [] front rest fits = ap (λ (ys : List X). Some (ys, rest)) (sym (append-nil front))
items_again {X} next spell Fits reader (x ∷ xs) front rest fits =
    let regrouped : flat_map spell (x ∷ xs) ++ rest ≡ spell x ++ (flat_map spell xs ++ rest) =
    append_assoc (spell x) (flat_map spell xs) rest in
    ap (λ (t : List ℕ). next_items next (suc (length xs)) front t) regrouped
    ∙ bind_some _ _ _ _ (reader.again x (flat_map spell xs ++ rest) fits.0)
    (items_again next spell Fits reader xs (front ++ x ∷ []) rest fits.1
    ∙ ap (λ (ys : List X). Some (ys, rest)) (append_assoc front (x ∷ []) xs))

-- what is said of the items, as many as were asked for
pub record AreItems (X : Type 0) (Fits : X → Type 0) (n : ℕ) (items : List X) : Type 0 where
  pub counted : length items ≡ n
  pub fit : AllByRecursion Fits items

pub items_reader : {X : Type 0} (next : List ℕ → Option (X × List ℕ)) (spell : X → List ℕ) (Fits : X → Type 0)
    → IsReader X next spell Fits
    → (n : ℕ) → IsReader (List X) (next_items next n []) (flat_map spell) (AreItems X Fits n)
items_reader {X} next spell Fits reader n = record {
  takes = λ bytes x fits e.
      let r = items_take next spell Fits reader n [] bytes x fits e in
      record {
        taken = subst (λ (ys : List X). Takes bytes (flat_map spell ys) x.1) r.all r.taken;
        fits = subst (λ (ys : List X). AreItems X Fits n ys) r.all (record { counted = r.counted; fit = r.fit });
      };
  again = λ xs rest fits. subst (λ (k : ℕ). next_items next k [] (flat_map spell xs ++ rest) ≡ Some (xs, rest)) fits.counted
      (items_again next spell Fits reader xs [] rest fits.fit);
}
