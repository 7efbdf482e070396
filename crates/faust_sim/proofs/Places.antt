-- The places of messages between clients: after one more entry, and what stands at them.
use Rattle.std.proofs.Common.{◌≡◌, ◌+◌, ◌-◌, ◌==◌, ◌<◌, ℕ, zero, suc, Bool, true, false, cond, List, [], ◌∷◌, ◌++◌, length, drop, get_or, replicate, Option, Some, refl, sym, ap, ◌∙◌, subst, inl, inr, arith, append_assoc, length-append}
use Rattle.std.specs.Prelude.{option_and_then, option_map, slice_get, slice_set}
use Rattle.std.proofs.lemmas.List.{append-nil, drop_more, length-set, length-replicate, get_or-replicate, get_or_read}
use Rattle.std.proofs.lemmas.Bool.{cases_eq, eq-eqb, ne_eqb}
use Rattle.faust_types.specs.Clients.{IsClient}
use Rattle.faust_types.specs.declared.outcome.Post.{Post}
use Rattle.faust_record.specs.Runs.{entries_of}
use Rattle.faust_record.specs.declared.entry.Entry.{Entry}
use Rattle.faust_record.proofs.Agents.{set-other, set-own}
use Rattle.faust_sim.specs.declared.letters.Place.{Place}
use Rattle.faust_sim.specs.Mail.{mailed, mailed_in, posts_to}
use Rattle.faust_sim.specs.Kept.{AreListed, AreToClients, IsMailOf, letter_at, list_for, lists_of, noted_from, place_at, places_of, places_to, post_at, with_place}

-- one client's lists after the posts of an entry
pub noted-counted : (lists : List (List Place)) (entry index : ℕ) (posts : List Post)
    → length (noted_from lists entry index posts) ≡ length lists
noted-counted lists entry index [] = refl
noted-counted lists entry index (post ∷ rest) =
    let place : Place = place_at entry index in
    noted-counted (with_place lists post.to place) entry (suc index) rest
    ∙ length-set lists (post.to - 1) (list_for lists post.to ++ place ∷ [])

placed-own : (n : ℕ) (lists : List (List Place)) (to j : ℕ) (place : Place) (more : List Place) → length lists ≡ n → IsClient n to
    → to ≡ j → list_for (with_place lists to place) j ++ more ≡ list_for lists j ++ (place ∷ more)
placed-own n lists to j place more counted client own =
    let here : list_for (with_place lists to place) to ≡ list_for lists to ++ place ∷ [] =
    set-own lists to (list_for lists to ++ place ∷ []) [] n counted client in
    subst (λ (k : ℕ). list_for (with_place lists to place) k ++ more ≡ list_for lists k ++ (place ∷ more)) own
    (ap (λ (l : List Place). l ++ more) here ∙ append_assoc (list_for lists to) (place ∷ []) more)

placed-other : (n : ℕ) (lists : List (List Place)) (to j : ℕ) (place : Place) → IsClient n to → IsClient n j
    → (to ≡ j → ⊥) → list_for (with_place lists to place) j ≡ list_for lists j
placed-other n lists to j place client within other =
    set-other lists to j (list_for lists to ++ place ∷ []) [] n client within other

pub noted-listed : (n : ℕ) (lists : List (List Place)) (entry index : ℕ) (posts : List Post) (j : ℕ) → length lists ≡ n
    → AreToClients n posts → IsClient n j
    → list_for (noted_from lists entry index posts) j ≡ list_for lists j ++ places_to j entry index posts
noted-listed n lists entry index [] j counted clients within = sym (append-nil (list_for lists j))
noted-listed n lists entry index (post ∷ rest) j counted clients within =
    let place : Place = place_at entry index in
    let next : List (List Place) = with_place lists post.to place in
    let more : List Place = places_to j entry (suc index) rest in
    let sized : length next ≡ n = length-set lists (post.to - 1) (list_for lists post.to ++ place ∷ []) ∙ counted in
    let later : list_for (noted_from next entry (suc index) rest) j ≡ list_for next j ++ more =
    noted-listed n next entry (suc index) rest j sized clients.1 within in
    elim (cases_eq post.to j) [
      | inl own ↦
          later ∙ placed-own n lists post.to j place more counted clients.0 own
          ∙ ap (λ (b : Bool). list_for lists j ++ cond b (place ∷ more) more) (sym (eq-eqb post.to j own))
      | inr other ↦
          later ∙ ap (λ (l : List Place). l ++ more) (placed-other n lists post.to j place clients.0 within other)
          ∙ ap (λ (b : Bool). list_for lists j ++ cond b (place ∷ more) more) (sym (ne_eqb post.to j other))
    ]

-- one more post of an entry
pub blank-post : Post
blank-post = record { to = 0; bytes = [] }

post-here : (posts : List Post) (index : ℕ) (post d : Post) → index < length posts → post ≡ get_or posts index d
    → drop index posts ≡ post ∷ drop (index + 1) posts
post-here posts index post d inside read =
    drop_more posts index d inside ∙ ap (λ (p : Post). p ∷ drop (index + 1) posts) (sym read)

pub note-client : (n : ℕ) (posts : List Post) (index : ℕ) (post d : Post) → index < length posts → post ≡ get_or posts index d
    → AreToClients n (drop index posts) → IsClient n post.to × AreToClients n (drop (index + 1) posts)
note-client n posts index post d inside read clients = subst (AreToClients n) (post-here posts index post d inside read) clients

pub note-step : (lists next : List (List Place)) (entry index : ℕ) (posts : List Post) (post d : Post) → index < length posts
    → post ≡ get_or posts index d → next ≡ with_place lists post.to (place_at entry index)
    → noted_from next entry (index + 1) (drop (index + 1) posts) ≡ noted_from lists entry index (drop index posts)
note-step lists next entry index posts post d inside read is =
    let later : index + 1 ≡ suc index = omega arith in
    ap (λ (l : List (List Place)). noted_from l entry (index + 1) (drop (index + 1) posts)) is
    ∙ ap (λ (k : ℕ). noted_from (with_place lists post.to (place_at entry index)) entry k (drop (index + 1) posts)) later
    ∙ ap (noted_from lists entry index) (sym (post-here posts index post d inside read))

pub note-sized : (lists next : List (List Place)) (to : ℕ) (place : Place) → next ≡ with_place lists to place → length lists ≡ length next
note-sized lists next to place is =
    sym (ap (λ (l : List (List Place)). length l) is ∙ length-set lists (to - 1) (list_for lists to ++ place ∷ []))

-- the places after one more entry
places-append : (i j q : ℕ) (xs : List Entry) (e : Entry)
    → places_of i j q (xs ++ e ∷ []) ≡ places_of i j q xs ++ cond (e.client == i) (places_to j (q + length xs) 0 e.outcome.to_peers) []
places-append i j q [] e =
    let same : q ≡ q + 0 = omega arith in
    append-nil (cond (e.client == i) (places_to j q 0 e.outcome.to_peers) [])
    ∙ ap (λ (k : ℕ). cond (e.client == i) (places_to j k 0 e.outcome.to_peers) []) same
places-append i j q (x ∷ xs) e =
    let front : List Place = cond (x.client == i) (places_to j q 0 x.outcome.to_peers) [] in
    let same : suc q + length xs ≡ q + suc (length xs) = omega arith in
    ap (λ (l : List Place). front ++ l) (places-append i j (suc q) xs e
    ∙ ap (λ (k : ℕ). places_of i j (suc q) xs ++ cond (e.client == i) (places_to j k 0 e.outcome.to_peers) []) same)
    ∙ sym (append_assoc front (places_of i j (suc q) xs) _)

places-own : (i j : ℕ) (xs : List Entry) (e : Entry) → e.client ≡ i
    → places_of i j 0 (xs ++ e ∷ []) ≡ places_of i j 0 xs ++ places_to j (length xs) 0 e.outcome.to_peers
places-own i j xs e own =
    let same : 0 + length xs ≡ length xs = omega arith in
    places-append i j 0 xs e
    ∙ ap (λ (b : Bool). places_of i j 0 xs ++ cond b (places_to j (0 + length xs) 0 e.outcome.to_peers) []) (eq-eqb e.client i own)
    ∙ ap (λ (k : ℕ). places_of i j 0 xs ++ places_to j k 0 e.outcome.to_peers) same

places-other : (i j : ℕ) (xs : List Entry) (e : Entry) → (e.client ≡ i → ⊥) → places_of i j 0 (xs ++ e ∷ []) ≡ places_of i j 0 xs
places-other i j xs e other =
    places-append i j 0 xs e
    ∙ ap (λ (b : Bool). places_of i j 0 xs ++ cond b (places_to j (0 + length xs) 0 e.outcome.to_peers) []) (ne_eqb e.client i other)
    ∙ append-nil (places_of i j 0 xs)

-- all lists after one more entry
listed-other : (n i : ℕ) (lists : List (List Place)) (xs : List Entry) (e : Entry) → (e.client ≡ i → ⊥) → AreListed n i lists xs
    → AreListed n i lists (xs ++ e ∷ [])
listed-other n i lists xs e other listed = record {
  counted = listed.counted;
  each = λ j within. listed.each j within ∙ sym (places-other i j xs e other);
}

listed-own : (n i : ℕ) (lists : List (List Place)) (xs : List Entry) (e : Entry) → e.client ≡ i → AreToClients n e.outcome.to_peers
    → AreListed n i lists xs → AreListed n i (noted_from lists (length xs) 0 e.outcome.to_peers) (xs ++ e ∷ [])
listed-own n i lists xs e own clients listed = record {
  counted = noted-counted lists (length xs) 0 e.outcome.to_peers ∙ listed.counted;
  each = λ j within. noted-listed n lists (length xs) 0 e.outcome.to_peers j listed.counted clients within
      ∙ ap (λ (l : List Place). l ++ places_to j (length xs) 0 e.outcome.to_peers) (listed.each j within)
      ∙ sym (places-own i j xs e own);
}

pub mail-noted : (n : ℕ) (mail : List (List (List Place))) (xs : List Entry) (e : Entry) (now : List (List Place))
    → IsMailOf n mail xs → IsClient n e.client → AreToClients n e.outcome.to_peers
    → now ≡ noted_from (lists_of mail e.client) (length xs) 0 e.outcome.to_peers
    → IsMailOf n (slice_set mail (e.client - 1) now) (xs ++ e ∷ [])
mail-noted n mail xs e now kept client clients is = record {
  counted = length-set mail (e.client - 1) now ∙ kept.counted;
  each = λ i within. elim (cases_eq e.client i) [
    | inl own ↦
        let noted : AreListed n e.client now (xs ++ e ∷ []) =
        subst (λ (l : List (List Place)). AreListed n e.client l (xs ++ e ∷ [])) (sym is)
        (listed-own n e.client (lists_of mail e.client) xs e refl clients (kept.each e.client client)) in
        let here : AreListed n e.client (lists_of (slice_set mail (e.client - 1) now) e.client) (xs ++ e ∷ []) =
        subst (λ (l : List (List Place)). AreListed n e.client l (xs ++ e ∷ []))
        (sym (set-own mail e.client now [] n kept.counted client)) noted in
        subst (λ (k : ℕ). AreListed n k (lists_of (slice_set mail (e.client - 1) now) k) (xs ++ e ∷ [])) own here
    | inr other ↦
        subst (λ (l : List (List Place)). AreListed n i l (xs ++ e ∷ []))
        (sym (set-other mail e.client i now [] n client within other))
        (listed-other n i (lists_of mail i) xs e other (kept.each i within))
  ];
}

-- at first
listed-first : (n i : ℕ) → AreListed n i (replicate n []) []
listed-first n i = record {
  counted = length-replicate n [];
  each = λ j within. get_or-replicate n (j - 1) [] [] (omega (arith, within.from_one, within.to_n));
}

pub mail-first : (n : ℕ) → IsMailOf n (replicate n (replicate n [])) []
mail-first n = record {
  counted = length-replicate n (replicate n []);
  each = λ i within. subst (λ (l : List (List Place)). AreListed n i l [])
      (sym (get_or-replicate n (i - 1) (replicate n []) [] (omega (arith, within.from_one, within.to_n)))) (listed-first n i);
}

-- what stands at places: these messages
abbrev AreAt : List Entry → List Place → List (List ℕ) → Type 0
AreAt all [] [] = Unit {0}
AreAt all [] (message ∷ messages) = ⊥
AreAt all (place ∷ places) [] = ⊥
AreAt all (place ∷ places) (message ∷ messages) = (letter_at all place ≡ Some message) × AreAt all places messages

at-append : (all : List Entry) (ps qs : List Place) (ms ns : List (List ℕ)) → AreAt all ps ms → AreAt all qs ns
    → AreAt all (ps ++ qs) (ms ++ ns)
at-append all [] qs [] ns front back = back
at-append all [] qs (m ∷ ms) ns front back = absurd front
at-append all (p ∷ ps) qs [] ns front back = absurd front
at-append all (p ∷ ps) qs (m ∷ ms) ns front back = (front.0, at-append all ps qs ms ns front.1 back)

at-get : (all : List Entry) (ps : List Place) (ms : List (List ℕ)) (k : ℕ) → AreAt all ps ms
    → slice_get ms k ≡ option_and_then (letter_at all) (slice_get ps k)
at-get all [] [] k at = refl
at-get all [] (m ∷ ms) k at = absurd at
at-get all (p ∷ ps) [] k at = absurd at
at-get all (p ∷ ps) (m ∷ ms) zero at = sym at.0
at-get all (p ∷ ps) (m ∷ ms) (suc k) at = at-get all ps ms k at.1

pub get-middle : {X : Type 0} (front : List X) (x : X) (rest : List X) (k : ℕ) → k ≡ length front
    → slice_get (front ++ x ∷ rest) k ≡ Some x
get-middle {X} [] x rest k is = ap (λ (j : ℕ). slice_get (x ∷ rest) j) is
get-middle {X} (y ∷ front) x rest k is =
    ap (λ (j : ℕ). slice_get ((y ∷ front) ++ x ∷ rest) j) is ∙ get-middle front x rest (length front) refl

pub last-item : {X : Type 0} (front : List X) (x : X) → slice_get (front ++ x ∷ []) (length (front ++ x ∷ []) - 1) ≡ Some x
last-item {X} front x =
    get-middle front x [] (length (front ++ x ∷ []) - 1) (omega (arith, length-append front (x ∷ [])))

at-choice : (all : List Entry) (b : Bool) (place : Place) (message : List ℕ) (ps : List Place) (ms : List (List ℕ))
    → letter_at all place ≡ Some message → AreAt all ps ms → AreAt all (cond b (place ∷ ps) ps) (cond b (message ∷ ms) ms)
at-choice all true place message ps ms here rest = (here, rest)
at-choice all false place message ps ms here rest = rest

letter-here : (all : List Entry) (q index : ℕ) (e : Entry) (front rest : List Post) (post : Post) → slice_get all q ≡ Some e
    → e.outcome.to_peers ≡ front ++ post ∷ rest → index ≡ length front → letter_at all (place_at q index) ≡ Some post.bytes
letter-here all q index e front rest post found posts is =
    ap (λ (o : Option Entry). option_map (λ (p : Post). p.bytes) (option_and_then (post_at index) o)) found
    ∙ ap (λ (l : List Post). option_map (λ (p : Post). p.bytes) (slice_get l index)) posts
    ∙ ap (λ (o : Option Post). option_map (λ (p : Post). p.bytes) o) (get-middle front post rest index is)

posts-at : (all : List Entry) (j q index : ℕ) (e : Entry) (front posts : List Post) → slice_get all q ≡ Some e
    → e.outcome.to_peers ≡ front ++ posts → index ≡ length front → AreAt all (places_to j q index posts) (posts_to j posts)
posts-at all j q index e front [] found whole is = tt
posts-at all j q index e front (post ∷ rest) found whole is =
    let next : e.outcome.to_peers ≡ (front ++ post ∷ []) ++ rest = whole ∙ sym (append_assoc front (post ∷ []) rest) in
    let longer : suc index ≡ length (front ++ post ∷ []) = omega (arith, is, length-append front (post ∷ [])) in
    at-choice all (post.to == j) (place_at q index) post.bytes (places_to j q (suc index) rest) (posts_to j rest)
    (letter-here all q index e front rest post found whole is) (posts-at all j q (suc index) e (front ++ post ∷ []) rest found next longer)

own-choice : (all : List Entry) (b : Bool) (j : ℕ) (e : Entry) (here rest : List Place) (own : List Entry)
    → AreAt all here (posts_to j e.outcome.to_peers) → AreAt all rest (mailed_in j own)
    → AreAt all (cond b here [] ++ rest) (mailed_in j (cond b (e ∷ own) own))
own-choice all true j e here rest own at more = at-append all here rest (posts_to j e.outcome.to_peers) (mailed_in j own) at more
own-choice all false j e here rest own at more = more

entries-at : (all : List Entry) (i j q : ℕ) (before xs : List Entry) → all ≡ before ++ xs → q ≡ length before
    → AreAt all (places_of i j q xs) (mailed_in j (entries_of i xs))
entries-at all i j q before [] whole is = tt
entries-at all i j q before (x ∷ xs) whole is =
    let next : all ≡ (before ++ x ∷ []) ++ xs = whole ∙ sym (append_assoc before (x ∷ []) xs) in
    let longer : suc q ≡ length (before ++ x ∷ []) = omega (arith, is, length-append before (x ∷ [])) in
    let found : slice_get all q ≡ Some x = ap (λ (l : List Entry). slice_get l q) whole ∙ get-middle before x xs q is in
    own-choice all (x.client == i) j x (places_to j q 0 x.outcome.to_peers) (places_of i j (suc q) xs) (entries_of i xs)
    (posts-at all j q 0 x [] x.outcome.to_peers found refl refl) (entries-at all i j (suc q) (before ++ x ∷ []) xs next longer)

-- the k-th message from client i to client j
pub letter-by-place : (i j k : ℕ) (entries : List Entry)
    → slice_get (mailed i j entries) k ≡ option_and_then (letter_at entries) (slice_get (places_of i j 0 entries) k)
letter-by-place i j k entries =
    at-get entries (places_of i j 0 entries) (mailed i j entries) k (entries-at entries i j 0 [] entries refl refl)

-- the same by the lists in memory
pub lists-read : (n : ℕ) (mail : List (List (List Place))) (entries : List Entry) (i : ℕ) (lists : List (List Place))
    → IsMailOf n mail entries → IsClient n i → lists ≡ get_or mail (i - 1) lists → lists ≡ lists_of mail i
lists-read n mail entries i lists kept client read =
    let inside : i - 1 < length mail = omega (arith, kept.counted, client.from_one, client.to_n) in
    get_or_read mail (i - 1) lists inside read []

pub letter-read : (n : ℕ) (mail : List (List (List Place))) (entries : List Entry) (i j k : ℕ) (lists : List (List Place))
    → IsMailOf n mail entries → IsClient n i → IsClient n j → lists ≡ get_or mail (i - 1) lists
    → slice_get (mailed i j entries) k ≡ option_and_then (letter_at entries) (slice_get (list_for lists j) k)
letter-read n mail entries i j k lists kept client within read =
    let here : list_for lists j ≡ places_of i j 0 entries =
    ap (λ (l : List (List Place)). list_for l j) (lists-read n mail entries i lists kept client read)
    ∙ (kept.each i client).each j within in
    letter-by-place i j k entries
    ∙ ap (λ (l : List Place). option_and_then (letter_at entries) (slice_get l k)) (sym here)

pub lists-sized : (n : ℕ) (mail : List (List (List Place))) (entries : List Entry) (i : ℕ) (lists : List (List Place))
    → IsMailOf n mail entries → IsClient n i → lists ≡ get_or mail (i - 1) lists → length lists ≡ n
lists-sized n mail entries i lists kept client read =
    ap (λ (l : List (List Place)). length l) (lists-read n mail entries i lists kept client read) ∙ (kept.each i client).counted
