-- Tokens read one by one.
use Rattle.std.proofs.Common.{◌≡◌, ℕ, ◌+◌, ◌-◌, ◌<◌, ◌≤◌, zero, suc, min, true, false, cond, eqb, List, [], ◌∷◌, ◌++◌, length, get_or, take, drop, map, Option, Some, None, refl, sym, ap, ◌∙◌, subst, ◌⊎◌, inl, inr, arith, length-drop, length-append, append_assoc, add-one}
use Rattle.std.proofs.lemmas.List.{at_drop_more, drop-drop, length-take, take-append-drop, drop_all, drop_more, take_all, take_at, drop_at, append-nil}
use Rattle.std.proofs.lemmas.Bool.{cond-true, cond-false, cases_Bool, eqb-true, eq-eqb, or_parts}
use Rattle.std.proofs.lemmas.Bool.Decides.{nat_tests}
use Rattle.std.specs.Prelude.{slice_range}
use Rattle.std.specs.List.{list_any}
use Rattle.std.specs.Option.{option_map_or}
use Rattle.faust_text.specs.Tokens.{len_before, token_len, first_token, without_blank, after_token, token_rests_up_to, token_rests, token_place, token_places, tokens_of, tokens_left, joined, IsPlainToken, CanBeJoined}
use Rattle.faust_text.specs.Lines.{IsWithout, text_in}
use Rattle.faust_text.specs.declared.line.Span.{Span}

pub len_before-le : (b : ℕ) (xs : List ℕ) → len_before b xs ≤ length xs
len_before-le b [] = omega arith
len_before-le b (x ∷ xs) = let more : len_before b xs ≤ length xs = len_before-le b xs in
    elim (eqb x b) as (λ t. cond t 0 (suc (len_before b xs)) ≤ suc (length xs)) [ true ↦ omega arith | false ↦ omega arith ]

pub len_before-at : (b : ℕ) (xs : List ℕ) (i : ℕ) → i < length xs
    → len_before b (drop i xs) ≡ cond (eqb (get_or xs i 0) b) 0 (suc (len_before b (drop (i + 1) xs)))
len_before-at b xs i below = at_drop_more (len_before b) xs i 0 below

-- A token ends within its line.
pub token_len-le : (line : List ℕ) → token_len line ≤ length line
token_len-le [] = omega arith
token_len-le (b ∷ bs) =
    let plain : len_before 32 (b ∷ bs) ≤ length (b ∷ bs) = len_before-le 32 (b ∷ bs) in
    elim (eqb b 34) as (λ t. cond t (min (len_before 34 bs + 2) (suc (length bs))) (len_before 32 (b ∷ bs)) ≤ suc (length bs)) [
      | true ↦
          omega arith
      | false ↦ plain
    ]

-- What is left of a line is shorter.
shorter_behind : (line behind rest : List ℕ) → without_blank behind ≡ Some rest → length behind ≤ length line
    → (length behind ≡ length line → get_or behind 0 0 ≡ 32) → length rest < length line
shorter_behind line [] rest found fits same = absurd (cc)
shorter_behind line (b ∷ bs) rest found fits same =
    elim (cases_Bool (eqb b 32)) [
      | inl blank ↦ let e : bs ≡ rest = let f = cond-true (eqb b 32) bs (b ∷ bs) blank in cc in
          let l = ap length e in omega arith
      | inr other ↦ let e : b ∷ bs ≡ rest = let f = cond-false (eqb b 32) bs (b ∷ bs) other in cc in
          let l = ap length e in
          let apart : suc (length bs) ≡ length line → ⊥ = λ h. let m = same h in grind (arith, nat_tests) in
          omega arith
    ]

first_blank : (b : ℕ) (bs : List ℕ) → token_len (b ∷ bs) ≡ 0 → b ≡ 32
first_blank b bs =
    elim (cases_Bool (eqb b 34)) as (λ _. token_len (b ∷ bs) ≡ 0 → b ≡ 32) [
      | inl quoted ↦ λ none. absurd (let e = cond-true (eqb b 34) (min (len_before 34 bs + 2) (suc (length bs)))
          (len_before 32 (b ∷ bs)) quoted in let n : min (len_before 34 bs + 2) (suc (length bs)) ≡ 0 = sym e ∙ none in omega arith)
      | inr plain ↦ λ none. let e = cond-false (eqb b 34) (min (len_before 34 bs + 2) (suc (length bs))) (len_before 32 (b ∷ bs)) plain in
          elim (cases_Bool (eqb b 32)) [
            | inl blank ↦ eqb-true b 32 blank
            | inr other ↦ let f = cond-false (eqb b 32) 0 (suc (len_before 32 bs)) other in let n : suc (len_before 32 bs) ≡ 0 = sym f
                ∙ (sym e ∙ none) in absurd (omega arith)
          ]
    ]

pub after_token-shorter : (line rest : List ℕ) → after_token line ≡ Some rest → length rest < length line
after_token-shorter [] rest found = absurd (cc)
after_token-shorter (b ∷ bs) rest found =
    let n = token_len (b ∷ bs) in
    shorter_behind (b ∷ bs) (drop n (b ∷ bs)) rest found (omega (arith, length-drop n (b ∷ bs)))
    (λ same. let none : token_len (b ∷ bs) ≡ 0 = omega (arith, length-drop n (b ∷ bs), token_len-le (b ∷ bs)) in
    ap (λ k. get_or (drop k (b ∷ bs)) 0 0) none ∙ first_blank b bs none)

-- Asking for more tokens than there are changes nothing.
token_rests-enough : (m n : ℕ) (line : List ℕ) → length line < m → length line < n → token_rests_up_to m line ≡ token_rests_up_to n line
token_rests-enough zero n line few enough = absurd (omega arith)
token_rests-enough (suc m) zero line few enough = absurd (omega arith)
token_rests-enough (suc m) (suc n) line few enough =
    let at : (o : Option (List ℕ)) → after_token line ≡ o
    → option_map_or (token_rests_up_to m) o [] ≡ option_map_or (token_rests_up_to n) o [] =
    λ o. elim o as (λ o. after_token line ≡ o → option_map_or (token_rests_up_to m) o [] ≡ option_map_or (token_rests_up_to n) o []) [
      | None ↦ λ _. refl
      | Some rest ↦ λ found. let less = after_token-shorter line rest found in token_rests-enough m n rest (omega arith) (omega arith)
    ]
    in ap (λ rests. line ∷ rests) (at (after_token line) refl)

abbrev pub rests_left : Option (List ℕ) → List (List ℕ)
rests_left None = []
rests_left (Some line) = token_rests line

rests_by : (m n : ℕ) (o : Option (List ℕ)) → ((rest : List ℕ) → o ≡ Some rest → token_rests_up_to m rest ≡ token_rests_up_to n rest)
    → option_map_or (token_rests_up_to m) o [] ≡ option_map_or (token_rests_up_to n) o []
rests_by m n None same = refl
rests_by m n (Some rest) same = same rest refl

map_left : (o : Option (List ℕ)) → map first_token (rests_left o) ≡ tokens_left o
unfolding tokens_of
map_left None = refl
map_left (Some line) = refl

rests_fit : (n : ℕ) (o : Option (List ℕ)) → ((rest : List ℕ) → o ≡ Some rest → length rest < n)
    → option_map_or (token_rests_up_to n) o [] ≡ rests_left o
rests_fit n None fits = refl
rests_fit n (Some rest) fits = token_rests-enough n (length rest + 1) rest (fits rest refl) (omega arith)

-- The line from its first token on, and then from each token of what is left.
pub token_rests-first : (line : List ℕ) → token_rests line ≡ line ∷ rests_left (after_token line)
token_rests-first line =
    ap (λ n. token_rests_up_to n line) (add-one (length line))
    ∙ ap (λ rests. line ∷ rests) (rests_fit (length line) (after_token line) (λ rest found. after_token-shorter line rest found))

-- The tokens of a line are the first one, and those of what is left.
pub tokens_of-first : (line : List ℕ) → tokens_of line ≡ first_token line ∷ tokens_left (after_token line)
unfolding tokens_of
tokens_of-first line = ap (map first_token) (token_rests-first line)
    ∙ ap (λ tokens. first_token line ∷ tokens) (map_left (after_token line))

-- The first token of the line from a place on, and what follows it.
behind_token : (line : List ℕ) (from : ℕ)
    → drop (token_len (drop from line)) (drop from line) ≡ drop (from + token_len (drop from line)) line
behind_token line from = drop-drop (token_len (drop from line)) from line

pub places-last : (line : List ℕ) (from : ℕ) → from ≤ length line → from + token_len (drop from line) ≡ length line
    → map (token_place line) (token_rests (drop from line)) ≡ record { start = from; end = from + token_len (drop from line) } ∷ []
places-last line from within ends =
    let rest = drop from line in
    let rest_len = length-drop from line in
    let none : after_token rest ≡ None = ap without_blank (behind_token line from ∙ drop_all (from + token_len rest) line (omega arith)) in
    ap (map (token_place line)) (token_rests-first rest ∙ ap (λ o. rest ∷ rests_left o) none)
    ∙ ap (λ n. record { start = n; end = n + token_len rest } ∷ []) (omega arith)

pub places-more : (line : List ℕ) (from next : ℕ) → from ≤ length line → from + token_len (drop from line) < length line
    → next ≡ cond (eqb (get_or line (from + token_len (drop from line)) 0) 32) (from + token_len (drop from line) + 1)
    (from + token_len (drop from line)) → map (token_place line) (token_rests (drop from line)) ≡ record {
      start = from;
      end = from + token_len (drop from line);
    } ∷ map (token_place line) (token_rests (drop next line))
places-more line from next within goes on =
    let rest = drop from line in
    let end = from + token_len rest in
    let rest_len = length-drop from line in
    let left : after_token rest ≡ Some (cond (eqb (get_or line end 0) 32) (drop (end + 1) line)
    (get_or line end 0 ∷ drop (end + 1) line)) = ap without_blank (behind_token line from ∙ drop_more line end 0 goes) in
    let there : cond (eqb (get_or line end 0) 32) (drop (end + 1) line) (get_or line end 0 ∷ drop (end + 1) line) ≡ drop next line =
    elim (cases_Bool (eqb (get_or line end 0) 32)) [
      | inl blank ↦ cond-true _ (drop (end + 1) line) (get_or line end 0 ∷ drop (end + 1) line) blank
          ∙ ap (λ n. drop n line) (sym (on ∙ cond-true _ (end + 1) end blank))
      | inr other ↦ cond-false _ (drop (end + 1) line) (get_or line end 0 ∷ drop (end + 1) line) other
          ∙ (sym (drop_more line end 0 goes) ∙ ap (λ n. drop n line) (sym (on ∙ cond-false _ (end + 1) end other)))
    ]
    in
    ap (map (token_place line)) (token_rests-first rest ∙ ap (λ o. rest ∷ rests_left o) (left ∙ ap Some there))
    ∙ ap (λ n. record { start = n; end = n + token_len rest } ∷ map (token_place line) (token_rests (drop next line))) (omega arith)

-- Each rest of a line is the line from some place on, so that the text at a token's place is the token.
abbrev pub IsRest : List ℕ → List ℕ → Type 0
IsRest line rest = (at : ℕ) × (at ≤ length line) × (rest ≡ drop at line)

rest_of_rest : (line rest next : List ℕ) → IsRest line rest → after_token rest ≡ Some next → IsRest line next
rest_of_rest line rest next is found =
    let behind = drop (token_len rest) rest in
    let at : (bs : List ℕ) → bs ≡ behind → without_blank bs ≡ Some next → IsRest line next =
    λ bs. elim bs as (λ bs. bs ≡ behind → without_blank bs ≡ Some next → IsRest line next) [
      | [] ↦ λ _ f. absurd (cc)
      | (b ∷ bs) ↦ λ e f.
          let place : b ∷ bs ≡ drop (is.0 + token_len rest) line = e
          ∙ (ap (drop (token_len rest)) is.2 ∙ drop-drop (token_len rest) is.0 line) in
          let len = ap length place ∙ length-drop (is.0 + token_len rest) line in
          let tail : bs ≡ drop (is.0 + token_len rest + 1) line = ap (drop 1) place ∙ drop-drop 1 (is.0 + token_len rest) line in
          elim (cases_Bool (eqb b 32)) [
            | inl blank ↦ (is.0 + token_len rest + 1, omega arith, (let g = cond-true (eqb b 32) bs (b ∷ bs) blank in cc))
            | inr other ↦ (is.0 + token_len rest, omega arith, (let g = cond-false (eqb b 32) bs (b ∷ bs) other in cc))
          ]
    ]
    in at behind refl found

text_at_place : (line rest : List ℕ) → IsRest line rest → text_in line (token_place line rest) ≡ first_token rest
text_at_place line rest is =
    let len = ap length is.2 ∙ length-drop is.0 line in
    let start : length line - length rest ≡ is.0 = omega arith in
    ap (λ n. take (n + token_len rest - n) (drop n line)) start
    ∙ (ap (λ n. take n (drop is.0 line)) (omega arith) ∙ ap (take (token_len rest)) (sym is.2))

texts_after : (most : ℕ) (line : List ℕ) (o : Option (List ℕ)) → ((next : List ℕ) → o ≡ Some next → IsRest line next)
    → ((next : List ℕ) → IsRest line next → map (text_in line) (map (token_place line) (token_rests_up_to most next))
    ≡ map first_token (token_rests_up_to most next))
    → map (text_in line) (map (token_place line) (option_map_or (token_rests_up_to most) o []))
    ≡ map first_token (option_map_or (token_rests_up_to most) o [])
texts_after most line None is more = refl
texts_after most line (Some next) is more = more next (is next refl)

texts_up_to : (most : ℕ) (line rest : List ℕ) → IsRest line rest
    → map (text_in line) (map (token_place line) (token_rests_up_to most rest)) ≡ map first_token (token_rests_up_to most rest)
texts_up_to zero line rest is = refl
texts_up_to (suc most) line rest is =
    ap (λ t. t ∷ map (text_in line) (map (token_place line) (option_map_or (token_rests_up_to most) (after_token rest) [])))
    (text_at_place line rest is)
    ∙ ap (λ ts. first_token rest ∷ ts) (texts_after most line (after_token rest) (λ next found. rest_of_rest line rest next is found)
    (λ next is_next. texts_up_to most line next is_next))

-- The texts at the places of a line's tokens are its tokens.
pub texts-places : (line : List ℕ) → map (text_in line) (token_places line) ≡ tokens_of line
unfolding tokens_of token_places
texts-places line = texts_up_to (length line + 1) line line (0, omega arith, refl)

pub token_places-is : (line : List ℕ) → token_places line ≡ map (token_place line) (token_rests line)
unfolding token_places
token_places-is line = refl

-- One turn of the loop over a line's tokens: at the last token, and at another.
pub turn-last : (line : List ℕ) (from len : ℕ) (tokens new : List Span) → len ≡ token_len (drop from line) → from ≤ length line
    → from + len ≡ length line → tokens ++ map (token_place line) (token_rests (drop from line))
    ≡ map (token_place line) (token_rests line) → new ≡ tokens ++ record { start = from; end = from + len } ∷ [] → new ≡ token_places line
turn-last line from len tokens new is within ends so_far pushed =
    let here : record { start = from; end = from + len } ∷ [] ≡ map (token_place line) (token_rests (drop from line)) =
    ap (λ n. record { start = from; end = from + n } ∷ []) is ∙ sym (places-last line from within (omega (arith, is, ends))) in
    pushed ∙ (ap (λ ts. tokens ++ ts) here ∙ (so_far ∙ sym (token_places-is line)))

pub turn-more : (line : List ℕ) (from len next : ℕ) (tokens new : List Span) → len ≡ token_len (drop from line) → from ≤ length line
    → from + len < length line → next ≡ cond (eqb (get_or line (from + len) 0) 32) (from + len + 1) (from + len)
    → tokens ++ map (token_place line) (token_rests (drop from line)) ≡ map (token_place line) (token_rests line)
    → new ≡ tokens ++ record { start = from; end = from + len } ∷ []
    → new ++ map (token_place line) (token_rests (drop next line)) ≡ map (token_place line) (token_rests line)
turn-more line from len next tokens new is within goes on so_far pushed =
    let rest = map (token_place line) (token_rests (drop next line)) in
    let on_from : next ≡ cond (eqb (get_or line (from + token_len (drop from line)) 0) 32) (from + token_len (drop from line) + 1)
    (from + token_len (drop from line)) =
    subst (λ (n : ℕ). next ≡ cond (eqb (get_or line (from + n) 0) 32) (from + n + 1) (from + n)) is on in
    let here : record { start = from; end = from + len } ∷ rest ≡ map (token_place line) (token_rests (drop from line)) =
    ap (λ n. record { start = from; end = from + n } ∷ rest) is
    ∙ sym (places-more line from next within (omega (arith, is, goes)) on_from) in
    ap (λ ts. ts ++ rest) pushed ∙ (append_assoc tokens (record { start = from; end = from + len } ∷ []) rest
    ∙ (ap (λ ts. tokens ++ ts) here ∙ so_far))

-- Tokens that stand in a line as they are.
len_before-without : (b : ℕ) (xs ys : List ℕ) → IsWithout b xs → (ys ≡ [] ⊎ get_or ys 0 0 ≡ b × 0 < length ys)
    → len_before b (xs ++ ys) ≡ length xs
len_before-without b [] [] none next = refl
len_before-without b [] (y ∷ ys) none next = elim next [
  | inl nothing ↦ absurd (cc)
  | inr here ↦ cond-true (eqb y b) 0 _ (eq-eqb y b here.0)
]
len_before-without b (x ∷ xs) ys none next = cond-false (eqb x b) 0 _ none.0 ∙ ap suc (len_before-without b xs ys none.1 next)

plain_len : (token rest : List ℕ) → IsPlainToken token → (rest ≡ [] ⊎ get_or rest 0 0 ≡ 32 × 0 < length rest)
    → token_len (token ++ rest) ≡ length token
plain_len [] rest plain next = absurd plain
plain_len (b ∷ bs) rest plain next = cond-false (eqb b 34) _ _ plain.0 ∙ len_before-without 32 (b ∷ bs) rest plain.1 next

quoted_len : (body : List ℕ) → IsWithout 34 body → token_len (34 ∷ (body ++ 34 ∷ [])) ≡ length (34 ∷ (body ++ 34 ∷ []))
quoted_len body none =
    let count : len_before 34 (body ++ 34 ∷ []) ≡ length body = len_before-without 34 body (34 ∷ []) none (inr (refl, omega arith)) in
    let size = length-append body (34 ∷ []) in
    omega arith

plain_more : (token rest : List ℕ) → IsPlainToken token → tokens_of (token ++ 32 ∷ rest) ≡ token ∷ tokens_of rest
plain_more token rest plain =
    let len = plain_len token (32 ∷ rest) plain (inr (refl, omega arith)) in
    tokens_of-first (token ++ 32 ∷ rest)
    ∙ (ap (λ n. take n (token ++ 32 ∷ rest) ∷ tokens_left (without_blank (drop n (token ++ 32 ∷ rest)))) len
    ∙ (ap (λ t. t ∷ tokens_left (without_blank (drop (length token) (token ++ 32 ∷ rest)))) (take_at token (32 ∷ rest) (length token) refl)
    ∙ ap (λ bs. token ∷ tokens_left (without_blank bs)) (drop_at token (32 ∷ rest) (length token) refl)))

last_token : (token : List ℕ) → token_len token ≡ length token → tokens_of token ≡ token ∷ []
last_token token len =
    tokens_of-first token
    ∙ (ap (λ n. take n token ∷ tokens_left (without_blank (drop n token))) len
    ∙ (ap (λ t. t ∷ tokens_left (without_blank (drop (length token) token))) (take_all (length token) token (omega arith))
    ∙ ap (λ bs. token ∷ tokens_left (without_blank bs)) (drop_all (length token) token (omega arith))))

pub joined_are_read : (tokens : List (List ℕ)) → CanBeJoined tokens → tokens_of (joined tokens) ≡ tokens
joined_are_read [] can = absurd can
joined_are_read (token ∷ []) can = elim can [
  | inl plain ↦ last_token token (ap token_len (sym (append-nil token)) ∙ plain_len token [] plain (inl refl))
  | inr quoted ↦ last_token token (ap token_len quoted.1 ∙ (quoted_len quoted.0 quoted.2 ∙ ap length (sym quoted.1)))
]
joined_are_read (token ∷ next ∷ tokens) can = plain_more token (joined (next ∷ tokens)) can.0
    ∙ ap (λ ts. token ∷ ts) (joined_are_read (next ∷ tokens) can.1)

-- Bytes that lack a kind stand before its first.
pub len_before-skip : (b : ℕ) (xs ys : List ℕ) → list_any (λ x. eqb x b) xs ≡ false → len_before b (xs ++ ys) ≡ length xs + len_before b ys
len_before-skip b [] ys none = omega arith
len_before-skip b (x ∷ xs) ys none =
    let parts = or_parts (eqb x b) _ none in
    let more = len_before-skip b xs ys parts.1 in
    cond-false (eqb x b) 0 (suc (len_before b (xs ++ ys))) parts.0 ∙ omega (arith, more)

pub len_before-block : (b : ℕ) (xs : List ℕ) (at n : ℕ)
    → list_any (λ x. eqb x b) (slice_range xs at (at + n)) ≡ false → at + n ≤ length xs
    → n + len_before b (drop (at + n) xs) ≡ len_before b (drop at xs)
len_before-block b xs at n none within =
    let count : (at + n) - at ≡ n = omega arith in
    let lacks : list_any (λ x. eqb x b) (take n (drop at xs)) ≡ false =
    ap (λ k. list_any (λ x. eqb x b) (take k (drop at xs))) (sym count) ∙ none in
    let behind : drop n (drop at xs) ≡ drop (at + n) xs = drop-drop n at xs in
    let parted : drop at xs ≡ take n (drop at xs) ++ drop n (drop at xs) = sym (take-append-drop n (drop at xs)) in
    let sized : length (take n (drop at xs)) ≡ n = omega (arith, length-take n (drop at xs), length-drop at xs) in
    let skip = len_before-skip b (take n (drop at xs)) (drop n (drop at xs)) lacks in
    let rest = ap (len_before b) behind in
    let whole = ap (len_before b) parted in
    omega (arith, skip, sized, rest, whole)
