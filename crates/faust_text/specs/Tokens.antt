-- The tokens of a line: their bytes, and where they stand.
use Rattle.std.specs.Prelude.{◌≡◌, ℕ, ◌+◌, ◌-◌, ◌==◌, zero, suc, min, false, cond, List, [], ◌∷◌, ◌++◌, length, take, drop, map, Option, Some, None, ◌⊎◌}
use Rattle.std.specs.Option.{option_map_or}
use Rattle.faust_text.specs.Lines.{IsWithout}
use Rattle.faust_text.specs.declared.line.Span.{Span}

-- How many bytes stand before the first b: all where there is none.
abbrev pub len_before : ℕ → List ℕ → ℕ
len_before b [] = 0
len_before b (x ∷ xs) = cond (x == b) 0 (suc (len_before b xs))

-- The first token of a line. One that begins with a quotation mark (34) ends with the next mark, any other before
-- the next blank (32). Where none comes, the token ends with the line.
abbrev pub token_len : List ℕ → ℕ
token_len [] = 0
token_len (b ∷ bs) = cond (b == 34) (min (len_before 34 bs + 2) (length (b ∷ bs))) (len_before 32 (b ∷ bs))

abbrev pub first_token : List ℕ → List ℕ
first_token line = take (token_len line) line

-- What is left of a line behind its first token: nothing at the end of the line, and else what follows the one
-- blank that is skipped where it stands there.
abbrev pub without_blank : List ℕ → Option (List ℕ)
without_blank [] = None
without_blank (b ∷ bs) = Some (cond (b == 32) bs (b ∷ bs))

abbrev pub after_token : List ℕ → Option (List ℕ)
after_token line = without_blank (drop (token_len line) line)

-- The line from each of its first tokens on, as many as asked for. A line has no more tokens than it has bytes,
-- and one.
abbrev pub token_rests_up_to : ℕ → List ℕ → List (List ℕ)
token_rests_up_to zero line = []
token_rests_up_to (suc most) line = line ∷ option_map_or (token_rests_up_to most) (after_token line) []

abbrev pub token_rests : List ℕ → List (List ℕ)
token_rests line = token_rests_up_to (length line + 1) line

-- The tokens of a line, and their places.
unfoldable pub tokens_of : List ℕ → List (List ℕ)
tokens_of line = map first_token (token_rests line)

abbrev pub token_place : List ℕ → List ℕ → Span
token_place line rest = let start = length line - length rest in record { start = start; end = start + token_len rest }

unfoldable pub token_places : List ℕ → List Span
token_places line = map (token_place line) (token_rests line)

-- What is left of a line has these tokens: none where nothing is left.
abbrev pub tokens_left : Option (List ℕ) → List (List ℕ)
tokens_left None = []
tokens_left (Some line) = tokens_of line

-- Tokens that stand in a line as they are, parted by one blank: none but the last is empty, none has a blank or
-- begins with a quotation mark, but the last may be bytes between two marks.
abbrev pub joined : List (List ℕ) → List ℕ
joined [] = []
joined (token ∷ []) = token
joined (token ∷ next ∷ tokens) = token ++ (32 ∷ joined (next ∷ tokens))

abbrev pub IsPlainToken : List ℕ → Type 0
IsPlainToken [] = ⊥
IsPlainToken (b ∷ bs) = ((b == 34) ≡ false) × IsWithout 32 (b ∷ bs)

abbrev pub IsQuotedToken : List ℕ → Type 0
IsQuotedToken token = (body : List ℕ) × (token ≡ 34 ∷ (body ++ 34 ∷ [])) × IsWithout 34 body

abbrev pub CanBeJoined : List (List ℕ) → Type 0
CanBeJoined [] = ⊥
CanBeJoined (token ∷ []) = IsPlainToken token ⊎ IsQuotedToken token
CanBeJoined (token ∷ next ∷ tokens) = IsPlainToken token × CanBeJoined (next ∷ tokens)
