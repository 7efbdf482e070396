-- Lines and words as text: what is put behind a text piece by piece.
use Rattle.std.proofs.Common.{◌≡◌, ℕ, suc, ◌+◌, ◌<◌, List, [], ◌∷◌, ◌++◌, map, flat_map, length, get_or, take, refl, sym, ap, ◌∙◌, append_assoc, append-nil, arith}
use Rattle.std.proofs.lemmas.List.{take_more, length-take}
use Rattle.std.proofs.lemmas.Grind.{flat_map-append}
use Rattle.faust_types.specs.declared.operation.OpName.{OpName}
use Rattle.faust_text.specs.Lines.{ended_text}
use Rattle.faust_text.specs.Tokens.{joined}
use Rattle.faust_record.specs.declared.findings.Fact.{Fact}
use Rattle.faust_report.specs.Text.{fact_lines, view_line, view_lines}

-- Words behind a first one, each behind a blank.
pub joined_map : {X : Type 0} (f : X → List ℕ) (word : List ℕ) (xs : List X)
    → joined (word ∷ map f xs) ≡ word ++ flat_map (λ x. 32 ∷ f x) xs
joined_map f word [] = sym (append-nil word)
joined_map f word (x ∷ xs) = ap (λ text. word ++ (32 ∷ text)) (joined_map f (f x) xs)

pub ended_append : (xs ys : List (List ℕ)) → ended_text (xs ++ ys) ≡ ended_text xs ++ ended_text ys
ended_append [] ys = refl
ended_append (x ∷ xs) ys =
    ap (λ text. (x ++ 10 ∷ []) ++ text) (ended_append xs ys) ∙ sym (append_assoc (x ++ 10 ∷ []) (ended_text xs) (ended_text ys))

-- The lines of one more entry.
pub facts_more : (facts : List Fact) (i : ℕ) (fact : Fact) → i < length facts
    → ended_text (flat_map fact_lines (take (i + 1) facts))
    ≡ ended_text (flat_map fact_lines (take i facts)) ++ ended_text (fact_lines (get_or facts i fact))
facts_more facts i fact lt =
    let lines = flat_map fact_lines (take i facts) in
    let one = fact_lines (get_or facts i fact) in
    (ap (λ fs. ended_text (flat_map fact_lines fs)) (take_more facts i fact lt)
    ∙ ap ended_text (flat_map-append fact_lines (take i facts) (get_or facts i fact ∷ [])))
    ∙ (ap (λ ls. ended_text (lines ++ ls)) (append-nil one) ∙ ended_append lines one)

-- The line of one more view.
view_lines-append : (client : ℕ) (xs ys : List (List OpName))
    → view_lines client (xs ++ ys) ≡ view_lines client xs ++ view_lines (client + length xs) ys
view_lines-append client [] ys = ap (λ k. view_lines k ys) (omega arith)
view_lines-append client (x ∷ xs) ys =
    let k : client + 1 + length xs ≡ client + suc (length xs) = omega arith in
    ap (λ ls. view_line client x ∷ ls)
    (view_lines-append (client + 1) xs ys ∙ ap (λ k. view_lines (client + 1) xs ++ view_lines k ys) k)

pub views_more : (views : List (List OpName)) (i : ℕ) (names : List OpName) → i < length views
    → ended_text (view_lines 1 (take (i + 1) views))
    ≡ ended_text (view_lines 1 (take i views)) ++ (view_line (i + 1) (get_or views i names) ++ 10 ∷ [])
views_more views i names lt =
    let before = view_lines 1 (take i views) in
    let one = get_or views i names in
    let k : 1 + length (take i views) ≡ i + 1 = omega (arith, length-take i views) in
    (ap (λ vs. ended_text (view_lines 1 vs)) (take_more views i names lt)
    ∙ ap ended_text (view_lines-append 1 (take i views) (one ∷ [])))
    ∙ (ap (λ k. ended_text (before ++ view_lines k (one ∷ []))) k
    ∙ (ended_append before (view_line (i + 1) one ∷ [])
    ∙ ap (λ text. ended_text before ++ text) (append-nil (view_line (i + 1) one ++ 10 ∷ []))))

-- One turn of the loops: what is put behind the text, and what stands there then.
pub facts_step : (facts : List Fact) (i : ℕ) (fact : Fact) (start before after : List ℕ) → i < length facts
    → fact ≡ get_or facts i fact
    → before ≡ start ++ ended_text (flat_map fact_lines (take i facts))
    → after ≡ before ++ ended_text (fact_lines fact)
    → after ≡ start ++ ended_text (flat_map fact_lines (take (i + 1) facts))
facts_step facts i fact start before after lt is so_far put =
    let lines = ended_text (flat_map fact_lines (take i facts)) in
    let one = ended_text (fact_lines fact) in
    (put ∙ ap (λ text. text ++ one) so_far)
    ∙ (append_assoc start lines one
    ∙ ap (λ text. start ++ text)
    (ap (λ (f : Fact). lines ++ ended_text (fact_lines f)) is ∙ sym (facts_more facts i fact lt)))

pub views_step : (views : List (List OpName)) (i : ℕ) (names : List OpName) (start before after : List ℕ) → i < length views
    → names ≡ get_or views i names
    → before ≡ start ++ ended_text (view_lines 1 (take i views))
    → after ≡ before ++ (view_line (i + 1) names ++ 10 ∷ [])
    → after ≡ start ++ ended_text (view_lines 1 (take (i + 1) views))
views_step views i names start before after lt is so_far put =
    let lines = ended_text (view_lines 1 (take i views)) in
    let one = view_line (i + 1) names ++ 10 ∷ [] in
    (put ∙ ap (λ text. text ++ one) so_far)
    ∙ (append_assoc start lines one
    ∙ ap (λ text. start ++ text)
    (ap (λ (ns : List OpName). lines ++ (view_line (i + 1) ns ++ 10 ∷ [])) is ∙ sym (views_more views i names lt)))

-- The pieces of a whole report together.
grouped : (a b c d e : List ℕ) → (((a ++ b) ++ c) ++ d) ++ e ≡ a ++ (b ++ (c ++ (d ++ e)))
grouped a b c d e = simp append_assoc

pub report_put : (title : List ℕ) (entries : List (List ℕ)) (departure : List ℕ) (order : List (List ℕ)) (last : List ℕ)
    → ((((title ++ 10 ∷ []) ++ ended_text entries) ++ (departure ++ 10 ∷ [])) ++ ended_text order) ++ (last ++ 10 ∷ [])
    ≡ ended_text (title ∷ (entries ++ (departure ∷ (order ++ last ∷ []))))
report_put title entries departure order last =
    let tail : ended_text (order ++ last ∷ []) ≡ ended_text order ++ (last ++ 10 ∷ []) =
    ended_append order (last ∷ []) ∙ ap (λ text. ended_text order ++ text) (append-nil (last ++ 10 ∷ [])) in
    let behind : ended_text (entries ++ (departure ∷ (order ++ last ∷ [])))
    ≡ ended_text entries ++ ((departure ++ 10 ∷ []) ++ (ended_text order ++ (last ++ 10 ∷ []))) =
    ended_append entries (departure ∷ (order ++ last ∷ []))
    ∙ ap (λ text. ended_text entries ++ ((departure ++ 10 ∷ []) ++ text)) tail in
    grouped (title ++ 10 ∷ []) (ended_text entries) (departure ++ 10 ∷ []) (ended_text order) (last ++ 10 ∷ [])
    ∙ ap (λ text. (title ++ 10 ∷ []) ++ text) (sym behind)
