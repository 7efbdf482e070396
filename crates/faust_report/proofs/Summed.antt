-- What is counted in a summary, and its lines together.
use Rattle.std.proofs.Common.{◌≡◌, ℕ, ◌+◌, true, false, cond, List, [], ◌∷◌, ◌++◌, sym, ap, ◌∙◌, append_assoc, append-nil, add-one, arith}
use Rattle.faust_text.specs.Lines.{ended_text}
use Rattle.faust_record.specs.declared.findings.Fact.{Fact}
use Rattle.faust_report.specs.Summary.{has_whole_cut, whole_cuts}

-- One more client, whose cut is whole, or isn't.
pub one_more : (facts : List Fact) (i whole : ℕ) → has_whole_cut facts (i + 1) ≡ true → whole ≡ whole_cuts facts i
    → whole + 1 ≡ whole_cuts facts (i + 1)
one_more facts i whole is so_far =
    let test = ap (has_whole_cut facts) (sym (add-one i)) ∙ is in
    ap (λ w. w + 1) so_far
    ∙ (ap (λ b. whole_cuts facts i + cond b 1 0) (sym test) ∙ ap (whole_cuts facts) (sym (add-one i)))

pub none_more : (facts : List Fact) (i whole : ℕ) → has_whole_cut facts (i + 1) ≡ false → whole ≡ whole_cuts facts i
    → whole ≡ whole_cuts facts (i + 1)
none_more facts i whole is so_far =
    let test = ap (has_whole_cut facts) (sym (add-one i)) ∙ is in
    let zero_more : whole ≡ whole_cuts facts i + 0 = omega (arith, so_far) in
    zero_more ∙ (ap (λ b. whole_cuts facts i + cond b 1 0) (sym test) ∙ ap (whole_cuts facts) (sym (add-one i)))

seven_grouped : (a b c d e f g : List ℕ)
    → (((((a ++ b) ++ c) ++ d) ++ e) ++ f) ++ g ≡ a ++ (b ++ (c ++ (d ++ (e ++ (f ++ (g ++ []))))))
seven_grouped a b c d e f g = simp (append_assoc, append-nil)

pub summary_put : (a b c d e f g : List ℕ)
    → ((((((a ++ 10 ∷ []) ++ (b ++ 10 ∷ [])) ++ (c ++ 10 ∷ [])) ++ (d ++ 10 ∷ [])) ++ (e ++ 10 ∷ [])) ++ (f ++ 10 ∷ [])) ++ (g ++ 10 ∷ [])
    ≡ ended_text (a ∷ b ∷ c ∷ d ∷ e ∷ f ∷ g ∷ [])
summary_put a b c d e f g =
    seven_grouped (a ++ 10 ∷ []) (b ++ 10 ∷ []) (c ++ 10 ∷ []) (d ++ 10 ∷ []) (e ++ 10 ∷ []) (f ++ 10 ∷ []) (g ++ 10 ∷ [])
