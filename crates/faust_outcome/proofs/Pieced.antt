-- The few numbers as text: what is put behind it piece by piece.
use Rattle.std.proofs.Common.{◌≡◌, ℕ, List, [], ◌∷◌, ◌++◌, Result, Ok, Err, OnOk, ap, ◌∙◌, append_assoc, append-nil}
use Rattle.faust_text.specs.Lines.{ended_text}

on-ok : {X E : Type 0} (r : Result X E) (P Q : Type 0) → (P → Q) → OnOk r P → OnOk r Q
on-ok (Ok x) P Q f p = f p
on-ok (Err e) P Q f p = tt

-- The pieces of one line.
three_grouped : (out a b c : List ℕ) → ((out ++ a) ++ b) ++ c ≡ out ++ (a ++ (b ++ c))
three_grouped out a b c = append_assoc (out ++ a) b c ∙ append_assoc out a (b ++ c)

pub clients-put : {X E : Type 0} (r : Result X E) (out first second last a b : List ℕ) → first ≡ out ++ a → second ≡ first ++ b
    → OnOk r (last ≡ second ++ 10 ∷ []) → OnOk r (last ≡ out ++ (a ++ (b ++ 10 ∷ [])))
clients-put r out first second last a b one two =
    on-ok r (last ≡ second ++ 10 ∷ []) (last ≡ out ++ (a ++ (b ++ 10 ∷ [])))
    (λ put. put ∙ ap (λ (t : List ℕ). t ++ 10 ∷ []) (two ∙ ap (λ (t : List ℕ). t ++ b) one) ∙ three_grouped out a b (10 ∷ []))

five_put : (out a b c d e : List ℕ) → ((((out ++ a) ++ b) ++ c) ++ d) ++ e ≡ out ++ (a ++ ((b ++ (c ++ d)) ++ e))
five_put out a b c d e = simp append_assoc

pub operations-put : {X E : Type 0} (r : Result X E) (out first second third fourth last a b c d : List ℕ) → first ≡ out ++ a
    → second ≡ first ++ b → third ≡ second ++ c → fourth ≡ third ++ d → OnOk r (last ≡ fourth ++ 10 ∷ [])
    → OnOk r (last ≡ out ++ (a ++ ((b ++ (c ++ d)) ++ 10 ∷ [])))
operations-put r out first second third fourth last a b c d one two three four =
    on-ok r (last ≡ fourth ++ 10 ∷ []) (last ≡ out ++ (a ++ ((b ++ (c ++ d)) ++ 10 ∷ [])))
    (λ put. put
    ∙ ap (λ (t : List ℕ). t ++ 10 ∷ []) (four ∙ ap (λ (t : List ℕ). t ++ d) (three ∙ ap (λ (t : List ℕ). t ++ c)
    (two ∙ ap (λ (t : List ℕ). t ++ b) one)))
    ∙ five_put out a b c d (10 ∷ []))

-- The lines together.
five_grouped : (a b c d e : List ℕ) → (((a ++ b) ++ c) ++ d) ++ e ≡ a ++ (b ++ (c ++ (d ++ (e ++ []))))
five_grouped a b c d e = simp (append_assoc, append-nil)

pub short_put : (a b c d e : List ℕ)
    → ((((a ++ 10 ∷ []) ++ (b ++ 10 ∷ [])) ++ (c ++ 10 ∷ [])) ++ (d ++ 10 ∷ [])) ++ (e ++ 10 ∷ [])
    ≡ ended_text (a ∷ b ∷ c ∷ d ∷ e ∷ [])
short_put a b c d e = five_grouped (a ++ 10 ∷ []) (b ++ 10 ∷ []) (c ++ 10 ∷ []) (d ++ 10 ∷ []) (e ++ 10 ∷ [])
