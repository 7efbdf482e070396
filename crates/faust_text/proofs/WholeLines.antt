-- Lines that are whole: neither too long nor cut off.
use Rattle.std.proofs.Common.{◌≡◌, ℕ, ◌<◌, ◌≤◌, true, false, cond, ltb, List, [], ◌∷◌, ◌++◌, length, Result, Ok, Err, refl, sym, ap, ◌∙◌, subst, ◌⊎◌, ◌↔◌, inl, inr}
use Rattle.std.proofs.lemmas.Bool.{cases_Bool, cond-false, le-ltb, lt-ltb, ltb-false, ltb-true}
use Rattle.faust_text.specs.declared.cause.Cause.{Cause}
use Rattle.faust_text.specs.declared.cause.Cause.TheVariants as causes
use Rattle.faust_text.specs.Fields.{◌>>=◌}
use Rattle.faust_text.specs.Lines.{TextLine, ended_lines, whole_line}
use Rattle.faust_text.proofs.Choices.{chosen}
use Rattle.faust_text.proofs.FieldLaws.{ok_same}

abbrev pub ended_line : List ℕ → TextLine
ended_line text = record { bytes = text; ended = true }

pub whole_line-only : (line : TextLine) (text : List ℕ) → whole_line line ≡ Ok text → (line ≡ ended_line text) × (length text ≤ 40000)
whole_line-only line text found =
    elim (chosen (ltb 40000 (length line.bytes)) (Err causes.TooLong) (cond line.ended (Ok line.bytes) (Err causes.CutOff))
    (Ok text) found) [
      | inl long ↦ absurd (let e = long.1 in cc)
      | inr fits ↦ elim (chosen line.ended (Ok line.bytes) (Err causes.CutOff) (Ok text) fits.1) [
        | inl ended ↦
            let same : line.bytes ≡ text = ok_same line.bytes text ended.1 in
            let few : length line.bytes ≤ 40000 = ltb-false _ _ fits.0 in (
              ap (λ t. record { bytes = line.bytes; ended = t }) ended.0 ∙ ap ended_line same,
              subst (λ (bs : List ℕ). length bs ≤ 40000) same few,
            )
        | inr open_end ↦ absurd (let e = open_end.1 in cc)
      ]
    ]

pub whole_line-again : (text : List ℕ) → length text ≤ 40000 → whole_line (ended_line text) ≡ Ok text
whole_line-again text few = cond-false (ltb 40000 (length text)) (Err causes.TooLong) (Ok text) (le-ltb _ _ few)

pub ended_lines-append : (xs ys : List (List ℕ)) → ended_lines (xs ++ ys) ≡ ended_lines xs ++ ended_lines ys
ended_lines-append [] ys = refl
ended_lines-append (x ∷ xs) ys = ap (λ ls. ended_line x ∷ ls) (ended_lines-append xs ys)

-- Why a line is refused whose text is read so: it is too long, or else cut off, or else its text is refused.
pub whole_line-fault : {A : Type 0} (line : TextLine) (read : List ℕ → Result A Cause) (cause : Cause) (IsFault : Type 0)
    → (read line.bytes ≡ Err cause) ↔ IsFault
    → ((whole_line line >>= read) ≡ Err cause)
    ↔ (((cause ≡ causes.TooLong) × (40000 < length line.bytes))
    ⊎ ((length line.bytes ≤ 40000) × (((cause ≡ causes.CutOff) × (line.ended ≡ false)) ⊎ ((line.ended ≡ true) × IsFault))))
whole_line-fault line read cause IsFault law = (
  λ found. elim (cases_Bool (ltb 40000 (length line.bytes))) [
    | inl long ↦
        inl (
          let e = sym (ap (λ t. cond t (Err causes.TooLong) (cond line.ended (Ok line.bytes) (Err causes.CutOff)) >>= read) long)
              ∙ found in cc,
          ltb-true _ _ long,
        )
    | inr fits ↦
        let behind = sym (ap (λ t. cond t (Err causes.TooLong) (cond line.ended (Ok line.bytes) (Err causes.CutOff)) >>= read) fits)
        ∙ found in
        inr (
          ltb-false _ _ fits,
          elim (cases_Bool line.ended) [
            | inl ended ↦ inr (ended, law.0 (sym (ap (λ t. cond t (Ok line.bytes) (Err causes.CutOff) >>= read) ended) ∙ behind))
            | inr open_end ↦ inl (
              let e = sym (ap (λ t. cond t (Ok line.bytes) (Err causes.CutOff) >>= read) open_end) ∙ behind in
                  cc,
              open_end,
            )
          ],
        )
  ],
  λ is. elim is [
    | inl long ↦ ap (λ t. cond t (Err causes.TooLong) (cond line.ended (Ok line.bytes) (Err causes.CutOff)) >>= read)
        (lt-ltb 40000 (length line.bytes) long.1) ∙ ap Err (sym long.0)
    | inr fits ↦
        let behind : (cond line.ended (Ok line.bytes) (Err causes.CutOff) >>= read) ≡ Err cause = elim fits.1 [
          | inl open_end ↦ ap (λ t. cond t (Ok line.bytes) (Err causes.CutOff) >>= read) open_end.1 ∙ ap Err (sym open_end.0)
          | inr ended ↦ ap (λ t. cond t (Ok line.bytes) (Err causes.CutOff) >>= read) ended.0 ∙ law.1 ended.1
        ] in
        ap (λ t. cond t (Err causes.TooLong) (cond line.ended (Ok line.bytes) (Err causes.CutOff)) >>= read)
        (le-ltb 40000 (length line.bytes) fits.0) ∙ behind
  ],
)
