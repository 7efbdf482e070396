-- Answers of jobs, one behind the other.
use Rattle.std.proofs.Common.{◌≡◌, List, [], ◌∷◌, ◌++◌, append_assoc, sym, ◌∙◌, ap, subst}
use Rattle.std.proofs.lemmas.List.{append-nil}
use Rattle.faust_io.specs.Jobs.{AnswersEach}

pub AnswersEach-snoc : {J Out : Type 0} (gives : J → Out → Type 0) (jobs : List J) (answers : List Out) (job : J) (answer : Out)
    → AnswersEach gives jobs answers → gives job answer → AnswersEach gives (jobs ++ job ∷ []) (answers ++ answer ∷ [])
AnswersEach-snoc gives [] [] job answer each last = (last, tt)
AnswersEach-snoc gives [] (y ∷ ys) job answer each last = absurd each
AnswersEach-snoc gives (x ∷ xs) [] job answer each last = absurd each
AnswersEach-snoc gives (x ∷ xs) (y ∷ ys) job answer each last =
    (each.0, AnswersEach-snoc gives xs ys job answer each.1 last)

-- The answers are those of the jobs in front of the rest.
pub record AnswersBefore {J Out : Type 0} (gives : J → Out → Type 0) (jobs rest : List J) (answers : List Out) : Type 0 where
  pub front : List J
  pub joined : jobs ≡ front ++ rest
  pub each : AnswersEach gives front answers

pub AnswersBefore-none : {J Out : Type 0} (gives : J → Out → Type 0) (jobs rest : List J) (answers : List Out)
    → jobs ≡ rest → answers ≡ [] → AnswersBefore gives jobs rest answers
AnswersBefore-none gives jobs rest answers is empty = record {
  front = [];
  joined = is;
  each = subst (AnswersEach gives []) (sym empty) tt;
}

pub AnswersBefore-more : {J Out : Type 0} (gives : J → Out → Type 0) (jobs rest later : List J) (answers more : List Out)
    (job : J) (answer : Out) → AnswersBefore gives jobs rest answers → rest ≡ job ∷ later → more ≡ answers ++ answer ∷ []
    → gives job answer → AnswersBefore gives jobs later more
AnswersBefore-more gives jobs rest later answers more job answer before is grown last = record {
  front = before.front ++ job ∷ [];
  joined = before.joined ∙ ap (λ xs. before.front ++ xs) is ∙ sym (append_assoc before.front (job ∷ []) later);
  each = subst (AnswersEach gives (before.front ++ job ∷ [])) (sym grown)
      (AnswersEach-snoc gives before.front answers job answer before.each last);
}

pub AnswersBefore-end : {J Out : Type 0} (gives : J → Out → Type 0) (jobs rest : List J) (answers : List Out)
    → AnswersBefore gives jobs rest answers → rest ≡ [] → AnswersEach gives jobs answers
AnswersBefore-end gives jobs rest answers before is =
    subst (λ xs. AnswersEach gives xs answers) (sym (before.joined ∙ ap (λ xs. before.front ++ xs) is ∙ append-nil before.front))
    before.each
