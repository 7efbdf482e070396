-- The u-th operation of a user completes in the u-th entry that completes one of its own.
use Rattle.std.proofs.Common.{◌≡◌, ℕ, ◌≤◌, ◌<◌, zero, suc, Bool, true, false, cond, List, [], ◌∷◌, ◌++◌, Option, Some, None, IfSome, option_map, option_to_list, refl, sym, ap, ◌∙◌, subst, arith}
use Rattle.std.specs.Prelude.{◌==◌, ◌&&◌, option_and_then, slice_get}
use Rattle.std.proofs.lemmas.Bool.{and_from, cond-true, cond-false, eq-eqb, ne_eqb}
use Rattle.faust_types.specs.Clients.{IsClient}
use Rattle.faust_types.specs.declared.config.Config.{Config}
use Rattle.faust_types.specs.declared.operation.Answer.{Answer}
use Rattle.faust_types.specs.declared.operation.OpName.{OpName}
use Rattle.faust_record.specs.Operations.{Finished, Started, completion_named, finished_among, first_finished, is_named, started_among}
use Rattle.faust_record.specs.Runs.{IsRun, entries_of}
use Rattle.faust_record.specs.declared.entry.Entry.{Entry}
use Rattle.faust_receipts.specs.Comparing.{told_among, unless_dummy}
use Rattle.faust_receipts.specs.UserOperations.{name_by, user_completion, user_numbers}
use Rattle.faust_receipts.proofs.Ordered.{AreTold, told-in-run}

-- Of completions those of no dummy read.
abbrev pub user_finished : List Finished → List Finished
user_finished [] = []
user_finished (finished ∷ rest) = cond finished.answer.op.dummy (user_finished rest) (finished ∷ user_finished rest)

-- the same, read off the entries
with-more : (dummy : Bool) (finished : Finished) (rest : List Finished)
    → option_to_list (cond dummy None (Some finished)) ++ rest ≡ cond dummy rest (finished ∷ rest)
with-more true finished rest = refl
with-more false finished rest = refl

of-entry : (entry : Entry) (own : List Entry) (b : Bool) (answer : Option Answer) (rest : List Finished) → entry.outcome.answer ≡ answer
    → rest ≡ user_finished (finished_among own)
    → option_to_list (cond b (unless_dummy entry.number answer) None) ++ rest ≡ user_finished (finished_among (cond b (entry ∷ own) own))
of-entry entry own false answer rest is same = same
of-entry entry own true None rest is same =
    same ∙ sym (ap (λ (a : Option Answer). user_finished
    (option_to_list (option_map (λ (x : Answer). record { answer = x; number = entry.number }) a)
    ++ finished_among own)) is)
of-entry entry own true (Some answer) rest is same =
    let f : Finished = record { answer = answer; number = entry.number } in
    ap (λ (l : List Finished). option_to_list (cond answer.op.dummy None (Some f)) ++ l) same
    ∙ with-more answer.op.dummy f (user_finished (finished_among own))
    ∙ sym (ap (λ (a : Option Answer). user_finished
    (option_to_list (option_map (λ (x : Answer). record { answer = x; number = entry.number }) a)
    ++ finished_among own)) is)

pub told-own : (i : ℕ) (entries : List Entry) → told_among i entries ≡ user_finished (finished_among (entries_of i entries))
told-own i [] = refl
told-own i (entry ∷ rest) =
    of-entry entry (entries_of i rest) (entry.client == i) entry.outcome.answer (told_among i rest) refl (told-own i rest)

-- numbers of a user's operations are not below the first one
weaker : (t : ℕ) (o : Option ℕ) → IfSome o (λ x. suc t ≤ x) → IfSome o (λ x. t ≤ x)
weaker t None h = tt
weaker t (Some x) h = omega (arith, h)

above-more : (t : ℕ) (dummy : Bool) (rest : List ℕ) (u : ℕ) → ((v : ℕ) → IfSome (slice_get rest v) (λ x. suc t ≤ x))
    → IfSome (slice_get (cond dummy rest (t ∷ rest)) u) (λ x. t ≤ x)
above-more t true rest u h = weaker t (slice_get rest u) (h u)
above-more t false rest zero h = omega arith
above-more t false rest (suc u) h = weaker t (slice_get rest u) (h u)

get-nil : {X : Type 0} (u : ℕ) → ◌≡◌ {A = Option X} (slice_get [] u) None
get-nil zero = refl
get-nil (suc u) = refl

numbers-above : (t : ℕ) (began : List Started) (u : ℕ) → IfSome (slice_get (user_numbers t began) u) (λ x. t ≤ x)
numbers-above t [] u = subst (λ (o : Option ℕ). IfSome o (λ x. t ≤ x)) (sym (get-nil u)) tt
numbers-above t (started ∷ rest) u =
    above-more t started.order.dummy (user_numbers (suc t) rest) u (λ v. numbers-above (suc t) rest v)

-- the completion of operation t of client me
abbrev ended_as : ℕ → List Finished → ℕ → Option Finished
ended_as me ended t = first_finished (name_by me t) ended

named-here : (me t x : ℕ) (name : OpName) → name ≡ name_by me t → t ≡ x → is_named (name_by me x) name ≡ true
named-here me t x name is same =
    and_from (me == name.client) (x == name.t) (eq-eqb me name.client (sym (ap (λ (n : OpName). n.client) is)))
    (eq-eqb x name.t (sym (ap (λ (n : OpName). n.t) is ∙ same)))

and-false : (a b : Bool) → b ≡ false → (a && b) ≡ false
and-false true b is = is
and-false false b is = refl

named-other : (me t x : ℕ) (name : OpName) → name ≡ name_by me t → t < x → is_named (name_by me x) name ≡ false
named-other me t x name is below =
    and-false (me == name.client) (x == name.t)
    (ne_eqb x name.t (λ same. let here : name.t ≡ t = ap (λ (n : OpName). n.t) is in omega (arith, same, here, below)))

ended-other : (me t : ℕ) (finished : Finished) (ended : List Finished) (o : Option ℕ) → finished.answer.op.name ≡ name_by me t
    → IfSome o (λ x. suc t ≤ x) → option_and_then (ended_as me (finished ∷ ended)) o ≡ option_and_then (ended_as me ended) o
ended-other me t finished ended None is above = refl
ended-other me t finished ended (Some x) is above =
    cond-false _ _ _ (named-other me t x finished.answer.op.name is (omega (arith, above)))

ended-none : (me : ℕ) (o : Option ℕ) → option_and_then (ended_as me []) o ≡ None
ended-none me None = refl
ended-none me (Some x) = refl

told-at : (me t : ℕ) (began_dummy ended_dummy : Bool) (finished : Finished) (numbers : List ℕ) (ended due : List Finished) (u : ℕ)
    → ended_dummy ≡ began_dummy → finished.answer.op.name ≡ name_by me t
    → ((v : ℕ) → IfSome (slice_get numbers v) (λ x. suc t ≤ x))
    → ((v : ℕ) → option_and_then (ended_as me ended) (slice_get numbers v) ≡ slice_get due v)
    → option_and_then (ended_as me (finished ∷ ended)) (slice_get (cond began_dummy numbers (t ∷ numbers)) u)
    ≡ slice_get (cond ended_dummy due (finished ∷ due)) u
told-at me t true true finished numbers ended due u same is above rest =
    ended-other me t finished ended (slice_get numbers u) is (above u) ∙ rest u
told-at me t false false finished numbers ended due zero same is above rest =
    cond-true _ _ _ (named-here me t t finished.answer.op.name is refl)
told-at me t false false finished numbers ended due (suc u) same is above rest =
    ended-other me t finished ended (slice_get numbers u) is (above u) ∙ rest u
told-at me t true false finished numbers ended due u same is above rest = absurd (cc)
told-at me t false true finished numbers ended due u same is above rest = absurd (cc)

told-each : (n me t : ℕ) (began : List Started) (ended : List Finished) (u : ℕ) → AreTold n me t began ended
    → option_and_then (ended_as me ended) (slice_get (user_numbers t began) u) ≡ slice_get (user_finished ended) u
told-each n me t [] [] u told = ap (λ (o : Option ℕ). option_and_then (ended_as me []) o) (get-nil u) ∙ sym (get-nil u)
told-each n me t (started ∷ began) [] u told =
    ended-none me (slice_get (user_numbers t (started ∷ began)) u) ∙ sym (get-nil u)
told-each n me t [] (finished ∷ ended) u told = absurd told
told-each n me t (started ∷ began) (finished ∷ ended) u told =
    told-at me t started.order.dummy finished.answer.op.dummy finished (user_numbers (suc t) began) ended (user_finished ended) u
    told.0.same_dummy told.0.same_name (λ v. numbers-above (suc t) began v) (λ v. told-each n me (suc t) began ended v told.1)

named-then : (entries : List Entry) (i : ℕ) (o : Option ℕ)
    → option_and_then (completion_named entries) (option_map (name_by i) o)
    ≡ option_and_then (ended_as i (finished_among (entries_of i entries))) o
named-then entries i None = refl
named-then entries i (Some t) = refl

pub completion-told : (config : Config) (entries : List Entry) (i u : ℕ) → IsRun config entries → IsClient config.clients i
    → user_completion entries i u ≡ slice_get (told_among i entries) u
unfolding user_completion
completion-told config entries i u run client =
    named-then entries i (slice_get (user_numbers 1 (started_among (entries_of i entries))) u)
    ∙ told-each config.clients i 1 (started_among (entries_of i entries)) (finished_among (entries_of i entries)) u
    (told-in-run config entries i run client)
    ∙ ap (λ (l : List Finished). slice_get l u) (sym (told-own i entries))
