-- What follows for runs: their fronts are runs, and what arrived is a front of what was sent.
use Rattle.std.proofs.Common.{◌≡◌, ℕ, suc, Bool, true, false, cond, List, [], ◌∷◌, ◌++◌, length, Option, Some, None, option_to_list, Result, Ok, Err, nat_lt, refl, sym, ap, ◌∙◌, subst, inl, inr, append_assoc}
use Rattle.std.proofs.lemmas.List.{append-nil}
use Rattle.std.proofs.lemmas.Bool.{cases_eq}
use Rattle.std.specs.Prelude.{IfSome, slice_get}
use Rattle.faust_types.specs.declared.config.Config.{Config}
use Rattle.faust_record.specs.Entries.{arrival_at, entry_at, replay}
use Rattle.faust_record.specs.Runs.{AreFed, IsFed, IsRun, Run, arrived_in, arriving, entries_of, next_message, sent_in}
use Rattle.faust_record.specs.Journals.{Log}
use Rattle.faust_record.specs.Refusals.{acted, arrived, arrived_at, logged, logged_unless, push_of, recorded, recorded_unless, refusal_at, step_of}
use Rattle.faust_record.specs.Laws.{Appends, IsPrefix}
use Rattle.faust_record.specs.declared.entry.Input.{Input}
use Rattle.faust_record.specs.declared.entry.Input.TheVariants as inputs
use Rattle.faust_record.specs.declared.entry.Entry.{Entry}
use Rattle.faust_record.specs.declared.errors.Refusal.{Refusal}
use Rattle.faust_record.specs.declared.errors.StepError.{StepError}
use Rattle.faust_record.specs.declared.errors.StepError.TheVariants as steps
use Rattle.faust_record.specs.declared.run_record.PushInput.{PushInput}
use Rattle.faust_record.specs.declared.run_record.PushInput.TheVariants as given
use Rattle.faust_record.proofs.Own.{arrived_in-append, entries_of-other, entries_of-own, sent_in-append}
use Rattle.faust_record.proofs.Runs.{run-front}

pub front_of_run : (config : Config) (front rest : List Entry) → IsRun config (front ++ rest) → IsRun config front
front_of_run config front rest run = run-front config front rest run

-- one more item of both lists, or of the longer one
next-item : {X : Type 0} (front rest : List X) (x : X) → slice_get (front ++ rest) (length front) ≡ Some x
    → IsPrefix (front ++ x ∷ []) (front ++ rest)
next-item {X} [] [] x found = absurd (cc)
next-item {X} [] (y ∷ rest) x found =
    let same : y ≡ x = cc in
    record { rest = rest; is_whole = ap (λ (z : X). z ∷ rest) same }
next-item {X} (y ∷ front) rest x found =
    let less = next-item front rest x found in
    record { rest = less.rest; is_whole = ap (λ (l : List X). y ∷ l) less.is_whole }

prefix-grows : {X : Type 0} (front whole : List X) (x : X) → IsPrefix front whole → slice_get whole (length front) ≡ Some x
    → IsPrefix (front ++ x ∷ []) whole
prefix-grows {X} front whole x prefix found =
    let here : slice_get (front ++ prefix.rest) (length front) ≡ Some x = ap (λ (l : List X). slice_get l (length front))
    (sym prefix.is_whole) ∙ found in
    subst (λ (l : List X). IsPrefix (front ++ x ∷ []) l) (sym prefix.is_whole) (next-item front prefix.rest x here)

prefix-longer : {X : Type 0} (front whole more : List X) → IsPrefix front whole → IsPrefix front (whole ++ more)
prefix-longer {X} front whole more prefix = record {
  rest = prefix.rest ++ more;
  is_whole = ap (λ (l : List X). l ++ more) prefix.is_whole ∙ append_assoc front prefix.rest more;
}

-- one more entry of the client
arrival-kept : (arrived sent : List (List ℕ)) (arrival : Option (List ℕ)) (more : List (List ℕ)) → IsPrefix arrived sent
    → ((message : List ℕ) → arrival ≡ Some message → slice_get sent (length arrived) ≡ Some message)
    → IsPrefix (arrived ++ (option_to_list arrival ++ [])) (sent ++ more)
arrival-kept arrived sent None more prefix due =
    subst (λ (l : List (List ℕ)). IsPrefix l (sent ++ more)) (sym (append-nil arrived)) (prefix-longer arrived sent more prefix)
arrival-kept arrived sent (Some message) more prefix due =
    prefix-longer (arrived ++ message ∷ []) sent more (prefix-grows arrived sent message prefix (due message refl))

due-of-fed : (arrival : Option (List ℕ)) (sent : List (List ℕ)) (count : ℕ) (message : List ℕ)
    → IfSome arrival (λ m. slice_get sent count ≡ Some m) → arrival ≡ Some message → slice_get sent count ≡ Some message
due-of-fed None sent count message fed is = absurd (cc)
due-of-fed (Some m) sent count message fed is = fed ∙ is

arrived-step : (i : ℕ) (before : List Entry) (x : Entry) → IsFed before x
    → IsPrefix (arrived_in (entries_of i before)) (sent_in (entries_of i before))
    → IsPrefix (arrived_in (entries_of i (before ++ x ∷ []))) (sent_in (entries_of i (before ++ x ∷ [])))
arrived-step i before x fed prefix = elim (cases_eq x.client i) [
  | inl own ↦
      let list : List Entry = entries_of i before in
      let fed_here : IfSome (arriving x.input) (λ m. next_message i before ≡ Some m) =
      subst (λ (k : ℕ). IfSome (arriving x.input) (λ m. next_message k before ≡ Some m)) own fed in
      let longer : IsPrefix (arrived_in list ++ arrived_in (x ∷ [])) (sent_in list ++ sent_in (x ∷ [])) =
      arrival-kept (arrived_in list) (sent_in list) (arriving x.input) (sent_in (x ∷ [])) prefix
      (λ message is. due-of-fed (arriving x.input) (sent_in list) (length (arrived_in list)) message fed_here is) in
      let both : IsPrefix (arrived_in (list ++ x ∷ [])) (sent_in (list ++ x ∷ [])) =
      subst (λ (l : List (List ℕ)). IsPrefix l (sent_in (list ++ x ∷ []))) (sym (arrived_in-append list (x ∷ [])))
      (subst (λ (l : List (List ℕ)). IsPrefix (arrived_in list ++ arrived_in (x ∷ [])) l) (sym (sent_in-append list (x ∷ []))) longer) in
      subst (λ (l : List Entry). IsPrefix (arrived_in l) (sent_in l)) (sym (entries_of-own i before x own)) both
  | inr other ↦ subst (λ (l : List Entry). IsPrefix (arrived_in l) (sent_in l)) (sym (entries_of-other i before x other)) prefix
]

arrived-along : (i : ℕ) (before rest : List Entry) → AreFed before rest
    → IsPrefix (arrived_in (entries_of i before)) (sent_in (entries_of i before))
    → IsPrefix (arrived_in (entries_of i (before ++ rest))) (sent_in (entries_of i (before ++ rest)))
arrived-along i before [] fed prefix =
    subst (λ (l : List Entry). IsPrefix (arrived_in (entries_of i l)) (sent_in (entries_of i l))) (sym (append-nil before)) prefix
arrived-along i before (x ∷ rest) fed prefix =
    subst (λ (l : List Entry). IsPrefix (arrived_in (entries_of i l)) (sent_in (entries_of i l))) (append_assoc before (x ∷ []) rest)
    (arrived-along i (before ++ x ∷ []) rest fed.1 (arrived-step i before x fed.0 prefix))

pub arrived_in_order : (config : Config) (entries : List Entry) (i : ℕ) → IsRun config entries
    → IsPrefix (arrived_in (entries_of i entries)) (sent_in (entries_of i entries))
arrived_in_order config entries i run = arrived-along i [] entries run.fed (record { rest = []; is_whole = refl })

-- an answer that isn't a refusal
unless-ok : (log new : Log) (e : Entry) (refusal : Option Refusal) → logged_unless log e refusal ≡ Ok new → logged log e ≡ new
unless-ok log new e None is = cc
unless-ok log new e (Some refusal) is = absurd (cc)

not-full : (b : Bool) (answer : Result Log StepError) (new : Log) → cond b answer (Err steps.Full) ≡ Ok new → answer ≡ Ok new
not-full true answer new is = is
not-full false answer new is = absurd (cc)

pub step_appends : (log new : Log) (number : ℕ) (input : Input) → step_of log number input ≡ Ok new
    → Appends log.entries new.entries log.me number
unfolding step_of
step_appends log new number input is =
    let st = replay log.config log.me log.entries in
    let e : Entry = entry_at log.config log.me st number input in
    let refusal : Option Refusal = refusal_at log.config log.me st input in
    let longer : logged log e ≡ new =
    unless-ok log new e refusal (not-full (nat_lt (length log.entries) 200000) (logged_unless log e refusal) new is) in
    record { entry = e; is_longer = sym (ap (λ (l : Log). l.entries) longer); client_is = refl; number_is = refl }

pub step_keeps : (log new : Log) (number : ℕ) (input : Input) → step_of log number input ≡ Ok new
    → (new.config ≡ log.config) × (new.me ≡ log.me)
unfolding step_of
step_keeps log new number input is =
    let st = replay log.config log.me log.entries in
    let e : Entry = entry_at log.config log.me st number input in
    let refusal : Option Refusal = refusal_at log.config log.me st input in
    let longer : logged log e ≡ new =
    unless-ok log new e refusal (not-full (nat_lt (length log.entries) 200000) (logged_unless log e refusal) new is) in
    (sym (ap (λ (l : Log). l.config) longer), sym (ap (λ (l : Log). l.me) longer))

recorded-ok : (run new : Run) (e : Entry) (refusal : Option Refusal) → recorded_unless run e refusal ≡ Ok new → recorded run e ≡ new
recorded-ok run new e None is = cc
recorded-ok run new e (Some refusal) is = absurd (cc)

-- one more entry, of this client and with the next number
pub record Extends (run new : Run) (i : ℕ) : Type 0 where
  pub appends : Appends run.entries new.entries i (length run.entries)
  pub same_config : new.config ≡ run.config

extends-by : (run new : Run) (e : Entry) (i : ℕ) → recorded run e ≡ new → e.client ≡ i → e.number ≡ length run.entries → Extends run new i
extends-by run new e i longer client number = record {
  appends = record { entry = e; is_longer = sym (ap (λ (r : Run). r.entries) longer); client_is = client; number_is = number };
  same_config = sym (ap (λ (r : Run). r.config) longer);
}

acted-extends : (run new : Run) (i : ℕ) (input : Input) → acted run i input ≡ Ok new → Extends run new i
unfolding acted
acted-extends run new i input is =
    let st = replay run.config i (entries_of i run.entries) in
    let e : Entry = entry_at run.config i st (length run.entries) input in
    extends-by run new e i (recorded-ok run new e (refusal_at run.config i st input) is) refl refl

arrived-extends : (run new : Run) (i : ℕ) (message : Option (List ℕ)) → arrived_at run i message ≡ Ok new → Extends run new i
arrived-extends run new i None is = absurd (cc)
arrived-extends run new i (Some message) is =
    let longer : recorded run (arrival_at i (length run.entries) message) ≡ new = cc in
    extends-by run new (arrival_at i (length run.entries) message) i longer refl refl

push-extends : (run new : Run) (i : ℕ) (input : PushInput) → push_of run i input ≡ Ok new → Extends run new i
unfolding arrived
push-extends run new i (given.Write value) is = acted-extends run new i (inputs.Write value) is
push-extends run new i (given.Read register) is = acted-extends run new i (inputs.Read register) is
push-extends run new i (given.Reply bytes) is = acted-extends run new i (inputs.Reply bytes) is
push-extends run new i (given.Peer bytes) is = acted-extends run new i (inputs.Peer bytes) is
push-extends run new i (given.Tick moment) is = acted-extends run new i (inputs.Tick moment) is
push-extends run new i given.Arrive is = arrived-extends run new i (next_message i run.entries) is

pub push_appends : (run new : Run) (i : ℕ) (input : PushInput) → push_of run i input ≡ Ok new
    → Appends run.entries new.entries i (length run.entries)
push_appends run new i input is = (push-extends run new i input is).appends

pub push_keeps : (run new : Run) (i : ℕ) (input : PushInput) → push_of run i input ≡ Ok new → new.config ≡ run.config
push_keeps run new i input is = (push-extends run new i input is).same_config
