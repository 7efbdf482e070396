-- The text of a gathering and its status: that it has one, and no other.
use Rattle.std.proofs.Common.{◌≡◌, ◌⊎◌, ℕ, List, Option, None, Some, Result, Ok, Err, IfOk, refl, sym, ap, ◌∙◌, subst, inl, inr}
use Rattle.faust_types.specs.declared.config.Config.{Config}
use Rattle.faust_types.specs.declared.out_of_memory.OutOfMemory.{OutOfMemory}
use Rattle.faust_record.specs.Merging.{merged}
use Rattle.faust_record.specs.Runs.{IsRun, Run}
use Rattle.faust_record.specs.declared.errors.MergeError.{MergeError}
use Rattle.faust_record.specs.declared.errors.MergeError.TheVariants as merges
use Rattle.faust_premises.specs.Premises.{Verdict, clean, forged, collision, premises_of}
use Rattle.faust_verdict.specs.Texts.{IsPremiseText, collision_text, forged_text}
use Rattle.faust_verdict.proofs.Promising.{promises-of}
use Rattle.faust_receipts.specs.Lines.{first_differing_of, first_short}
use Rattle.faust_outcome.specs.declared.deciding.Output.{Output}
use Rattle.faust_outcome.specs.declared.gathered.Gathered.{Gathered}
use Rattle.faust_outcome.specs.declared.status.LiveStatus.{LiveStatus}
use Rattle.faust_outcome.specs.declared.status.LiveStatus.TheVariants as statuses
use Rattle.faust_outcome.specs.declared.words.LiveCommand.{LiveCommand}
use Rattle.faust_outcome.specs.Deciding.{given, output_compared, output_counted, output_judged, output_merged, output_of}
use Rattle.faust_outcome.specs.Outcomes.{AreRuns, HasDifference, HasShortage, HasStranger, IsMatched, IsMerged, IsPromisedOf, IsText}
use Rattle.faust_outcome.specs.Words.{config_of}
use Rattle.faust_outcome.proofs.MergedLaws.{merged-in-memory}

-- An output is the text of a gathering, at its status.
abbrev pub Has : LiveCommand → Gathered → Output → Type 0
Has command it output = IsText command it output.status output.text

judged-has : (command : LiveCommand) (it : Gathered) (run : Run) (verdict : Verdict) → IsMatched command it run
    → premises_of run ≡ verdict → Has command it (output_judged command it.receipts run verdict)
judged-has command it run clean is found = record { run = run; matched = is; is_clean = found; text_is = refl }
judged-has command it run (forged entry body) is found = record {
  run = run;
  matched = is;
  text_is = subst (λ (v : Verdict). IsPremiseText v (forged_text entry body)) (sym found) refl;
}
judged-has command it run (collision first second) is found = record {
  run = run;
  matched = is;
  text_is = subst (λ (v : Verdict). IsPremiseText v (collision_text first second)) (sym found) refl;
}

counted-has : (command : LiveCommand) (it : Gathered) (run : Run) (line : Option (List ℕ)) → IsMerged command it (Ok run)
    → first_differing_of run.entries 1 it.receipts ≡ None → first_short run.entries command.ops 1 it.receipts ≡ line
    → Has command it (output_counted command it.receipts run line)
counted-has command it run None is none short =
    judged-has command it run (premises_of run) (record { merged_is = is; none_differs = none; none_short = short }) refl
counted-has command it run (Some line) is none short =
    inr (inr (record { run = run; merged_is = is; none_differs = none; line = line; short = short; text_is = refl }))

compared-has : (command : LiveCommand) (it : Gathered) (run : Run) (line : Option (List ℕ)) → IsMerged command it (Ok run)
    → first_differing_of run.entries 1 it.receipts ≡ line → Has command it (output_compared command it.receipts run line)
compared-has command it run None is differs =
    counted-has command it run (first_short run.entries command.ops 1 it.receipts) is differs refl
compared-has command it run (Some line) is differs =
    inr (inl (record { run = run; merged_is = is; line = line; differs = differs; text_is = refl }))

merged-has : (command : LiveCommand) (it : Gathered) (answer : Result Run MergeError) → IsMerged command it answer
    → Has command it (output_merged command it.receipts answer)
merged-has command it (Ok run) is = compared-has command it run (first_differing_of run.entries 1 it.receipts) is refl
merged-has command it (Err (merges.Client place client)) is =
    inl (record { place = place; client = client; merged_is = is; text_is = refl })
merged-has command it (Err (merges.Frame client index sent got)) is =
    record { client = client; index = index; sent = sent; got = got; merged_is = is; text_is = refl }
merged-has command it (Err merges.OutOfMemory) is =
    absurd (merged-in-memory (config_of command) it.journals it.arrivals is)

pub gathered-has : (command : LiveCommand) (it : Gathered) → Has command it (output_of command it)
gathered-has command it = merged-has command it (merged (config_of command) it.journals it.arrivals) refl

-- With a config that is that of the command.
pub merged-with : (command : LiveCommand) (it : Gathered) (config : Config) (answer : Result Run MergeError)
    → config ≡ config_of command → merged config it.journals it.arrivals ≡ answer → IsMerged command it answer
merged-with command it config answer same is = ap (λ (c : Config). merged c it.journals it.arrivals) (sym same) ∙ is

-- The text of an output that is due, at its status.
pub due-has : (command : LiveCommand) (it : Gathered) (answer : Result Run MergeError) (result : Result Output OutOfMemory)
    → IsMerged command it answer → IfOk result (λ output. output ≡ output_merged command it.receipts answer)
    → IfOk result (λ output. IsText command it output.status output.text)
due-has command it answer (Ok output) is due = subst (λ (o : Output). Has command it o) (sym due) (merged-has command it answer is)
due-has command it answer (Err e) is due = tt

-- It has no other.
matched-only : (command : LiveCommand) (it : Gathered) (run : Run) → IsMatched command it run
    → output_of command it ≡ output_judged command it.receipts run (premises_of run)
matched-only command it run is =
    ap (output_merged command it.receipts) is.merged_is
    ∙ ap (output_compared command it.receipts run) is.none_differs
    ∙ ap (output_counted command it.receipts run) is.none_short

premise-only : (command : LiveCommand) (it : Gathered) (run : Run) (verdict : Verdict) (text : List ℕ) → IsPremiseText verdict text
    → output_judged command it.receipts run verdict ≡ given statuses.Premise text
premise-only command it run clean text is = absurd is
premise-only command it run (forged entry body) text is = ap (given statuses.Premise) (sym is)
premise-only command it run (collision first second) text is = ap (given statuses.Premise) (sym is)

mismatch-only : (command : LiveCommand) (it : Gathered) (text : List ℕ)
    → HasStranger command it text ⊎ (HasDifference command it text ⊎ HasShortage command it text)
    → output_of command it ≡ given statuses.Mismatch text
mismatch-only command it text (inl is) =
    ap (output_merged command it.receipts) is.merged_is ∙ ap (given statuses.Mismatch) (sym is.text_is)
mismatch-only command it text (inr (inl is)) =
    ap (output_merged command it.receipts) is.merged_is
    ∙ ap (output_compared command it.receipts is.run) is.differs
    ∙ ap (given statuses.Mismatch) (sym is.text_is)
mismatch-only command it text (inr (inr is)) =
    ap (output_merged command it.receipts) is.merged_is
    ∙ ap (output_compared command it.receipts is.run) is.none_differs
    ∙ ap (output_counted command it.receipts is.run) is.short
    ∙ ap (given statuses.Mismatch) (sym is.text_is)

text-only : (command : LiveCommand) (it : Gathered) (status : LiveStatus) (text : List ℕ) → IsText command it status text
    → output_of command it ≡ given status text
text-only command it statuses.Done text is =
    matched-only command it is.run is.matched
    ∙ ap (output_judged command it.receipts is.run) is.is_clean
    ∙ ap (given statuses.Done) (sym is.text_is)
text-only command it statuses.Usage text is = absurd is
text-only command it statuses.WriteFault text is = absurd is
text-only command it statuses.OutOfMemory text is = absurd is
text-only command it statuses.Premise text is =
    matched-only command it is.run is.matched ∙ premise-only command it is.run (premises_of is.run) text is.text_is
text-only command it statuses.StartFault text is = absurd is
text-only command it statuses.LinkFault text is =
    ap (output_merged command it.receipts) is.merged_is ∙ ap (given statuses.LinkFault) (sym is.text_is)
text-only command it statuses.Mismatch text is = mismatch-only command it text is

pub one-text : (command : LiveCommand) (it : Gathered) (status other : LiveStatus) (text another : List ℕ)
    → IsText command it status text → IsText command it other another → (status ≡ other) × (text ≡ another)
one-text command it status other text another is also =
    let same : given status text ≡ given other another =
    sym (text-only command it status text is) ∙ text-only command it other another also in
    (ap (λ (o : Output). o.status) same, ap (λ (o : Output). o.text) same)

-- What is merged is a run, at every answer of the code; so what is promised of runs holds of it.
pub any-ok : {X E : Type 0} (r : Result X E) (P : Type 0) → P → IfOk r (λ x. P)
any-ok (Ok x) P p = p
any-ok (Err e) P p = tt

same-run : (answer : Result Run MergeError) (a b : Run) → answer ≡ Ok a → answer ≡ Ok b → a ≡ b
same-run answer a b is also = cc

no-run : (answer : Result Run MergeError) (e : MergeError) (a : Run) → answer ≡ Err e → answer ≡ Ok a → ⊥
no-run answer e a is also = absurd (cc)

pub are-runs : (command : LiveCommand) (it : Gathered) (run : Run) → IsMerged command it (Ok run) → IsRun run.config run.entries
    → AreRuns command it
unfolding AreRuns
are-runs command it run is kept = λ other also.
    subst (λ (r : Run). IsRun r.config r.entries)
    (same-run (merged (config_of command) it.journals it.arrivals) run other is also) kept

pub none-are-runs : (command : LiveCommand) (it : Gathered) (e : MergeError) → IsMerged command it (Err e) → AreRuns command it
unfolding AreRuns
none-are-runs command it e is = λ other also. absurd (no-run (merged (config_of command) it.journals it.arrivals) e other is also)

pub promised-of : (command : LiveCommand) (it : Gathered) → AreRuns command it → IsPromisedOf command it
unfolding AreRuns IsPromisedOf
promised-of command it runs = λ run is. promises-of run (runs run is)
