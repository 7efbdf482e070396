-- What a live run has shown that is told of.
use Rattle.std.proofs.Common.{◌≡◌, ◌⊎◌, ◌&&◌, ◌≤◌, ℕ, suc, Bool, true, false, not, cond, ltb, List, [], ◌∷◌, length, Option, None, Some, IsSomeAnd, Ok, option_map, refl, sym, ap, ◌∙◌, subst, inl, inr, arith}
use Rattle.std.specs.Prelude.{option_and_then, slice_get}
use Rattle.std.proofs.lemmas.Bool.{and_parts, both_ways, cases_lt, eqb-true, lt-ltb}
use Rattle.faust_types.specs.declared.operation.Answer.{Answer}
use Rattle.faust_types.specs.declared.operation.OpName.{OpName}
use Rattle.faust_record.specs.Operations.{Finished, completion_named, finished_among, first_finished, is_named, started_among}
use Rattle.faust_record.specs.Runs.{IsRun, Run, entries_of}
use Rattle.faust_record.specs.declared.entry.Entry.{Entry}
use Rattle.faust_node.specs.declared.receipt.Receipt.{Receipt}
use Rattle.faust_receipts.specs.Lines.{first_short, has_stopped, is_short, short_line}
use Rattle.faust_receipts.specs.Receipts.{AreAllCompletions, AreAllPrintable, AreCompletions, IsCompletion}
use Rattle.faust_receipts.specs.UserOperations.{name_by, user_completion, user_numbers, user_operation}
use Rattle.faust_receipts.proofs.Right.{receipts_are_right}
use Rattle.faust_verdict.proofs.Promising.{promises-of}
use Rattle.faust_outcome.specs.declared.gathered.Gathered.{Gathered}
use Rattle.faust_outcome.specs.declared.words.LiveCommand.{LiveCommand}
use Rattle.faust_outcome.specs.Gathering.{IsGathered}
use Rattle.faust_outcome.specs.Outcomes.{AreRuns, IsDone, IsMerged}
use Rattle.faust_outcome.specs.Told.{AreAllMade, AreComplete, AreMade, IsTurn, IsWell}
use Rattle.faust_outcome.specs.UserLists.{AreAllTold, AreListed, IsListed, is_write_turn}
use Rattle.faust_outcome.specs.Words.{IsInRange}
use Rattle.faust_outcome.proofs.Sizes.{as-many-users, few-entries}

-- A completion of client i's operation has client i in its name.
named-choice : (b : Bool) (here found : Finished) (later : Option Finished) (i : ℕ)
    → (b ≡ true → here.answer.op.name.client ≡ i) → (later ≡ Some found → found.answer.op.name.client ≡ i)
    → cond b (Some here) later ≡ Some found → found.answer.op.name.client ≡ i
named-choice true here found later i first rest is =
    let same : here ≡ found = cc in
    subst (λ (f : Finished). f.answer.op.name.client ≡ i) same (first refl)
named-choice false here found later i first rest is = rest is

first-named : (name : OpName) (all : List Finished) (found : Finished) → first_finished name all ≡ Some found
    → found.answer.op.name.client ≡ name.client
first-named name [] found is = absurd (cc)
first-named name (here ∷ rest) found is =
    named-choice (is_named name here.answer.op.name) here found (first_finished name rest) name.client
    (λ named. sym (eqb-true name.client here.answer.op.name.client (and_parts _ _ named).0))
    (λ later. first-named name rest found later) is

named-by : (i : ℕ) (numbers : Option ℕ) (name : OpName) → option_map (name_by i) numbers ≡ Some name → name.client ≡ i
named-by i None name is = absurd (cc)
named-by i (Some t) name is =
    let same : name_by i t ≡ name = cc in
    sym (ap (λ (n : OpName). n.client) same)

operation-client : (entries : List Entry) (i : ℕ) (operation : Option OpName) (found : Finished)
    → ((name : OpName) → operation ≡ Some name → name.client ≡ i)
    → option_and_then (completion_named entries) operation ≡ Some found → found.answer.op.name.client ≡ i
operation-client entries i None found named is = absurd (cc)
operation-client entries i (Some name) found named is =
    first-named name (finished_among (entries_of name.client entries)) found is ∙ named name refl

completion-client : (entries : List Entry) (i u : ℕ) (found : Finished) → user_completion entries i u ≡ Some found
    → found.answer.op.name.client ≡ i
unfolding user_completion
completion-client entries i u found is =
    operation-client entries i (user_operation entries i u) found
    (λ name named. named-by i (slice_get (user_numbers 1 (started_among (entries_of i entries))) u) name named) is

receipt-client : (completion : Option Finished) (receipt : Receipt) (i : ℕ)
    → ((found : Finished) → completion ≡ Some found → found.answer.op.name.client ≡ i)
    → IsSomeAnd completion (IsCompletion receipt) → receipt.answer.op.name.client ≡ i
receipt-client None receipt i client is = absurd is
receipt-client (Some found) receipt i client is =
    ap (λ (a : Answer). a.op.name.client) is.same_answer ∙ client found refl

-- So a write of the list is of its client's register.
turn-of : (n i : ℕ) (b : Bool) (receipt : Receipt) → IsListed n i b receipt.answer.op → receipt.answer.op.name.client ≡ i
    → IsTurn n i b receipt.answer.op
turn-of n i true receipt listed client = (listed, (receipt.kept.plain listed).own_register ∙ client)
turn-of n i false receipt listed client = listed

made-of : (entries : List Entry) (n i place : ℕ) (receipts : List Receipt) → AreListed n i place receipts
    → AreCompletions entries i place receipts → AreMade n i place receipts
made-of entries n i place [] listed completed = tt
made-of entries n i place (receipt ∷ rest) listed completed =
    let client = receipt-client (user_completion entries i place) receipt i (completion-client entries i place) completed.0 in (
      record { of_client = client; of_turn = turn-of n i (is_write_turn place) receipt listed.0 client },
      made-of entries n i (suc place) rest listed.1 completed.1,
    )

all-made : (entries : List Entry) (n ops i : ℕ) (all : List (List Receipt)) → AreAllTold n ops i all
    → AreAllCompletions entries i all → AreAllMade n i all
all-made entries n ops i [] told completed = tt
all-made entries n ops i (receipts ∷ rest) told completed =
    (made-of entries n i 0 receipts told.0.listed completed.0, all-made entries n ops (suc i) rest told.1 completed.1)

all-printable : (n ops i : ℕ) (all : List (List Receipt)) → AreAllTold n ops i all → AreAllPrintable all
all-printable n ops i [] told = tt
all-printable n ops i (receipts ∷ rest) told = (told.0.printable, all-printable n ops (suc i) rest told.1)

-- A user that isn't short has all receipts, or its client stopped.
not-short : (b : Bool) (line : List ℕ) (later : Option (List ℕ)) → cond b (Some line) later ≡ None → (b ≡ false) × (later ≡ None)
not-short true line later none = absurd (cc)
not-short false line later none = (refl, none)

enough-or-stopped : (fewer stopped : Bool) → (fewer && not stopped) ≡ false → (fewer ≡ false) ⊎ (stopped ≡ true)
enough-or-stopped true true is = inr refl
enough-or-stopped true false is = absurd (cc)
enough-or-stopped false stopped is = inl refl

enough : (has ops : ℕ) → ltb has ops ≡ false → ops ≤ has
enough has ops none =
    elim (cases_lt has ops) [
      | inl fewer ↦ absurd (both_ways (ltb has ops) none (lt-ltb has ops fewer))
      | inr more ↦ more
    ]

all-or-stopped : (entries : List Entry) (ops i : ℕ) (receipts : List Receipt) → length receipts ≤ ops
    → is_short entries ops i receipts ≡ false → (length receipts ≡ ops) ⊎ (has_stopped entries i ≡ true)
all-or-stopped entries ops i receipts few none =
    elim (enough-or-stopped (ltb (length receipts) ops) (has_stopped entries i) none) [
      | inl more ↦ let least = enough (length receipts) ops more in inl (omega (arith, least, few))
      | inr stopped ↦ inr stopped
    ]

all-complete : (entries : List Entry) (n ops i : ℕ) (all : List (List Receipt)) → AreAllTold n ops i all
    → first_short entries ops i all ≡ None → AreComplete entries ops i all
all-complete entries n ops i [] told none = tt
all-complete entries n ops i (receipts ∷ rest) told none =
    let line = short_line i (length receipts) ops in
    let parts = not-short (is_short entries ops i receipts) line (first_short entries ops (suc i) rest) none in
    (all-or-stopped entries ops i receipts told.0.few parts.0, all-complete entries n ops (suc i) rest told.1 parts.1)

-- All together.
run-of : (command : LiveCommand) (it : Gathered) (run : Run) → AreRuns command it → IsMerged command it (Ok run)
    → IsRun run.config run.entries
unfolding AreRuns
run-of command it run runs is = runs run is

pub done-is-well : (command : LiveCommand) (it : Gathered) (text : List ℕ) → IsInRange command → IsGathered command it
    → AreRuns command it → IsDone command it text → IsWell command it text
done-is-well command it text range gathered runs is =
    let run = is.run in
    let merged_is = is.matched.merged_is in
    let kept : IsRun run.config run.entries = run-of command it run runs merged_is in
    let entries = few-entries command it run range gathered merged_is in
    let completions : AreAllCompletions run.entries 1 it.receipts =
    (receipts_are_right run.config run.entries it.receipts kept (omega (arith, entries)) (as-many-users command it run gathered merged_is)
    (all-printable command.clients command.ops 1 it.receipts gathered.told)).0 is.matched.none_differs in record {
      run = run;
      merged_is = merged_is;
      is_run = kept;
      headline = (promises-of run kept).of_clean is.is_clean;
      text_is = is.text_is;
      completions = completions;
      made = all-made run.entries command.clients command.ops 1 it.receipts gathered.told completions;
      complete = all-complete run.entries command.clients command.ops 1 it.receipts gathered.told is.matched.none_short;
    }
