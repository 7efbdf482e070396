-- The text of an input and its status: that it has one, and no other.
use Rattle.std.proofs.Common.{◌≡◌, ℕ, true, false, List, length, Option, None, Some, Result, Ok, Err, refl, sym, ap, ◌∙◌, subst, inl, inr, ◌⊎◌}
use Rattle.std.proofs.lemmas.Bool.{cases_lt, cond-false, cond-true, le-ltb, lt-ltb}
use Rattle.faust_types.specs.declared.status.Status.{Status}
use Rattle.faust_types.specs.declared.status.Status.TheVariants.{Done, Usage, Refused, ReadFault, WriteFault, OutOfMemory, Premise}
use Rattle.faust_record.specs.Runs.{Run}
use Rattle.faust_script.specs.Generated.{IsSampleSize, generated}
use Rattle.faust_script.specs.Parsing.{Refusal}
use Rattle.faust_sampled.proofs.Playing.{plays-through}
use Rattle.faust_premises.specs.Premises.{Verdict, clean, forged, collision}
use Rattle.faust_top.specs.declared.accepting.Accepted.{Accepted}
use Rattle.faust_top.specs.declared.output.Output.{Output}
use Rattle.faust_top.specs.declared.words.Command.{Command}
use Rattle.faust_top.specs.declared.words.Command.TheVariants as commands
use Rattle.faust_top.specs.Accepting.{accepted, accepted_run, script_played}
use Rattle.faust_top.specs.Answer.{IsAccepted, IsOver, IsRefusedWith, IsTextFor, IsWithin}
use Rattle.faust_top.specs.Commands.{IsInRange, IsReader, limit_of}
use Rattle.faust_top.specs.Output.{is_over, output_of, output_of_accepted, output_of_judged, too_long_output}
use Rattle.faust_verdict.specs.Texts.{IsPremiseText, collision_text, forged_text}
use Rattle.faust_top.specs.Texts.{verdict_for}

-- A refusal comes of a command that reads: a script that is generated can be played.
abbrev IsDueOfReader : Command → Result Accepted Refusal → Type 0
IsDueOfReader command (Ok taken) = Unit {0}
IsDueOfReader command (Err refusal) = IsReader command

read_due : (command : Command) (result : Result Accepted Refusal) → IsReader command → IsDueOfReader command result
read_due command (Ok taken) reader = tt
read_due command (Err refusal) reader = reader

generated_due : (seed clients ops : ℕ) → IsSampleSize clients ops
    → IsDueOfReader (commands.Sample seed clients ops) (script_played (generated seed clients ops))
generated_due seed clients ops size =
    subst (λ (result : Result Run Refusal). IsDueOfReader (commands.Sample seed clients ops)
    (accepted_run (generated seed clients ops).format result)) (sym (plays-through seed clients ops size).1) tt

due_of : (command : Command) (input : List ℕ) → IsInRange command → IsDueOfReader command (accepted command input)
due_of commands.Script input range = read_due commands.Script (accepted commands.Script input) refl
due_of commands.Record input range = read_due commands.Record (accepted commands.Record input) refl
due_of commands.Audit input range = read_due commands.Audit (accepted commands.Audit input) refl
due_of commands.Json input range = read_due commands.Json (accepted commands.Json input) refl
due_of commands.Migrate input range = read_due commands.Migrate (accepted commands.Migrate input) refl
due_of (commands.Sample seed clients ops) input range = generated_due seed clients ops range.size

-- An output is the text of an input, at its status.
abbrev pub Has : Command → List ℕ → Output → Type 0
Has command input output = IsTextFor command input output.status output.text

judged_has : (command : Command) (input : List ℕ) (taken : Accepted) (verdict : Verdict) → IsAccepted command input taken
    → verdict_for command taken.run ≡ verdict → Has command input (output_of_judged command taken verdict)
judged_has command input taken clean is found = (taken, is, found, refl)
judged_has command input taken (forged entry body) is found =
    (taken, is, subst (λ (v : Verdict). IsPremiseText v (forged_text entry body)) (sym found) refl)
judged_has command input taken (collision first second) is found =
    (taken, is, subst (λ (v : Verdict). IsPremiseText v (collision_text first second)) (sym found) refl)

accepted_has : (command : Command) (input : List ℕ) (result : Result Accepted Refusal) → IsDueOfReader command result
    → IsWithin (limit_of command) input → accepted command input ≡ result → Has command input (output_of_accepted command result)
accepted_has command input (Ok taken) reader few is =
    judged_has command input taken (verdict_for command taken.run) (record { not_too_long = few; accepted_is = is }) refl
accepted_has command input (Err refusal) reader few is = inr (refusal, reader, few, is, refl)

pub input_has : (command : Command) (input : List ℕ) → IsInRange command → IsWithin (limit_of command) input
    → Has command input (output_of_accepted command (accepted command input))
input_has command input range few = accepted_has command input (accepted command input) (due_of command input range) few refl

-- An input is over its limit, or within it.
over_or_within : (limit : Option ℕ) (input : List ℕ) → (IsOver limit input × (is_over limit input ≡ true))
    ⊎ (IsWithin limit input × (is_over limit input ≡ false))
over_or_within None input = inr (tt, refl)
over_or_within (Some most) input =
    elim (cases_lt most (length input)) [
      | inl many ↦ inl (many, lt-ltb _ _ many)
      | inr few ↦ inr (few, le-ltb _ _ few)
    ]

over_is : (limit : Option ℕ) (input : List ℕ) → IsOver limit input → is_over limit input ≡ true
over_is None input over = absurd over
over_is (Some most) input over = lt-ltb _ _ over

within_is : (limit : Option ℕ) (input : List ℕ) → IsWithin limit input → is_over limit input ≡ false
within_is None input within = refl
within_is (Some most) input within = le-ltb _ _ within

-- Every input has an output.
long : (command : Command) (input : List ℕ) → is_over (limit_of command) input ≡ true → output_of command input ≡ too_long_output
long command input over = cond-true (is_over (limit_of command) input) too_long_output
    (output_of_accepted command (accepted command input)) over

short : (command : Command) (input : List ℕ) → is_over (limit_of command) input ≡ false
    → output_of command input ≡ output_of_accepted command (accepted command input)
short command input within = cond-false (is_over (limit_of command) input) too_long_output
    (output_of_accepted command (accepted command input)) within

pub has_output : (command : Command) (input : List ℕ) → IsInRange command → Has command input (output_of command input)
has_output command input range =
    elim (over_or_within (limit_of command) input) [
      | inl over ↦ subst (λ (o : Output). Has command input o) (sym (long command input over.1)) (inl (over.0, refl))
      | inr within ↦ subst (λ (o : Output). Has command input o) (sym (short command input within.1))
          (input_has command input range within.0)
    ]

-- It has no other.
abbrev given : Status → List ℕ → Output
given status text = record { status = status; text = text }

accepted_output : (command : Command) (input : List ℕ) (taken : Accepted) → IsAccepted command input taken
    → output_of command input ≡ output_of_judged command taken (verdict_for command taken.run)
accepted_output command input taken is =
    short command input (within_is (limit_of command) input is.not_too_long) ∙ ap (output_of_accepted command) is.accepted_is

premise_only : (command : Command) (taken : Accepted) (verdict : Verdict) (text : List ℕ) → IsPremiseText verdict text
    → output_of_judged command taken verdict ≡ given Premise text
premise_only command taken clean text is = absurd is
premise_only command taken (forged entry body) text is = ap (given Premise) (sym is)
premise_only command taken (collision first second) text is = ap (given Premise) (sym is)

refused_only : (command : Command) (input text : List ℕ) → IsRefusedWith command input text → output_of command input ≡ given Refused text
refused_only command input text (inl over) = long command input (over_is (limit_of command) input over.0) ∙ ap (given Refused) (sym over.1)
refused_only command input text (inr at) =
    short command input (within_is (limit_of command) input at.2) ∙ (ap (output_of_accepted command) at.3 ∙ ap (given Refused) (sym at.4))

output_only : (command : Command) (input : List ℕ) (status : Status) (text : List ℕ) → IsTextFor command input status text
    → output_of command input ≡ given status text
output_only command input Done text is =
    accepted_output command input is.0 is.1 ∙ (ap (output_of_judged command is.0) is.2 ∙ ap (given Done) (sym is.3))
output_only command input Usage text is = absurd is
output_only command input Refused text is = refused_only command input text is
output_only command input ReadFault text is = absurd is
output_only command input WriteFault text is = absurd is
output_only command input OutOfMemory text is = absurd is
output_only command input Premise text is =
    accepted_output command input is.0 is.1 ∙ premise_only command is.0 (verdict_for command is.0.run) text is.2

pub one_output : (command : Command) (input : List ℕ) (status other : Status) (text another : List ℕ)
    → IsTextFor command input status text → IsTextFor command input other another
    → (status ≡ other) × (text ≡ another)
one_output command input status other text another is also =
    let same : given status text ≡ given other another =
    sym (output_only command input status text is) ∙ output_only command input other another also in
    (ap (λ o. o.status) same, ap (λ o. o.text) same)
