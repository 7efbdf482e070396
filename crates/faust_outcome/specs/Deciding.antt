-- What a gathering comes to, as a function. No promise rests on this: `specs/Outcomes.antt` says the same as facts.
use Rattle.std.specs.Prelude.{ℕ, List, [], ◌++◌, codes, Option, None, Some, Result, Ok, Err}
use Rattle.faust_record.specs.Merging.{merged}
use Rattle.faust_record.specs.Runs.{Run}
use Rattle.faust_record.specs.declared.errors.MergeError.{MergeError}
use Rattle.faust_record.specs.declared.errors.MergeError.TheVariants as merges
use Rattle.faust_premises.specs.Premises.{Verdict, clean, forged, collision, premises_of}
use Rattle.faust_verdict.specs.Texts.{collision_text, forged_text}
use Rattle.faust_node.specs.declared.receipt.Receipt.{Receipt}
use Rattle.faust_receipts.specs.Lines.{first_differing_of, first_short}
use Rattle.faust_outcome.specs.declared.deciding.Output.{Output}
use Rattle.faust_outcome.specs.declared.gathered.Gathered.{Gathered}
use Rattle.faust_outcome.specs.declared.status.LiveStatus.{LiveStatus}
use Rattle.faust_outcome.specs.declared.status.LiveStatus.TheVariants.{Done, OutOfMemory, Premise, LinkFault, Mismatch}
use Rattle.faust_outcome.specs.declared.words.LiveCommand.{LiveCommand}
use Rattle.faust_outcome.specs.Outcomes.{frame_text, journal_text, told_text}
use Rattle.faust_outcome.specs.Words.{config_of}

abbrev pub given : LiveStatus → List ℕ → Output
given status text = record { status = status; text = text }

abbrev pub output_judged : LiveCommand → List (List Receipt) → Run → Verdict → Output
output_judged command receipts run clean = given Done (told_text command receipts run)
output_judged command receipts run (forged entry body) = given Premise (forged_text entry body)
output_judged command receipts run (collision first second) = given Premise (collision_text first second)

abbrev pub output_counted : LiveCommand → List (List Receipt) → Run → Option (List ℕ) → Output
output_counted command receipts run None = output_judged command receipts run (premises_of run)
output_counted command receipts run (Some line) = given Mismatch (line ++ codes "\n")

abbrev pub output_compared : LiveCommand → List (List Receipt) → Run → Option (List ℕ) → Output
output_compared command receipts run None = output_counted command receipts run (first_short run.entries command.ops 1 receipts)
output_compared command receipts run (Some line) = given Mismatch (line ++ codes "\n")

abbrev pub output_merged : LiveCommand → List (List Receipt) → Result Run MergeError → Output
output_merged command receipts (Ok run) = output_compared command receipts run (first_differing_of run.entries 1 receipts)
output_merged command receipts (Err (merges.Client place client)) = given Mismatch (journal_text place client)
output_merged command receipts (Err (merges.Frame client index sent got)) = given LinkFault (frame_text client index sent got)
output_merged command receipts (Err merges.OutOfMemory) = given OutOfMemory []

abbrev pub output_of : LiveCommand → Gathered → Output
output_of command it = output_merged command it.receipts (merged (config_of command) it.journals it.arrivals)
