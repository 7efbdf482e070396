-- The run that a command speaks of, or the line of its input that is refused. The promise of `run` rests on this file.
use Rattle.std.specs.Prelude.{ℕ, List, Result, Ok, Err}
use Rattle.faust_script.specs.declared.script.Script.{Script}
use Rattle.faust_script.specs.Parsing.{Refusal, parsed}
use Rattle.faust_script.specs.Generated.{generated}
use Rattle.faust_record.specs.Runs.{Run}
use Rattle.faust_sim.specs.Play.{played}
use Rattle.faust_store.specs.Reading.{read}
use Rattle.faust_store.specs.Reading as store
use Rattle.faust_top.specs.declared.accepting.Accepted.{Accepted}
use Rattle.faust_top.specs.declared.words.Command.{Command}
use Rattle.faust_top.specs.declared.words.Command.TheVariants as commands

-- A run whose record has this format.
abbrev pub accepted_run : ℕ → Result Run Refusal → Result Accepted Refusal
accepted_run format (Ok run) = Ok (record { run = run; format = format })
accepted_run format (Err refusal) = Err refusal

-- A script is accepted where all its events can be played, and else refused at the first that can't.
abbrev pub script_played : Script → Result Accepted Refusal
script_played script = accepted_run script.format (played script)

-- The text of a script is accepted where that is, and refused at the first line that breaks the grammar.
abbrev pub accepted_script : Result Script Refusal → Result Accepted Refusal
accepted_script (Ok script) = script_played script
accepted_script (Err refusal) = Err refusal

-- The text of a record is accepted where it is the record of a run, and else refused at its first line that isn't.
abbrev pub accepted_record : Result Run store.Refusal → Result Accepted Refusal
accepted_record (Ok run) = Ok (record { run = run; format = 2 })
accepted_record (Err refusal) = Err (record { line = refusal.line; cause = refusal.cause })

-- Three commands read a script, two a record, and one makes its script from the numbers in its words.
abbrev pub accepted : Command → List ℕ → Result Accepted Refusal
accepted commands.Script input = accepted_script (parsed input)
accepted commands.Record input = accepted_script (parsed input)
accepted commands.Audit input = accepted_record (read input)
accepted commands.Json input = accepted_script (parsed input)
accepted commands.Migrate input = accepted_record (read input)
accepted (commands.Sample seed clients ops) input = script_played (generated seed clients ops)
