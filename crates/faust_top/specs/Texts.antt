-- The texts that `run` writes. Every promise on what it writes rests on these.
use Rattle.std.specs.Prelude.{ℕ, List, ◌++◌, codes}
use Rattle.std.specs.Fmt.{decimal}
use Rattle.faust_record.specs.Runs.{Run}
use Rattle.faust_premises.specs.Premises.{Verdict, clean, premises_of}
use Rattle.faust_report.specs.Json.{json_text}
use Rattle.faust_report.specs.Summary.{summary_text}
use Rattle.faust_report.specs.Text.{report_text}
use Rattle.faust_store.specs.Texts.{record_text}
use Rattle.faust_verdict.specs.Texts.{found_of}
use Rattle.faust_top.specs.declared.accepting.Accepted.{Accepted}
use Rattle.faust_top.specs.declared.words.Command.{Command}
use Rattle.faust_top.specs.declared.words.Command.TheVariants as commands

-- What a command tells of the run that it accepted.
abbrev pub text_of : Command → Accepted → List ℕ
text_of commands.Script taken = report_text (found_of taken.run)
text_of commands.Record taken = record_text taken.run taken.format
text_of commands.Audit taken = report_text (found_of taken.run)
text_of commands.Json taken = json_text (found_of taken.run)
text_of commands.Migrate taken = record_text taken.run 2
text_of (commands.Sample seed clients ops) taken = summary_text seed (found_of taken.run)

-- Whether a run is clean. The commands that write a record don't look: they tell of any run.
abbrev pub verdict_for : Command → Run → Verdict
verdict_for commands.Script run = premises_of run
verdict_for commands.Record run = clean
verdict_for commands.Audit run = premises_of run
verdict_for commands.Json run = premises_of run
verdict_for commands.Migrate run = clean
verdict_for (commands.Sample seed clients ops) run = premises_of run

-- Where a line is refused. Line 0 stands for the whole input, which is too long.
abbrev pub refusal_text : ℕ → List ℕ → List ℕ
refusal_text line cause = codes "refused: line " ++ (decimal line ++ (codes ": " ++ (cause ++ codes "\n")))

abbrev pub too_long_text : List ℕ
too_long_text = codes "refused: line 0: input\n"
