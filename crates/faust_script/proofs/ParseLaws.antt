-- Reading a script line by line.
use Rattle.std.proofs.Common.{◌≡◌, ℕ, ◌+◌, List, [], drop, Ok, Err, sym, ap, ◌∙◌}
use Rattle.faust_text.specs.declared.error.LineError.{LineError}
use Rattle.faust_text.specs.declared.error.LineError.TheVariants as line_errors
use Rattle.faust_text.specs.declared.line.Line.{Line}
use Rattle.faust_text.specs.Fields.{Fails}
use Rattle.faust_text.specs.Lines.{BeginsAt, line_in, lines_of}
use Rattle.faust_script.specs.declared.stage.Stage.{Stage}
use Rattle.faust_script.specs.Parsing.{Parses, and_then_lines, finished, lines_from, parsed, refused_at, stage_at}

-- One line on.
line_read : (input : List ℕ) (from number : ℕ) (line : Line) (stage : Stage) → BeginsAt input from line
    → lines_from stage number (lines_of (drop from input))
    ≡ and_then_lines number (λ next. lines_from next (number + 1) (lines_of (drop (line.span.end + 1) input)))
    (stage_at stage (line_in input line))
unfolding lines_from
line_read input from number line stage begins = ap (lines_from stage number) begins.lines_from

pub line_taken : (input : List ℕ) (from number : ℕ) (line : Line) (stage next : Stage) → BeginsAt input from line
    → stage_at stage (line_in input line) ≡ Ok next
    → lines_from stage number (lines_of (drop from input)) ≡ lines_from next (number + 1) (lines_of (drop (line.span.end + 1) input))
line_taken input from number line stage next begins taken =
    line_read input from number line stage begins
    ∙ ap (and_then_lines number (λ s. lines_from s (number + 1) (lines_of (drop (line.span.end + 1) input)))) taken

pub line_refused : (input : List ℕ) (from number : ℕ) (line : Line) (stage : Stage) (error : LineError) → BeginsAt input from line
    → Fails error (stage_at stage (line_in input line)) → lines_from stage number (lines_of (drop from input)) ≡ parsed input
    → Parses (Err (refused_at number error)) (parsed input)
line_refused input from number line stage (line_errors.Refused cause) begins failed so_far =
    sym so_far ∙ (line_read input from number line stage begins
    ∙ ap (and_then_lines number (λ s. lines_from s (number + 1) (lines_of (drop (line.span.end + 1) input)))) failed)
line_refused input from number line stage line_errors.OutOfMemory begins failed so_far = tt

pub lines_ended : (input : List ℕ) (from number : ℕ) (stage : Stage) → lines_of (drop from input) ≡ []
    → lines_from stage number (lines_of (drop from input)) ≡ finished stage number
unfolding lines_from
lines_ended input from number stage none = ap (lines_from stage number) none
