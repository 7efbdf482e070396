-- What a live run comes to, once all have ended: which text is written at which status. The promise of `live` rests on
-- this file.
use Rattle.std.specs.Prelude.{◌≡◌, ◌⊎◌, ℕ, ◌+◌, ◌*◌, List, [], ◌∷◌, ◌++◌, codes, length, Option, None, Some, Result, Ok, Err}
use Rattle.std.specs.Fmt.{decimal}
use Rattle.hex.specs.Hex.{encode_lower}
use Rattle.faust_text.specs.Lines.{ended_text}
use Rattle.faust_text.specs.Tokens.{joined}
use Rattle.faust_record.specs.Merging.{merged}
use Rattle.faust_record.specs.Runs.{IsRun, Run}
use Rattle.faust_record.specs.declared.errors.MergeError.{MergeError}
use Rattle.faust_record.specs.declared.errors.MergeError.TheVariants as merges
use Rattle.faust_record.specs.declared.findings.Findings.{Findings}
use Rattle.faust_premises.specs.Premises.{clean, premises_of}
use Rattle.faust_report.specs.Summary.{failures_line, notices}
use Rattle.faust_report.specs.Text.{clients_line, departure_line, report_text}
use Rattle.faust_verdict.specs.Headline.{IsPromised}
use Rattle.faust_verdict.specs.Texts.{IsPremiseText, found_of}
use Rattle.faust_node.specs.declared.receipt.Receipt.{Receipt}
use Rattle.faust_receipts.specs.Lines.{first_differing_of, first_short}
use Rattle.faust_outcome.specs.declared.gathered.Gathered.{Gathered}
use Rattle.faust_outcome.specs.declared.status.LiveStatus.{LiveStatus}
use Rattle.faust_outcome.specs.declared.status.LiveStatus.TheVariants.{Done, Usage, WriteFault, OutOfMemory, Premise, StartFault, LinkFault, Mismatch}
use Rattle.faust_outcome.specs.declared.words.LiveCommand.{LiveCommand}
use Rattle.faust_outcome.specs.declared.words.Detail.{Detail}
use Rattle.faust_outcome.specs.declared.words.Detail.TheVariants.{Short, Full}
use Rattle.faust_outcome.specs.Words.{config_of}

-- A start was refused; a link failed.
abbrev pub start_fault_text : List ℕ
start_fault_text = codes "start fault\n"

abbrev pub link_fault_text : List ℕ
link_fault_text = codes "link fault\n"

-- The K-th message of client I that arrived isn't the next one that it had sent, if any.
abbrev pub sent_word : Option (List ℕ) → List ℕ
sent_word None = codes "none"
sent_word (Some bytes) = encode_lower bytes

abbrev pub frame_text : ℕ → ℕ → Option (List ℕ) → List ℕ → List ℕ
frame_text client index sent got = codes "frame differs: client " ++ (decimal client ++ (codes " message " ++ (decimal index
    ++ (codes " sent " ++ (sent_word sent ++ (codes " got " ++ (encode_lower got ++ codes "\n")))))))

-- The journal at a place is of another client.
abbrev pub journal_text : ℕ → ℕ → List ℕ
journal_text place client = codes "journal differs: place " ++ (decimal place ++ (codes " client " ++ (decimal client ++ codes "\n")))

-- The short text: clients, operations that users completed of those that they were to make, departure, failures.
abbrev pub receipts_in : List (List Receipt) → ℕ
receipts_in [] = 0
receipts_in (receipts ∷ rest) = length receipts + receipts_in rest

abbrev pub live_line : ℕ → List ℕ
live_line n = joined (codes "live" ∷ clients_line n ∷ [])

abbrev pub user_operations_line : ℕ → ℕ → List ℕ
user_operations_line made of = joined (codes "user" ∷ codes "operations" ∷ decimal made ∷ codes "of" ∷ decimal of ∷ [])

abbrev pub short_lines : ℕ → ℕ → List (List Receipt) → Findings → List (List ℕ)
short_lines n ops receipts found =
    live_line n
    ∷ user_operations_line (receipts_in receipts) (n * ops)
    ∷ departure_line found.departure
    ∷ failures_line (notices found.facts)
    ∷ codes "end" ∷ []

unfoldable pub short_text : ℕ → ℕ → List (List Receipt) → Findings → List ℕ
short_text n ops receipts found = ended_text (short_lines n ops receipts found)

-- What is told of a run: a few numbers, or the report.
abbrev pub told_as : Detail → LiveCommand → List (List Receipt) → Findings → List ℕ
told_as Short command receipts found = short_text command.clients command.ops receipts found
told_as Full command receipts found = report_text found

abbrev pub told_text : LiveCommand → List (List Receipt) → Run → List ℕ
told_text command receipts run = told_as command.detail command receipts (found_of run)

-- What merging the journals and the arrivals answers.
abbrev pub IsMerged : LiveCommand → Gathered → Result Run MergeError → Type 0
IsMerged command it answer = merged (config_of command) it.journals it.arrivals ≡ answer

-- They are a run in which no receipt differs, and no user is short.
pub record IsMatched (command : LiveCommand) (it : Gathered) (run : Run) : Type 0 where
  pub merged_is : IsMerged command it (Ok run)
  pub none_differs : first_differing_of run.entries 1 it.receipts ≡ None
  pub none_short : first_short run.entries command.ops 1 it.receipts ≡ None

-- Such a run is clean, or it isn't.
pub record IsDone (command : LiveCommand) (it : Gathered) (text : List ℕ) : Type 0 where
  pub run : Run
  pub matched : IsMatched command it run
  pub is_clean : premises_of run ≡ clean
  pub text_is : text ≡ told_text command it.receipts run

pub record IsUnclean (command : LiveCommand) (it : Gathered) (text : List ℕ) : Type 0 where
  pub run : Run
  pub matched : IsMatched command it run
  pub text_is : IsPremiseText (premises_of run) text

-- The journal at a place is of another client; or each is of its place's client, and a receipt differs in the run; or
-- none does, and a user is short. The line of a receipt or of a user has a line feed behind it.
pub record HasStranger (command : LiveCommand) (it : Gathered) (text : List ℕ) : Type 0 where
  pub place : ℕ
  pub client : ℕ
  pub merged_is : IsMerged command it (Err (merges.Client place client))
  pub text_is : text ≡ journal_text place client

pub record HasDifference (command : LiveCommand) (it : Gathered) (text : List ℕ) : Type 0 where
  pub run : Run
  pub merged_is : IsMerged command it (Ok run)
  pub line : List ℕ
  pub differs : first_differing_of run.entries 1 it.receipts ≡ Some line
  pub text_is : text ≡ line ++ codes "\n"

pub record HasShortage (command : LiveCommand) (it : Gathered) (text : List ℕ) : Type 0 where
  pub run : Run
  pub merged_is : IsMerged command it (Ok run)
  pub none_differs : first_differing_of run.entries 1 it.receipts ≡ None
  pub line : List ℕ
  pub short : first_short run.entries command.ops 1 it.receipts ≡ Some line
  pub text_is : text ≡ line ++ codes "\n"

-- A message arrived that its client hadn't sent next.
pub record HasFrame (command : LiveCommand) (it : Gathered) (text : List ℕ) : Type 0 where
  pub client : ℕ
  pub index : ℕ
  pub sent : Option (List ℕ)
  pub got : List ℕ
  pub merged_is : IsMerged command it (Err (merges.Frame client index sent got))
  pub text_is : text ≡ frame_text client index sent got

-- Which text a gathering has at a status. Each has one text, at one status.
abbrev pub IsText : LiveCommand → Gathered → LiveStatus → List ℕ → Type 0
IsText command it Done text = IsDone command it text
IsText command it Usage text = ⊥
IsText command it WriteFault text = ⊥
IsText command it OutOfMemory text = ⊥
IsText command it Premise text = IsUnclean command it text
IsText command it StartFault text = ⊥
IsText command it LinkFault text = HasFrame command it text
IsText command it Mismatch text = HasStranger command it text ⊎ (HasDifference command it text ⊎ HasShortage command it text)

-- What journals and arrivals are merged into is a run, and what is promised of every run holds of it.
unfoldable pub AreRuns : LiveCommand → Gathered → Type 0
AreRuns command it = (run : Run) → IsMerged command it (Ok run) → IsRun run.config run.entries

unfoldable pub IsPromisedOf : LiveCommand → Gathered → Type 0
IsPromisedOf command it = (run : Run) → IsMerged command it (Ok run) → IsPromised run
