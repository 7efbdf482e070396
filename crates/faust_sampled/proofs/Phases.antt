-- How far a client is with its operation, told by how much it sent, what of it arrived, and how many replies it was handed.
use Rattle.std.proofs.Common.{◌≡◌, ◌+◌, ℕ, List, [], ◌∷◌, ◌++◌, length, option_to_list, Option, Some, None, Result, Ok, Err, refl, sym, ap, ◌∙◌, arith, length-append}
use Rattle.std.proofs.lemmas.List.{append-nil}
use Rattle.faust_types.specs.declared.config.Config.{Config}
use Rattle.faust_types.specs.declared.message.Message.{Message}
use Rattle.faust_types.specs.declared.message.Message.TheVariants as messages
use Rattle.faust_server.specs.Rows.{Served, State, committed, submitted}
use Rattle.faust_server.specs.declared.refusal.OutOfTurn.{OutOfTurn}
use Rattle.faust_wire.specs.Reading.{message_of}
use Rattle.faust_record.specs.Operations.{started_among, started_in}
use Rattle.faust_record.specs.Runs.{arrived_in, arriving, entries_of, sent_in}
use Rattle.faust_record.specs.declared.entry.Entry.{Entry}
use Rattle.faust_record.specs.declared.entry.Input.{Input}
use Rattle.faust_record.specs.declared.entry.Input.TheVariants as inputs
use Rattle.faust_record.proofs.Own.{arrived_in-append, entries_of-other, entries_of-own, sent_in-append}
use Rattle.faust_audit.specs.Departure.{Line, first_line, line_at, line_of, line_served, line_settled, line_told, times_of}
use Rattle.faust_audit.proofs.Following.{line-append, times-other, times-own}
use Rattle.faust_joined.proofs.Entering.{started-one}
use Rattle.faust_script.specs.declared.progress.Phase.{Phase}
use Rattle.faust_script.specs.declared.progress.Phase.TheVariants as phases

-- How many operations are pending at a client in a phase, and how many of its messages are on their way to the server.
abbrev pub pending_in : Phase → ℕ
pending_in phases.Idle = 0
pending_in phases.Begun = 1
pending_in phases.Arrived = 1
pending_in phases.Replied = 0

abbrev pub on_way_in : Phase → ℕ
on_way_in phases.Idle = 0
on_way_in phases.Begun = 1
on_way_in phases.Arrived = 0
on_way_in phases.Replied = 1

pub record IsInPhase (config : Config) (entries : List Entry) (i : ℕ) (phase : Phase) : Type 0 where
  pub begun : length (started_among (entries_of i entries)) ≡ times_of i (line_of config entries).handed + pending_in phase
  pub sent : length (sent_in (entries_of i entries)) ≡ length (arrived_in (entries_of i entries)) + on_way_in phase

-- how many replies are handed over in an entry
abbrev pub handed_in : Input → ℕ
handed_in (inputs.Write value) = 0
handed_in (inputs.Read register) = 0
handed_in (inputs.Reply bytes) = 1
handed_in (inputs.Peer bytes) = 0
handed_in (inputs.Tick moment) = 0
handed_in (inputs.Arrive message) = 0

served-handed : (line : Line) (i : ℕ) (row : Result Served OutOfTurn) → (line_served line i row).handed ≡ line.handed
served-handed line i (Ok served) = refl
served-handed line i (Err refused) = refl

settled-handed : (line : Line) (row : Result State OutOfTurn) → (line_settled line row).handed ≡ line.handed
settled-handed line (Ok state) = refl
settled-handed line (Err refused) = refl

told-handed : (line : Line) (i : ℕ) (message : Option Message) → (line_told line i message).handed ≡ line.handed
told-handed line i None = refl
told-handed line i (Some (messages.Submit m)) = served-handed line i (submitted line.server i m)
told-handed line i (Some (messages.Reply m)) = refl
told-handed line i (Some (messages.Commit m)) = settled-handed line (committed line.server i m)
told-handed line i (Some (messages.Peer m)) = refl
told-handed line i (Some (messages.Hello client)) = refl

handed-own : (config : Config) (line : Line) (i : ℕ) (input : Input)
    → times_of i (line_at config line i input).handed ≡ times_of i line.handed + handed_in input
handed-own config line i (inputs.Write value) = omega arith
handed-own config line i (inputs.Read register) = omega arith
handed-own config line i (inputs.Reply bytes) = omega (arith, times-own i i line.handed refl)
handed-own config line i (inputs.Peer bytes) = omega arith
handed-own config line i (inputs.Tick moment) = omega arith
handed-own config line i (inputs.Arrive message) =
    omega (arith, ap (times_of i) (told-handed line i (message_of config.wire config.clients message)))

handed-other : (config : Config) (line : Line) (i j : ℕ) (input : Input) → (i ≡ j → ⊥)
    → times_of j (line_at config line i input).handed ≡ times_of j line.handed
handed-other config line i j (inputs.Write value) other = refl
handed-other config line i j (inputs.Read register) other = refl
handed-other config line i j (inputs.Reply bytes) other = times-other i j line.handed other
handed-other config line i j (inputs.Peer bytes) other = refl
handed-other config line i j (inputs.Tick moment) other = refl
handed-other config line i j (inputs.Arrive message) other =
    ap (times_of j) (told-handed line i (message_of config.wire config.clients message))

-- one more entry of another client
pub phase-other : (config : Config) (entries : List Entry) (e : Entry) (j : ℕ) (phase : Phase) → (e.client ≡ j → ⊥)
    → IsInPhase config entries j phase → IsInPhase config (entries ++ e ∷ []) j phase
phase-other config entries e j phase other is =
    let own : entries_of j (entries ++ e ∷ []) ≡ entries_of j entries = entries_of-other j entries e other in
    let handed : times_of j (line_of config (entries ++ e ∷ [])).handed ≡ times_of j (line_of config entries).handed =
    ap (λ (l : Line). times_of j l.handed) (line-append config (first_line config.clients) entries e)
    ∙ handed-other config (line_of config entries) e.client j e.input other in
    record {
      begun = ap (λ (l : List Entry). length (started_among l)) own ∙ is.begun ∙ ap (λ (t : ℕ). t + pending_in phase) (sym handed);
      sent = ap (λ (l : List Entry). length (sent_in l)) own ∙ is.sent
          ∙ ap (λ (l : List Entry). length (arrived_in l) + on_way_in phase) (sym own);
    }

-- one more entry of the client itself: an operation begins, something goes to the server, something arrives there, or a
-- reply is handed over
pub record IsCounted (e : Entry) (started sent arrived handed : ℕ) : Type 0 where
  pub started_is : length (option_to_list (started_in e)) ≡ started
  pub sent_is : length (option_to_list e.outcome.to_server) ≡ sent
  pub arrived_is : length (option_to_list (arriving e.input)) ≡ arrived
  pub handed_is : handed_in e.input ≡ handed

sent-one : (own : List Entry) (e : Entry)
    → length (sent_in (own ++ e ∷ [])) ≡ length (sent_in own) + length (option_to_list e.outcome.to_server)
sent-one own e =
    ap (λ (l : List (List ℕ)). length l)
    (sent_in-append own (e ∷ []) ∙ ap (λ (l : List (List ℕ)). sent_in own ++ l) (append-nil (option_to_list e.outcome.to_server)))
    ∙ length-append (sent_in own) (option_to_list e.outcome.to_server)

arrived-one : (own : List Entry) (e : Entry)
    → length (arrived_in (own ++ e ∷ [])) ≡ length (arrived_in own) + length (option_to_list (arriving e.input))
arrived-one own e =
    ap (λ (l : List (List ℕ)). length l)
    (arrived_in-append own (e ∷ []) ∙ ap (λ (l : List (List ℕ)). arrived_in own ++ l) (append-nil (option_to_list (arriving e.input))))
    ∙ length-append (arrived_in own) (option_to_list (arriving e.input))

pub phase-own : (config : Config) (entries : List Entry) (e : Entry) (phase next : Phase) (started sent arrived handed : ℕ)
    → IsCounted e started sent arrived handed → pending_in phase + started ≡ pending_in next + handed
    → on_way_in phase + sent ≡ on_way_in next + arrived
    → IsInPhase config entries e.client phase → IsInPhase config (entries ++ e ∷ []) e.client next
phase-own config entries e phase next started sent arrived handed counted pending way is =
    let i : ℕ = e.client in
    let own : List Entry = entries_of i entries in
    let longer : entries_of i (entries ++ e ∷ []) ≡ own ++ e ∷ [] = entries_of-own i entries e refl in
    let taken : times_of i (line_of config (entries ++ e ∷ [])).handed ≡ times_of i (line_of config entries).handed + handed_in e.input =
    ap (λ (l : Line). times_of i l.handed) (line-append config (first_line config.clients) entries e)
    ∙ handed-own config (line_of config entries) i e.input in
    let begun : length (started_among (entries_of i (entries ++ e ∷ [])))
    ≡ length (started_among own) + length (option_to_list (started_in e)) =
    ap (λ (l : List Entry). length (started_among l)) longer ∙ started-one own e in
    let gone : length (sent_in (entries_of i (entries ++ e ∷ [])))
    ≡ length (sent_in own) + length (option_to_list e.outcome.to_server) =
    ap (λ (l : List Entry). length (sent_in l)) longer ∙ sent-one own e in
    let come : length (arrived_in (entries_of i (entries ++ e ∷ [])))
    ≡ length (arrived_in own) + length (option_to_list (arriving e.input)) =
    ap (λ (l : List Entry). length (arrived_in l)) longer ∙ arrived-one own e in
    record {
      begun = omega (arith, begun, taken, is.begun, counted.started_is, counted.handed_is, pending);
      sent = omega (arith, gone, come, is.sent, counted.sent_is, counted.arrived_is, way);
    }

-- at first
pub phase-first : (config : Config) (i : ℕ) → IsInPhase config [] i phases.Idle
phase-first config i = record { begun = refl; sent = refl }
