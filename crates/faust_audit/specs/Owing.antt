-- What the code keeps while it runs the honest server along a run: the state of the server, and for each client the
-- replies that are still due to it, spelled, in order. This file helps proofs.
use Rattle.std.specs.Prelude.{◌≡◌, ◌≤◌, ◌-◌, ℕ, Bool, false, not, List, [], ◌∷◌, ◌++◌, length, Option, Some, None, Result, Ok, Err, drop, map, replicate, slice_get, slice_index_or, slice_set}
use Rattle.std.specs.Str.{bytes_eq}
use Rattle.faust_types.specs.Clients.{IsClient}
use Rattle.faust_types.specs.declared.config.Config.{Config}
use Rattle.faust_types.specs.declared.message.Message.{Message}
use Rattle.faust_types.specs.declared.message.Message.TheVariants as messages
use Rattle.faust_wire.specs.Grammar.{reply_bytes}
use Rattle.faust_wire.specs.Reading.{message_of}
use Rattle.faust_server.specs.Rows.{State, Served, client_count, committed, first_state, submitted}
use Rattle.faust_server.specs.declared.refusal.OutOfTurn.{OutOfTurn}
use Rattle.faust_record.specs.declared.entry.Input.{Input}
use Rattle.faust_record.specs.declared.entry.Input.TheVariants as inputs
use Rattle.faust_record.specs.declared.entry.Entry.{Entry}
use Rattle.faust_audit.specs.Departure.{Line, first_departure, first_departure_from, given_to, line_of, times_of}

pub record Debt : Type 0 where
  pub server : State
  pub due : List (List (List ℕ))

abbrev pub first_debt : ℕ → Debt
first_debt n = record { server = first_state n; due = replicate n [] }

-- The spelled replies that are due to client i, and the next one.
abbrev pub due_to : Debt → ℕ → List (List ℕ)
due_to debt i = slice_index_or debt.due (i - 1) []

abbrev pub next_due : Debt → ℕ → Option (List ℕ)
next_due debt i = slice_get (due_to debt i) 0

-- One more reply is due to client i.
abbrev pub debt_owing : Debt → ℕ → List ℕ → Debt
debt_owing debt i reply = record debt { due = slice_set debt.due (i - 1) (due_to debt i ++ reply ∷ []) }

-- A message arrives.
abbrev pub debt_served : ℕ → Debt → ℕ → Result Served OutOfTurn → Debt
debt_served wire debt i (Ok served) = debt_owing (record debt { server = served.state }) i (reply_bytes wire served.reply)
debt_served wire debt i (Err refused) = debt

abbrev pub debt_settled : Debt → Result State OutOfTurn → Debt
debt_settled debt (Ok state) = record debt { server = state }
debt_settled debt (Err refused) = debt

abbrev pub debt_told : ℕ → Debt → ℕ → Option Message → Debt
debt_told wire debt i None = debt
debt_told wire debt i (Some (messages.Submit m)) = debt_served wire debt i (submitted debt.server i m)
debt_told wire debt i (Some (messages.Reply m)) = debt
debt_told wire debt i (Some (messages.Commit m)) = debt_settled debt (committed debt.server i m)
debt_told wire debt i (Some (messages.Peer m)) = debt
debt_told wire debt i (Some (messages.Hello client)) = debt

-- A reply is handed to client i.
abbrev pub debt_handed : Debt → ℕ → Debt
debt_handed debt i = record debt { due = slice_set debt.due (i - 1) (drop 1 (due_to debt i)) }

-- One more entry.
abbrev pub debt_at : Config → Debt → ℕ → Input → Debt
debt_at config debt i (inputs.Write value) = debt
debt_at config debt i (inputs.Read register) = debt
debt_at config debt i (inputs.Reply bytes) = debt_handed debt i
debt_at config debt i (inputs.Peer bytes) = debt
debt_at config debt i (inputs.Tick moment) = debt
debt_at config debt i (inputs.Arrive message) = debt_told config.wire debt i (message_of config.wire config.clients message)

abbrev pub debt_after : Config → Debt → Entry → Debt
debt_after config debt entry = debt_at config debt entry.client entry.input

-- Whether bytes are the next ones that are due.
abbrev pub is_next : List ℕ → Option (List ℕ) → Bool
is_next bytes None = false
is_next bytes (Some due) = bytes_eq bytes due

abbrev pub misses_at : Debt → ℕ → Input → Bool
misses_at debt i (inputs.Write value) = false
misses_at debt i (inputs.Read register) = false
misses_at debt i (inputs.Reply bytes) = not (is_next bytes (next_due debt i))
misses_at debt i (inputs.Peer bytes) = false
misses_at debt i (inputs.Tick moment) = false
misses_at debt i (inputs.Arrive message) = false

abbrev pub misses : Debt → Entry → Bool
misses debt entry = misses_at debt entry.client entry.input

-- What is kept is for n clients.
pub record IsDebtFor (n : ℕ) (debt : Debt) : Type 0 where
  pub served : client_count debt.server ≡ n
  pub paired : length debt.due ≡ n

-- What is kept is what a line leaves due.
pub record IsDebtOf (config : Config) (line : Line) (debt : Debt) : Type 0 where
  pub counted : IsDebtFor config.clients debt
  pub same_server : debt.server ≡ line.server
  pub within : (i : ℕ) → IsClient config.clients i → times_of i line.handed ≤ length (given_to i line.given)
  pub left : (i : ℕ) → IsClient config.clients i
      → due_to debt i ≡ drop (times_of i line.handed) (map (reply_bytes config.wire) (given_to i line.given))

-- The entries in front were followed, and those behind them decide of all.
pub record IsFollowed (config : Config) (front back all : List Entry) (debt : Debt) : Type 0 where
  pub kept : IsDebtOf config (line_of config front) debt
  pub undecided : first_departure_from config (line_of config front) back ≡ first_departure config all
