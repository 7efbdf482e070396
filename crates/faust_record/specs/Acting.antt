-- One input at one client, as the calls of this crate share it. It helps proofs.
use Rattle.std.specs.Prelude.{◌≡◌, ℕ, Bool, List, [], ◌∷◌, ◌++◌, Option, Some, None, is_some, Result, Ok, Err}
use Rattle.faust_types.specs.Bytes.{AreBytes}
use Rattle.faust_types.specs.declared.out_of_memory.OutOfMemory.{OutOfMemory}
use Rattle.faust_types.specs.declared.outcome.Outcome.{Outcome}
use Rattle.faust_agent.specs.State.{Member}
use Rattle.faust_record.specs.Entries.{MayCome, entry_at, outcome_at, state_at}
use Rattle.faust_record.specs.Refusals.{refusal_at}
use Rattle.faust_record.specs.declared.entry.Input.{Input}
use Rattle.faust_record.specs.declared.entry.Input.TheVariants as inputs
use Rattle.faust_record.specs.declared.entry.Entry.{Entry}
use Rattle.faust_record.specs.declared.errors.Refusal.{Refusal}
use Rattle.faust_record.specs.declared.errors.Refusal.TheVariants as refusals

-- The bytes of an input that a client may look at.
abbrev pub AreInputBytes : Input → Type 0
AreInputBytes (inputs.Write value) = AreBytes value
AreInputBytes (inputs.Read register) = Unit {0}
AreInputBytes (inputs.Reply bytes) = AreBytes bytes
AreInputBytes (inputs.Peer bytes) = AreBytes bytes
AreInputBytes (inputs.Tick moment) = Unit {0}
AreInputBytes (inputs.Arrive message) = Unit {0}

-- The client after an input.
abbrev pub member_at : Member → Input → Member
member_at member input = record member { client = state_at member.config member.me member.client input }

-- What happens at a client.
abbrev pub Happens : Result Outcome OutOfMemory → Member → Member → Input → Type 0
Happens (Ok outcome) old new input = (new ≡ member_at old input) × (outcome ≡ outcome_at old.config old.me old.client input)
Happens (Err e) old new input = new ≡ old

-- Why the client refuses, if it does.
abbrev pub refused_by : Member → Input → Option Refusal
refused_by member input = refusal_at member.config member.me member.client input

abbrev pub entry_by : Member → ℕ → Input → Entry
entry_by member number input = entry_at member.config member.me member.client number input

-- Nothing changed.
abbrev pub Stays : List Entry → List Entry → Member → Member → Type 0
Stays before now old new = (now ≡ before) × (new ≡ old)

pub record IsActed (sends : Bool) (before now : List Entry) (old new : Member) (number : ℕ) (input : Input) : Type 0 where
  pub taken : refused_by old input ≡ None
  pub may_come : MayCome old.config old.me old.client input
  pub sends_is : sends ≡ is_some (outcome_at old.config old.me old.client input).to_server
  pub appended : now ≡ before ++ entry_by old number input ∷ []
  pub moved : new ≡ member_at old input

pub record IsRefused (before now : List Entry) (old new : Member) (input : Input) (refusal : Refusal) : Type 0 where
  pub refused : refused_by old input ≡ Some refusal
  pub same_entries : now ≡ before
  pub same_member : new ≡ old

abbrev pub Refused : Refusal → List Entry → List Entry → Member → Member → Input → Type 0
Refused refusals.TooLong before now old new input = IsRefused before now old new input refusals.TooLong
Refused refusals.NoRegister before now old new input = IsRefused before now old new input refusals.NoRegister
Refused (refusals.Failed notice) before now old new input = IsRefused before now old new input (refusals.Failed notice)
Refused refusals.Busy before now old new input = IsRefused before now old new input refusals.Busy
Refused refusals.OutOfMemory before now old new input = Stays before now old new

-- The entry of an input stands at the end and the client moved, or it refused, and all stays.
abbrev pub Acts : Result Bool Refusal → List Entry → List Entry → Member → Member → ℕ → Input → Type 0
Acts (Ok sends) before now old new number input = IsActed sends before now old new number input
Acts (Err refusal) before now old new number input = Refused refusal before now old new input
