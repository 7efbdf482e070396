-- The pieces of which serving a connection is made. This only helps proofs: why a connection stopped stands in `Connections`.
use Rattle.std.specs.Prelude.{◌≡◌, ℕ, ◌⊎◌, List, Option, Some, None, IsNone, Result, Ok, Err}
use Rattle.std.specs.List.{AllByRecursion}
use Rattle.std.specs.Io.KnownBytes.{IsAtEnd, Keeps}
use Rattle.faust_io.specs.Faults.{CountsFault}
use Rattle.faust_link.specs.Links.{TakesFrame}
use Rattle.faust_link.specs.declared.answers.LinkError.{LinkError}
use Rattle.faust_link.specs.declared.answers.LinkError.TheVariants as links
use Rattle.faust_types.specs.declared.arrival.Closing.{Closing}
use Rattle.faust_types.specs.declared.arrival.Closing.TheVariants as closings
use Rattle.faust_host.specs.Requests.{client_in, request_in}
use Rattle.faust_host.specs.Connections.{Inlet, Ends, Took, IsQuiet, IsRequest}

-- How a link that did nothing stops a connection.
abbrev pub stop_of : LinkError → Closing
stop_of links.Failed = closings.Link
stop_of links.OutOfMemory = closings.Memory

-- One frame was taken; or the end was found; or there was no memory.
pub record TookOne (before after : Inlet) (frame : List ℕ) : Type 0 where
  pub next : TakesFrame before.left after.left frame
  pub ends : after.ends ≡ before.ends
  pub faults : after.faults ≡ before.faults

pub record FoundEnd (before after : Inlet) : Type 0 where
  pub nothing_left : IsAtEnd before.left
  pub same : Keeps before.left after.left
  pub ends : CountsFault before.ends after.ends
  pub faults : after.faults ≡ before.faults

pub record FoundNoMemory (before after : Inlet) : Type 0 where
  pub ends : after.ends ≡ before.ends
  pub faults : after.faults ≡ before.faults

-- Taking a frame into a buffer.
abbrev pub TakesOne : Result (Unit {0}) Closing → Inlet → Inlet → List ℕ → Type 0
TakesOne (Ok x) before after frame = TookOne before after frame
TakesOne (Err closings.Ended) before after frame = FoundEnd before after
TakesOne (Err closings.Link) before after frame = CountsFault before.faults after.faults
TakesOne (Err closings.Memory) before after frame = FoundNoMemory before after
TakesOne (Err closings.Malformed) before after frame = ⊥
TakesOne (Err (closings.Named client)) before after frame = ⊥
TakesOne (Err (closings.Turn expected got)) before after frame = ⊥
TakesOne (Err closings.Full) before after frame = ⊥
TakesOne (Err closings.Asked) before after frame = ⊥
TakesOne (Err (closings.Failed notice)) before after frame = ⊥

-- Taking the first frame, and naming its client.
pub record GreetedBy (n : ℕ) (before after : Inlet) (client : ℕ) : Type 0 where
  pub frame : List ℕ
  pub named : client_in n frame ≡ Some client
  pub taken : TookOne before after frame

pub record NamesNone (n : ℕ) (before after : Inlet) : Type 0 where
  pub frame : List ℕ
  pub none : client_in n frame ≡ None
  pub taken : TookOne before after frame

abbrev pub Greets : ℕ → Result ℕ Closing → Inlet → Inlet → Type 0
Greets n (Ok client) before after = GreetedBy n before after client
Greets n (Err closings.Ended) before after = FoundEnd before after
Greets n (Err closings.Link) before after = CountsFault before.faults after.faults
Greets n (Err closings.Memory) before after = FoundNoMemory before after
Greets n (Err closings.Malformed) before after = NamesNone n before after
Greets n (Err (closings.Named client)) before after = GreetedBy n before after client
Greets n (Err (closings.Turn expected got)) before after = ⊥
Greets n (Err closings.Full) before after = ⊥
Greets n (Err closings.Asked) before after = ⊥
Greets n (Err (closings.Failed notice)) before after = ⊥

-- What handling bytes under the lock tells of them.
abbrev pub TellsOf : ℕ → List ℕ → Result (Option (List ℕ)) Closing → Type 0
TellsOf n frame (Ok reply) = IsRequest n frame
TellsOf n frame (Err closings.Malformed) = IsNone (request_in n frame)
TellsOf n frame (Err closings.Full) = IsRequest n frame
TellsOf n frame (Err (closings.Turn expected got)) = IsRequest n frame
TellsOf n frame (Err closings.Memory) = Unit {0}
TellsOf n frame (Err closings.Ended) = ⊥
TellsOf n frame (Err closings.Link) = ⊥
TellsOf n frame (Err (closings.Named client)) = ⊥
TellsOf n frame (Err closings.Asked) = ⊥
TellsOf n frame (Err (closings.Failed notice)) = ⊥

-- Why a reply was not sent.
abbrev pub SendStopped : Closing → ℕ → ℕ → Type 0
SendStopped closings.Link before after = CountsFault before after
SendStopped closings.Memory before after = after ≡ before
SendStopped closings.Malformed before after = ⊥
SendStopped closings.Full before after = ⊥
SendStopped (closings.Turn expected got) before after = ⊥
SendStopped closings.Ended before after = ⊥
SendStopped (closings.Named client) before after = ⊥
SendStopped closings.Asked before after = ⊥
SendStopped (closings.Failed notice) before after = ⊥

-- After requests were taken and answered, the connection stopped in the round of one more frame.
pub record TookRound (before after : Ends) (frame : List ℕ) : Type 0 where
  pub taken : TookOne before.inlet after.inlet frame
  pub output : after.faults_out ≡ before.faults_out

pub record EndedRound (before after : Ends) : Type 0 where
  pub found : FoundEnd before.inlet after.inlet
  pub output : after.faults_out ≡ before.faults_out

abbrev pub RequestRound : ℕ → Ends → Ends → Type 0
RequestRound n before after = (frame : List ℕ) × TookRound before after frame × IsRequest n frame

abbrev pub Rounds : ℕ → Ends → Ends → Result (Unit {0}) Closing → Type 0
Rounds n before after (Ok x) = RequestRound n before after
Rounds n before after (Err closings.Ended) = EndedRound before after
Rounds n before after (Err closings.Link) =
    CountsFault before.inlet.faults after.inlet.faults ⊎ CountsFault before.faults_out after.faults_out
Rounds n before after (Err closings.Malformed) =
    (frame : List ℕ) × TookRound before after frame × IsNone (request_in n frame)
Rounds n before after (Err (closings.Turn expected got)) = RequestRound n before after
Rounds n before after (Err closings.Full) = RequestRound n before after
Rounds n before after (Err closings.Memory) = IsQuiet before after
Rounds n before after (Err (closings.Named client)) = ⊥
Rounds n before after (Err closings.Asked) = ⊥
Rounds n before after (Err (closings.Failed notice)) = ⊥

-- Rounds over requests, and one that stopped.
pub record AnsweredSome (n : ℕ) (before now : Ends) (requests : List (List ℕ)) : Type 0 where
  pub taken : Took before.inlet now.inlet requests
  pub each : AllByRecursion (IsRequest n) requests
  pub quiet : IsQuiet before now

abbrev pub Answered : ℕ → Ends → Ends → Type 0
Answered n before now = (requests : List (List ℕ)) × AnsweredSome n before now requests

abbrev pub StopsBehind : ℕ → Ends → Ends → Closing → Type 0
StopsBehind n before after closing = (now : Ends) × Answered n before now × Rounds n now after (Err closing)
