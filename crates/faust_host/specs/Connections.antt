-- Why a host stopped to serve a connection, and which frames it took until then. The clause of `Host::serve` rests on this
-- file.
use Rattle.std.specs.Prelude.{◌≡◌, ℕ, ◌⊎◌, List, [], ◌∷◌, ◌++◌, Option, Some, IsSome, IsNone, IfSome}
use Rattle.std.specs.List.{AllByRecursion}
use Rattle.std.specs.Io.KnownBytes.{Consumes, IsAtEnd}
use Rattle.faust_io.specs.Faults.{CountsFault}
use Rattle.faust_link.specs.Frames.{AreFrames, stream_of}
use Rattle.faust_types.specs.declared.arrival.Closing.{Closing}
use Rattle.faust_types.specs.declared.arrival.Closing.TheVariants as closings
use Rattle.faust_host.specs.Requests.{client_in, request_in}

-- A connection begins with a frame that names one of n clients, and goes on with requests.
abbrev pub IsHello : ℕ → List ℕ → Type 0
IsHello n frame = IsSome (client_in n frame)

abbrev pub IsRequest : ℕ → List ℕ → Type 0
IsRequest n frame = IsSome (request_in n frame)

abbrev pub AreInPlace : ℕ → List (List ℕ) → Type 0
AreInPlace n [] = Unit {0}
AreInPlace n (first ∷ rest) = IsHello n first × AllByRecursion (IsRequest n) rest

-- A frame may not stand behind these: it comes first and names no client, or later and is no request.
abbrev pub IsOutOfPlace : ℕ → List (List ℕ) → List ℕ → Type 0
IsOutOfPlace n [] frame = IsNone (client_in n frame)
IsOutOfPlace n (first ∷ rest) frame = IsNone (request_in n frame)

-- The end of a connection at which frames come out: the bytes that are left, where they are told, and its two counts.
pub record Inlet : Type 0 where
  pub left : Option (List ℕ)
  pub ends : ℕ
  pub faults : ℕ

-- Both ends of a connection, of the other the count of faults alone.
pub record Ends : Type 0 where
  pub inlet : Inlet
  pub faults_out : ℕ

abbrev pub inlet_at : Option (List ℕ) → ℕ → ℕ → Inlet
inlet_at left ends faults = record { left = left; ends = ends; faults = faults }

abbrev pub ends_at : Option (List ℕ) → ℕ → ℕ → ℕ → Ends
ends_at left ends faults faults_out = record { inlet = inlet_at left ends faults; faults_out = faults_out }

-- These frames were taken, where the bytes are told: the stream went on with theirs, and the rest is left.
pub record Took (before after : Inlet) (frames : List (List ℕ)) : Type 0 where
  pub each : AreFrames frames
  pub bytes : Consumes before.left after.left (stream_of frames)

-- Nothing failed; and no end was found.
pub record IsFaultless (before after : Ends) : Type 0 where
  pub input : after.inlet.faults ≡ before.inlet.faults
  pub output : after.faults_out ≡ before.faults_out

pub record IsQuiet (before after : Ends) : Type 0 where
  pub no_end : after.inlet.ends ≡ before.inlet.ends
  pub faultless : IsFaultless before after

-- Where the bytes were told before, none is left.
abbrev pub IsAtEndIfTold : Inlet → Inlet → Type 0
IsAtEndIfTold before after = IfSome before.left (λ _. IsAtEnd after.left)

-- The stream ended behind frames that stood in their places.
pub record EndedBehind (n : ℕ) (before after : Ends) (frames : List (List ℕ)) : Type 0 where
  pub taken : Took before.inlet after.inlet frames
  pub in_place : AreInPlace n frames
  pub at_end : IsAtEndIfTold before.inlet after.inlet
  pub ended : CountsFault before.inlet.ends after.inlet.ends
  pub faultless : IsFaultless before after

-- The frame that was taken last may not stand at its place.
pub record IsMisplaced (n : ℕ) (before after : Ends) (frames : List (List ℕ)) (last : List ℕ) : Type 0 where
  pub taken : Took before.inlet after.inlet (frames ++ last ∷ [])
  pub in_place : AreInPlace n frames
  pub out_of_place : IsOutOfPlace n frames last
  pub quiet : IsQuiet before after

-- The one frame that was taken names this client.
pub record IsNamedAlone (n : ℕ) (before after : Ends) (client : ℕ) : Type 0 where
  pub frame : List ℕ
  pub named : client_in n frame ≡ Some client
  pub taken : Took before.inlet after.inlet (frame ∷ [])
  pub quiet : IsQuiet before after

-- All frames that were taken stood in their places, and the last is a request.
pub record IsRequestLast (n : ℕ) (before after : Ends) (first : List ℕ) (requests : List (List ℕ)) (last : List ℕ) : Type 0 where
  pub taken : Took before.inlet after.inlet ((first ∷ requests) ++ last ∷ [])
  pub in_place : AreInPlace n (first ∷ requests)
  pub request : IsRequest n last
  pub quiet : IsQuiet before after

abbrev pub EndsWithRequest : ℕ → Ends → Ends → Type 0
EndsWithRequest n before after =
    (first : List ℕ) × (requests : List (List ℕ)) × (last : List ℕ) × IsRequestLast n before after first requests last

-- The cause that stopped a connection.
abbrev pub StoppedBy : ℕ → Ends → Ends → Closing → Type 0
StoppedBy n before after closings.Ended = (frames : List (List ℕ)) × EndedBehind n before after frames
StoppedBy n before after closings.Link =
    CountsFault before.inlet.faults after.inlet.faults ⊎ CountsFault before.faults_out after.faults_out
StoppedBy n before after closings.Malformed =
    (frames : List (List ℕ)) × (last : List ℕ) × IsMisplaced n before after frames last
StoppedBy n before after (closings.Named client) = IsNamedAlone n before after client
StoppedBy n before after (closings.Turn expected got) = EndsWithRequest n before after
StoppedBy n before after closings.Full = EndsWithRequest n before after
StoppedBy n before after closings.Memory = IsQuiet before after
StoppedBy n before after closings.Asked = ⊥
StoppedBy n before after (closings.Failed notice) = ⊥
