-- What the calls of links and posts do to the bytes that they carry, where the type tells them. A type that tells
-- goes on telling.
use Rattle.std.specs.Prelude.{◌≡◌, ℕ, List, [], ◌∷◌, Option, Some, Result, Ok, Err, IfSome}
use Rattle.std.specs.Io.KnownBytes.{Appends, Consumes, IsAtEnd, Keeps}
use Rattle.faust_io.specs.Writing.{AppendsPrefix}
use Rattle.faust_link.specs.Frames.{IsFrame, spelling_of}
use Rattle.faust_link.specs.declared.answers.Got.{Got}
use Rattle.faust_link.specs.declared.answers.Got.TheVariants.{Frame, Ended, Idle}
use Rattle.faust_link.specs.declared.answers.LinkError.{LinkError}
use Rattle.faust_link.specs.declared.answers.LinkError.TheVariants.{Failed, OutOfMemory}

abbrev pub GoesOnTelling : Option (List ℕ) → Option (List ℕ) → Type 0
GoesOnTelling before after = IfSome before (λ _. (bytes : List ℕ) × (after ≡ Some bytes))

-- The frame that stood next in the stream is taken.
pub record TakesFrame (before after : Option (List ℕ)) (frame : List ℕ) : Type 0 where
  pub in_range : IsFrame frame
  pub next : Consumes before after (spelling_of frame)

-- The stream is at its end, between two frames.
pub record Ends (before after : Option (List ℕ)) : Type 0 where
  pub nothing_left : IsAtEnd before
  pub same : Keeps before after

-- What one `recv` does to the bytes that are to come, and to the buffer.
abbrev pub Receives : Option (List ℕ) → Option (List ℕ) → List ℕ → List ℕ → Result Got LinkError → Type 0
Receives before after old into (Ok Frame) = TakesFrame before after into
Receives before after old into (Ok Ended) = Ends before after × (into ≡ old)
Receives before after old into (Ok Idle) = ⊥
Receives before after old into (Err Failed) = GoesOnTelling before after × (into ≡ old)
Receives before after old into (Err OutOfMemory) = Keeps before after × (into ≡ old)

-- What one `send` does to the bytes that went out. One that failed put out a front of them.
abbrev pub Sends : Option (List ℕ) → Option (List ℕ) → List ℕ → Result (Unit {0}) LinkError → Type 0
Sends before after frame (Ok x) = Appends before after (spelling_of frame)
Sends before after frame (Err Failed) = AppendsPrefix before after (spelling_of frame)
Sends before after frame (Err OutOfMemory) = after ≡ before

-- The datagram that stood first is taken.
abbrev pub TakesFirst : Option (List (List ℕ)) → Option (List (List ℕ)) → List ℕ → Type 0
TakesFirst before after datagram =
    IfSome before (λ datagrams. (later : List (List ℕ)) × (datagrams ≡ datagram ∷ later) × (after ≡ Some later))

-- What one `take` does to the datagrams that stand there, and to the buffer.
abbrev pub TakesPost : Option (List (List ℕ)) → Option (List (List ℕ)) → List ℕ → List ℕ → Result Got LinkError → Type 0
TakesPost before after old into (Ok Frame) = IsFrame into × TakesFirst before after into
TakesPost before after old into (Ok Ended) = ⊥
TakesPost before after old into (Ok Idle) = IfSome before (λ datagrams. datagrams ≡ []) × (after ≡ before) × (into ≡ old)
TakesPost before after old into (Err Failed) = into ≡ old
TakesPost before after old into (Err OutOfMemory) = (after ≡ before) × (into ≡ old)
