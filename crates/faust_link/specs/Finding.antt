-- What stands next in a source. This only helps proofs.
use Rattle.std.specs.Prelude.{◌≡◌, ℕ, List, take, Bool, true, false, Option, Result, Ok, Err, IfSome}
use Rattle.std.specs.Io.KnownBytes.{IsAtEnd, Keeps}
use Rattle.faust_io.specs.Faults.{CountsFault}
use Rattle.faust_io.specs.declared.failed.Failed.{Failed}
use Rattle.faust_link.specs.Frames.{IsFrame, IsFrameLength, IsBroken}
use Rattle.faust_link.specs.Links.{TakesFrame, GoesOnTelling}
use Rattle.faust_link.specs.declared.finding.Next.{Next}
use Rattle.faust_link.specs.declared.finding.Next.TheVariants.{Frame, End, Broken}

pub record FindsFrame (before after : Option (List ℕ)) (buffer : List ℕ) (len : ℕ) : Type 0 where
  pub len_in_range : IsFrameLength len
  pub taken : TakesFrame before after (take len buffer)

abbrev pub Finds : Option (List ℕ) → Option (List ℕ) → List ℕ → Result Next Failed → Type 0
Finds before after buffer (Ok (Frame len)) = FindsFrame before after buffer len
Finds before after buffer (Ok End) = IsAtEnd before × Keeps before after
Finds before after buffer (Ok Broken) = IfSome before IsBroken × GoesOnTelling before after
Finds before after buffer (Err e) = GoesOnTelling before after

-- What holding the next frame does to the bytes that are to come: none is lost, and a frame is held or none is left.
abbrev pub HoldsNext : Option (List ℕ) → Option (List ℕ) → List ℕ → Result Bool Failed → Type 0
HoldsNext before after held (Ok true) = IsFrame held × Keeps before after
HoldsNext before after held (Ok false) = IsAtEnd before × Keeps before after
HoldsNext before after held (Err e) = GoesOnTelling before after

-- The count of ends rises where none is left.
abbrev pub CountsHeld : Result Bool Failed → ℕ → ℕ → Type 0
CountsHeld (Ok true) before now = now ≡ before
CountsHeld (Ok false) before now = CountsFault before now
CountsHeld (Err e) before now = now ≡ before
