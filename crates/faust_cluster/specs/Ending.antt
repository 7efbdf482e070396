-- How loops over links end, as their counts of faults tell it, and what comes of that for the whole run. The counts in the
-- promise of `live` rest on this file.
use Rattle.std.specs.Prelude.{◌≡◌, ◌<◌, ◌+◌, ℕ, Option, None, Some}
use Rattle.faust_io.specs.Faults.{CountsFault}
use Rattle.faust_types.specs.declared.arrival.Closing.{Closing}
use Rattle.faust_types.specs.declared.arrival.Closing.TheVariants as closings
use Rattle.faust_node.specs.declared.error.NodeError.{NodeError}
use Rattle.faust_node.specs.declared.error.NodeError.TheVariants as errors
use Rattle.faust_cluster.specs.declared.health.Health.{Health}
use Rattle.faust_cluster.specs.declared.health.Health.TheVariants.{Sound, LinkFailed, Starved}

-- The count of a link of which no call failed is 0 until its loop stops with `Link`, and then it isn't.
pub record CountsStop (stopped : Option Closing) (faults : ℕ) : Type 0 where
  pub failed : stopped ≡ Some closings.Link → 0 < faults
  pub sound : (stopped ≡ Some closings.Link → ⊥) → faults ≡ 0

-- The same of the two ends of a connection together.
pub record CountsBoth (stopped : Option Closing) (input output : ℕ) : Type 0 where
  pub failed : stopped ≡ Some closings.Link → 0 < input + output
  pub sound_in : (stopped ≡ Some closings.Link → ⊥) → input ≡ 0
  pub sound_out : (stopped ≡ Some closings.Link → ⊥) → output ≡ 0

-- What a cause says of the whole run: want of memory, a link that failed, or neither.
abbrev pub health_of : Closing → Health
health_of closings.Asked = Sound
health_of (closings.Failed notice) = Sound
health_of closings.Ended = Sound
health_of closings.Link = LinkFailed
health_of closings.Malformed = Sound
health_of (closings.Named client) = Sound
health_of (closings.Turn expected got) = Sound
health_of closings.Full = Sound
health_of closings.Memory = Starved

abbrev pub health_at : Option Closing → Health
health_at None = Sound
health_at (Some cause) = health_of cause

-- What a user's error says: the causes of its cell come with its loops, so only want of memory says anything.
abbrev pub health_of_user : Option NodeError → Health
health_of_user None = Sound
health_of_user (Some errors.TooLong) = Sound
health_of_user (Some errors.NoRegister) = Sound
health_of_user (Some (errors.Failed notice)) = Sound
health_of_user (Some (errors.Closed cause)) = Sound
health_of_user (Some errors.Full) = Sound
health_of_user (Some errors.OutOfMemory) = Starved

-- The worse of two: want of memory is the worst.
abbrev pub worse : Health → Health → Health
worse Sound other = other
worse LinkFailed Sound = LinkFailed
worse LinkFailed LinkFailed = LinkFailed
worse LinkFailed Starved = Starved
worse Starved other = Starved

-- The count of a net after links came back to it: it stands still where all is sound, and rose where one failed. Nothing
-- is said where there was no memory.
abbrev pub CountsHealth : Health → ℕ → ℕ → Type 0
CountsHealth Sound before now = now ≡ before
CountsHealth LinkFailed before now = CountsFault before now
CountsHealth Starved before now = Unit {0}
