-- What a run does to the counts of its net and its spawner. The promise of `live` rests on this file.
use Rattle.std.specs.Prelude.{◌≡◌, ℕ, Result, Ok, Err}
use Rattle.faust_io.specs.Faults.{CountsFault}
use Rattle.faust_cluster.specs.declared.health.Health.{Health}
use Rattle.faust_cluster.specs.declared.health.Health.TheVariants.{Sound, LinkFailed}
use Rattle.faust_cluster.specs.declared.running.Failure.{Failure}
use Rattle.faust_cluster.specs.declared.running.Failure.TheVariants as failures

-- The count of the net rose where a link failed, and else stands still; so does that of the spawner where a start was
-- refused. Nothing is said where there was no memory.
abbrev pub CountsNet : {A : Type 0} → Result A Failure → ℕ → ℕ → Type 0
CountsNet (Ok done) before now = now ≡ before
CountsNet (Err failures.Start) before now = now ≡ before
CountsNet (Err failures.Link) before now = CountsFault before now
CountsNet (Err failures.Memory) before now = Unit {0}

abbrev pub CountsSpawner : {A : Type 0} → Result A Failure → ℕ → ℕ → Type 0
CountsSpawner (Ok done) before now = now ≡ before
CountsSpawner (Err failures.Start) before now = CountsFault before now
CountsSpawner (Err failures.Link) before now = now ≡ before
CountsSpawner (Err failures.Memory) before now = Unit {0}

-- Which failure comes of how a run went. Want of memory may come at any time.
abbrev pub IsFailureOf : {A : Type 0} → Health → Result A Failure → Type 0
IsFailureOf health (Ok done) = health ≡ Sound
IsFailureOf health (Err failures.Start) = ⊥
IsFailureOf health (Err failures.Link) = health ≡ LinkFailed
IsFailureOf health (Err failures.Memory) = Unit {0}
