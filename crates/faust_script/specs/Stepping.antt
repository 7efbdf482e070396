-- When a step of the generated script can be made. This file only helps the proof that some client can act in each step.
use Rattle.std.specs.Prelude.{◌≡◌, ℕ, ◌<◌, ◌≤◌, length, slice_index_or}
use Rattle.faust_types.specs.Clients.{IsClient, IsClientCount}
use Rattle.faust_script.specs.declared.progress.Progress.{Progress}
use Rattle.faust_script.specs.Generated.{able, idle}

-- The numbers of operations don't rise above that of all operations, of which there are few.
pub record IsCounted (n : ℕ) (progress : Progress) : Type 0 where
  pub clients_count : IsClientCount n
  pub each_counted : length progress.actors ≡ n
  pub few_begun : progress.begun < 3000
  pub numbers_low : (i : ℕ) → (slice_index_or progress.actors i idle).number ≤ progress.begun

-- A client can act.
pub record CanAct (n client : ℕ) (progress : Progress) : Type 0 where
  pub is_client : IsClient n client
  pub counted : IsCounted n progress

-- Some client can act.
pub record CanStep (n ops : ℕ) (progress : Progress) : Type 0 where
  pub counted : IsCounted n progress
  pub from_one : 1 ≤ ops
  pub some_able : 0 < length (able ops progress)
