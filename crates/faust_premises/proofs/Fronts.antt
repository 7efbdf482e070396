-- A front of clean entries is clean.
use Rattle.std.proofs.Common.{◌≡◌, ℕ, List, [], ◌++◌, None, ap, sym, ◌∙◌}
use Rattle.faust_types.specs.declared.config.Config.{Config}
use Rattle.faust_record.specs.declared.entry.Entry.{Entry}
use Rattle.faust_premises.specs.Premises.{IsClean, first_collision_behind, hashed_behind, hashed_in_run}
use Rattle.faust_premises.proofs.Forgeries.{forged-front}
use Rattle.faust_premises.proofs.Collisions.{collision-front, hashed_behind-append}

pub front-clean : (config : Config) (front rest : List Entry) → IsClean config (front ++ rest) → IsClean config front
front-clean config front rest is_clean = record {
  no_forgery = forged-front config [] front rest is_clean.no_forgery;
  no_collision = collision-front [] (hashed_in_run config front) (hashed_behind config front rest)
      (ap (λ (l : List (List ℕ)). first_collision_behind [] l) (sym (hashed_behind-append config [] front rest)) ∙ is_clean.no_collision);
}
