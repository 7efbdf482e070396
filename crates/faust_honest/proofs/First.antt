-- The first state is that of an honest server which no message reached.
use Rattle.std.proofs.Common.{◌≡◌, ℕ, ◌-◌, ◌<◌, true, List, [], Option, None, refl, sym, subst, arith}
use Rattle.std.proofs.lemmas.Bool.{or_left}
use Rattle.std.proofs.lemmas.List.{get_or-replicate}
use Rattle.faust_types.specs.Clients.{IsClientCount, IsClient}
use Rattle.faust_types.specs.Messages.{unmade}
use Rattle.faust_types.specs.Versions.{digest_at, initial}
use Rattle.faust_types.proofs.Messages.{is_initial-initial}
use Rattle.faust_server.specs.Rows.{first_turn, first_state, version_at, proof_at, turn_at, memory_at}
use Rattle.faust_server.proofs.Kept.{IsStateFor-first}
use Rattle.faust_ustor.specs.Checks.{is_digest_proven}
use Rattle.faust_lists.proofs.Versions.{IsVersionOf-initial}
use Rattle.faust_honest.specs.World.{World}
use Rattle.faust_honest.specs.Honest.{IsHeld, IsHonest}
use Rattle.faust_honest.proofs.Held.{held-along}

-- nothing is held of a client that sent nothing
nothing-held : (n : ℕ) (world : World) (k : ℕ) → IsClientCount n → IsClient n k
    → IsHeld n world k (unmade n) None first_turn None 0 0 []
nothing-held n world k count c =
    let absent : digest_at (initial n) k ≡ None = get_or-replicate n (k - 1) None None (omega (arith, c.from_one, c.to_n)) in
    record {
      version = IsVersionOf-initial n;
      right = or_left _ _ (is_initial-initial n count);
      proven = subst (λ (d : Option (List ℕ)). is_digest_proven world.key k d None ≡ true) (sym absent) refl;
      turn_is = refl;
      mem_is = refl;
      most = omega arith;
      least = omega arith;
    }

pub first-honest : (n : ℕ) (world : World) → IsClientCount n → IsHonest n world (first_state n) [] []
first-honest n world count =
    let within : (k : ℕ) → IsClient n k → k - 1 < n = λ k c. omega (arith, c.from_one, c.to_n) in
    record {
      in_range = IsStateFor-first n count;
      clients = tt;
      after = [];
      settled = [];
      split = refl;
      leads = refl;
      covers = λ k c. refl;
      pending = refl;
      held = λ k c.
          held-along n world k (unmade n) (version_at (first_state n) k) None (proof_at (first_state n) k) first_turn
          (turn_at (first_state n) k)
          None (memory_at (first_state n) k) 0 0 0 0 [] []
          (get_or-replicate n (k - 1) (unmade n) (unmade 0) (within k c))
          (get_or-replicate n (k - 1) None None (within k c))
          (get_or-replicate n (k - 1) first_turn first_turn (within k c))
          (get_or-replicate n (k - 1) None None (within k c))
          refl refl refl (nothing-held n world k count c);
    }
