-- A moment comes to a client in step: it begins a dummy read, or sends the COMMIT that it held, and stays in step.
use Rattle.std.proofs.Common.{◌≡◌, ◌+◌, ℕ, suc, Bool, true, false, List, [], ◌∷◌, ◌++◌, option_to_list, Option, Some, None, IfSome, refl, sym, ◌∙◌, subst, arith}
use Rattle.std.specs.Prelude.{is_none, if◌then◌else◌}
use Rattle.std.proofs.lemmas.Bool.{and_parts}
use Rattle.std.proofs.lemmas.List.{append-nil}
use Rattle.faust_types.specs.Clients.{IsClient}
use Rattle.faust_types.specs.Ranges.{IsCommitFor}
use Rattle.faust_types.specs.declared.config.Config.{Config}
use Rattle.faust_types.specs.declared.operation.Operation.{Operation}
use Rattle.faust_types.specs.declared.message.Commit.{Commit}
use Rattle.faust_types.specs.declared.message.Reply.{Reply}
use Rattle.faust_lists.specs.Lists.{count}
use Rattle.faust_honest.specs.World.{World}
use Rattle.faust_agent.specs.State.{completed_count, is_idle}
use Rattle.faust_agent.specs.Deeds.{Sent, submits}
use Rattle.faust_agent.specs.InRange.{IsClientOf}
use Rattle.faust_agent.specs.Table.{begun_by, begun_or_released, committed_alone, dummy_of, held_after, is_dummy_due, released, submit_of, ticked_by, timers_after}
use Rattle.faust_agent.specs.declared.client.Client.{Client}
use Rattle.faust_agent.specs.declared.client.Timers.{Timers}
use Rattle.faust_agent.proofs.Kept.{dummy-begun, kept-released, kept-ticked}
use Rattle.faust_joined.specs.Joined.{IsCommitMade, IsHeldBack, IsInStep, IsOrderOf, IsWaiting, Lead}
use Rattle.faust_joined.proofs.Beginning.{begun-in_step}
use Rattle.faust_joined.proofs.Queues.{lead-commit}

-- what a client holds of moments doesn't matter
pub timed-in_step : (config : Config) (world : World) (arrived : List ℕ) (committed begun k : ℕ) (st : Client) (queue : List Sent)
    (given : List Reply) (handed : ℕ) (timers : Timers) → IsInStep config world arrived committed begun k st queue given handed
    → IsClientOf config k (record st { timers = timers })
    → IsInStep config world arrived committed begun k (record st { timers = timers }) queue given handed
timed-in_step config world arrived committed begun k st queue given handed timers h kept = record {
  in_range = kept;
  no_notice = h.no_notice;
  has_arrived = h.has_arrived;
  own = h.own;
  within = h.within;
  waiting = h.waiting;
  last = h.last;
  all_committed = h.all_committed;
  held_back = h.held_back;
  leads = h.leads;
  given_each = h.given_each;
  handed_each = h.handed_each;
  due = h.due;
}

-- a COMMIT that was held goes to the server where nothing is pending
record IsReleased (config : Config) (world : World) (arrived : List ℕ) (committed begun k done : ℕ) (queue : List Sent)
    (waiting : Option Operation) (held : Option Commit) : Type 0 where
  all_committed : ℕ
  waits : IsWaiting world k done begun held waiting
  held_back : IsHeldBack config.clients world arrived k done all_committed held
  leads : Lead config world arrived k (count k arrived) committed queue begun all_committed

release : (config : Config) (world : World) (arrived : List ℕ) (committed begun k done all : ℕ) (queue : List Sent)
    (waiting : Option Operation) (held : Option Commit) → IfSome held (IsCommitFor config.clients)
    → IsWaiting world k done begun held waiting → IsHeldBack config.clients world arrived k done all held
    → Lead config world arrived k (count k arrived) committed queue begun all
    → IsReleased config world arrived committed begun k done
    (queue ++ option_to_list (committed_alone (if is_none waiting then held else None))) waiting (if is_none waiting then None else held)
release config world arrived committed begun k done all queue None None range waits back leads = record {
  all_committed = all;
  waits = waits;
  held_back = back;
  leads = subst (λ (q : List Sent). Lead config world arrived k (count k arrived) committed q begun all) (sym (append-nil queue)) leads;
}
release config world arrived committed begun k done all queue None (Some c) range waits back leads = record {
  all_committed = suc all;
  waits = waits;
  held_back = back.0;
  leads = lead-commit config world arrived k (count k arrived) committed queue begun all c leads (record {
    in_range = range;
    balanced = waits ∙ sym back.0;
    is_made = subst (λ (t : ℕ). IsCommitMade config.clients world arrived k t c) (sym waits) back.1;
  });
}
release config world arrived committed begun k done all queue (Some op) held range waits back leads = record {
  all_committed = all;
  waits = waits;
  held_back = back;
  leads = subst (λ (q : List Sent). Lead config world arrived k (count k arrived) committed q begun all) (sym (append-nil queue)) leads;
}

released-in_step : (config : Config) (world : World) (arrived : List ℕ) (committed begun k : ℕ) (st : Client) (queue : List Sent)
    (given : List Reply) (handed : ℕ) → IsInStep config world arrived committed begun k st queue given handed
    → IsInStep config world arrived committed begun k (record st { held = held_after st })
    (queue ++ option_to_list (committed_alone (released st))) given handed
released-in_step config world arrived committed begun k st queue given handed h =
    let free = release config world arrived committed begun k (completed_count k st) h.all_committed queue st.waiting st.held
    h.in_range.held_in_range h.waiting h.held_back h.leads in
    record {
      in_range = kept-released config k st h.in_range;
      no_notice = h.no_notice;
      has_arrived = h.has_arrived;
      own = h.own;
      within = h.within;
      waiting = free.waits;
      last = h.last;
      all_committed = free.all_committed;
      held_back = free.held_back;
      leads = free.leads;
      given_each = h.given_each;
      handed_each = h.handed_each;
      due = h.due;
    }

ticked-case : (config : Config) (world : World) (arrived : List ℕ) (committed begun k : ℕ) (st : Client) (queue : List Sent)
    (given : List Reply) (handed : ℕ) (b : Bool) → world.key ≡ config.key → IsClient config.clients k
    → IsInStep config world arrived committed begun k st queue given handed
    → (b ≡ true → is_idle k st ≡ true) → (b ≡ true → IsOrderOf world k (suc begun) (dummy_of st))
    → IsInStep config world arrived committed (begun + (if b then 1 else 0)) k
    (if b then begun_by k st (dummy_of st) else record st { held = held_after st })
    (queue ++ option_to_list (if b then Some (submits (submit_of config k st (dummy_of st))) else committed_alone (released st)))
    given handed
ticked-case config world arrived committed begun k st queue given handed true keys client h idle is =
    let one : suc begun ≡ begun + 1 = omega arith in
    subst (λ (b : ℕ). IsInStep config world arrived committed b k (begun_by k st (dummy_of st))
    (queue ++ submits (submit_of config k st (dummy_of st)) ∷ []) given handed) one
    (begun-in_step config world arrived committed begun k st queue given handed (dummy_of st) keys client h
    (dummy-begun config k st h.in_range (idle refl)) (is refl))
ticked-case config world arrived committed begun k st queue given handed false keys client h idle is =
    let none : begun ≡ begun + 0 = omega arith in
    subst (λ (b : ℕ). IsInStep config world arrived committed b k (record st { held = held_after st })
    (queue ++ option_to_list (committed_alone (released st))) given handed) none
    (released-in_step config world arrived committed begun k st queue given handed h)

pub ticked-in_step : (config : Config) (world : World) (arrived : List ℕ) (committed begun k m : ℕ) (st : Client) (queue : List Sent)
    (given : List Reply) (handed : ℕ) → world.key ≡ config.key → IsClient config.clients k
    → IsInStep config world arrived committed begun k st queue given handed
    → (is_dummy_due config k st m ≡ true → IsOrderOf world k (suc begun) (dummy_of st))
    → IsInStep config world arrived committed (begun + (if is_dummy_due config k st m then 1 else 0)) k (ticked_by config k st m)
    (queue ++ option_to_list
    (if is_dummy_due config k st m then Some (submits (submit_of config k st (dummy_of st))) else committed_alone (released st)))
    given handed
ticked-in_step config world arrived committed begun k m st queue given handed keys client h is =
    timed-in_step config world arrived committed _ k (begun_or_released config k st m) _ given handed (timers_after config k st m)
    (ticked-case config world arrived committed begun k st queue given handed (is_dummy_due config k st m) keys client h
    (λ due. (and_parts _ _ due).0) is)
    (kept-ticked config k st m h.in_range client)
