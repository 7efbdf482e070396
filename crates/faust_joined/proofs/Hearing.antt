-- A client in step takes a message of another client, and stays in step.
use Rattle.std.proofs.Common.{◌≡◌, ℕ, suc, List, Some, sym, ap, ◌∙◌, subst, arith}
use Rattle.std.specs.Prelude.{slice_get}
use Rattle.faust_types.specs.Clients.{IsClient}
use Rattle.faust_types.specs.Versions.{Vector, timestamp_at}
use Rattle.faust_types.specs.declared.config.Config.{Config}
use Rattle.faust_types.specs.declared.message.Known.{Known}
use Rattle.faust_types.specs.declared.message.Reply.{Reply}
use Rattle.faust_lists.specs.Lists.{upto}
use Rattle.faust_lists.specs.Walks.{IsVersionOf}
use Rattle.faust_honest.specs.World.{World}
use Rattle.faust_agent.specs.State.{completed_count, is_less, version_at}
use Rattle.faust_agent.specs.Deeds.{Sent}
use Rattle.faust_agent.specs.InRange.{IsHeardFor}
use Rattle.faust_agent.specs.Table.{heard_by, raised, with_slot}
use Rattle.faust_agent.specs.declared.client.Client.{Client}
use Rattle.faust_agent.proofs.Kept.{either_way, kept-heard, kept-slot, slot-other}
use Rattle.faust_joined.specs.Joined.{IsHeldBack, IsInStep, IsReplyTo, IsWaiting, IsWithin}
use Rattle.faust_joined.proofs.Completing.{slot-within}
use Rattle.faust_joined.proofs.Ticking.{timed-in_step}

-- another version of another client
heard-slot : (config : Config) (world : World) (arrived : List ℕ) (committed begun k : ℕ) (st : Client) (queue : List Sent)
    (given : List Reply) (handed j : ℕ) (known : Known) → IsClient config.clients k
    → IsInStep config world arrived committed begun k st queue given handed → IsHeardFor config k j known
    → IsWithin config.clients arrived known.version
    → IsInStep config world arrived committed begun k (with_slot st j known) queue given handed
heard-slot config world arrived committed begun k st queue given handed j known client h heard within =
    let n = config.clients in
    let other : k ≡ j → ⊥ = λ same. heard.from_another.differs (sym same) in
    let own : version_at (with_slot st j known) k ≡ version_at st k =
    ap (λ (x : Known). x.version) (slot-other n st.heard j known k heard.from_another.in_range client other) in
    let same : completed_count k (with_slot st j known) ≡ completed_count k st = ap (λ (v : Vector). timestamp_at v k) own in
    let In : ℕ → Vector → Type 0 = λ d v. IsVersionOf n v (upto k d arrived) in
    record {
      in_range = kept-slot config k st j known h.in_range client heard.from_another heard.known_in_range;
      no_notice = h.no_notice;
      has_arrived = omega (arith, same, h.has_arrived);
      own = subst (λ (d : ℕ). In d (version_at (with_slot st j known) k)) (sym same)
          (subst (In (completed_count k st)) (sym own) h.own);
      within = slot-within n arrived st j known h.in_range.versions.counted heard.from_another.in_range h.within within;
      waiting = subst (λ (d : ℕ). IsWaiting world k d begun st.held st.waiting) (sym same) h.waiting;
      last = h.last;
      all_committed = h.all_committed;
      held_back = subst (λ (d : ℕ). IsHeldBack n world arrived k d h.all_committed st.held) (sym same) h.held_back;
      leads = h.leads;
      given_each = h.given_each;
      handed_each = h.handed_each ∙ sym same;
      due = λ lt. subst (λ (d : ℕ). (reply : Reply) × (slice_get given d ≡ Some reply) × IsReplyTo n world arrived k (suc d) reply)
          (sym same) (h.due (omega (arith, lt, same)));
    }

pub heard-in_step : (config : Config) (world : World) (arrived : List ℕ) (committed begun k : ℕ) (st : Client) (queue : List Sent)
    (given : List Reply) (handed j : ℕ) (known : Known) → IsClient config.clients k
    → IsInStep config world arrived committed begun k st queue given handed → IsHeardFor config k j known
    → IsWithin config.clients arrived known.version
    → IsInStep config world arrived committed begun k (heard_by st j known) queue given handed
heard-in_step config world arrived committed begun k st queue given handed j known client h heard within =
    timed-in_step config world arrived committed begun k (raised st j known) queue given handed _
    (either_way (λ (c : Client). IsInStep config world arrived committed begun k c queue given handed)
    (is_less (version_at st j) known.version) (with_slot st j known) st
    (λ newer. heard-slot config world arrived committed begun k st queue given handed j known client h heard within)
    (λ older. h))
    (kept-heard config k st j known h.in_range client heard)
