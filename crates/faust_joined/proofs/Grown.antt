-- One more operation of another client arrives: what was in step stays so.
use Rattle.std.proofs.Common.{◌≡◌, ◌≤◌, ◌<◌, ℕ, suc, List, ◌∷◌, Option, Some, None, IfSome, sym, ◌∙◌, subst, inr, arith}
use Rattle.faust_types.specs.Versions.{Vector}
use Rattle.faust_types.specs.declared.config.Config.{Config}
use Rattle.faust_types.specs.declared.message.ReadPart.{ReadPart}
use Rattle.faust_types.specs.declared.message.Reply.{Reply}
use Rattle.faust_types.specs.declared.message.Peer.{Peer}
use Rattle.faust_types.specs.declared.message.Peer.TheVariants as peers
use Rattle.faust_lists.specs.Lists.{count}
use Rattle.faust_lists.specs.Walks.{IsVersionOf}
use Rattle.faust_lists.proofs.Counts.{count-other, upto-more}
use Rattle.faust_honest.specs.World.{World}
use Rattle.faust_agent.specs.State.{completed_count, version_at}
use Rattle.faust_agent.specs.Deeds.{Sent}
use Rattle.faust_agent.specs.declared.client.Client.{Client}
use Rattle.faust_joined.specs.Joined.{IsInStep, IsQuiet, IsReplyTo, IsWithin, Lead}
use Rattle.faust_joined.proofs.Queues.{held-more, lead-more}

pub within-more : (n : ℕ) (arrived : List ℕ) (x : ℕ) (v : Vector) → IsWithin n arrived v → IsWithin n (x ∷ arrived) v
within-more n arrived x v h = record { history = h.history; is_version = h.is_version; within = inr h.within }

part-more : (n : ℕ) (arrived : List ℕ) (x : ℕ) (part : Option ReadPart)
    → IfSome part (λ (p : ReadPart). IsWithin n arrived p.version.version)
    → IfSome part (λ (p : ReadPart). IsWithin n (x ∷ arrived) p.version.version)
part-more n arrived x None h = tt
part-more n arrived x (Some p) h = within-more n arrived x p.version.version h

pub reply-more : (n : ℕ) (world : World) (arrived : List ℕ) (k t x : ℕ) (reply : Reply) → t ≤ count k arrived
    → IsReplyTo n world arrived k t reply → IsReplyTo n world (x ∷ arrived) k t reply
reply-more n world arrived k t x reply le h = record {
  before = h.before;
  arrived_then = upto-more k t x arrived le ∙ h.arrived_then;
  accepted = h.accepted;
  in_range = h.in_range;
  read_within = part-more n arrived x reply.read h.read_within;
}

pub quiet-more : (n : ℕ) (arrived : List ℕ) (x : ℕ) (peer : Peer) → IsQuiet n arrived peer → IsQuiet n (x ∷ arrived) peer
quiet-more n arrived x peers.Probe h = tt
quiet-more n arrived x (peers.Version known) h = within-more n arrived x known.version h
quiet-more n arrived x (peers.Failure check) h = h

-- an operation of client x arrives, and k is another one
pub in_step-more : (config : Config) (world : World) (arrived : List ℕ) (committed begun k x : ℕ) (st : Client) (queue : List Sent)
    (given : List Reply) (handed : ℕ) → (x ≡ k → ⊥) → IsInStep config world arrived committed begun k st queue given handed
    → IsInStep config world (x ∷ arrived) committed begun k st queue given handed
in_step-more config world arrived committed begun k x st queue given handed other h =
    let n = config.clients in
    let d : ℕ = completed_count k st in
    let same : count k (x ∷ arrived) ≡ count k arrived = count-other k x arrived other in
    record {
      in_range = h.in_range;
      no_notice = h.no_notice;
      has_arrived = omega (arith, h.has_arrived, same);
      own = subst (λ (w : List ℕ). IsVersionOf n (version_at st k) w) (sym (upto-more k d x arrived h.has_arrived)) h.own;
      within = λ j client. within-more n arrived x (version_at st j) (h.within j client);
      waiting = h.waiting;
      last = h.last;
      all_committed = h.all_committed;
      held_back = held-more n world arrived k d h.all_committed x st.held h.held_back;
      leads = subst (λ (a : ℕ). Lead config world (x ∷ arrived) k a committed queue begun h.all_committed) (sym same)
          (lead-more config world arrived k (count k arrived) committed queue begun h.all_committed x h.leads);
      given_each = h.given_each ∙ sym same;
      handed_each = h.handed_each;
      due = λ lt.
          let before : d < count k arrived = omega (arith, lt, same) in
          let found = h.due before in
          (found.0, found.1, reply-more n world arrived k (suc d) x found.0 (omega (arith, before)) found.2);
    }
