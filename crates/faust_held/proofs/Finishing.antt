-- A client completes an operation.
use Rattle.std.proofs.Common.{◌≡◌, ◌⊎◌, ℕ, true, Option, Some, IfSome, sym, ap, ◌∙◌, subst}
use Rattle.faust_types.specs.Clients.{IsClient}
use Rattle.faust_types.specs.Ranges.{IsKnownBy}
use Rattle.faust_types.specs.Versions.{IsAtMost, Vector, clients_of, is_initial}
use Rattle.faust_types.specs.declared.config.Config.{Config}
use Rattle.faust_types.specs.declared.message.Known.{Known}
use Rattle.faust_types.specs.declared.message.Peer.TheVariants as peers
use Rattle.faust_types.specs.declared.message.PeerMessage.{PeerMessage}
use Rattle.faust_types.specs.declared.message.Reply.{Reply}
use Rattle.faust_types.proofs.Order.{at_most_along, at_most_self, comparable_below}
use Rattle.faust_ustor.specs.declared.judgement.Judged.{Judged}
use Rattle.faust_ustor.proofs.Above.{at_most-next}
use Rattle.faust_agent.specs.State.{slot_at, version_at}
use Rattle.faust_agent.specs.Table.{completed_by, moved_on}
use Rattle.faust_agent.specs.InRange.{IsClientOf, IsCompletionOf}
use Rattle.faust_agent.specs.Tells.{TellsCompletion}
use Rattle.faust_agent.specs.declared.client.Client.{Client}
use Rattle.faust_agent.specs.declared.deed.Completion.{Completion}
use Rattle.faust_agent.proofs.Kept.{kept-moved}
use Rattle.faust_lists.specs.Names.{Has}
use Rattle.faust_forks.specs.Forks.{IsBooked}
use Rattle.faust_forks.specs.Pasts.{Past}
use Rattle.faust_forks.specs.Sources.{of_peer}
use Rattle.faust_forks.proofs.Booked.{booked-more, own-booked}
use Rattle.faust_record.specs.Entries.{event_of}
use Rattle.faust_record.specs.declared.entry.Input.{Input}
use Rattle.faust_runs.specs.ForkViews.{reply_at}
use Rattle.faust_runs.specs.Ledgers.{completing}
use Rattle.faust_runs.proofs.Completions.{IsFinish, completing-leads, is-finish}
use Rattle.faust_runs.proofs.Frames.{IsMoved, completed-moved}
use Rattle.faust_runs.proofs.Leading.{IsComing, LeadsTo}
use Rattle.faust_held.specs.Given.{AreHeld, IsBookedFor, IsGiven}
use Rattle.faust_held.proofs.Holding.{DoFit, IsAfter, IsStepOf, after-comparable, fitting-came, fitting-next, given-or_more, is_next}
use Rattle.faust_held.proofs.Holding as holding
use Rattle.faust_held.proofs.Parts.{IsShownOf, read-shown, shown-booked, shown-given}
use Rattle.faust_held.proofs.Posting.{IsHeldAndSaid}
use Rattle.faust_held.proofs.Putting.{Completing, completing-cases, is_old, is_own, is_read}

-- How the versions of a completion are ordered: the own one is at most that of the reply, which is at most the next one;
-- and one that comes with a read is at most that of the reply.
pub record IsInOrder (n : ℕ) (own : Vector) (reply : Reply) (next : Vector) : Type 0 where
  pub own_below : IsAtMost own reply.version.version
  pub next_above : IsAtMost reply.version.version next
  pub own_next : IsAtMost own next

pub in-order : (config : Config) (past : Past) (me : ℕ) (st : Client) (input : Input) (done : Completion) (reply : Reply)
    → IsComing config past me st input → IsFinish config past me st input done reply
    → IsInOrder config.clients (version_at st me) reply done.judged.next
in-order config past me st input done reply coming h =
    let n = config.clients in
    let own = version_at st me in
    let accepted = h.accepted in
    let above : IsAtMost reply.version.version done.judged.next = subst (IsAtMost reply.version.version) (sym h.next_is)
    (at_most-next n me reply accepted.reply_in_range coming.client) in
    let sized : clients_of own ≡ clients_of reply.version.version =
    (coming.kept.versions.in_range me coming.client).known_by.version_in_range.count
    ∙ sym accepted.reply_in_range.version_known.version_in_range.count in
    record {
      own_below = accepted.passed.own_at_most;
      next_above = above;
      own_next = at_most_along own reply.version.version done.judged.next sized accepted.passed.own_at_most above;
    }

known-in_range : (n register : ℕ) (heard : Option Known) (known : Known) → heard ≡ Some known → IfSome heard (IsKnownBy n register)
    → IsKnownBy n register known
known-in_range n register heard known is range =
    subst (λ (o : Option Known). IfSome o (IsKnownBy n register)) is range

-- a version that comes with a read is that of one of the client's completions
pub came-shown : (config : Config) (past : Past) (me : ℕ) (st : Client) (input : Input) (done : Completion) (reply : Reply) (known : Known)
    → IsComing config past me st input → IsFinish config past me st input done reply → done.judged.heard ≡ Some known
    → IsShownOf past.book done.op.register reply.version.version known
came-shown config past me st input done reply known coming h is =
    read-shown config.clients past config.key me (version_at st me) done.op reply known coming.ground h.accepted
    (ap (λ (j : Judged). j.heard) (sym h.tells) ∙ is)

completing-fit : (config : Config) (past : Past) (me : ℕ) (st : Client) (input : Input) (done : Completion) (reply : Reply)
    → IsComing config past me st input → TellsCompletion config me st (event_of config me input) done
    → IsCompletionOf config me st done → IsFinish config past me st input done reply
    → AreHeld config.clients past.book past.made me st.heard → DoFit config.clients st done.judged.next done.judged.heard
completing-fit config past me st input done reply coming tells fits h old =
    let n = config.clients in
    let next = done.judged.next in
    let heard = done.judged.heard in
    let order = in-order config past me st input done reply coming h in
    record {
      held = old.agree;
      next_held = λ k client. fitting-next next heard (version_at st k) (tells.all_fit k client);
      came_held = λ known is k client. fitting-came next heard (version_at st k) known is (tells.all_fit k client);
      came_next = λ known is.
          let shown = came-shown config past me st input done reply known coming h is in
          let range = known-in_range n done.op.register heard known is fits.judged_in_range.heard_known in
          let sized : clients_of known.version ≡ clients_of reply.version.version =
          range.version_in_range.count ∙ sym h.accepted.reply_in_range.version_known.version_in_range.count in
          comparable_below known.version next
          (at_most_along known.version reply.version.version next sized shown.below order.next_above);
    }

-- What a slot is after a completion.
slot-after : (config : Config) (me : ℕ) (st : Client) (done : Completion) (k : ℕ) → IsClientOf config me st
    → IsCompletionOf config me st done → IsClient config.clients me → IsClient config.clients k
    → Completing config me st done (slot_at (completed_by config me st done) k) k
slot-after config me st done k kept fits of_me of_k =
    let judged = fits.judged_in_range in
    let moved : IsClientOf config me (moved_on config me st done.judged.next) =
    kept-moved config me st done.judged.next kept of_me judged.next_in_range judged.next_made in
    completing-cases config me st done k kept.versions.counted moved.versions.counted of_me fits.register_in_range of_k

after-slot : (config : Config) (me : ℕ) (st : Client) (done : Completion) (then : Known) (k : ℕ) → IsClient config.clients k
    → Completing config me st done then k → IsAfter config.clients st done.judged.next done.judged.heard then.version
after-slot config me st done then k client (is_own own is) = is_next (ap (λ (v : Known). v.version) is)
after-slot config me st done then k client (is_read known came of_j is grew) = holding.is_new known came (ap (λ (v : Known). v.version) is)
after-slot config me st done then k client (is_old other is) = holding.is_held k client (ap (λ (v : Known). v.version) is)

grown-slot : (config : Config) (me : ℕ) (st : Client) (done : Completion) (then : Known) (k : ℕ)
    → IsAtMost (version_at st me) done.judged.next → Completing config me st done then k → IsAtMost (version_at st k) then.version
grown-slot config me st done then k up (is_own own is) =
    subst (λ (v : Known). IsAtMost (version_at st k) v.version) (sym is)
    (subst (λ (i : ℕ). IsAtMost (version_at st i) done.judged.next) (sym own) up)
grown-slot config me st done then k up (is_read known came of_j is grew) =
    subst (λ (v : Known). IsAtMost (version_at st k) v.version) (sym is) grew
grown-slot config me st done then k up (is_old other is) =
    subst (λ (v : Known). IsAtMost (version_at st k) v.version) (sym is) (at_most_self (version_at st k))

booked-slot : (config : Config) (past later : Past) (me : ℕ) (st : Client) (input : Input) (done : Completion) (reply : Reply)
    (then : Known) (k : ℕ)
    → IsComing config past me st input → IsFinish config past me st input done reply
    → LeadsTo config past later me (completed_by config me st done)
    → IsBooked later.book me done.judged.next → AreHeld config.clients past.book past.made me st.heard → IsClient config.clients k
    → Completing config me st done then k → IsBookedFor later.book then
booked-slot config past later me st input done reply then k coming h leads own_booked old client (is_own own is) =
    subst (IsBookedFor later.book) (sym is) own_booked
booked-slot config past later me st input done reply then k coming h leads own_booked old client (is_read known came of_j is grew) =
    let shown = came-shown config past me st input done reply known coming h came in
    subst (IsBookedFor later.book) (sym is)
    (booked-more past.book later.book known.maker known.version leads.grows.done_kept
    (shown-booked past.book done.op.register reply.version.version known shown))
booked-slot config past later me st input done reply then k coming h leads own_booked old client (is_old other is) =
    subst (IsBookedFor later.book) (sym is)
    (booked-more past.book later.book (slot_at st k).maker (version_at st k) leads.grows.done_kept (old.booked k client))

given-slot : (config : Config) (past later : Past) (me : ℕ) (st : Client) (input : Input) (done : Completion) (reply : Reply)
    (then : Known) (k : ℕ)
    → IsComing config past me st input → IsFinish config past me st input done reply
    → LeadsTo config past later me (completed_by config me st done)
    → AreHeld config.clients past.book past.made me st.heard → IsClient config.clients k → (k ≡ me → ⊥)
    → Completing config me st done then k → (is_initial then.version ≡ true) ⊎ IsGiven later.book later.made k then
given-slot config past later me st input done reply then k coming h leads old client other (is_own own is) = absurd (other own)
given-slot config past later me st input done reply then k coming h leads old client other (is_read known came of_j is grew) =
    let shown = came-shown config past me st input done reply known coming h came in
    subst (λ (v : Known). (is_initial v.version ≡ true) ⊎ IsGiven later.book later.made k v) (sym is)
    (subst (λ (i : ℕ). (is_initial known.version ≡ true) ⊎ IsGiven later.book later.made i known) (sym of_j)
    (given-or_more past.book later.book past.made later.made done.op.register known leads.grows.done_kept leads.grows.made_kept
    (shown-given past.book past.made done.op.register reply.version.version known shown)))
given-slot config past later me st input done reply then k coming h leads old client other (is_old another is) =
    subst (λ (v : Known). (is_initial v.version ≡ true) ⊎ IsGiven later.book later.made k v) (sym is)
    (given-or_more past.book later.book past.made later.made k (slot_at st k) leads.grows.done_kept leads.grows.made_kept
    (old.given k client other))

pub completing-step : (config : Config) (past : Past) (me : ℕ) (st : Client) (input : Input) (done : Completion)
    → IsComing config past me st input → TellsCompletion config me st (event_of config me input) done
    → IsCompletionOf config me st done → AreHeld config.clients past.book past.made me st.heard
    → ((message : PeerMessage) (known : Known) → Has (completing past me done.op (reply_at config input)).made (of_peer message)
    → message.peer ≡ peers.Version known → Has past.made (of_peer message) ⊎ IsHeldAndSaid config.clients me st message known)
    → IsStepOf config.clients past.made (completing past me done.op (reply_at config input)) me st (completed_by config me st done)
completing-step config past me st input done coming tells fits old said =
    let n = config.clients in
    let reply = tells.reply in
    let later = completing past me done.op (reply_at config input) in
    let now = completed_by config me st done in
    let h = is-finish config past me st input done coming tells in
    let leads : LeadsTo config past later me now = completing-leads config past me st input done coming tells fits in
    let order = in-order config past me st input done reply coming h in
    let moved : IsMoved me st now done.judged.next = completed-moved config me st done coming.kept coming.client fits.register_in_range in
    let own_booked : IsBooked later.book me done.judged.next = subst (IsBooked later.book me) moved.own
    (own-booked n later.book me (version_at now me) coming.count leads.held.owned) in
    let fit = completing-fit config past me st input done reply coming tells fits h old in
    let slot : (k : ℕ) → IsClient n k → Completing config me st done (slot_at now k) k = λ k client.
    slot-after config me st done k coming.kept fits coming.client client in
    record {
      grows = λ k client. grown-slot config me st done (slot_at now k) k order.own_next (slot k client);
      held = record {
        booked = λ k client.
            booked-slot config past later me st input done reply (slot_at now k) k coming h leads own_booked old client (slot k client);
        agree = λ k l client other.
            after-comparable n st done.judged.next done.judged.heard (version_at now k) (version_at now l) fit
            (after-slot config me st done (slot_at now k) k client (slot k client))
            (after-slot config me st done (slot_at now l) l other (slot l other));
        given = λ k client other.
            given-slot config past later me st input done reply (slot_at now k) k coming h leads old client other (slot k client);
      };
      said = said;
    }
