-- What the clients of a run send: by the deeds of its entries, each message is in range, and a COMMIT that rides on a
-- SUBMIT is that of the operation before.
use Rattle.std.proofs.Common.{◌≡◌, ◌+◌, ◌-◌, ◌==◌, ◌&&◌, ℕ, suc, zero, not, is_none, Option, Some, None, List, [], ◌∷◌, ◌++◌, length, map, option_to_list, refl, sym, ap, ◌∙◌, subst}
use Rattle.std.specs.Prelude.{IfSome, IsNone, slice_get}
use Rattle.std.specs.List.{AllByRecursion}
use Rattle.std.proofs.lemmas.Bool.{and_parts, eqb-true}
use Rattle.std.proofs.lemmas.Option.{IfSome_then}
use Rattle.faust_types.specs.Clients.{IsClient}
use Rattle.faust_types.specs.Ranges.{IsConfig, IsPeerMessageFor}
use Rattle.faust_types.specs.Versions.{Vector, timestamp_at}
use Rattle.faust_types.specs.declared.config.Config.{Config}
use Rattle.faust_types.specs.declared.message.Commit.{Commit}
use Rattle.faust_types.specs.declared.message.Known.{Known}
use Rattle.faust_types.specs.declared.message.PeerMessage.{PeerMessage}
use Rattle.faust_types.specs.declared.outcome.Outcome.{Outcome}
use Rattle.faust_agent.specs.State.{completed_count, first_client, is_less, version_at}
use Rattle.faust_agent.specs.Deeds.{Event, Sent, commits, submits}
use Rattle.faust_agent.specs.Table.{after, begun_by, commit_of, committed_alone, deed_of, dummy_of, held_after, is_dummy_due, moved_on, own_tag, posts_of, raised, released, sent_of, submit_of, timers_after, with_news, with_read, with_slot}
use Rattle.faust_agent.specs.InRange.{IsClientOf, IsDeedFor, IsSentFor}
use Rattle.faust_agent.specs.Outcomes.{outcome_of, spelled_post, spelled_sent}
use Rattle.faust_agent.specs.Tells.{IsEventFor}
use Rattle.faust_agent.specs.declared.client.Client.{Client}
use Rattle.faust_agent.specs.declared.deed.Deed.{Deed}
use Rattle.faust_agent.specs.declared.deed.Deed.TheVariants as deeds
use Rattle.faust_agent.proofs.Kept.{differs, either_way, kept-after, kept-first, kept-moved, slot-other, slot-same}
use Rattle.faust_agent.proofs.Reasons.{deed-in_range, peer-in_range, reply-in_range}
use Rattle.faust_agent.proofs.Sends.{posts-in_range, sent-in_range}
use Rattle.faust_record.specs.Entries.{IsStep, MayCome, Obeys, event_of, outcome_at, state_at}
use Rattle.faust_record.specs.Runs.{IsRun, arrived_in, entries_of, next_message, sent_in}
use Rattle.faust_record.specs.declared.entry.Input.{Input}
use Rattle.faust_record.specs.declared.entry.Input.TheVariants as inputs
use Rattle.faust_record.specs.declared.entry.Entry.{Entry}
use Rattle.faust_sim.specs.Sent.{IsBehind, IsGivenBy, IsPostedBy, IsSentBy, RidesInOrder}

-- a held COMMIT is that of the last completed operation
abbrev pub IsOfLast : ℕ → Client → Commit → Type 0
IsOfLast me st commit = timestamp_at commit.version me ≡ completed_count me st

abbrev pub HoldsLast : ℕ → Client → Type 0
HoldsLast me st = IfSome st.held (IsOfLast me st)

none-holds : (held : Option Commit) (P : Commit → Type 0) → IsNone held → IfSome held P
none-holds None P none = tt
none-holds (Some commit) P none = absurd (cc)

-- other slots than the own one say nothing of it
holds-count : (me : ℕ) (a b : Client) → a.held ≡ b.held → version_at a me ≡ version_at b me → HoldsLast me b → HoldsLast me a
holds-count me a b held own holds =
    let count : completed_count me a ≡ completed_count me b = ap (λ (v : Vector). timestamp_at v me) own in
    subst (λ (h : Option Commit). IfSome h (IsOfLast me a)) (sym held)
    (IfSome_then b.held holds (λ commit is. is ∙ sym count))

holds-slot : (config : Config) (me : ℕ) (st : Client) (j : ℕ) (known : Known) → IsClientOf config me st → IsClient config.clients me
    → IsClient config.clients j → (me ≡ j → ⊥) → HoldsLast me st → HoldsLast me (with_slot st j known)
holds-slot config me st j known kept client other apart holds =
    holds-count me (with_slot st j known) st refl
    (ap (λ (slot : Known). slot.version) (slot-other config.clients st.heard j known me other client apart)) holds

-- a completion
own-version : (config : Config) (me : ℕ) (st : Client) (next : Vector) → IsClientOf config me st → IsClient config.clients me
    → version_at (moved_on config me st next) me ≡ next
own-version config me st next kept client =
    ap (λ (slot : Known). slot.version)
    (slot-same config.clients st.heard me (record { maker = me; version = next; tag = own_tag config me next })
    kept.versions.counted client)

holds-moved : (config : Config) (me : ℕ) (st : Client) (next : Vector) → IsClientOf config me st → IsClient config.clients me
    → HoldsLast me (moved_on config me st next)
holds-moved config me st next kept client =
    let after : Client = moved_on config me st next in
    either_way (λ (held : Option Commit). IfSome held (IsOfLast me after)) (config.wire == 1) st.held
    (Some (commit_of config me next))
    (λ one. none-holds st.held (IsOfLast me after) (kept.held_under_wire_2 (eqb-true config.wire 1 one)))
    (λ two. ap (λ (v : Vector). timestamp_at v me) (sym (own-version config me st next kept client)))

holds-read : (config : Config) (me : ℕ) (st : Client) (j : ℕ) (heard : Option Known) → IsClientOf config me st
    → IsClient config.clients me → IsClient config.clients j → HoldsLast me st → HoldsLast me (with_read me st j heard)
holds-read config me st j None kept client other holds = holds
holds-read config me st j (Some known) kept client other holds =
    either_way (HoldsLast me) (not (j == me) && is_less (version_at st j) known.version) (with_news (with_slot st j known) j) st
    (λ taken. holds-slot config me st j known kept client other
    (λ same. differs j me (and_parts _ _ taken).0 (sym same)) holds)
    (λ stale. holds)

-- a version that is heard
holds-raised : (config : Config) (me : ℕ) (st : Client) (j : ℕ) (known : Known) → IsClientOf config me st → IsClient config.clients me
    → IsClient config.clients j → (j ≡ me → ⊥) → HoldsLast me st → HoldsLast me (raised st j known)
holds-raised config me st j known kept client other apart holds =
    either_way (HoldsLast me) (is_less (version_at st j) known.version) (with_slot st j known) st
    (λ less. holds-slot config me st j known kept client other (λ same. apart (sym same)) holds) (λ more. holds)

-- what a tick begins or releases
holds-released : (me : ℕ) (st : Client) → HoldsLast me st → HoldsLast me (record st { held = held_after st })
holds-released me st holds =
    either_way (λ (held : Option Commit). IfSome held (IsOfLast me st)) (is_none st.waiting) None st.held
    (λ idle. tt) (λ waits. holds)

pub holds-after : (config : Config) (me : ℕ) (st : Client) (deed : Deed) → IsClientOf config me st → IsClient config.clients me
    → IsDeedFor config me st deed → HoldsLast me st → HoldsLast me (after config me st deed)
holds-after config me st deeds.Ignores kept client fits holds = holds
holds-after config me st (deeds.Begins order) kept client fits holds = tt
holds-after config me st (deeds.Completes done) kept client fits holds =
    let judged = fits.judged_in_range in
    let moved : Client = moved_on config me st done.judged.next in
    holds-read config me moved done.op.register done.judged.heard
    (kept-moved config me st done.judged.next kept client judged.next_in_range judged.next_made) client fits.register_in_range
    (holds-moved config me st done.judged.next kept client)
holds-after config me st (deeds.Breaks notice) kept client fits holds = holds
holds-after config me st (deeds.Answers j) kept client fits holds = holds
holds-after config me st (deeds.Hears j known) kept client fits holds =
    holds-raised config me st j known kept client fits.from_another.in_range fits.from_another.differs holds
holds-after config me st (deeds.Ticks m) kept client fits holds =
    either_way (λ (begun : Client). HoldsLast me (record begun { timers = timers_after config me st m })) (is_dummy_due config me st m)
    (begun_by me st (dummy_of st)) (record st { held = held_after st })
    (λ due. tt) (λ later. holds-released me st holds)

-- a COMMIT that rides
rides-submit : (me : ℕ) (st : Client) → HoldsLast me st → IfSome st.held (IsBehind me (completed_count me st + 1))
rides-submit me st holds = IfSome_then st.held holds (λ commit last. ap (λ (t : ℕ). t + 1) (sym last))

alone-rides : (me : ℕ) (held : Option Commit) → IfSome (committed_alone held) (RidesInOrder me)
alone-rides me None = tt
alone-rides me (Some commit) = tt

pub sent-rides : (config : Config) (me : ℕ) (st : Client) (deed : Deed) → HoldsLast me st
    → IfSome (sent_of config me st deed) (RidesInOrder me)
sent-rides config me st deeds.Ignores holds = tt
sent-rides config me st (deeds.Begins order) holds = rides-submit me st holds
sent-rides config me st (deeds.Completes done) holds =
    either_way (λ (sent : Option Sent). IfSome sent (RidesInOrder me)) (config.wire == 1)
    (Some (commits (commit_of config me done.judged.next))) None (λ one. tt) (λ two. tt)
sent-rides config me st (deeds.Breaks notice) holds = tt
sent-rides config me st (deeds.Answers j) holds = tt
sent-rides config me st (deeds.Hears j known) holds = tt
sent-rides config me st (deeds.Ticks m) holds =
    either_way (λ (sent : Option Sent). IfSome sent (RidesInOrder me)) (is_dummy_due config me st m)
    (Some (submits (submit_of config me st (dummy_of st)))) (committed_alone (released st))
    (λ due. rides-submit me st holds) (λ later. alone-rides me (released st))

-- what is sent, spelled
spelled-sent : (config : Config) (me : ℕ) (sent : Option Sent) → IfSome sent (IsSentFor config) → IfSome sent (RidesInOrder me)
    → IfSome (spelled_sent config.wire sent) (IsSentBy config me)
spelled-sent config me None range rides = tt
spelled-sent config me (Some sent) range rides = record { sent = sent; in_range = range; rides_in_order = rides; spelled = refl }

spelled-posts : (config : Config) (me : ℕ) (posts : List PeerMessage) → AllByRecursion (IsPeerMessageFor config.clients) posts
    → AllByRecursion (IsPostedBy config me) (map (spelled_post config.wire) posts)
spelled-posts config me [] range = tt
spelled-posts config me (message ∷ posts) range =
    (record { message = message; in_range = range.0; spelled = refl }, spelled-posts config me posts range.1)

-- what may come, as an event
event-in_range : (config : Config) (me : ℕ) (st : Client) (input : Input) → IsConfig config → IsClient config.clients me
    → MayCome config me st input → IsEventFor config.clients (event_of config me input)
event-in_range config me st (inputs.Write value) range client may =
    record { register_in_range = client; value_in_range = may.value_in_range }
event-in_range config me st (inputs.Read register) range client may =
    record { register_in_range = may.register_in_range; value_in_range = refl }
event-in_range config me st (inputs.Reply bytes) range client may = reply-in_range config bytes range.clients_count may.bytes_each
event-in_range config me st (inputs.Peer bytes) range client may = peer-in_range config bytes range.clients_count may.bytes_each
event-in_range config me st (inputs.Tick moment) range client may = tt
event-in_range config me st (inputs.Arrive message) range client may = tt

-- a step gives what is in range, and leaves the client in range
deed-given : (config : Config) (me : ℕ) (st : Client) (deed : Deed) (entry : Entry) → IsClientOf config me st
    → IsClient config.clients me → IsDeedFor config me st deed → HoldsLast me st → entry.outcome ≡ outcome_of config me st deed
    → IsGivenBy config me entry
unfolding outcome_of
deed-given config me st deed entry kept client fits holds is = record {
  to_server = subst (λ (o : Outcome). IfSome o.to_server (IsSentBy config me)) (sym is)
      (spelled-sent config me (sent_of config me st deed) (sent-in_range config me st deed kept fits) (sent-rides config me st deed holds));
  to_peers = subst (λ (o : Outcome). AllByRecursion (IsPostedBy config me) o.to_peers) (sym is)
      (spelled-posts config me (posts_of config me st deed) (posts-in_range config me st deed client kept fits));
}

pub record IsInOrder (config : Config) (me : ℕ) (st : Client) : Type 0 where
  pub kept : IsClientOf config me st
  pub holds : HoldsLast me st

step-given : (config : Config) (me : ℕ) (st : Client) (entry : Entry) → IsConfig config → IsClient config.clients me
    → IsInOrder config me st → IsStep config me st entry
    → IsGivenBy config me entry × IsInOrder config me (state_at config me st entry.input)
unfolding outcome_at state_at
step-given config me st entry range client order step =
    let event : Event = event_of config me entry.input in
    let deed : Deed = deed_of config me st event in
    let fits : IsDeedFor config me st deed = deed-in_range config me st event client order.kept
    (event-in_range config me st entry.input range client step.may_come) in (
      deed-given config me st deed entry order.kept client fits order.holds step.outcome_is,
      record {
        kept = kept-after config me st deed client order.kept fits;
        holds = holds-after config me st deed order.kept client fits order.holds;
      },
    )

-- all entries of a client
pub obeys-given : (config : Config) (me : ℕ) (st : Client) (own : List Entry) → IsConfig config → IsClient config.clients me
    → IsInOrder config me st → Obeys config me st own → AllByRecursion (IsGivenBy config me) own
obeys-given config me st [] range client order obeys = tt
obeys-given config me st (entry ∷ rest) range client order obeys =
    let given = step-given config me st entry range client order obeys.0 in
    (given.0, obeys-given config me (state_at config me st entry.input) rest range client given.1 obeys.1)

pub run_given : (config : Config) (entries : List Entry) (i : ℕ) → IsRun config entries → IsClient config.clients i
    → AllByRecursion (IsGivenBy config i) (entries_of i entries)
run_given config entries i run client =
    obeys-given config i (first_client config.clients i) (entries_of i entries) run.config_in_range client
    (record { kept = kept-first config i run.config_in_range.clients_count client; holds = tt }) (run.obeyed i client)

-- the messages that they sent
pub all-append : {X : Type 0} (P : X → Type 0) (xs ys : List X) → AllByRecursion P xs → AllByRecursion P ys → AllByRecursion P (xs ++ ys)
all-append P [] ys all more = more
all-append P (x ∷ xs) ys all more = (all.0, all-append P xs ys all.1 more)

pub all-at : {X : Type 0} (P : X → Type 0) (xs : List X) (k : ℕ) (x : X) → AllByRecursion P xs → slice_get xs k ≡ Some x → P x
all-at P [] k x all found = absurd (cc)
all-at P (y ∷ xs) zero x all found = let same : y ≡ x = cc in subst P same all.0
all-at P (y ∷ xs) (suc k) x all found = all-at P xs k x all.1 found

listed-sent : (config : Config) (i : ℕ) (sent : Option (List ℕ)) → IfSome sent (IsSentBy config i)
    → AllByRecursion (IsSentBy config i) (option_to_list sent)
listed-sent config i None all = tt
listed-sent config i (Some bytes) all = (all, tt)

pub given-sent : (config : Config) (i : ℕ) (own : List Entry) → AllByRecursion (IsGivenBy config i) own
    → AllByRecursion (IsSentBy config i) (sent_in own)
given-sent config i [] all = tt
given-sent config i (entry ∷ rest) all =
    all-append (IsSentBy config i) (option_to_list entry.outcome.to_server) (sent_in rest)
    (listed-sent config i entry.outcome.to_server all.0.to_server) (given-sent config i rest all.1)

pub run_sent : (config : Config) (entries : List Entry) (i : ℕ) → IsRun config entries → IsClient config.clients i
    → AllByRecursion (IsSentBy config i) (sent_in (entries_of i entries))
run_sent config entries i run client = given-sent config i (entries_of i entries) (run_given config entries i run client)

-- the message that is due
pub due_sent : (config : Config) (entries : List Entry) (i : ℕ) (message : List ℕ) → IsRun config entries → IsClient config.clients i
    → next_message i entries ≡ Some message → IsSentBy config i message
due_sent config entries i message run client due =
    all-at (IsSentBy config i) (sent_in (entries_of i entries)) (length (arrived_in (entries_of i entries))) message
    (run_sent config entries i run client) due
