-- A reply that breaks no check: each client has a next operation, and the client's own version becomes the next one.
use Rattle.std.proofs.Common.{◌≡◌, ◌==◌, ◌+◌, ◌^◌, ◌<◌, ◌&&◌, ℕ, true, not, List, [], ◌∷◌, length, Option, Some, None, refl, sym, ap, ◌∙◌, arith}
use Rattle.std.proofs.lemmas.Bool.{and_from, and_parts, lt-ltb}
use Rattle.faust_types.specs.Clients.{IsClient}
use Rattle.faust_types.specs.Ranges.{IsReplyFor}
use Rattle.faust_types.specs.Versions.{Vector, clients_of, timestamp_at}
use Rattle.faust_types.specs.declared.config.Config.{Config}
use Rattle.faust_types.specs.declared.operation.Operation.{Operation}
use Rattle.faust_types.specs.declared.message.Known.{Known}
use Rattle.faust_types.specs.declared.message.Reply.{Reply}
use Rattle.faust_types.specs.declared.message.Tuple.{Tuple}
use Rattle.faust_ustor.specs.Checks.{advanced, begun}
use Rattle.faust_ustor.specs.InRange.{IsPendingOf}
use Rattle.faust_ustor.specs.Passed.{AreTuplesPassed, IsPassed, followed, next_of}
use Rattle.faust_ustor.specs.declared.walk.Walk.{Walk}
use Rattle.faust_ustor.proofs.Counts.{clients-advanced, clients-followed, timestamp-followed, tuples_by-own}
use Rattle.faust_agent.specs.State.{is_less, version_at}
use Rattle.faust_agent.specs.Table.{moved_on, own_tag, with_read}
use Rattle.faust_agent.specs.declared.client.Client.{Client}
use Rattle.faust_agent.proofs.Kept.{differs, either_way, slot-other, slot-same}
use Rattle.faust_audit.specs.Watching.{has_next, have_next, watched_of}

-- each tuple's client has a next operation, and then the own one has
tuples-room : (key : List ℕ) (me : ℕ) (proofs : List (Option (List ℕ))) (walk : Walk) (tuples : List Tuple)
    → AreTuplesPassed key me proofs walk tuples → has_next (followed walk tuples) me ≡ true → have_next me walk tuples ≡ true
tuples-room key me proofs walk [] passed own = own
tuples-room key me proofs walk (tuple ∷ rest) passed own =
    and_from (has_next walk tuple.client) (have_next me (advanced walk tuple.client) rest) (and_parts _ _ passed.0.submitted).0
    (tuples-room key me proofs (advanced walk tuple.client) rest passed.1 own)

pub passed-room : (key : List ℕ) (n me : ℕ) (own : Vector) (op : Operation) (reply : Reply) → IsReplyFor n reply → IsClient n me
    → IsPendingOf me own op → IsPassed key me own op reply → have_next me (begun reply) reply.pending ≡ true
passed-room key n me own op reply range client pending passed =
    let walk = followed (begun reply) reply.pending in
    let along : timestamp_at walk.version me ≡ timestamp_at reply.version.version me + _ =
    timestamp-followed n (begun reply) reply.pending me range.version_known.version_in_range.count client range.pending_in_range in
    let none = tuples_by-own key me reply.proofs (begun reply) reply.pending passed.tuples_passed in
    let room : timestamp_at walk.version me + 1 < 2 ^ 40 = omega (arith, along, none, passed.own_counted, pending.number, pending.below) in
    tuples-room key me reply.proofs (begun reply) reply.pending passed.tuples_passed
    (lt-ltb (timestamp_at walk.version me + 1) (2 ^ 40) room)

-- the next version is of as many clients
pub next-sized : (n me : ℕ) (reply : Reply) → IsReplyFor n reply → clients_of (next_of me reply) ≡ n
next-sized n me reply range =
    clients-advanced (followed (begun reply) reply.pending) me ∙ clients-followed (begun reply) reply.pending
    ∙ range.version_known.version_in_range.count

-- what is kept of a client doesn't depend on the versions of others
pub read-own : (n me : ℕ) (st : Client) (j : ℕ) (heard : Option Known) → IsClient n me → IsClient n j
    → watched_of me (with_read me st j heard) ≡ watched_of me st
read-own n me st j None client within = refl
read-own n me st j (Some known) client within =
    either_way (λ (c : Client). watched_of me c ≡ watched_of me st) (not (j == me) && is_less (version_at st j) known.version) _ st
    (λ newer. ap (λ (own : Known). record { own = own.version; last = st.last; waiting = st.waiting })
    (slot-other n st.heard j known me within client (λ (e : me ≡ j). differs j me (and_parts _ _ newer).0 (sym e))))
    (λ older. refl)

pub moved-own : (config : Config) (me : ℕ) (st : Client) (next : Vector) → length st.heard ≡ config.clients → IsClient config.clients me
    → watched_of me (moved_on config me st next) ≡ record { own = next; last = st.last; waiting = None }
moved-own config me st next counted client =
    ap (λ (own : Known). record { own = own.version; last = st.last; waiting = None })
    (slot-same config.clients st.heard me (record { maker = me; version = next; tag = own_tag config me next }) counted client)
