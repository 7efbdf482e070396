-- What stands behind the entries of a run in which no reply departed: the honest server and all clients agree on one
-- history, the order in which SUBMITs arrived. This file helps proofs.
use Rattle.std.specs.Prelude.{◌≡◌, ℕ, ◌+◌, ◌-◌, ◌<◌, ◌≤◌, suc, List, [], ◌∷◌, ◌++◌, length, map, Option, Some, None, IfSome, option_map, slice_get, ◌||◌, Bool, false, is_some}
use Rattle.faust_types.specs.Clients.{IsClient}
use Rattle.faust_types.specs.Versions.{Vector}
use Rattle.faust_types.specs.Ranges.{IsCommitFor, IsPeerMessageFor, IsReplyFor}
use Rattle.faust_types.specs.declared.config.Config.{Config}
use Rattle.faust_types.specs.declared.operation.Kind.{Kind}
use Rattle.faust_types.specs.declared.operation.Kind.TheVariants.{Read}
use Rattle.faust_types.specs.declared.operation.Operation.{Operation}
use Rattle.faust_types.specs.declared.message.ReadPart.{ReadPart}
use Rattle.faust_types.specs.declared.message.Submit.{Submit}
use Rattle.faust_types.specs.declared.message.Commit.{Commit}
use Rattle.faust_types.specs.declared.message.Reply.{Reply}
use Rattle.faust_types.specs.declared.message.Peer.{Peer}
use Rattle.faust_types.specs.declared.message.Peer.TheVariants as peers
use Rattle.faust_types.specs.declared.message.PeerMessage.{PeerMessage}
use Rattle.faust_hash.specs.Chain.{chain_of}
use Rattle.faust_tags.specs.Bodies.{commit_body, data_body, peer_body, proof_body, submit_body}
use Rattle.faust_ustor.specs.Checks.{digest_of}
use Rattle.faust_lists.specs.Lists.{count, upto, IsTail}
use Rattle.faust_lists.specs.Names.{Has, name_of}
use Rattle.faust_names.specs.ForkViews.{listed}
use Rattle.faust_names.specs.Histories.{named}
use Rattle.faust_lists.specs.Walks.{IsVersionOf}
use Rattle.faust_honest.specs.World.{World, IsCommitOf, submit_of, written}
use Rattle.faust_honest.specs.Honest.{IsAccepted, IsHonest}
use Rattle.faust_forks.specs.Pairs.{Pair, checked}
use Rattle.faust_agent.specs.State.{completed_count, version_at}
use Rattle.faust_agent.specs.Deeds.{Sent, submits, commits}
use Rattle.faust_agent.specs.Outcomes.{sent_bytes}
use Rattle.faust_agent.specs.InRange.{IsClientOf, IsSentFor}
use Rattle.faust_agent.specs.declared.client.Client.{Client}
use Rattle.faust_agent.specs.declared.deed.Order.{Order}
use Rattle.faust_record.specs.Entries.{replay}
use Rattle.faust_record.specs.Made.{made_behind}
use Rattle.faust_record.specs.Operations.{Finished, Started, completion_named, finished_among, started_among}
use Rattle.faust_record.specs.Runs.{arrived_in, entries_of, sent_in}
use Rattle.faust_record.specs.declared.entry.Entry.{Entry}
use Rattle.faust_audit.specs.Departure.{Given, given_to, line_of, times_of}
use Rattle.faust_audit.specs.Findings.{is_write, order_among}

-- The operations of a run, as the honest server's promises speak of them.
abbrev pub order_of_started : Started → Order
order_of_started started = started.order

abbrev pub order_at : List Entry → ℕ → ℕ → Option Order
order_at entries k t = option_map order_of_started (slice_get (started_among (entries_of k entries)) (t - 1))

abbrev pub kind_of_order : Option Order → Kind
kind_of_order None = Read
kind_of_order (Some order) = order.kind

abbrev pub register_of_order : Option Order → ℕ
register_of_order None = 0
register_of_order (Some order) = order.register

abbrev pub value_of_order : Option Order → Option (List ℕ)
value_of_order None = None
value_of_order (Some order) = order.value

abbrev pub world_of : Config → List Entry → World
world_of config entries = record {
  key = config.key;
  kind = λ k t. kind_of_order (order_at entries k t);
  register = λ k t. register_of_order (order_at entries k t);
  value = λ k t. value_of_order (order_at entries k t);
}

-- Operation t of client k is this order.
pub record IsOrderOf (world : World) (k t : ℕ) (order : Order) : Type 0 where
  pub same_kind : world.kind k t ≡ order.kind
  pub same_register : world.register k t ≡ order.register
  pub same_value : world.value k t ≡ order.value

-- A version stands for a front of the history.
pub record IsWithin (n : ℕ) (arrived : List ℕ) (version : Vector) : Type 0 where
  pub history : List ℕ
  pub is_version : IsVersionOf n version history
  pub within : IsTail history arrived

-- The COMMIT of operation t of client k, which arrived.
pub record IsCommitMade (n : ℕ) (world : World) (arrived : List ℕ) (k t : ℕ) (commit : Commit) : Type 0 where
  pub has_arrived : t ≤ count k arrived
  pub is_commit : IsCommitOf n world k (upto k t arrived) commit

abbrev pub rides : Option Commit → ℕ
rides None = 0
rides (Some commit) = 1

-- What goes next to the server where so many SUBMITs and COMMITs of client k went before.
pub record IsSubmitDue (config : Config) (world : World) (arrived : List ℕ) (k submitted committed : ℕ) (submit : Submit) : Type 0 where
  pub is_next : submit ≡ submit_of world k (suc submitted) submit.commit
  pub in_range : IsSentFor config (submits submit)
  pub balanced : submitted ≡ committed + rides submit.commit
  pub rides_rightly : IfSome submit.commit (IsCommitMade config.clients world arrived k submitted)

pub record IsCommitDue (config : Config) (world : World) (arrived : List ℕ) (k submitted committed : ℕ) (commit : Commit) : Type 0 where
  pub in_range : IsCommitFor config.clients commit
  pub balanced : submitted ≡ suc committed
  pub is_made : IsCommitMade config.clients world arrived k submitted commit

-- Messages lead from so many SUBMITs and COMMITs of client k to so many.
abbrev pub Lead : Config → World → List ℕ → ℕ → ℕ → ℕ → List Sent → ℕ → ℕ → Type 0
Lead config world arrived k submitted committed [] all_submitted all_committed =
    (submitted ≡ all_submitted) × (committed ≡ all_committed)
Lead config world arrived k submitted committed (submits submit ∷ rest) all_submitted all_committed =
    IsSubmitDue config world arrived k submitted committed submit
    × Lead config world arrived k (suc submitted) (committed + rides submit.commit) rest all_submitted all_committed
Lead config world arrived k submitted committed (commits commit ∷ rest) all_submitted all_committed =
    IsCommitDue config world arrived k submitted committed commit
    × Lead config world arrived k submitted (suc committed) rest all_submitted all_committed

-- What client k holds of its last COMMIT, where so many operations are complete and so many COMMITs were sent.
abbrev pub IsHeldBack : ℕ → World → List ℕ → ℕ → ℕ → ℕ → Option Commit → Type 0
IsHeldBack n world arrived k done committed None = committed ≡ done
IsHeldBack n world arrived k done committed (Some commit) = (suc committed ≡ done) × IsCommitMade n world arrived k done commit

-- What client k waits for, where so many operations are complete and so many began.
pub record IsAwaited (world : World) (k done begun : ℕ) (held : Option Commit) (op : Operation) : Type 0 where
  pub is_last : begun ≡ suc done
  pub same_name : op.name ≡ named k (suc done)
  pub same_kind : op.kind ≡ world.kind k (suc done)
  pub same_register : op.register ≡ world.register k (suc done)
  pub none_held : held ≡ None

abbrev pub IsWaiting : World → ℕ → ℕ → ℕ → Option Commit → Option Operation → Type 0
IsWaiting world k done begun held None = begun ≡ done
IsWaiting world k done begun held (Some op) = IsAwaited world k done begun held op

-- The reply to operation t of client k that the server gave: the client takes it, whatever arrived since.
pub record IsReplyTo (n : ℕ) (world : World) (arrived : List ℕ) (k t : ℕ) (reply : Reply) : Type 0 where
  pub before : List ℕ
  pub arrived_then : upto k t arrived ≡ k ∷ before
  pub accepted : IsAccepted n world k before reply
  pub in_range : IsReplyFor n reply
  pub read_within : IfSome reply.read (λ (part : ReadPart). IsWithin n arrived part.version.version)

-- Client k in step with the history: so many of its COMMITs were taken, so many operations began, the messages wait
-- to arrive, and the replies were given to it, of which so many were handed to it.
pub record IsInStep (config : Config) (world : World) (arrived : List ℕ) (committed begun k : ℕ) (st : Client) (queue : List Sent)
    (given : List Reply) (handed : ℕ) : Type 0 where
  pub in_range : IsClientOf config k st
  pub no_notice : st.notice ≡ None
  pub has_arrived : completed_count k st ≤ count k arrived
  pub own : IsVersionOf config.clients (version_at st k) (upto k (completed_count k st) arrived)
  pub within : (j : ℕ) → IsClient config.clients j → IsWithin config.clients arrived (version_at st j)
  pub waiting : IsWaiting world k (completed_count k st) begun st.held st.waiting
  pub last : st.last ≡ digest_of (written world k begun)
  pub all_committed : ℕ
  pub held_back : IsHeldBack config.clients world arrived k (completed_count k st) all_committed st.held
  pub leads : Lead config world arrived k (count k arrived) committed queue begun all_committed
  pub given_each : length given ≡ count k arrived
  pub handed_each : handed ≡ completed_count k st
  pub due : completed_count k st < count k arrived
      → (reply : Reply) × (slice_get given (completed_count k st) ≡ Some reply)
      × IsReplyTo config.clients world arrived k (suc (completed_count k st)) reply

-- What waits is what was sent and didn't arrive.
pub record IsQueued (wire : ℕ) (own : List Entry) (queue : List Sent) : Type 0 where
  pub gone : List (List ℕ)
  pub sent_is : sent_in own ≡ gone ++ map (sent_bytes wire) queue
  pub counted : length gone ≡ length (arrived_in own)

pub record IsClientJoined (config : Config) (world : World) (arrived : List ℕ) (committed k : ℕ) (own : List Entry) (given : List Reply)
    (handed : ℕ) : Type 0 where
  pub queue : List Sent
  pub queued : IsQueued config.wire own queue
  pub in_step : IsInStep config world arrived committed (length (started_among own)) k (replay config k own) queue given handed

-- What clients said to one another: versions within the history, and no failure.
abbrev pub IsQuiet : ℕ → List ℕ → Peer → Type 0
IsQuiet n arrived peers.Probe = Unit {0}
IsQuiet n arrived (peers.Version known) = IsWithin n arrived known.version
IsQuiet n arrived (peers.Failure check) = ⊥

abbrev pub AreQuiet : ℕ → List ℕ → List (List ℕ) → Type 0
AreQuiet n arrived made =
    (message : PeerMessage) → IsPeerMessageFor n message → Has made (peer_body message) → IsQuiet n arrived message.peer

-- A body of the history: of an operation that arrived, its SUBMIT or what its client's register holds then; or of an
-- operation whose COMMIT the server took, its version or the digest of the chain up to it.
pub data IsBodyOf (n : ℕ) (world : World) (arrived handled body : List ℕ) : Type 0 where
  of_submit : (k t : ℕ) → IsClient n k → t < count k arrived
      → body ≡ submit_body k (world.kind k (suc t)) (world.register k (suc t)) (suc t) → IsBodyOf n world arrived handled body
  of_data : (k t : ℕ) → IsClient n k → t < count k arrived
      → body ≡ data_body k (suc t) (digest_of (written world k (suc t))) → IsBodyOf n world arrived handled body
  of_commit : (k t : ℕ) (version : Vector) → IsClient n k → t < count k arrived → t < count k handled
      → IsVersionOf n version (upto k (suc t) arrived) → body ≡ commit_body k version → IsBodyOf n world arrived handled body
  of_proof : (k t : ℕ) (digest : List ℕ) → IsClient n k → t < count k arrived → t < count k handled
      → chain_of (upto k (suc t) arrived) ≡ Some digest → body ≡ proof_body k digest → IsBodyOf n world arrived handled body

-- Each pair that a reply has to answer for is of such a body; and so of all replies that the server gave.
abbrev pub AreOfHistory : ℕ → World → List ℕ → List ℕ → List Pair → Type 0
AreOfHistory n world arrived handled pairs = (pair : Pair) → Has pairs pair → IsBodyOf n world arrived handled pair.body

abbrev pub AreGivenOf : ℕ → World → List ℕ → List ℕ → List Given → Type 0
AreGivenOf n world arrived handled [] = Unit {0}
AreGivenOf n world arrived handled (given ∷ rest) =
    AreOfHistory n world arrived handled (checked given.reply) × AreGivenOf n world arrived handled rest

-- Behind the entries: the history, and to which COMMITs the server came.
pub record IsJoined (config : Config) (world : World) (entries : List Entry) : Type 0 where
  pub arrived : List ℕ
  pub handled : List ℕ
  pub honest : IsHonest config.clients world (line_of config entries).server arrived handled
  pub each : (k : ℕ) → IsClient config.clients k
      → IsClientJoined config world arrived (count k handled) k (entries_of k entries)
      (given_to k (line_of config entries).given) (times_of k (line_of config entries).handed)
  pub quiet : AreQuiet config.clients arrived (made_behind config [] entries)
  pub given : AreGivenOf config.clients world arrived handled (line_of config entries).given

-- The order of arrival names an operation of the history: it is a write, or it completed in the run.
abbrev pub is_named_in : World → List Entry → List ℕ → Bool
is_named_in world all [] = false
is_named_in world all (k ∷ w) = is_write (world.kind k (suc (count k w))) || is_some (completion_named all (name_of k w))

-- Behind one more entry all are joined, the history went on, and the order of arrival is read off it.
pub record IsGrown (config : Config) (world : World) (front : List Entry) (entry : Entry) (arrived : List ℕ) : Type 0 where
  pub joined : IsJoined config world (front ++ entry ∷ [])
  pub goes_on : IsTail arrived joined.arrived
  pub listed_on : (all : List Entry) → order_among config all front ≡ listed (is_named_in world all) arrived
      → order_among config all (front ++ entry ∷ []) ≡ listed (is_named_in world all) joined.arrived

-- The completion of operation t of client k: its name, and for a read what was written last when it arrived.
pub record IsToldAt (world : World) (arrived : List ℕ) (k t : ℕ) (finished : Finished) : Type 0 where
  pub same_name : finished.answer.op.name ≡ named k t
  pub has_arrived : t ≤ count k arrived
  pub before : List ℕ
  pub arrived_then : upto k t arrived ≡ k ∷ before
  pub value : world.kind k t ≡ Read
      → finished.answer.value ≡ written world (world.register k t) (count (world.register k t) (k ∷ before))

-- The completions of client k, to which so many replies were handed.
pub record AreTold (world : World) (arrived : List ℕ) (k : ℕ) (finished : List Finished) (handed : ℕ) : Type 0 where
  pub counted : length finished ≡ handed
  pub each : (s : ℕ) (x : Finished) → slice_get finished s ≡ Some x → IsToldAt world arrived k (suc s) x

abbrev pub AreAllTold : Config → World → List ℕ → List Entry → Type 0
AreAllTold config world arrived entries = (k : ℕ) → IsClient config.clients k
    → AreTold world arrived k (finished_among (entries_of k entries)) (times_of k (line_of config entries).handed)

-- Client k, of which so many operations began and so many completed, made their bodies.
pub record AreBodiesMade (n : ℕ) (world : World) (made : List (List ℕ)) (arrived : List ℕ) (k begun done : ℕ) : Type 0 where
  pub submitted : (t : ℕ) → t < begun → Has made (submit_body k (world.kind k (suc t)) (world.register k (suc t)) (suc t))
  pub stored : (t : ℕ) → t < begun → Has made (data_body k (suc t) (digest_of (written world k (suc t))))
  pub committed : (t : ℕ) (version : Vector) → t < done → IsVersionOf n version (upto k (suc t) arrived)
      → Has made (commit_body k version)
  pub proven : (t : ℕ) (digest : List ℕ) → t < done → chain_of (upto k (suc t) arrived) ≡ Some digest
      → Has made (proof_body k digest)

abbrev pub AreAllMade : Config → World → List ℕ → List Entry → Type 0
AreAllMade config world arrived entries = (k : ℕ) → IsClient config.clients k
    → AreBodiesMade config.clients world (made_behind config [] entries) arrived k
    (length (started_among (entries_of k entries))) (times_of k (line_of config entries).handed)
