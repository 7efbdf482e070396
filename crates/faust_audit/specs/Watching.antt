-- What one pass over a run keeps of each client, and what an entry gives then: read off the entry and its outcome, and
-- without a tag. It helps proofs.
use Rattle.std.specs.Prelude.{◌≡◌, ◌+◌, ◌-◌, ◌^◌, ◌&&◌, ℕ, Bool, false, cond, List, [], ◌∷◌, ◌++◌, length, Option, None, Some, IfSome, drop, take, map, nat_lt, slice_index_or}
use Rattle.faust_types.specs.Clients.{IsClient}
use Rattle.faust_types.specs.Ranges.{IsReplyFor}
use Rattle.faust_types.specs.Versions.{clients_of, initial, timestamp_at}
use Rattle.faust_types.specs.declared.config.Config.{Config}
use Rattle.faust_types.specs.declared.operation.Kind.{Kind}
use Rattle.faust_types.specs.declared.operation.Kind.TheVariants.{Write, Read}
use Rattle.faust_types.specs.declared.operation.Operation.{Operation}
use Rattle.faust_types.specs.declared.operation.Answer.{Answer}
use Rattle.faust_types.specs.declared.operation.Notice.{Notice}
use Rattle.faust_types.specs.declared.message.PeerMessage.{PeerMessage}
use Rattle.faust_types.specs.declared.message.Reply.{Reply}
use Rattle.faust_types.specs.declared.message.Tuple.{Tuple}
use Rattle.faust_types.specs.declared.outcome.Outcome.{Outcome}
use Rattle.faust_types.specs.declared.outcome.Post.{Post}
use Rattle.faust_hash.specs.Chain.{value_digest_of, value_input}
use Rattle.faust_tags.specs.Bodies.{data_body, submit_body}
use Rattle.faust_ustor.specs.Checks.{advanced, begun}
use Rattle.faust_ustor.specs.Hashed.{all_inputs, hashed}
use Rattle.faust_ustor.specs.InRange.{IsPendingOf}
use Rattle.faust_ustor.specs.Passed.{next_of}
use Rattle.faust_ustor.specs.declared.walk.Walk.{Walk}
use Rattle.faust_agent.specs.State.{version_at}
use Rattle.faust_agent.specs.Deeds.{peer_in, reply_in}
use Rattle.faust_agent.specs.declared.client.Client.{Client}
use Rattle.faust_record.specs.Entries.{replay}
use Rattle.faust_record.specs.Made.{bodies_of_completion}
use Rattle.faust_record.specs.Runs.{entries_of}
use Rattle.faust_record.specs.declared.entry.Input.{Input}
use Rattle.faust_record.specs.declared.entry.Input.TheVariants as inputs
use Rattle.faust_record.specs.declared.entry.Entry.{Entry}
use Rattle.faust_audit.specs.declared.watched.Beginning.{Beginning}
use Rattle.faust_audit.specs.declared.watched.Move.{Move}
use Rattle.faust_audit.specs.declared.watched.Move.TheVariants as moves
use Rattle.faust_audit.specs.declared.watched.Seen.{Seen}
use Rattle.faust_audit.specs.declared.watched.Watched.{Watched}

-- What the pass keeps of each of n clients at first, and of client me that holds st.
abbrev pub first_watched : ℕ → Watched
first_watched n = record { own = initial n; last = None; waiting = None }

abbrev pub watched_of : ℕ → Client → Watched
watched_of me st = record { own = version_at st me; last = st.last; waiting = st.waiting }

-- What is kept is in range for n clients.
pub record IsWatchedFor (n me : ℕ) (watched : Watched) : Type 0 where
  pub counted : clients_of watched.own ≡ n
  pub waiting_in_range : IfSome watched.waiting (IsPendingOf me watched.own)

-- The REPLY that comes with an input, and the message between clients.
abbrev pub reply_came : Config → Input → Option Reply
reply_came config (inputs.Write value) = None
reply_came config (inputs.Read register) = None
reply_came config (inputs.Reply bytes) = reply_in config bytes
reply_came config (inputs.Peer bytes) = None
reply_came config (inputs.Tick moment) = None
reply_came config (inputs.Arrive message) = None

abbrev pub message_came : Config → Input → Option PeerMessage
message_came config (inputs.Write value) = None
message_came config (inputs.Read register) = None
message_came config (inputs.Reply bytes) = None
message_came config (inputs.Peer bytes) = peer_in config bytes
message_came config (inputs.Tick moment) = None
message_came config (inputs.Arrive message) = None

-- A REPLY that came for n clients is in range for as many clients as its version has.
pub record IsCameFor (n : ℕ) (reply : Reply) : Type 0 where
  pub in_range : IsReplyFor n reply
  pub sized : clients_of reply.version.version ≡ n
  pub own_range : IsReplyFor (clients_of reply.version.version) reply

-- Each client has a next operation as the walk comes to it, and then client me.
abbrev pub has_next : Walk → ℕ → Bool
has_next walk k = nat_lt (timestamp_at walk.version k + 1) (2 ^ 40)

abbrev pub have_next : ℕ → Walk → List Tuple → Bool
have_next me walk [] = has_next walk me
have_next me walk (tuple ∷ rest) = has_next walk tuple.client && have_next me (advanced walk tuple.client) rest

-- The operation that begins next.
abbrev pub next_operation : ℕ → Watched → Kind → ℕ → Operation
next_operation me watched kind register = record {
  name = record { client = me; t = timestamp_at watched.own me + 1 };
  kind = kind;
  register = register;
  dummy = false;
}

abbrev pub nothing_seen : Seen
nothing_seen = record { moved = moves.Stays; hashed = [] }

-- A write begins and hashes its value; a read begins; a reply completes an operation where the outcome has an answer;
-- a tick begins a dummy read where the outcome has one.
abbrev pub write_seen : ℕ → Watched → List ℕ → Seen
write_seen me watched value = record {
  moved = moves.Begins (record { op = next_operation me watched Write me; written = Some (value_digest_of value) });
  hashed = value_input value ∷ [];
}

abbrev pub begin_seen : Operation → Seen
begin_seen op = record { moved = moves.Begins (record { op = op; written = None }); hashed = [] }

abbrev pub completion_seen : ℕ → Reply → Seen
completion_seen me reply =
    cond (have_next me (begun reply) reply.pending) (record { moved = moves.Completes (next_of me reply); hashed = all_inputs me reply })
    nothing_seen

abbrev pub reply_seen : ℕ → Option Reply → Option Answer → Seen
reply_seen me None answer = nothing_seen
reply_seen me (Some reply) None = nothing_seen
reply_seen me (Some reply) (Some answer) = completion_seen me reply

abbrev pub tick_seen : Option Operation → Seen
tick_seen None = nothing_seen
tick_seen (Some op) = begin_seen op

abbrev pub seen_by : ℕ → Watched → Input → Outcome → Option Reply → Seen
seen_by me watched (inputs.Write value) outcome reply = write_seen me watched value
seen_by me watched (inputs.Read register) outcome reply = begin_seen (next_operation me watched Read register)
seen_by me watched (inputs.Reply bytes) outcome reply = reply_seen me reply outcome.answer
seen_by me watched (inputs.Peer bytes) outcome reply = nothing_seen
seen_by me watched (inputs.Tick moment) outcome reply = tick_seen outcome.began
seen_by me watched (inputs.Arrive message) outcome reply = nothing_seen

-- Where a reply breaks a check, what its client hashed up to there.
abbrev pub hashed_waiting : List ℕ → ℕ → Watched → Reply → Option Operation → List (List ℕ)
hashed_waiting key me watched reply None = []
hashed_waiting key me watched reply (Some op) = hashed key me watched.own op reply

abbrev pub hashed_breaking : List ℕ → ℕ → Watched → Option Reply → Option Notice → List (List ℕ)
hashed_breaking key me watched None notice = []
hashed_breaking key me watched (Some reply) None = []
hashed_breaking key me watched (Some reply) (Some notice) = hashed_waiting key me watched reply watched.waiting

-- The body of a message to another client: its bytes up to the tag, as under version 1 of the wire.
abbrev pub post_body : Post → List ℕ
post_body post = 5 ∷ 1 ∷ drop 1 (take (length post.bytes - 32) post.bytes)

-- The bodies that are made: those of messages to others, those of a SUBMIT, and those of a completion.
abbrev pub last_or : Option (List ℕ) → Option (List ℕ) → Option (List ℕ)
last_or last None = last
last_or last (Some digest) = Some digest

abbrev pub begin_bodies : ℕ → Watched → Beginning → List (List ℕ)
begin_bodies me watched begins =
    submit_body me begins.op.kind begins.op.register begins.op.name.t
    ∷ data_body me begins.op.name.t (last_or watched.last begins.written) ∷ []

abbrev pub bodies_moving : ℕ → Watched → Move → List (List ℕ)
bodies_moving me watched (moves.Begins begins) = begin_bodies me watched begins
bodies_moving me watched (moves.Completes next) = bodies_of_completion me next
bodies_moving me watched moves.Stays = []

abbrev pub bodies_seen : ℕ → Watched → Move → Outcome → List (List ℕ)
bodies_seen me watched moved outcome = map post_body outcome.to_peers ++ bodies_moving me watched moved

-- A version that is made is of n clients.
abbrev pub IsMoveFor : ℕ → Move → Type 0
IsMoveFor n (moves.Begins begins) = Unit {0}
IsMoveFor n (moves.Completes next) = clients_of next ≡ n
IsMoveFor n moves.Stays = Unit {0}

-- What is kept then.
abbrev pub watched_after : Watched → Move → Watched
watched_after watched (moves.Begins begins) =
    record { own = watched.own; last = last_or watched.last begins.written; waiting = Some begins.op }
watched_after watched (moves.Completes next) = record { own = next; last = watched.last; waiting = None }
watched_after watched moves.Stays = watched

-- An entry of client me: the bodies that it makes, what it hashes, and what is kept then.
abbrev pub seen_at : Config → ℕ → Watched → Entry → Seen
seen_at config me watched entry = seen_by me watched entry.input entry.outcome (reply_came config entry.input)

abbrev pub bodies_at : Config → ℕ → Watched → Entry → List (List ℕ)
bodies_at config me watched entry = bodies_seen me watched (seen_at config me watched entry).moved entry.outcome

abbrev pub hashed_at : Config → ℕ → Watched → Entry → List (List ℕ)
hashed_at config me watched entry =
    (seen_at config me watched entry).hashed
    ++ hashed_breaking config.key me watched (reply_came config entry.input) entry.outcome.notice

abbrev pub watched_then : Config → ℕ → Watched → Entry → Watched
watched_then config me watched entry = watched_after watched (seen_at config me watched entry).moved

-- What is kept of client i among all, and of all clients after entries.
abbrev pub no_watched : Watched
no_watched = record { own = record { timestamps = []; digests = [] }; last = None; waiting = None }

abbrev pub watched_in : List Watched → ℕ → Watched
watched_in watched i = slice_index_or watched (i - 1) no_watched

pub record AreWatched (config : Config) (watched : List Watched) (entries : List Entry) : Type 0 where
  pub counted : length watched ≡ config.clients
  pub each : (i : ℕ) → IsClient config.clients i → watched_in watched i ≡ watched_of i (replay config i (entries_of i entries))
