-- The client's table, over messages: `deed_of` says what a client does at an event, and there all checks stand;
-- `after` says what it holds then, and `sent_of` to `notice_of` what it gives. The rows come in the order Begin,
-- Reply, Peer message, Tick, Broken check, Cut. Every promise of this crate rests on it.
use Rattle.std.specs.Prelude.{ℕ, ◌+◌, ◌-◌, ◌==◌, ◌&&◌, zero, suc, Bool, true, not, List, [], ◌∷◌, ◌++◌, Option, Some, None, is_none, Result, Ok, Err, unwrap_or, nat_le, map, replicate, slice_index, slice_set, if◌then◌else◌}
use Rattle.faust_types.specs.Versions.{Vector, digest_at, is_comparable}
use Rattle.faust_types.specs.declared.config.Config.{Config}
use Rattle.faust_types.specs.declared.operation.Operation.{Operation}
use Rattle.faust_types.specs.declared.operation.Answer.{Answer}
use Rattle.faust_types.specs.declared.operation.Notice.{Notice}
use Rattle.faust_types.specs.declared.message.Known.{Known}
use Rattle.faust_types.specs.declared.message.Submit.{Submit}
use Rattle.faust_types.specs.declared.message.Reply.{Reply}
use Rattle.faust_types.specs.declared.message.Commit.{Commit}
use Rattle.faust_types.specs.declared.message.Peer.{Peer}
use Rattle.faust_types.specs.declared.message.Peer.TheVariants as peers
use Rattle.faust_types.specs.declared.message.PeerMessage.{PeerMessage}
use Rattle.faust_hash.specs.Chain.{value_digest_of}
use Rattle.faust_hash.specs.Tag.{is_same}
use Rattle.faust_tags.specs.Bodies.{commit_body, data_body, peer_body, proof_body, submit_body, tag_of}
use Rattle.faust_ustor.specs.Checks.{judged}
use Rattle.faust_ustor.specs.declared.judgement.Judged.{Judged}
use Rattle.faust_agent.specs.State.{completed_count, cut_up_to, greatest, is_idle, is_less, other_register_after, version_at}
use Rattle.faust_agent.specs.Deeds.{Event, asked, replied, told, ticked, passed, Sent, submits, commits, read_of}
use Rattle.faust_agent.specs.declared.client.Client.{Client}
use Rattle.faust_agent.specs.declared.client.Timers.{Timers}
use Rattle.faust_agent.specs.declared.deed.Order.{Order}
use Rattle.faust_agent.specs.declared.deed.Completion.{Completion}
use Rattle.faust_agent.specs.declared.deed.Deed.{Deed}
use Rattle.faust_agent.specs.declared.deed.Deed.TheVariants as deeds

-- Begin. The operation gets the own timestamp plus one as its number, and a write sets the digest of the last
-- submitted value.
abbrev pub operation_of : ℕ → Client → Order → Operation
operation_of me st order = record {
  name = record { client = me; t = completed_count me st + 1 };
  kind = order.kind;
  register = order.register;
  dummy = order.dummy;
}

abbrev pub last_after : Option (List ℕ) → Option (List ℕ) → Option (List ℕ)
last_after last None = last
last_after last (Some value) = Some (value_digest_of value)

-- SUBMIT goes to the server, and the held COMMIT, if any, rides on it and is no longer held.
abbrev pub submit_of : Config → ℕ → Client → Order → Submit
submit_of config me st order = record {
  kind = order.kind;
  register = order.register;
  t = completed_count me st + 1;
  value = order.value;
  submit_tag = tag_of config.key (submit_body me order.kind order.register (completed_count me st + 1));
  data_tag = tag_of config.key (data_body me (completed_count me st + 1) (last_after st.last order.value));
  commit = st.held;
}

abbrev pub begun_by : ℕ → Client → Order → Client
begun_by me st order = record st {
  last = last_after st.last order.value;
  waiting = Some (operation_of me st order);
  held = None;
}

-- Whether each version that comes fits the version v that is held: both are comparable with it.
abbrev pub is_fitting : Vector → Option Known → Vector → Bool
is_fitting next None v = is_comparable next v
is_fitting next (Some known) v = is_comparable next v && is_comparable known.version v

-- The least of clients 1 to k whose held version doesn't fit.
abbrev pub or_unfit : Option ℕ → Bool → ℕ → Option ℕ
or_unfit None fits k = if fits then None else Some k
or_unfit (Some first) fits k = Some first

abbrev pub first_unfit : Client → Vector → Option Known → ℕ → Option ℕ
first_unfit st next heard zero = None
first_unfit st next heard (suc k) = or_unfit (first_unfit st next heard k) (is_fitting next heard (version_at st (suc k))) (suc k)

abbrev pub broken : ℕ → ℕ → Deed
broken check place = deeds.Breaks (record { check = check; place = place })

-- Reply. Check 13: the next version, and for a read the version of j, is comparable with each that is held.
abbrev pub fitted : Operation → Judged → Option ℕ → Deed
fitted op answer None = deeds.Completes (record { op = op; judged = answer })
fitted op answer (Some k) = broken 13 k

-- Checks 3 to 12.
abbrev pub taken : Config → Client → Operation → Result Judged Notice → Deed
taken config st op (Ok answer) = fitted op answer (first_unfit st answer.next answer.heard config.clients)
taken config st op (Err notice) = deeds.Breaks notice

-- Check 2: an operation is pending.
abbrev pub awaited : Config → ℕ → Client → Reply → Option Operation → Deed
awaited config me st reply None = broken 2 0
awaited config me st reply (Some op) = taken config st op (judged config.key me (version_at st me) op reply)

-- Check 1: the bytes are a REPLY.
abbrev pub received : Config → ℕ → Client → Option Reply → Deed
received config me st None = broken 1 0
received config me st (Some reply) = awaited config me st reply st.waiting

-- A client with a notice ignores it.
abbrev pub replied_deed : Config → ℕ → Client → Option Reply → Deed
replied_deed config me st reply = if is_none st.notice then received config me st reply else deeds.Ignores

-- If all hold, the own version becomes the new one, COMMIT goes to the server under wire 1 and is held under
-- wire 2, and the operation is complete.
abbrev pub own_tag : Config → ℕ → Vector → List ℕ
own_tag config me next = tag_of config.key (commit_body me next)

abbrev pub own_digest : ℕ → Vector → List ℕ
own_digest me next = unwrap_or (digest_at next me) (replicate 32 0)

abbrev pub own_proof : Config → ℕ → Vector → List ℕ
own_proof config me next = tag_of config.key (proof_body me (own_digest me next))

abbrev pub commit_of : Config → ℕ → Vector → Commit
commit_of config me next = record { version = next; commit_tag = own_tag config me next; proof_tag = own_proof config me next }

abbrev pub commit_sent : Config → ℕ → Vector → Option Sent
commit_sent config me next = if config.wire == 1 then Some (commits (commit_of config me next)) else None

abbrev pub commit_held : Config → ℕ → Client → Vector → Option Commit
commit_held config me st next = if config.wire == 1 then st.held else Some (commit_of config me next)

abbrev pub with_slot : Client → ℕ → Known → Client
with_slot st j known = record st { heard = slice_set st.heard (j - 1) known }

abbrev pub with_news : Client → ℕ → Client
with_news st j = record st { timers = record st.timers { news = slice_set st.timers.news (j - 1) st.timers.now } }

abbrev pub moved_on : Config → ℕ → Client → Vector → Client
moved_on config me st next = record (with_slot st me (record { maker = me; version = next; tag = own_tag config me next })) {
  waiting = None;
  held = commit_held config me st next;
}

-- For a read of another client j, heard[j] becomes the version of j if that is greater, and then news[j] becomes
-- now.
abbrev pub with_read : ℕ → Client → ℕ → Option Known → Client
with_read me st j None = st
with_read me st j (Some known) =
    if not (j == me) && is_less (version_at st j) known.version then with_news (with_slot st j known) j else st

abbrev pub completed_by : Config → ℕ → Client → Completion → Client
completed_by config me st done = with_read me (moved_on config me st done.judged.next) done.op.register done.judged.heard

-- Peer message. A PROBE from j is answered; a VERSION from j is checked by 14; a FAILURE gives check 15. A client
-- with a notice answers a PROBE and ignores the others.
abbrev pub heeded_version : ℕ → Known → Option ℕ → Deed
heeded_version j known None = deeds.Hears j known
heeded_version j known (Some k) = broken 14 j

abbrev pub heeded : ℕ → Client → ℕ → Peer → Deed
heeded n st j peers.Probe = deeds.Answers j
heeded n st j (peers.Version known) =
    if is_none st.notice then heeded_version j known (first_unfit st known.version None n) else deeds.Ignores
heeded n st j (peers.Failure check) = if is_none st.notice then broken 15 j else deeds.Ignores

-- It is dropped where it isn't a peer message of the grammar, isn't addressed to this client, or its tag is wrong.
abbrev pub is_signed : Config → PeerMessage → Bool
is_signed config message = is_same message.tag (tag_of config.key (peer_body message))

abbrev pub told_deed : Config → ℕ → Client → Option PeerMessage → Deed
told_deed config me st None = deeds.Ignores
told_deed config me st (Some message) =
    if (message.to == me) && is_signed config message then heeded config.clients st message.from message.peer else deeds.Ignores

-- The answer to a PROBE: VERSION with the greatest known version, or FAILURE where a check is broken.
abbrev pub probe_answer : ℕ → Client → Option Notice → Peer
probe_answer n st None = peers.Version (greatest n st)
probe_answer n st (Some notice) = peers.Failure notice.check

-- heard[j] becomes the version of a VERSION if that is greater, and news[j] becomes now.
abbrev pub raised : Client → ℕ → Known → Client
raised st j known = if is_less (version_at st j) known.version then with_slot st j known else st

abbrev pub heard_by : Client → ℕ → Known → Client
heard_by st j known = with_news (raised st j known) j

-- Tick at moment m. A client with a notice ignores it, and a moment before now changes nothing.
abbrev pub ticked_deed : Client → ℕ → Deed
ticked_deed st m = if is_none st.notice && nat_le st.timers.now m then deeds.Ticks m else deeds.Ignores

-- A PROBE goes to each other client without news for delta, in ascending order, and its news become m.
abbrev pub is_probe_due : Config → ℕ → Client → ℕ → ℕ → Bool
is_probe_due config me st m j = not (j == me) && nat_le config.delta (m - slice_index st.timers.news (j - 1))

abbrev pub probed_up_to : Config → ℕ → Client → ℕ → ℕ → List ℕ
probed_up_to config me st m zero = []
probed_up_to config me st m (suc j) =
    probed_up_to config me st m j ++ (if is_probe_due config me st m (suc j) then suc j ∷ [] else [])

abbrev pub news_up_to : Config → ℕ → Client → ℕ → ℕ → List ℕ
news_up_to config me st m zero = st.timers.news
news_up_to config me st m (suc j) =
    if is_probe_due config me st m (suc j)
    then slice_set (news_up_to config me st m j) (suc j - 1) m
    else news_up_to config me st m j

-- Then, if the client is idle and dummy has passed, it begins a read of the next dummy register, which moves on.
abbrev pub is_dummy_due : Config → ℕ → Client → ℕ → Bool
is_dummy_due config me st m = is_idle me st && nat_le config.dummy (m - st.timers.dummy_at)

abbrev pub dummy_of : Client → Order
dummy_of st = read_of st.timers.next_dummy true

abbrev pub timers_after : Config → ℕ → Client → ℕ → Timers
timers_after config me st m = record {
  news = news_up_to config me st m config.clients;
  now = m;
  dummy_at = if is_dummy_due config me st m then m else st.timers.dummy_at;
  next_dummy = if is_dummy_due config me st m then other_register_after config.clients me st.timers.next_dummy else st.timers.next_dummy;
}

-- Then, if no operation is pending, a held COMMIT goes to the server alone and is no longer held.
abbrev pub released : Client → Option Commit
released st = if is_none st.waiting then st.held else None

abbrev pub held_after : Client → Option Commit
held_after st = if is_none st.waiting then None else st.held

abbrev pub begun_or_released : Config → ℕ → Client → ℕ → Client
begun_or_released config me st m =
    if is_dummy_due config me st m then begun_by me st (dummy_of st) else record st { held = held_after st }

abbrev pub ticked_by : Config → ℕ → Client → ℕ → Client
ticked_by config me st m = record (begun_or_released config me st m) { timers = timers_after config me st m }

-- What the client does at an event.
unfoldable pub deed_of : Config → ℕ → Client → Event → Deed
deed_of config me st (asked order) = if is_idle me st then deeds.Begins order else deeds.Ignores
deed_of config me st (replied reply) = replied_deed config me st reply
deed_of config me st (told message) = told_deed config me st message
deed_of config me st (ticked m) = ticked_deed st m
deed_of config me st passed = deeds.Ignores

-- What it holds then. Broken check: the client keeps the notice for good, and nothing else changes.
abbrev pub after : Config → ℕ → Client → Deed → Client
after config me st deeds.Ignores = st
after config me st (deeds.Begins order) = begun_by me st order
after config me st (deeds.Completes done) = completed_by config me st done
after config me st (deeds.Breaks notice) = record st { notice = Some notice }
after config me st (deeds.Answers j) = st
after config me st (deeds.Hears j known) = heard_by st j known
after config me st (deeds.Ticks m) = ticked_by config me st m

-- What goes to the server.
abbrev pub committed_alone : Option Commit → Option Sent
committed_alone None = None
committed_alone (Some commit) = Some (commits commit)

abbrev pub sent_of : Config → ℕ → Client → Deed → Option Sent
sent_of config me st deeds.Ignores = None
sent_of config me st (deeds.Begins order) = Some (submits (submit_of config me st order))
sent_of config me st (deeds.Completes done) = commit_sent config me done.judged.next
sent_of config me st (deeds.Breaks notice) = None
sent_of config me st (deeds.Answers j) = None
sent_of config me st (deeds.Hears j known) = None
sent_of config me st (deeds.Ticks m) =
    if is_dummy_due config me st m
    then Some (submits (submit_of config me st (dummy_of st)))
    else committed_alone (released st)

-- A message from this client to client j. The tag is no part of what is tagged.
abbrev pub unsigned_to : ℕ → Peer → ℕ → PeerMessage
unsigned_to me peer j = record { from = me; to = j; peer = peer; tag = replicate 32 0 }

abbrev pub message_to : Config → ℕ → Peer → ℕ → PeerMessage
message_to config me peer j = record (unsigned_to me peer j) { tag = tag_of config.key (peer_body (unsigned_to me peer j)) }

-- Of clients 1 to k all but this one.
abbrev pub others_up_to : ℕ → ℕ → List ℕ
others_up_to me zero = []
others_up_to me (suc k) = others_up_to me k ++ (if suc k == me then [] else suc k ∷ [])

-- What goes to other clients. Broken check: FAILURE with the check's number goes to every other client.
abbrev pub posts_of : Config → ℕ → Client → Deed → List PeerMessage
posts_of config me st deeds.Ignores = []
posts_of config me st (deeds.Begins order) = []
posts_of config me st (deeds.Completes done) = []
posts_of config me st (deeds.Breaks notice) =
    map (message_to config me (peers.Failure notice.check)) (others_up_to me config.clients)
posts_of config me st (deeds.Answers j) = message_to config me (probe_answer config.clients st st.notice) j ∷ []
posts_of config me st (deeds.Hears j known) = []
posts_of config me st (deeds.Ticks m) = map (message_to config me peers.Probe) (probed_up_to config me st m config.clients)

-- The answer to the user, also of a dummy read, which says so.
abbrev pub answer_of : Deed → Option Answer
answer_of deeds.Ignores = None
answer_of (deeds.Begins order) = None
answer_of (deeds.Completes done) = Some (record { op = done.op; value = done.judged.value; asof = done.judged.asof })
answer_of (deeds.Breaks notice) = None
answer_of (deeds.Answers j) = None
answer_of (deeds.Hears j known) = None
answer_of (deeds.Ticks m) = None

-- The clients that are probed.
abbrev pub probed_of : Config → ℕ → Client → Deed → List ℕ
probed_of config me st deeds.Ignores = []
probed_of config me st (deeds.Begins order) = []
probed_of config me st (deeds.Completes done) = []
probed_of config me st (deeds.Breaks notice) = []
probed_of config me st (deeds.Answers j) = []
probed_of config me st (deeds.Hears j known) = []
probed_of config me st (deeds.Ticks m) = probed_up_to config me st m config.clients

-- The dummy read that a tick begins.
abbrev pub began_of : Config → ℕ → Client → Deed → Option Operation
began_of config me st deeds.Ignores = None
began_of config me st (deeds.Begins order) = None
began_of config me st (deeds.Completes done) = None
began_of config me st (deeds.Breaks notice) = None
began_of config me st (deeds.Answers j) = None
began_of config me st (deeds.Hears j known) = None
began_of config me st (deeds.Ticks m) = if is_dummy_due config me st m then Some (operation_of me st (dummy_of st)) else None

-- The check that is broken.
abbrev pub notice_of : Deed → Option Notice
notice_of deeds.Ignores = None
notice_of (deeds.Begins order) = None
notice_of (deeds.Completes done) = None
notice_of (deeds.Breaks notice) = Some notice
notice_of (deeds.Answers j) = None
notice_of (deeds.Hears j known) = None
notice_of (deeds.Ticks m) = None

-- Cut. One that differs from the one before is announced.
abbrev pub cut_of : Config → ℕ → Client → List ℕ
cut_of config me st = cut_up_to me st config.clients

abbrev pub announced : List ℕ → List ℕ → Option (List ℕ)
announced before after = if is_same before after then None else Some after

abbrev pub announced_by : Config → ℕ → Client → Deed → Option (List ℕ)
announced_by config me st deed = announced (cut_of config me st) (cut_of config me (after config me st deed))
