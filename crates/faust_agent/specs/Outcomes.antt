-- The outcome of an event: what the client's table gives, spelled; and what each call of the agent owes. Every
-- promise of this crate rests on it.
use Rattle.std.specs.Prelude.{◌≡◌, ℕ, if◌then◌else◌, List, Option, Some, None, Result, Ok, Err, map}
use Rattle.faust_types.specs.declared.config.Config.{Config}
use Rattle.faust_types.specs.declared.message.Peer.TheVariants as peers
use Rattle.faust_types.specs.declared.message.PeerMessage.{PeerMessage}
use Rattle.faust_types.specs.declared.outcome.Post.{Post}
use Rattle.faust_types.specs.declared.outcome.Outcome.{Outcome}
use Rattle.faust_types.specs.declared.out_of_memory.OutOfMemory.{OutOfMemory}
use Rattle.faust_wire.specs.Grammar.{commit_bytes, peer_bytes, submit_bytes}
use Rattle.faust_agent.specs.State.{Member}
use Rattle.faust_agent.specs.Deeds.{Event, Sent, submits, commits}
use Rattle.faust_agent.specs.Table.{after, announced_by, answer_of, began_of, committed_alone, deed_of, dummy_of, is_dummy_due, message_to, news_up_to, notice_of, operation_of, posts_of, probed_of, probed_up_to, released, sent_of, submit_of}
use Rattle.faust_agent.specs.declared.client.Client.{Client}
use Rattle.faust_agent.specs.declared.deed.Deed.{Deed}
use Rattle.faust_agent.specs.declared.ticking.Begun.{Begun}
use Rattle.faust_agent.specs.declared.ticking.Probing.{Probing}

-- The bytes of what goes to the server, and to another client.
abbrev pub sent_bytes : ℕ → Sent → List ℕ
sent_bytes wire (submits submit) = submit_bytes wire submit
sent_bytes wire (commits commit) = commit_bytes wire commit

abbrev pub spelled_sent : ℕ → Option Sent → Option (List ℕ)
spelled_sent wire None = None
spelled_sent wire (Some sent) = Some (sent_bytes wire sent)

abbrev pub spelled_post : ℕ → PeerMessage → Post
spelled_post wire message = record { to = message.to; bytes = peer_bytes wire message }

-- What a deed gives, but for the cut.
abbrev pub given_by : Config → ℕ → Client → Deed → Outcome
given_by config me st deed = record {
  to_server = spelled_sent config.wire (sent_of config me st deed);
  to_peers = map (spelled_post config.wire) (posts_of config me st deed);
  answer = answer_of deed;
  cut = None;
  probed = probed_of config me st deed;
  began = began_of config me st deed;
  notice = notice_of deed;
}

-- The outcome of a deed.
unfoldable pub outcome_of : Config → ℕ → Client → Deed → Outcome
outcome_of config me st deed = record (given_by config me st deed) { cut = announced_by config me st deed }

-- The deed of a client at an event, and the client after a deed.
abbrev pub deed_at : Member → Event → Deed
deed_at member event = deed_of member.config member.me member.client event

abbrev pub member_after : Member → Deed → Member
member_after member deed = record member { client = after member.config member.me member.client deed }

-- A step is its row of the table: the client holds what the row says, and gives its outcome. Only want of memory
-- is free, and leaves all as before.
abbrev pub Steps : Result Outcome OutOfMemory → Member → Member → Deed → Type 0
Steps (Ok outcome) old new deed = (new ≡ member_after old deed) × (outcome ≡ outcome_of old.config old.me old.client deed)
Steps (Err e) old new deed = new ≡ old

-- A part of a step: what is held then and what it gives are those that are due. Want of memory leaves all as
-- before.
abbrev pub Does : {X : Type 0} → Result X OutOfMemory → Client → Client → Client → X → Type 0
Does (Ok x) old new due given = (new ≡ due) × (x ≡ given)
Does (Err e) old new due given = new ≡ old

abbrev pub Acts : Result Outcome OutOfMemory → Config → ℕ → Client → Client → Deed → Type 0
Acts result config me old new deed = Does result old new (after config me old deed) (given_by config me old deed)

-- What a tick sends to the server, and the dummy read that it begins.
abbrev pub dummy_begun : Config → ℕ → Client → Begun
dummy_begun config me st = record {
  to_server = Some (submit_bytes config.wire (submit_of config me st (dummy_of st)));
  began = Some (operation_of me st (dummy_of st));
}

abbrev pub commit_released : Config → Client → Begun
commit_released config st = record { to_server = spelled_sent config.wire (committed_alone (released st)); began = None }

abbrev pub begun_at : Config → ℕ → Client → ℕ → Begun
begun_at config me st m = if is_dummy_due config me st m then dummy_begun config me st else commit_released config st

-- What a tick gives to the first k clients.
pub record IsProbing (config : Config) (me : ℕ) (st : Client) (m k : ℕ) (probing : Probing) : Type 0 where
  pub probed : probing.probed ≡ probed_up_to config me st m k
  pub posts : probing.posts ≡ map (spelled_post config.wire) (map (message_to config me peers.Probe) (probed_up_to config me st m k))
  pub news : probing.news ≡ news_up_to config me st m k
