-- What the clients of a run send, as the server and the other clients meet it: each message to the server is read as it
-- was sent. The law on arrivals is stated in these words; no promise of a call rests on them.
use Rattle.std.specs.Prelude.{◌≡◌, ◌+◌, ℕ, List, IfSome}
use Rattle.std.specs.List.{AllByRecursion}
use Rattle.faust_types.specs.Versions.{timestamp_at}
use Rattle.faust_types.specs.Ranges.{IsPeerMessageFor}
use Rattle.faust_types.specs.declared.config.Config.{Config}
use Rattle.faust_types.specs.declared.message.Commit.{Commit}
use Rattle.faust_types.specs.declared.message.PeerMessage.{PeerMessage}
use Rattle.faust_types.specs.declared.outcome.Post.{Post}
use Rattle.faust_agent.specs.Deeds.{Sent, commits, submits}
use Rattle.faust_agent.specs.InRange.{IsSentFor}
use Rattle.faust_agent.specs.Outcomes.{sent_bytes, spelled_post}
use Rattle.faust_record.specs.declared.entry.Entry.{Entry}

-- Where a COMMIT rides on a SUBMIT of client i, it is that of the operation before.
abbrev pub IsBehind : ℕ → ℕ → Commit → Type 0
IsBehind i t commit = t ≡ timestamp_at commit.version i + 1

abbrev pub RidesInOrder : ℕ → Sent → Type 0
RidesInOrder i (submits submit) = IfSome submit.commit (IsBehind i submit.t)
RidesInOrder i (commits commit) = Unit {0}

-- The bytes are a message that client i may send to the server: the spelling of a SUBMIT or of a COMMIT in range.
pub record IsSentBy (config : Config) (i : ℕ) (bytes : List ℕ) : Type 0 where
  pub sent : Sent
  pub in_range : IsSentFor config sent
  pub rides_in_order : RidesInOrder i sent
  pub spelled : bytes ≡ sent_bytes config.wire sent

-- The bytes are a message that client i may send to another client: the spelling of a peer message in range.
pub record IsPostedBy (config : Config) (i : ℕ) (post : Post) : Type 0 where
  pub message : PeerMessage
  pub in_range : IsPeerMessageFor config.clients message
  pub spelled : post ≡ spelled_post config.wire message

-- What an entry of client i gives is in range.
pub record IsGivenBy (config : Config) (i : ℕ) (entry : Entry) : Type 0 where
  pub to_server : IfSome entry.outcome.to_server (IsSentBy config i)
  pub to_peers : AllByRecursion (IsPostedBy config i) entry.outcome.to_peers
