-- What a journal has to send, and which of it comes next. The promise that each message goes out once and in order
-- rests on it.
use Rattle.std.specs.Prelude.{◌≡◌, ◌<◌, ℕ, List, [], ◌∷◌, ◌++◌, Option, Some, None, IfSome, drop}
use Rattle.faust_types.specs.declared.outcome.Post.{Post}
use Rattle.faust_link.specs.Frames.{IsFrame}
use Rattle.faust_record.specs.Runs.{sent_in}
use Rattle.faust_record.specs.declared.entry.Entry.{Entry}
use Rattle.faust_node.specs.declared.sending.Dispatch.{Dispatch}
use Rattle.faust_node.specs.declared.sending.Batch.{Batch}

-- What entries sent to other clients, in order. `sent_in` is what they sent to the server.
abbrev pub posts_in : List Entry → List Post
posts_in [] = []
posts_in (entry ∷ rest) = entry.outcome.to_peers ++ posts_in rest

-- Each message is one that a link carries.
abbrev pub AreCarried : List Post → Type 0
AreCarried [] = Unit {0}
AreCarried (post ∷ rest) = IsFrame post.bytes × AreCarried rest

-- What an entry sends is carried by a link.
pub record IsCarried (entry : Entry) : Type 0 where
  pub to_server : IfSome entry.outcome.to_server IsFrame
  pub to_peers : AreCarried entry.outcome.to_peers

-- The first message that the entries from a place on sent to the server, and the place behind its entry.
pub record IsNextMessage (entries : List Entry) (from : ℕ) (message : Dispatch) : Type 0 where
  pub later : from < message.behind
  pub first : sent_in (drop from entries) ≡ message.bytes ∷ sent_in (drop message.behind entries)
  pub carried : IsFrame message.bytes

abbrev pub FindsMessage : List Entry → ℕ → Option Dispatch → Type 0
FindsMessage entries from None = sent_in (drop from entries) ≡ []
FindsMessage entries from (Some message) = IsNextMessage entries from message

-- The same of messages to other clients: all those of one entry.
pub record IsNextBatch (entries : List Entry) (from : ℕ) (batch : Batch) : Type 0 where
  pub later : from < batch.behind
  pub first : posts_in (drop from entries) ≡ batch.posts ++ posts_in (drop batch.behind entries)
  pub carried : AreCarried batch.posts

abbrev pub FindsBatch : List Entry → ℕ → Option Batch → Type 0
FindsBatch entries from None = posts_in (drop from entries) ≡ []
FindsBatch entries from (Some batch) = IsNextBatch entries from batch
