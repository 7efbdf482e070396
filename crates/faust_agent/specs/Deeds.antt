-- What comes to a client, and what it does then: the words in which the client's table is written. Every promise
-- of this crate rests on them.
use Rattle.std.specs.Prelude.{ℕ, Bool, false, List, Option, Some, None}
use Rattle.faust_types.specs.declared.config.Config.{Config}
use Rattle.faust_types.specs.declared.message.Submit.{Submit}
use Rattle.faust_types.specs.declared.message.Reply.{Reply}
use Rattle.faust_types.specs.declared.message.Commit.{Commit}
use Rattle.faust_types.specs.declared.message.PeerMessage.{PeerMessage}
use Rattle.faust_types.specs.declared.message.Message.{Message}
use Rattle.faust_types.specs.declared.message.Message.TheVariants as messages
use Rattle.faust_types.specs.declared.operation.Kind.TheVariants.{Write, Read}
use Rattle.faust_wire.specs.Reading.{message_of}
use Rattle.faust_agent.specs.declared.deed.Order.{Order}

-- An event at a client: its user asks for an operation; bytes come from the server, and spell this REPLY or none;
-- bytes come from another client, and spell this message or none; a moment is handed in; or something happens
-- that is no business of the client, as the arrival of its message at the server.
pub data Event : Type 0 where
  asked : Order → Event
  replied : Option Reply → Event
  told : Option PeerMessage → Event
  ticked : ℕ → Event
  passed : Event

-- What a user asks for: to write a value into the own register, or to read a register. A read of a tick is a
-- dummy.
abbrev pub write_of : ℕ → List ℕ → Order
write_of me value = record { kind = Write; register = me; value = Some value; dummy = false }

abbrev pub read_of : ℕ → Bool → Order
read_of register dummy = record { kind = Read; register = register; value = None; dummy = dummy }

-- The REPLY, and the message between clients, that bytes spell under the wire of the run.
abbrev pub as_reply : Option Message → Option Reply
as_reply None = None
as_reply (Some (messages.Submit m)) = None
as_reply (Some (messages.Reply m)) = Some m
as_reply (Some (messages.Commit m)) = None
as_reply (Some (messages.Peer m)) = None
as_reply (Some (messages.Hello client)) = None

abbrev pub reply_in : Config → List ℕ → Option Reply
reply_in config bytes = as_reply (message_of config.wire config.clients bytes)

abbrev pub as_peer : Option Message → Option PeerMessage
as_peer None = None
as_peer (Some (messages.Submit m)) = None
as_peer (Some (messages.Reply m)) = None
as_peer (Some (messages.Commit m)) = None
as_peer (Some (messages.Peer m)) = Some m
as_peer (Some (messages.Hello client)) = None

abbrev pub peer_in : Config → List ℕ → Option PeerMessage
peer_in config bytes = as_peer (message_of config.wire config.clients bytes)

-- What goes to the server.
pub data Sent : Type 0 where
  submits : Submit → Sent
  commits : Commit → Sent
