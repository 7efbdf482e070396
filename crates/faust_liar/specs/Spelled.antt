-- A message that is kept as its bytes. No promise rests on it: callers see the message.
use Rattle.std.specs.Prelude.{ℕ, List, Option, Some, None}
use Rattle.faust_types.specs.Clients.{IsClientCount}
use Rattle.faust_types.specs.Ranges.{IsWire}
use Rattle.faust_types.specs.declared.message.Message.{Message}
use Rattle.faust_types.specs.declared.message.Message.TheVariants as messages
use Rattle.faust_wire.specs.Grammar.{IsSpellingOf}
use Rattle.faust_wire.specs.Reading.{message_of}

-- The message that was read; where none was, it is the blank.
abbrev pub found : Option Message → Message
found None = messages.Hello 0
found (Some message) = message

-- The message that the bytes spell under this wire for n clients; the blank where they spell none.
abbrev pub spelled_message : ℕ → ℕ → List ℕ → Message
spelled_message wire n bytes = found (message_of wire n bytes)

-- The bytes spell a message under a wire and for a number of clients that there are.
pub record IsSpelled (wire n : ℕ) (bytes : List ℕ) : Type 0 where
  pub wire_known : IsWire wire
  pub count : IsClientCount n
  pub spelled : IsSpellingOf wire n bytes (spelled_message wire n bytes)
