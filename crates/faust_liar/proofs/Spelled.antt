-- A message that is kept as its bytes is the one that they spell.
use Rattle.std.proofs.Common.{◌≡◌, ℕ, List, Option, sym, ap, subst}
use Rattle.faust_types.specs.Clients.{IsClientCount}
use Rattle.faust_types.specs.Ranges.{IsWire, IsMessageFor}
use Rattle.faust_types.specs.declared.message.Message.{Message}
use Rattle.faust_types.specs.declared.message.Message.TheVariants as messages
use Rattle.faust_wire.specs.Grammar.{IsForWire, IsSpellingOf}
use Rattle.faust_wire.proofs.Messages.{message_only}
use Rattle.faust_liar.specs.InRange.{IsAnswer}
use Rattle.faust_liar.specs.Spelled.{IsSpelled, found, spelled_message}

pub spelled-read : (wire n : ℕ) (bytes : List ℕ) (m : Message) → IsClientCount n → IsSpellingOf wire n bytes m
    → spelled_message wire n bytes ≡ m
spelled-read wire n bytes m count spells = ap (λ (o : Option Message). found o) (message_only wire n bytes m count spells)

pub spelled-by : (wire n : ℕ) (bytes : List ℕ) (m : Message) → IsWire wire → IsClientCount n → IsSpellingOf wire n bytes m
    → IsSpelled wire n bytes
spelled-by wire n bytes m known count spells = record {
  wire_known = known;
  count = count;
  spelled = subst (λ (z : Message). IsSpellingOf wire n bytes z) (sym (spelled-read wire n bytes m count spells)) spells;
}

-- an answer has a spelling
pub answer-fits : (n : ℕ) (m : Message) → IsAnswer n m → IsMessageFor n m
answer-fits n (messages.Submit m) h = absurd h
answer-fits n (messages.Reply m) h = h
answer-fits n (messages.Commit m) h = absurd h
answer-fits n (messages.Peer m) h = absurd h
answer-fits n (messages.Hello k) h = absurd h

pub answer-rides : (wire n : ℕ) (m : Message) → IsAnswer n m → IsForWire wire m
answer-rides wire n (messages.Submit m) h = absurd h
answer-rides wire n (messages.Reply m) h = tt
answer-rides wire n (messages.Commit m) h = absurd h
answer-rides wire n (messages.Peer m) h = absurd h
answer-rides wire n (messages.Hello k) h = absurd h
