-- What a server holds that answered clients by its rows alone. The promise on the honest server rests on this file.
use Rattle.std.specs.Prelude.{◌≡◌, ℕ, ◌≤◌, zero, suc, nat_lt, true, List, [], ◌∷◌, ◌++◌, Option, Some, None, IfSome}
use Rattle.faust_types.specs.Clients.{IsClient}
use Rattle.faust_types.specs.Versions.{Vector, digest_at}
use Rattle.faust_types.specs.Messages.{value_of}
use Rattle.faust_types.specs.declared.operation.Operation.{Operation}
use Rattle.faust_types.specs.declared.message.Known.{Known}
use Rattle.faust_types.specs.declared.message.Mem.{Mem}
use Rattle.faust_types.specs.declared.message.ReadPart.{ReadPart}
use Rattle.faust_types.specs.declared.message.Reply.{Reply}
use Rattle.faust_types.specs.declared.message.Submit.{Submit}
use Rattle.faust_types.specs.declared.message.Tuple.{Tuple}
use Rattle.faust_tags.specs.Bodies.{data_body, tag_of}
use Rattle.faust_server.specs.Rows.{State, Served, memory_at, version_at, proof_at, turn_at, tuple_of}
use Rattle.faust_server.specs.States.{IsStateFor}
use Rattle.faust_server.specs.declared.turn.Turn.{Turn}
use Rattle.faust_ustor.specs.Checks.{digest_of, is_digest_proven, is_known_right, time_of}
use Rattle.faust_ustor.specs.Passed.{IsPassed, next_of}
use Rattle.faust_lists.specs.Lists.{count, upto, AreClients, IsTail}
use Rattle.faust_lists.specs.Walks.{IsVersionOf}
use Rattle.faust_honest.specs.World.{World, written, submit_of}

-- MEM[k] after t operations of client k.
abbrev pub mem_of : World → ℕ → ℕ → Option Mem
mem_of world k zero = None
mem_of world k (suc t) = Some (record {
  t = suc t;
  value = written world k (suc t);
  tag = tag_of world.key (data_body k (suc t) (digest_of (written world k (suc t))));
})

-- The turn of a client after so many SUBMITs and COMMITs.
abbrev pub turn_of : ℕ → ℕ → Turn
turn_of submits commits = record { last = submits; uncommitted = nat_lt commits submits }

-- The tuple of operation t of client k.
abbrev pub tuple_at : World → ℕ → ℕ → Tuple
tuple_at world k t = tuple_of k (submit_of world k t None)

-- The tuples of the operations that came after the settled part of a history, in the order in which they came.
abbrev pub pending_of : World → List ℕ → List ℕ → List Tuple
pending_of world settled [] = []
pending_of world settled (k ∷ after) = pending_of world settled after ++ tuple_at world k (suc (count k (after ++ settled))) ∷ []

-- What is held of client k, which sent so many SUBMITs and COMMITs, and whose last version is that of a history.
pub record IsHeld (n : ℕ) (world : World) (k : ℕ) (known : Known) (proof : Option (List ℕ)) (turn : Turn) (mem : Option Mem)
    (submits commits : ℕ) (history : List ℕ) : Type 0 where
  pub version : IsVersionOf n known.version history
  pub right : is_known_right world.key k known ≡ true
  pub proven : is_digest_proven world.key k (digest_at known.version k) proof ≡ true
  pub turn_is : turn ≡ turn_of submits commits
  pub mem_is : mem ≡ mem_of world k submits
  pub most : commits ≤ submits
  pub least : submits ≤ suc commits

-- The state of a server that took the SUBMITs of `arrived`, the history in the order of their arrival, and as many
-- COMMITs of each client as `handled` has of it. The version of c stands for the settled part of the history, and the
-- operations after it are pending.
pub record IsHonest (n : ℕ) (world : World) (st : State) (arrived handled : List ℕ) : Type 0 where
  pub in_range : IsStateFor n st
  pub clients : AreClients n arrived
  pub after : List ℕ
  pub settled : List ℕ
  pub split : arrived ≡ after ++ settled
  pub leads : settled ≡ upto st.c (count st.c handled) arrived
  pub covers : (k : ℕ) → IsClient n k → IsTail (upto k (count k handled) arrived) settled
  pub pending : st.pending ≡ pending_of world settled after
  pub held : (k : ℕ) → IsClient n k → IsHeld n world k (version_at st k) (proof_at st k) (turn_at st k) (memory_at st k)
      (count k arrived) (count k handled) (upto k (count k handled) arrived)

-- The SUBMIT of the next operation of client i, without the COMMIT that may ride on it.
abbrev pub next_submit : World → List ℕ → ℕ → Submit
next_submit world arrived i = submit_of world i (suc (count i arrived)) None

-- A read answers what its register's client wrote last in the history.
pub record IsReadOf (world : World) (history : List ℕ) (part : ReadPart) : Type 0 where
  pub asof : time_of part.mem ≡ count part.register history
  pub value : value_of part.mem ≡ written world part.register (count part.register history)

-- The reply to the next operation of client i: it breaks no check of the client, whose version is that of the history
-- up to its last operation; the next version is that of the history with the operation; and a read answers the value
-- that was written last in it.
pub record IsAccepted (n : ℕ) (world : World) (i : ℕ) (arrived : List ℕ) (reply : Reply) : Type 0 where
  pub passed : (own : Vector) (op : Operation) → IsVersionOf n own (upto i (count i arrived) arrived)
      → op.kind ≡ world.kind i (suc (count i arrived)) → op.register ≡ world.register i (suc (count i arrived))
      → IsPassed world.key i own op reply
  pub next : IsVersionOf n (next_of i reply) (i ∷ arrived)
  pub answer : IfSome reply.read (IsReadOf world (i ∷ arrived))

-- What a SUBMIT of client i gives: the server stays honest, and the client takes the reply.
pub record IsServedWell (n : ℕ) (world : World) (i : ℕ) (arrived handled : List ℕ) (served : Served) : Type 0 where
  pub honest : IsHonest n world served.state (i ∷ arrived) handled
  pub accepted : IsAccepted n world i arrived served.reply
