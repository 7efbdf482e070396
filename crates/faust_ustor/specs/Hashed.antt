-- What a client hashes in judging a reply, besides the bodies of tags. The promise of the call `hashed` rests on it.
use Rattle.std.specs.Prelude.{ℕ, ◌+◌, if◌then◌else◌, List, [], ◌∷◌, ◌++◌, Option, Some, None, Result, Ok, Err}
use Rattle.faust_types.specs.Versions.{Vector}
use Rattle.faust_types.specs.declared.operation.Operation.{Operation}
use Rattle.faust_types.specs.declared.operation.Notice.{Notice}
use Rattle.faust_types.specs.declared.message.Tuple.{Tuple}
use Rattle.faust_types.specs.declared.message.Mem.{Mem}
use Rattle.faust_types.specs.declared.message.ReadPart.{ReadPart}
use Rattle.faust_types.specs.declared.message.Reply.{Reply}
use Rattle.faust_hash.specs.Chain.{chain_input, value_input}
use Rattle.faust_ustor.specs.declared.walk.Walk.{Walk}
use Rattle.faust_ustor.specs.Passed.{followed}
use Rattle.faust_ustor.specs.Checks.{advanced, begun, broken_base, broken_tuple, is_known_right, walked}

-- The inputs, unless a condition before them is broken.
abbrev pub inputs_unless : Option Notice → List (List ℕ) → List (List ℕ)
inputs_unless None inputs = inputs
inputs_unless (Some notice) inputs = []

-- Of tuple q and those behind it: one chain a tuple that breaks no check.
abbrev pub walk_inputs : List ℕ → ℕ → List (Option (List ℕ)) → ℕ → Walk → List Tuple → List (List ℕ)
walk_inputs key me proofs q walk [] = []
walk_inputs key me proofs q walk (tuple ∷ rest) = inputs_unless (broken_tuple key me proofs q walk tuple)
    (chain_input walk.digest tuple.client ∷ walk_inputs key me proofs (q + 1) (advanced walk tuple.client) rest)

-- Of a value, if there is one.
abbrev pub value_inputs : Option (List ℕ) → List (List ℕ)
value_inputs None = []
value_inputs (Some value) = value_input value ∷ []

-- Of the memory: that of its value.
abbrev pub mem_inputs : Option Mem → List (List ℕ)
mem_inputs None = []
mem_inputs (Some mem) = value_inputs mem.value

-- Of the read part: its value, if check 10 is come to.
abbrev pub part_inputs : List ℕ → Option ReadPart → List (List ℕ)
part_inputs key None = []
part_inputs key (Some part) = if is_known_right key part.register part.version then mem_inputs part.mem else []

-- Of the own operation and of the read part, if no tuple breaks a check.
abbrev pub inputs_after : List ℕ → ℕ → Reply → Result Walk Notice → List (List ℕ)
inputs_after key me reply (Ok walk) = chain_input walk.digest me ∷ part_inputs key reply.read
inputs_after key me reply (Err notice) = []

-- All inputs of the digests of chains and values, in order, up to and with the first broken condition.
unfoldable pub hashed : List ℕ → ℕ → Vector → Operation → Reply → List (List ℕ)
hashed key me own op reply = inputs_unless (broken_base key me own op reply)
    (walk_inputs key me reply.proofs 1 (begun reply) reply.pending
    ++ inputs_after key me reply (walked key me reply.proofs 1 (begun reply) reply.pending))

-- Of all tuples, broken or not: the chains of their clients one by one.
abbrev pub chain_inputs : Walk → List Tuple → List (List ℕ)
chain_inputs walk [] = []
chain_inputs walk (tuple ∷ rest) = chain_input walk.digest tuple.client ∷ chain_inputs (advanced walk tuple.client) rest

-- Of the read part: its value, in any case.
abbrev pub read_inputs : Option ReadPart → List (List ℕ)
read_inputs None = []
read_inputs (Some part) = mem_inputs part.mem

-- Where no check is broken: the chains of the tuples' clients, the own one, and the value that was read.
abbrev pub all_inputs : ℕ → Reply → List (List ℕ)
all_inputs me reply = chain_inputs (begun reply) reply.pending
    ++ (chain_input (followed (begun reply) reply.pending).digest me ∷ read_inputs reply.read)
