-- What is hashed: where no check is broken, from a tuple on, and where the walk comes to its end.
use Rattle.std.proofs.Common.{◌≡◌, ℕ, ◌+◌, ◌<◌, Bool, true, is_none, if◌then◌else◌, List, [], ◌∷◌, ◌++◌, length, get_or, drop, Option, Some, None, Ok, IfSome, refl, ap, ◌∙◌}
use Rattle.std.proofs.lemmas.List.{at_drop_more}
use Rattle.faust_types.specs.Versions.{Vector}
use Rattle.faust_types.specs.declared.operation.Operation.{Operation}
use Rattle.faust_types.specs.declared.operation.Notice.{Notice}
use Rattle.faust_types.specs.declared.message.ReadPart.{ReadPart}
use Rattle.faust_types.specs.declared.message.Reply.{Reply}
use Rattle.faust_types.specs.declared.message.Tuple.{Tuple}
use Rattle.faust_hash.specs.Chain.{chain_input}
use Rattle.faust_ustor.specs.declared.walk.Walk.{Walk}
use Rattle.faust_ustor.specs.Checks.{advanced, begun, broken_tuple, unless, walked}
use Rattle.faust_ustor.specs.Hashed.{all_inputs, chain_inputs, hashed, inputs_after, inputs_unless, mem_inputs, part_inputs, read_inputs, walk_inputs}
use Rattle.faust_ustor.specs.Passed.{followed, AreTuplesPassed, IsPartPassed, IsPassed, next_of}
use Rattle.faust_ustor.proofs.Passes.{base-unbroken, tuple-unbroken, walked-from, walked-passed}

-- Of tuples that pass each chain is hashed.
pub walk_inputs-passed : (key : List ℕ) (me : ℕ) (proofs : List (Option (List ℕ))) (q : ℕ) (walk : Walk) (tuples : List Tuple)
    → AreTuplesPassed key me proofs walk tuples → walk_inputs key me proofs q walk tuples ≡ chain_inputs walk tuples
walk_inputs-passed key me proofs q walk [] h = refl
walk_inputs-passed key me proofs q walk (tuple ∷ rest) h =
    let more = walk_inputs-passed key me proofs (q + 1) (advanced walk tuple.client) rest h.1 in
    ap (λ (b : Option Notice). inputs_unless b
    (chain_input walk.digest tuple.client ∷ walk_inputs key me proofs (q + 1) (advanced walk tuple.client) rest))
    (tuple-unbroken key me proofs q walk tuple h.0)
    ∙ ap (λ (inputs : List (List ℕ)). chain_input walk.digest tuple.client ∷ inputs) more

part_inputs-passed : (key : List ℕ) (version next : Vector) (read : Option ReadPart) → IfSome read (IsPartPassed key version next)
    → part_inputs key read ≡ read_inputs read
part_inputs-passed key version next None h = refl
part_inputs-passed key version next (Some part) h = ap (λ (b : Bool). if b then mem_inputs part.mem else []) h.known_right

-- Of a reply that passes all is hashed.
pub hashed_passed : (key : List ℕ) (me : ℕ) (own : Vector) (op : Operation) (reply : Reply) → IsPassed key me own op reply
    → hashed key me own op reply ≡ all_inputs me reply
unfolding hashed
hashed_passed key me own op reply h =
    let first = begun reply in
    let inputs = walk_inputs key me reply.proofs 1 first reply.pending in
    let after = walked key me reply.proofs 1 first reply.pending in
    let own_input = chain_input (followed first reply.pending).digest me in
    ap (λ (b : Option Notice). inputs_unless b (inputs ++ inputs_after key me reply after)) (base-unbroken key me own op reply h)
    ∙ ap (λ (tail : List (List ℕ)). inputs ++ tail) (ap (inputs_after key me reply)
    (walked-from key me reply.proofs 1 first reply.pending h.tuples_passed))
    ∙ ap (λ (front : List (List ℕ)). front ++ (own_input ∷ part_inputs key reply.read))
    (walk_inputs-passed key me reply.proofs 1 first reply.pending h.tuples_passed)
    ∙ ap (λ (rest : List (List ℕ)). chain_inputs first reply.pending ++ (own_input ∷ rest))
    (part_inputs-passed key reply.version.version (next_of me reply) reply.read h.part_passed)

-- What is hashed of tuple q and those behind it, of the own operation and of the read part, where the walk came so far.
abbrev pub rest_inputs : List ℕ → ℕ → Reply → ℕ → Walk → List Tuple → List (List ℕ)
rest_inputs key me reply q walk tuples =
    walk_inputs key me reply.proofs q walk tuples ++ inputs_after key me reply (walked key me reply.proofs q walk tuples)

-- A notice that is none.
pub none-from : (b : Option Notice) → is_none b ≡ true → b ≡ None
none-from None h = refl
none-from (Some notice) h = cc

-- One tuple more, which breaks no check.
pub rest_inputs-more : (key : List ℕ) (me : ℕ) (reply : Reply) (q : ℕ) (walk : Walk) (pending : List Tuple) (i : ℕ) (d : Tuple)
    → i < length pending → is_none (broken_tuple key me reply.proofs q walk (get_or pending i d)) ≡ true
    → rest_inputs key me reply q walk (drop i pending)
    ≡ chain_input walk.digest (get_or pending i d).client
    ∷ rest_inputs key me reply (q + 1) (advanced walk (get_or pending i d).client) (drop (i + 1) pending)
rest_inputs-more key me reply q walk pending i d lt h =
    let tuple = get_or pending i d in
    let behind = drop (i + 1) pending in
    let on = advanced walk tuple.client in
    let inputs = chain_input walk.digest tuple.client ∷ walk_inputs key me reply.proofs (q + 1) on behind in
    let w = walked key me reply.proofs (q + 1) on behind in
    at_drop_more (rest_inputs key me reply q walk) pending i d lt
    ∙ ap (λ (b : Option Notice). inputs_unless b inputs ++ inputs_after key me reply (unless b w)) (none-from _ h)

-- Where the walk comes to its end, all tuples and the own operation are hashed, and what is due of the read part.
pub inputs-walked : (key : List ℕ) (me : ℕ) (reply : Reply) (end : Walk)
    → walked key me reply.proofs 1 (begun reply) reply.pending ≡ Ok end
    → walk_inputs key me reply.proofs 1 (begun reply) reply.pending ++ inputs_after key me reply (Ok end)
    ≡ chain_inputs (begun reply) reply.pending
    ++ (chain_input (followed (begun reply) reply.pending).digest me ∷ part_inputs key reply.read)
inputs-walked key me reply end came =
    let first = begun reply in
    let along = walked-passed key me reply.proofs 1 first reply.pending end came in
    let inputs = walk_inputs key me reply.proofs 1 first reply.pending in
    let last = chain_input (followed first reply.pending).digest me in
    ap (λ (w : Walk). inputs ++ (chain_input w.digest me ∷ part_inputs key reply.read)) along.ends
    ∙ ap (λ (front : List (List ℕ)). front ++ (last ∷ part_inputs key reply.read))
    (walk_inputs-passed key me reply.proofs 1 first reply.pending along.passed)
