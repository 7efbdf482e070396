-- Whatever is broken, what is hashed is a front of what is hashed where nothing is.
use Rattle.std.proofs.Common.{◌≡◌, ℕ, ◌+◌, Bool, true, false, if◌then◌else◌, List, [], ◌∷◌, ◌++◌, Option, Some, None, Result, Ok, Err, refl, sym, ap, ◌∙◌, subst, append_assoc, append-nil}
use Rattle.faust_types.specs.Versions.{Vector}
use Rattle.faust_types.specs.declared.operation.Operation.{Operation}
use Rattle.faust_types.specs.declared.operation.Notice.{Notice}
use Rattle.faust_types.specs.declared.message.ReadPart.{ReadPart}
use Rattle.faust_types.specs.declared.message.Reply.{Reply}
use Rattle.faust_types.specs.declared.message.Tuple.{Tuple}
use Rattle.faust_hash.specs.Chain.{chain_input}
use Rattle.faust_ustor.specs.declared.walk.Walk.{Walk}
use Rattle.faust_ustor.specs.Checks.{advanced, begun, broken_base, broken_tuple, is_known_right, walked}
use Rattle.faust_ustor.specs.Hashed.{all_inputs, chain_inputs, hashed, inputs_after, inputs_unless, mem_inputs, part_inputs, read_inputs, walk_inputs}
use Rattle.faust_ustor.specs.Passed.{followed}
use Rattle.faust_ustor.proofs.Inputs.{inputs-walked, rest_inputs}

-- The list xs and more behind it is the list ys.
abbrev pub IsFront : List (List ℕ) → List (List ℕ) → Type 0
IsFront xs ys = (rest : List (List ℕ)) × (xs ++ rest ≡ ys)

front-self : (xs : List (List ℕ)) → IsFront xs xs
front-self [] = ([], refl)
front-self (x ∷ xs) = let more = front-self xs in (more.0, ap (λ (l : List (List ℕ)). x ∷ l) more.1)

front-cons : (x : List ℕ) (xs ys : List (List ℕ)) → IsFront xs ys → IsFront (x ∷ xs) (x ∷ ys)
front-cons x xs ys h = (h.0, ap (λ (l : List (List ℕ)). x ∷ l) h.1)

-- A front of a front, and of what stands behind it.
front-wider : (xs ys zs : List (List ℕ)) → IsFront xs ys → IsFront xs (ys ++ zs)
front-wider xs ys zs h = (h.0 ++ zs, sym (append_assoc xs h.0 zs) ∙ ap (λ (l : List (List ℕ)). l ++ zs) h.1)

front-behind : (zs xs ys : List (List ℕ)) → IsFront xs ys → IsFront (zs ++ xs) (zs ++ ys)
front-behind [] xs ys h = h
front-behind (z ∷ zs) xs ys h = front-cons z (zs ++ xs) (zs ++ ys) (front-behind zs xs ys h)

front-unless : (b : Option Notice) (xs ys : List (List ℕ)) → IsFront xs ys → IsFront (inputs_unless b xs) ys
front-unless None xs ys h = h
front-unless (Some notice) xs ys h = (ys, refl)

walk_inputs-front : (key : List ℕ) (me : ℕ) (proofs : List (Option (List ℕ))) (q : ℕ) (walk : Walk) (tuples : List Tuple)
    → IsFront (walk_inputs key me proofs q walk tuples) (chain_inputs walk tuples)
walk_inputs-front key me proofs q walk [] = front-self []
walk_inputs-front key me proofs q walk (tuple ∷ rest) =
    let on = advanced walk tuple.client in
    let input = chain_input walk.digest tuple.client in
    front-unless (broken_tuple key me proofs q walk tuple) (input ∷ walk_inputs key me proofs (q + 1) on rest)
    (input ∷ chain_inputs on rest)
    (front-cons input _ _ (walk_inputs-front key me proofs (q + 1) on rest))

front-if : (b : Bool) (xs : List (List ℕ)) → IsFront (if b then xs else []) xs
front-if true xs = front-self xs
front-if false xs = (xs, refl)

part_inputs-front : (key : List ℕ) (read : Option ReadPart) → IsFront (part_inputs key read) (read_inputs read)
part_inputs-front key None = front-self []
part_inputs-front key (Some part) = front-if (is_known_right key part.register part.version) (mem_inputs part.mem)

rest_inputs-front : (key : List ℕ) (me : ℕ) (reply : Reply) (w : Result Walk Notice)
    → walked key me reply.proofs 1 (begun reply) reply.pending ≡ w
    → IsFront (walk_inputs key me reply.proofs 1 (begun reply) reply.pending ++ inputs_after key me reply w) (all_inputs me reply)
rest_inputs-front key me reply (Ok end) came =
    let chains = chain_inputs (begun reply) reply.pending in
    let last = chain_input (followed (begun reply) reply.pending).digest me in
    subst (λ (inputs : List (List ℕ)). IsFront inputs (all_inputs me reply)) (sym (inputs-walked key me reply end came))
    (front-behind chains (last ∷ part_inputs key reply.read) (last ∷ read_inputs reply.read)
    (front-cons last (part_inputs key reply.read) (read_inputs reply.read) (part_inputs-front key reply.read)))
rest_inputs-front key me reply (Err notice) came =
    let inputs = walk_inputs key me reply.proofs 1 (begun reply) reply.pending in
    let last = chain_input (followed (begun reply) reply.pending).digest me in
    subst (λ (l : List (List ℕ)). IsFront l (all_inputs me reply)) (sym (append-nil inputs))
    (front-wider inputs (chain_inputs (begun reply) reply.pending) (last ∷ read_inputs reply.read)
    (walk_inputs-front key me reply.proofs 1 (begun reply) reply.pending))

pub hashed-front : (key : List ℕ) (me : ℕ) (own : Vector) (op : Operation) (reply : Reply)
    → IsFront (hashed key me own op reply) (all_inputs me reply)
unfolding hashed
hashed-front key me own op reply =
    front-unless (broken_base key me own op reply) (rest_inputs key me reply 1 (begun reply) reply.pending) (all_inputs me reply)
    (rest_inputs-front key me reply (walked key me reply.proofs 1 (begun reply) reply.pending) refl)
