-- The next version is above the version of c and the own one.
use Rattle.std.proofs.Common.{◌≡◌, ℕ, List, [], ◌∷◌, sym, ◌∙◌, arith}
use Rattle.std.specs.List.{AllByRecursion}
use Rattle.faust_types.specs.Clients.{IsClient}
use Rattle.faust_types.specs.Versions.{IsAtMost, clients_of}
use Rattle.faust_types.specs.Ranges.{IsReplyFor, IsTupleFor}
use Rattle.faust_types.specs.declared.message.Reply.{Reply}
use Rattle.faust_types.specs.declared.message.Tuple.{Tuple}
use Rattle.faust_types.proofs.Order.{at_most_along, at_most_self}
use Rattle.faust_types.proofs.Steps.{at_most_stepped}
use Rattle.faust_hash.specs.Chain.{link}
use Rattle.faust_ustor.specs.declared.walk.Walk.{Walk}
use Rattle.faust_ustor.specs.Checks.{advanced, begun}
use Rattle.faust_ustor.specs.Passed.{followed, next_of}
use Rattle.faust_ustor.proofs.Counts.{clients-advanced, clients-followed}

-- One more operation makes a greater version.
pub at_most-advanced : (walk : Walk) (k : ℕ) → IsClient (clients_of walk.version) k → IsAtMost walk.version (advanced walk k).version
at_most-advanced walk k here = at_most_stepped walk.version k (link walk.digest k) here

-- A walk goes up.
pub at_most-followed : (n : ℕ) (walk : Walk) (tuples : List Tuple) → clients_of walk.version ≡ n → AllByRecursion (IsTupleFor n) tuples
    → IsAtMost walk.version (followed walk tuples).version
at_most-followed n walk [] sized all = at_most_self walk.version
at_most-followed n walk (tuple ∷ rest) sized all =
    let by = all.0.client_in_range in
    let here : IsClient (clients_of walk.version) tuple.client = record { from_one = by.from_one; to_n = omega (arith, by.to_n, sized) } in
    at_most_along walk.version (advanced walk tuple.client).version (followed (advanced walk tuple.client) rest).version
    (sym (clients-advanced walk tuple.client))
    (at_most-advanced walk tuple.client here)
    (at_most-followed n (advanced walk tuple.client) rest (clients-advanced walk tuple.client ∙ sized) all.1)

-- The next version is above that of c.
pub at_most-next : (n me : ℕ) (reply : Reply) → IsReplyFor n reply → IsClient n me → IsAtMost reply.version.version (next_of me reply)
at_most-next n me reply h own =
    let sized = h.version_known.version_in_range.count in
    let end = followed (begun reply) reply.pending in
    let along = clients-followed (begun reply) reply.pending in
    let here : IsClient (clients_of end.version) me = record { from_one = own.from_one; to_n = omega (arith, own.to_n, sized, along) } in
    at_most_along reply.version.version end.version (next_of me reply) (sym along)
    (at_most-followed n (begun reply) reply.pending sized h.pending_in_range) (at_most-advanced end me here)
