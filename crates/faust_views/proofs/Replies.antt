-- What is asked of a reply holds of each REPLY in range.
use Rattle.std.proofs.Common.{◌≡◌, ℕ, zero, suc, ◌<◌, ◌≤◌, List, [], ◌∷◌, length, get_or, sym, subst, arith}
use Rattle.std.specs.List.{AllByRecursion}
use Rattle.faust_types.specs.Clients.{IsClient}
use Rattle.faust_types.specs.Versions.{Vector, clients_of}
use Rattle.faust_types.specs.Ranges.{IsReplyFor, IsTupleFor}
use Rattle.faust_types.specs.declared.message.Reply.{Reply}
use Rattle.faust_types.specs.declared.message.Tuple.{Tuple}
use Rattle.faust_views.specs.Grown.{AreOfClients, IsClientOf, IsReply}

tuples-fit : (n : ℕ) (v : Vector) (pending : List Tuple) → clients_of v ≡ n → n ≤ 32 → AllByRecursion (IsTupleFor n) pending
    → AreOfClients v pending
tuples-fit n v [] same most all = tt
tuples-fit n v (tuple ∷ rest) same most all =
    let client = all.0.client_in_range in
    let to_n = client.to_n in (
      record { in_range = subst (λ (m : ℕ). IsClient m tuple.client) (sym same) client; to_32 = omega arith },
      tuples-fit n v rest same most all.1,
    )

-- the client of a tuple at a place
pub client-of : (v : Vector) (pending : List Tuple) (k : ℕ) (d : Tuple) → AreOfClients v pending → k < length pending
    → IsClientOf v (get_or pending k d).client
client-of v [] k d are h = absurd (omega arith)
client-of v (tuple ∷ rest) zero d are h = are.0
client-of v (tuple ∷ rest) (suc k) d are h = client-of v rest k d are.1 (omega arith)

pub reply-fits : (n : ℕ) (reply : Reply) → IsReplyFor n reply → IsReply reply
reply-fits n reply is =
    let same = is.version_known.version_in_range.count in
    let most = is.version_known.version_in_range.kept.count.at_most_32 in
    let most_n : n ≤ 32 = omega arith in
    record {
      client = subst (λ (m : ℕ). IsClient m reply.c) (sym same) is.client_in_range;
      pending_clients = tuples-fit n reply.version.version reply.pending same most_n is.pending_in_range;
      few_pending = is.few_pending;
    }
