-- The chain lemma at a reply: a completion is sound.
use Rattle.std.proofs.Common.{◌≡◌, ℕ, ◌<◌, suc, List, ◌∷◌, Option, refl, sym, ap, ◌∙◌, subst, inl, inr, arith}
use Rattle.faust_types.specs.Versions.{Vector, digest_at, timestamp_at}
use Rattle.faust_types.specs.declared.message.Reply.{Reply}
use Rattle.faust_types.specs.declared.operation.Operation.{Operation}
use Rattle.faust_types.proofs.Order.{zero-at-initial}
use Rattle.faust_hash.specs.Chain.{chain_input, chain_of}
use Rattle.faust_ustor.specs.Checks.{begun}
use Rattle.faust_ustor.specs.Hashed.{chain_inputs, read_inputs}
use Rattle.faust_ustor.specs.Passed.{clients_after, followed}
use Rattle.faust_lists.specs.Lists.{count, last_to}
use Rattle.faust_lists.specs.Names.{Has}
use Rattle.faust_lists.specs.Walks.{IsWalkOf}
use Rattle.faust_lists.proofs.Counts.{count-own}
use Rattle.faust_lists.proofs.Fronts.{last_to-same}
use Rattle.faust_lists.proofs.Versions.{IsVersionOf-next, IsWalkOf-begun, IsWalkOf-followed, tail-after}
use Rattle.faust_forks.specs.Books.{Done, Began, Completed}
use Rattle.faust_forks.specs.Pairs.{known_pairs, read_pairs, tuple_pairs}
use Rattle.faust_forks.specs.Pasts.{Past, base_of, done_at}
use Rattle.faust_forks.specs.Forks.{IsAccepted, IsAnchored, IsFork, IsGround, IsHistoryOf, IsSound}
use Rattle.faust_forks.proofs.Members.{has-left, has-right}
use Rattle.faust_forks.proofs.Made.{AreMade-left, AreMade-right}
use Rattle.faust_forks.proofs.Booked.{known-history}
use Rattle.faust_forks.proofs.Settled.{begun-cons, settled-cons}
use Rattle.faust_forks.proofs.Walked.{anchored-by, count-after, fork-along}

-- the own last operation is that of the reply's version
own-anchored : (n : ℕ) (past : Past) (key : List ℕ) (me : ℕ) (own : Vector) (op : Operation) (reply : Reply) (w : List ℕ) → IsGround n past
    → IsAccepted n past key me own op reply → IsHistoryOf n past past.entry reply.c reply.version.version w → IsAnchored past.book me w
own-anchored n past key me own op reply w ground accepted base =
    let client = accepted.client_in_range in
    let v = reply.version.version in
    let counted : timestamp_at own me ≡ count me w = accepted.passed.own_counted ∙ base.version.timestamps me client in
    elim accepted.owned.held [
      | inl is ↦
          let zero_own : timestamp_at own me ≡ 0 = ap (λ (z : Vector). timestamp_at z me) is ∙ zero-at-initial n me client in
          inl (omega (arith, zero_own, counted))
      | inr came ↦
          let digest : digest_at own me ≡ digest_at v me =
          accepted.passed.own_at_most.digests me accepted.pending.client_in_range accepted.passed.own_counted in
          let along : digest_at came.done.version me ≡ chain_of (last_to me w) =
          ap (λ (z : Vector). digest_at z me) came.fits_it ∙ digest ∙ base.version.digests me client in
          inr (anchored-by n past me w (timestamp_at own me) came.done ground.free ground.sound client base.fork.chains
          came.found along)
    ]

anchored-same : (book : List Done) (k : ℕ) (u w : List ℕ) → count k u ≡ count k w → last_to k u ≡ last_to k w
    → IsAnchored book k u → IsAnchored book k w
anchored-same book k u w counts lasts (inl none) = inl (sym counts ∙ none)
anchored-same book k u w counts lasts (inr came) =
    inr (subst (λ (z : ℕ). Completed book k z (λ done. done.fork ≡ last_to k w)) counts
    (record { done = came.done; found = came.found; fits_it = came.fits_it ∙ lasts }))

-- The history before the own operation, and the walk that came there.
pub record IsReached (n : ℕ) (past : Past) (me : ℕ) (own : Vector) (reply : Reply) (w : List ℕ) : Type 0 where
  pub base : IsHistoryOf n past past.entry reply.c reply.version.version (base_of past.book reply)
  pub start : IsWalkOf n (begun reply) (base_of past.book reply)
  pub walk : IsWalkOf n (followed (begun reply) reply.pending) w
  pub fork : IsFork n past past.entry w
  pub counted : count me w ≡ timestamp_at own me
  pub anchored : IsAnchored past.book me w

pub reached : (n : ℕ) (past : Past) (key : List ℕ) (me : ℕ) (own : Vector) (op : Operation) (reply : Reply) → IsGround n past
    → IsAccepted n past key me own op reply
    → IsReached n past me own reply (clients_after (base_of past.book reply) reply.pending)
reached n past key me own op reply ground accepted =
    let range = accepted.reply_in_range in
    let passed = accepted.passed in
    let w = base_of past.book reply in
    let u = clients_after w reply.pending in
    let walk = begun reply in
    let behind = read_pairs reply.read in
    let known = known_pairs reply.c reply.version in
    let tuples = tuple_pairs reply.proofs behind walk reply.pending in
    let base = known-history n past key reply.c reply.version ground range.version_known passed.known_right
    (AreMade-left key past.made known tuples accepted.unforged) in
    let start = IsWalkOf-begun n reply w base.version range.client_in_range base.whole in
    let own_inputs = chain_input (followed walk reply.pending).digest me ∷ read_inputs reply.read in
    let along = fork-along n past key me reply.proofs behind walk w reply.pending ground start base.fork passed.tuples_passed
    range.pending_in_range (AreMade-right key past.made known tuples accepted.unforged)
    (λ x has. accepted.all_hashed x (has-left (chain_inputs walk reply.pending) own_inputs x has)) in
    let counts : count me u ≡ count me w = count-after key me reply.proofs walk w reply.pending passed.tuples_passed in
    let lasts : last_to me w ≡ last_to me u = last_to-same me w u (tail-after w reply.pending) (sym counts) in
    record {
      base = base;
      start = start;
      walk = IsWalkOf-followed n walk w reply.pending start range.pending_in_range;
      fork = along;
      counted = counts ∙ sym (base.version.timestamps me accepted.client_in_range) ∙ sym passed.own_counted;
      anchored = anchored-same past.book me w u (sym counts) lasts (own-anchored n past key me own op reply w ground accepted base);
    }

-- the completion is sound
pub completion-sound : (n : ℕ) (past : Past) (key : List ℕ) (me : ℕ) (own : Vector) (op : Operation) (reply : Reply) → IsGround n past
    → IsAccepted n past key me own op reply → IsSound n past (done_at past me op reply)
completion-sound n past key me own op reply ground accepted =
    let client = accepted.client_in_range in
    let range = accepted.reply_in_range in
    let w = clients_after (base_of past.book reply) reply.pending in
    let walk = begun reply in
    let at = reached n past key me own op reply ground accepted in
    let number : op.name.t ≡ suc (count me w) = omega (arith, accepted.pending.number, at.counted) in
    let own_inputs = chain_input (followed walk reply.pending).digest me ∷ read_inputs reply.read in
    let has : Has past.hashed (chain_input (followed walk reply.pending).digest me) =
    accepted.all_hashed _ (has-right (chain_inputs walk reply.pending) own_inputs _ (inl refl)) in
    let waited = accepted.waiting in
    let began : Began past.started me op.name.t (λ begun. begun.entry < past.entry) =
    record { begun = waited.begun; found = waited.found; fits_it = ground.begun_before me op.name.t waited.begun waited.found } in
    record {
      ends = refl;
      counted = count-own me me w refl ∙ sym number;
      version = IsVersionOf-next n me reply (base_of past.book reply) at.start range.pending_in_range client;
      fork = record {
        clients = (client, at.fork.clients);
        settled = settled-cons n past.book me w at.fork.settled at.anchored;
        begun_before = begun-cons n past.started past.entry me w at.fork.begun_before
            (subst (λ (z : ℕ). Began past.started me z (λ begun. begun.entry < past.entry)) number began);
        chains = (subst (λ (d : Option (List ℕ)). Has past.hashed (chain_input d me)) at.walk.digest has, at.fork.chains);
      };
    }
