-- An honest server's reply breaks no check, and tells the history.
use Rattle.std.proofs.Common.{◌≡◌, ◌≢◌, ℕ, ◌+◌, ◌-◌, ◌^◌, ◌<◌, ◌≤◌, ◌⊎◌, suc, true, List, [], ◌∷◌, ◌++◌, Option, None, IfSome, refl, sym, ap, ◌∙◌, subst, inl, inr, arith}
use Rattle.std.proofs.lemmas.Bool.{cases_eq, cases_lt, and_from, lt-ltb, eq-eqb}
use Rattle.std.proofs.lemmas.List.{get_or-set_same, get_or-set_other}
use Rattle.faust_types.specs.Clients.{IsClient}
use Rattle.faust_types.specs.Messages.{value_of}
use Rattle.faust_types.specs.Ranges.{IsSubmitFor}
use Rattle.faust_types.specs.Versions.{timestamp_at, digest_at}
use Rattle.faust_types.specs.declared.operation.Kind.{Kind}
use Rattle.faust_types.specs.declared.operation.Kind.TheVariants.{Write, Read}
use Rattle.faust_types.specs.declared.message.Mem.{Mem}
use Rattle.faust_types.specs.declared.message.Reply.{Reply}
use Rattle.faust_types.specs.declared.message.Tuple.{Tuple}
use Rattle.faust_hash.specs.Chain.{chain_of}
use Rattle.faust_hash.specs.Tag.{is_same}
use Rattle.faust_hash.proofs.Lists.{is_same_tells}
use Rattle.faust_tags.specs.Bodies.{submit_body, tag_of}
use Rattle.faust_server.specs.Rows.{State, memory_at, version_at, proof_at, turn_at, greatest, remembered, read_part, replied}
use Rattle.faust_server.specs.declared.turn.Turn.{Turn}
use Rattle.faust_ustor.specs.declared.walk.Walk.{Walk}
use Rattle.faust_ustor.specs.Checks.{begun, is_digest_proven, is_mem_right, is_part_for, time_of}
use Rattle.faust_ustor.specs.Passed.{followed, next_of, AreTuplesPassed, IsTuplePassed, IsPartPassed}
use Rattle.faust_ustor.proofs.Followed.{passed-append}
use Rattle.faust_lists.specs.Lists.{count, upto, IsTail}
use Rattle.faust_lists.specs.Walks.{IsVersionOf, IsWalkOf}
use Rattle.faust_lists.proofs.Counts.{count-own, count-other}
use Rattle.faust_lists.proofs.Tails.{tail-refl, tail-cons, count-tail, count-append, tail-append, AreClients-tail}
use Rattle.faust_lists.proofs.Fronts.{count-upto, last_to-same}
use Rattle.faust_lists.proofs.Versions.{IsWalkOf-begun, IsWalkOf-advanced, at_most-tail}
use Rattle.faust_honest.specs.World.{World}
use Rattle.faust_honest.specs.Honest.{mem_of, tuple_at, pending_of, next_submit, IsHonest, IsReadOf, IsAccepted}
use Rattle.faust_honest.proofs.Pending.{IsWalkOf-pending}
use Rattle.faust_honest.proofs.Held.{renewed-mem, value_of-mem, time_of-mem, mem_of-right}
use Rattle.faust_honest.proofs.Standing.{counted, clients-after, once, settled-counts, settled-free, last-settled, own-digest, greatest-version, greatest-last}

module _ (n : ℕ) (world : World) (st : State) (arrived handled : List ℕ) (h : IsHonest n world st arrived handled) (i : ℕ)
    (client : IsClient n i) (message : IsSubmitFor n (next_submit world arrived i)) (free : count i arrived ≡ count i handled) where
  abbrev now : State
  now = remembered st i (next_submit world arrived i)

  abbrev reply : Reply
  reply = replied now (next_submit world arrived i)

  -- the walk over the reply begins at the settled part
  walk-begun : IsWalkOf n (begun reply) h.settled
  walk-begun =
      IsWalkOf-begun n reply h.settled (greatest-version n world st arrived handled h) h.in_range.c_in_range
      (greatest-last n world st arrived handled h)

  -- the operation of client k that comes behind those of z
  module _ (k : ℕ) (z : List ℕ) (front : IsTail (k ∷ z) h.after) (c : IsClient n k) where
    abbrev here : Walk
    here = followed (begun reply) (pending_of world h.settled z)

    walk-here : IsWalkOf n here (z ++ h.settled)
    walk-here =
        IsWalkOf-pending n world (begun reply) h.settled z walk-begun
        (AreClients-tail n z h.after (clients-after n world st arrived handled h) (tail-cons k z h.after front))

    stands : 1 ≤ count k h.after
    stands = omega (arith, count-tail k (k ∷ z) h.after front, count-own k k z refl)

    alone-there : count k z ≡ 0
    alone-there = omega (arith, count-tail k (k ∷ z) h.after front, count-own k k z refl, once n world st arrived handled h k c)

    of_another : k ≢ i
    of_another e =
        let none : count k h.after ≡ 0 =
        subst (λ (x : ℕ). count x h.after ≡ 0) (sym e) (settled-free n world st arrived handled h i client free) in
        absurd (omega (arith, stands, none))

    same-digest : digest_at here.version k ≡ digest_at (version_at st k).version k
    same-digest =
        let counts : count k h.settled ≡ count k (z ++ h.settled) = omega (arith, count-append k z h.settled, alone-there) in
        let settled : count k h.settled ≡ count k handled = settled-counts n world st arrived handled h k c stands in
        walk-here.version.digests k c
        ∙ ap chain_of (sym (last_to-same k h.settled (z ++ h.settled) (tail-append z h.settled) counts))
        ∙ ap chain_of (last-settled n world st arrived handled h k settled)
        ∙ sym (own-digest n world st arrived handled h k c)

    next-below : count k (z ++ h.settled) + 1 < 2 ^ 40
    next-below =
        let last : (turn_at st k).last ≡ count k arrived = ap (λ (t : Turn). t.last) (h.held k c).turn_is in
        omega (
          arith,
          last,
          h.in_range.turns_below k c,
          counted n world st arrived handled h k,
          stands,
          count-append k z h.settled,
          alone-there,
        )

    tuple-passed : IsTuplePassed world.key i st.proofs here (tuple_at world k (suc (count k (z ++ h.settled))))
    tuple-passed =
        let t : ℕ = suc (count k (z ++ h.settled)) in
        let tag : ℕ → List ℕ = λ (u : ℕ). tag_of world.key (submit_body k (world.kind k t) (world.register k t) u) in
        let number : t ≡ timestamp_at here.version k + 1 = omega (arith, walk-here.version.timestamps k c) in
        let right : is_same (tag t) (tag t) ≡ true = (is_same_tells (tag t) (tag t)).1 refl in
        record {
          of_another = of_another;
          proven = subst (λ (d : Option (List ℕ)). is_digest_proven world.key k d (proof_at st k) ≡ true) (sym same-digest)
              (h.held k c).proven;
          submitted = and_from _ _
              (lt-ltb (timestamp_at here.version k + 1) (2 ^ 40) (omega (arith, number, next-below)))
              (subst (λ (u : ℕ). is_same (tag t) (tag u) ≡ true) number right);
        }

  -- the tuples of what stands behind the settled part pass
  pending-passed : (z : List ℕ) → IsTail z h.after → AreTuplesPassed world.key i st.proofs (begun reply) (pending_of world h.settled z)
  pending-passed [] front = tt
  pending-passed (k ∷ z) front =
      let c : IsClient n k = (AreClients-tail n (k ∷ z) h.after (clients-after n world st arrived handled h) front).0 in
      let tuple : Tuple = tuple_at world k (suc (count k (z ++ h.settled))) in
      passed-append world.key i st.proofs (begun reply) (pending_of world h.settled z) (tuple ∷ [])
      (pending-passed z (tail-cons k z h.after front))
      (tuple-passed k z front c, tt)

  tuples-passed : AreTuplesPassed world.key i st.proofs (begun reply) st.pending
  tuples-passed =
      subst (λ (xs : List Tuple). AreTuplesPassed world.key i st.proofs (begun reply) xs) (sym h.pending)
      (pending-passed h.after (tail-refl h.after))

  -- the walk ends at the whole history
  walk-ended : IsWalkOf n (followed (begun reply) st.pending) arrived
  walk-ended =
      subst (λ (w : List ℕ). IsWalkOf n (followed (begun reply) st.pending) w) (sym h.split)
      (subst (λ (xs : List Tuple). IsWalkOf n (followed (begun reply) xs) (h.after ++ h.settled)) (sym h.pending)
      (IsWalkOf-pending n world (begun reply) h.settled h.after walk-begun (clients-after n world st arrived handled h)))

  next-version : IsVersionOf n (next_of i reply) (i ∷ arrived)
  next-version = (IsWalkOf-advanced n (followed (begun reply) st.pending) arrived i walk-ended client).version

  -- what is in memory at the read
  memory-now : (j : ℕ) → IsClient n j → memory_at now j ≡ mem_of world j (count j (i ∷ arrived))
  memory-now j c = elim (cases_eq j i) [
    | inl e ↦
        let own = h.held i client in
        subst (λ (x : ℕ). memory_at now x ≡ mem_of world x (count x (i ∷ arrived))) (sym e)
        (get_or-set_same st.memory (i - 1) _ None (omega (arith, client.from_one, client.to_n, h.in_range.memory_paired))
        ∙ renewed-mem world i (count i arrived) (memory_at st i) own.mem_is
        ∙ ap (mem_of world i) (sym (count-own i i arrived refl)))
    | inr ne ↦
        let apart : j - 1 ≡ i - 1 → ⊥ = λ e. ne (omega (arith, e, c.from_one, client.from_one)) in
        get_or-set_other st.memory (i - 1) (j - 1) _ None apart ∙ (h.held j c).mem_is
        ∙ ap (mem_of world j) (sym (count-other j i arrived (λ e. ne (sym e))))
  ]

  -- of each client at most one operation isn't committed
  near : (j : ℕ) → IsClient n j → (count j handled ≤ count j (i ∷ arrived)) × (count j (i ∷ arrived) ≤ suc (count j handled))
  near j c = elim (cases_eq j i) [
    | inl e ↦
        subst (λ (x : ℕ). (count x handled ≤ count x (i ∷ arrived)) × (count x (i ∷ arrived) ≤ suc (count x handled))) (sym e)
        (omega (arith, free, count-own i i arrived refl), omega (arith, free, count-own i i arrived refl))
    | inr ne ↦
        let same : count j (i ∷ arrived) ≡ count j arrived = count-other j i arrived (λ e. ne (sym e)) in
        (omega (arith, same, (h.held j c).most), omega (arith, same, (h.held j c).least))
  ]

  recently : (a b : ℕ) → a ≤ b → b ≤ suc a → (a ≡ b) ⊎ (a + 1 ≡ b)
  recently a b low high = elim (cases_lt a b) [ inl lt ↦ inr (omega (arith, lt)) | inr ge ↦ inl (omega (arith, ge)) ]

  -- the read part passes
  part-passed : (kind : Kind) (j : ℕ) → IsClient n j
      → IfSome (read_part now kind j) (IsPartPassed world.key (greatest st).version (next_of i reply))
  part-passed Write j c = tt
  part-passed Read j c =
      let held = h.held j c in
      let mem = memory-now j c in
      let time : time_of (memory_at now j) ≡ count j (i ∷ arrived) = ap time_of mem ∙ time_of-mem world j (count j (i ∷ arrived)) in
      let counts : timestamp_at (version_at st j).version j ≡ count j handled =
      held.version.timestamps j c ∙ count-upto j (count j handled) arrived held.most in
      let bounds = near j c in
      record {
        known_right = held.right;
        mem_right = subst (λ (x : Option Mem). is_mem_right world.key j x ≡ true) (sym mem)
            (mem_of-right world j (count j (i ∷ arrived)));
        latest = time ∙ sym (next-version.timestamps j c);
        at_most = at_most-tail n (version_at st j).version (greatest st).version (upto j (count j handled) arrived) h.settled held.version
            (greatest-version n world st arrived handled h) (h.covers j c);
        recent = recently (timestamp_at (version_at st j).version j) (time_of (memory_at now j))
            (omega (arith, time, counts, bounds.0)) (omega (arith, time, counts, bounds.1));
      }

  part-answers : (kind : Kind) (j : ℕ) → IsClient n j → IfSome (read_part now kind j) (IsReadOf world (i ∷ arrived))
  part-answers Write j c = tt
  part-answers Read j c =
      let mem = memory-now j c in
      record {
        asof = ap time_of mem ∙ time_of-mem world j (count j (i ∷ arrived));
        value = ap value_of mem ∙ value_of-mem world j (count j (i ∷ arrived));
      }

  part-fits : (kind : Kind) (j : ℕ) → is_part_for kind j (read_part now kind j) ≡ true
  part-fits Write j = refl
  part-fits Read j = eq-eqb j j refl

  -- the client takes the reply
  pub accepted : IsAccepted n world i arrived (replied (remembered st i (next_submit world arrived i)) (next_submit world arrived i))
  accepted =
      let kind : Kind = world.kind i (suc (count i arrived)) in
      let register : ℕ = world.register i (suc (count i arrived)) in
      let t = count i arrived in
      let own-front : IsTail (upto i t arrived) h.settled =
      subst (λ (x : ℕ). IsTail (upto i x arrived) h.settled) (sym free) (h.covers i client) in
      let settled-own : count i h.settled ≡ t =
      omega (arith, counted n world st arrived handled h i, settled-free n world st arrived handled h i client free) in
      let greater = greatest-version n world st arrived handled h in
      record {
        passed = λ own op version kinds registers. record {
          part_fits =
              subst (λ (x : Kind). is_part_for x op.register (read_part now kind register) ≡ true) (sym kinds)
              (subst (λ (x : ℕ). is_part_for kind x (read_part now kind register) ≡ true) (sym registers) (part-fits kind register));
          known_right = (h.held st.c h.in_range.c_in_range).right;
          own_at_most = at_most-tail n own (greatest st).version (upto i t arrived) h.settled version greater own-front;
          own_counted =
              version.timestamps i client ∙ count-upto i t arrived (omega arith) ∙ sym settled-own ∙ sym (greater.timestamps i client);
          tuples_passed = tuples-passed;
          part_passed = part-passed kind register message.register_in_range;
        };
        next = next-version;
        answer = part-answers kind register message.register_in_range;
      }
