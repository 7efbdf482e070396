-- The row COMMIT keeps what an honest server holds.
use Rattle.std.proofs.Common.{◌≡◌, ℕ, ◌-◌, ◌<◌, ◌≤◌, ◌&&◌, suc, Bool, true, false, not, List, ◌∷◌, ◌++◌, Some, None, Ok, length, get_or, refl, sym, ap, ◌∙◌, subst, inl, inr, arith}
use Rattle.std.proofs.lemmas.Bool.{cases_eq, cases_lt, cond-true, cond-false, and_from, or_right, le-ltb, false_from_ne_true}
use Rattle.std.proofs.lemmas.List.{append_assoc, get_or-set_same, get_or-set_other}
use Rattle.faust_types.specs.Clients.{IsClient}
use Rattle.faust_types.specs.Messages.{unmade}
use Rattle.faust_types.specs.Ranges.{IsCommitFor}
use Rattle.faust_types.specs.Versions.{Vector, timestamp_at, is_initial}
use Rattle.faust_types.specs.declared.message.Known.{Known}
use Rattle.faust_types.specs.declared.message.Tuple.{Tuple}
use Rattle.faust_types.specs.declared.message.Commit.{Commit}
use Rattle.faust_hash.specs.Tag.{is_same}
use Rattle.faust_hash.proofs.Lists.{is_same_tells}
use Rattle.faust_tags.specs.Bodies.{commit_body, tag_of}
use Rattle.faust_server.specs.Ahead.{covers, is_ahead}
use Rattle.faust_server.specs.Rows.{State, first_turn, memory_at, version_at, proof_at, turn_at, greatest, behind, without, advanced, settled, committed}
use Rattle.faust_server.specs.declared.turn.Turn.{Turn}
use Rattle.faust_server.proofs.Ordering.{covers-true, covers-from}
use Rattle.faust_server.proofs.Kept.{IsStateFor-led, IsStateFor-settled}
use Rattle.faust_server.proofs.Rows.{committed-taken}
use Rattle.faust_lists.specs.Lists.{count, upto, IsTail}
use Rattle.faust_lists.specs.Walks.{IsVersionOf}
use Rattle.faust_lists.proofs.Counts.{count-own, count-other}
use Rattle.faust_lists.proofs.Tails.{tail-refl, tail-trans, count-tail, count-append, tail-append, IsOnce, once-from}
use Rattle.faust_lists.proofs.Fronts.{count-upto, upto-own, upto-stable, upto-tail}
use Rattle.faust_honest.specs.World.{World, IsCommitOf}
use Rattle.faust_honest.specs.Honest.{turn_of, pending_of, IsHonest, IsHeld}
use Rattle.faust_honest.proofs.Pending.{behind-pending, without-pending}
use Rattle.faust_honest.proofs.Held.{held-along, turn_of-busy, turn_with}
use Rattle.faust_honest.proofs.Standing.{counted, settled-tail, once, greatest-version}

-- the timestamps of a longer history are at least those of a front
covers-tail : (n : ℕ) (v x : Vector) (u w : List ℕ) → IsVersionOf n v u → IsVersionOf n x w → IsTail u w
    → covers x.timestamps v.timestamps ≡ true
covers-tail n v x u w h i front = covers-from x.timestamps v.timestamps (λ k lt.
    let c : IsClient n (suc k) = record { from_one = omega arith; to_n = omega (arith, lt, i.sized) } in
    let back : suc k - 1 ≡ k = omega arith in
    let le : timestamp_at v (suc k) ≤ timestamp_at x (suc k) =
    omega (arith, h.timestamps (suc k) c, i.timestamps (suc k) c, count-tail (suc k) u w front) in
    subst (λ (z : ℕ). get_or v.timestamps z 0 ≤ get_or x.timestamps z 0) back le)

-- where a client has fewer operations, they aren't
covers-fewer : (n : ℕ) (v x : Vector) (u w : List ℕ) (k : ℕ) → IsVersionOf n v u → IsVersionOf n x w → IsClient n k
    → count k u < count k w → covers v.timestamps x.timestamps ≡ false
covers-fewer n v x u w k h i c lt = false_from_ne_true _ (λ holds.
    let within : k - 1 < length v.timestamps = omega (arith, c.from_one, c.to_n, h.sized) in
    let le : timestamp_at x k ≤ timestamp_at v k = covers-true v.timestamps x.timestamps holds (k - 1) within in
    absurd (omega (arith, le, lt, h.timestamps k c, i.timestamps k c)))

and-false : (a b : Bool) → b ≡ false → (a && b) ≡ false
and-false true b e = e
and-false false b e = refl

module _ (n : ℕ) (world : World) (st : State) (arrived handled : List ℕ) (h : IsHonest n world st arrived handled) (i : ℕ) (m : Commit)
    (client : IsClient n i) (message : IsCommitFor n m) (busy : count i arrived ≡ suc (count i handled))
    (is : IsCommitOf n world i (upto i (count i arrived) arrived) m) where
  own : IsHeld n world i (version_at st i) (proof_at st i) (turn_at st i) (memory_at st i) (count i arrived) (count i handled)
      (upto i (count i handled) arrived)
  own = h.held i client

  -- the COMMIT is in turn
  pub taken : committed st i m ≡ Ok (settled (advanced st i m.version) i m)
  taken =
      let uncommitted : (turn_at st i).uncommitted ≡ true =
      ap (λ (t : Turn). t.uncommitted) own.turn_is ∙ turn_of-busy (count i arrived) (count i handled) (omega (arith, busy)) in
      let last : (turn_at st i).last ≡ count i arrived = ap (λ (t : Turn). t.last) own.turn_is in
      let number : timestamp_at m.version i ≡ count i arrived =
      is.version.timestamps i client ∙ count-upto i (count i arrived) arrived (omega arith) in
      committed-taken st i m uncommitted (number ∙ sym last)

  commits : count i (i ∷ handled) ≡ count i arrived
  commits = count-own i i handled refl ∙ sym busy

  known : Known
  known = record { maker = i; version = m.version; tag = m.commit_tag }

  -- what is held of the client after it
  committed-held : IsHeld n world i known (Some m.proof_tag) (turn_of (count i arrived) (count i arrived)) (memory_at st i)
      (count i arrived) (count i arrived) (upto i (count i arrived) arrived)
  unfolding known
  committed-held =
      let right : is_same m.commit_tag (tag_of world.key (commit_body i m.version)) ≡ true =
      (is_same_tells m.commit_tag (tag_of world.key (commit_body i m.version))).1 is.commit_right in
      record {
        version = is.version;
        right = or_right (is_initial m.version) _ right;
        proven = is.proof_right;
        turn_is = refl;
        mem_is = own.mem_is;
        most = omega arith;
        least = omega arith;
      }

  turn-after : turn_with (turn_at st i).last false ≡ turn_of (count i arrived) (count i arrived)
  turn-after =
      let never : (turn_of (count i arrived) (count i arrived)).uncommitted ≡ false = le-ltb (count i arrived) (count i arrived)
      (omega arith) in
      ap (λ (t : Turn). turn_with t.last false) own.turn_is
      ∙ ap (turn_with (count i arrived)) (sym never)

  -- whatever becomes of c and of the list, each client is held right after both steps
  module _ (c : ℕ) (pending : List Tuple) where
    state : State
    state = settled (record st { c = c; pending = pending }) i m

    state-held : (k : ℕ) → IsClient n k → IsHeld n world k (version_at state k) (proof_at state k) (turn_at state k) (memory_at state k)
        (count k arrived) (count k (i ∷ handled)) (upto k (count k (i ∷ handled)) arrived)
    unfolding state known
    state-held k within = elim (cases_eq k i) [
      | inl e ↦
          subst (λ (z : ℕ). IsHeld n world z (version_at state z) (proof_at state z) (turn_at state z) (memory_at state z)
          (count z arrived) (count z (i ∷ handled)) (upto z (count z (i ∷ handled)) arrived)) (sym e)
          (held-along n world i known (version_at state i) (Some m.proof_tag) (proof_at state i)
          (turn_of (count i arrived) (count i arrived)) (turn_at state i) (memory_at st i) (memory_at state i)
          (count i arrived) (count i arrived) (count i arrived) (count i (i ∷ handled))
          (upto i (count i arrived) arrived) (upto i (count i (i ∷ handled)) arrived)
          (get_or-set_same st.versions (i - 1) known (unmade 0) (omega (arith, client.from_one, client.to_n, h.in_range.versions_paired)))
          (get_or-set_same st.proofs (i - 1) (Some m.proof_tag) None
          (omega (arith, client.from_one, client.to_n, h.in_range.proofs_paired)))
          (get_or-set_same st.turns (i - 1) _ first_turn (omega (arith, client.from_one, client.to_n, h.in_range.turns_paired))
          ∙ turn-after)
          refl refl commits (ap (λ (t : ℕ). upto i t arrived) commits) committed-held)
      | inr ne ↦
          let apart : k - 1 ≡ i - 1 → ⊥ = λ e. ne (omega (arith, e, within.from_one, client.from_one)) in
          let same : count k (i ∷ handled) ≡ count k handled = count-other k i handled (λ e. ne (sym e)) in
          held-along n world k (version_at st k) (version_at state k) (proof_at st k) (proof_at state k) (turn_at st k) (turn_at state k)
          (memory_at st k) (memory_at state k) (count k arrived) (count k arrived) (count k handled) (count k (i ∷ handled))
          (upto k (count k handled) arrived) (upto k (count k (i ∷ handled)) arrived)
          (get_or-set_other st.versions (i - 1) (k - 1) known (unmade 0) apart)
          (get_or-set_other st.proofs (i - 1) (k - 1) (Some m.proof_tag) None apart)
          (get_or-set_other st.turns (i - 1) (k - 1) _ first_turn apart)
          refl refl same (ap (λ (t : ℕ). upto k t arrived) same) (h.held k within)
    ]

  -- the client's operation stands behind the settled part: its version goes beyond that of c
  module _ (o : IsOnce i h.after) where
    before : List ℕ
    before = o.older ++ h.settled

    whole : arrived ≡ o.newer ++ (i ∷ before)
    unfolding before
    whole = h.split ∙ ap (λ (z : List ℕ). z ++ h.settled) o.split ∙ append_assoc o.newer (i ∷ o.older) h.settled

    front : IsTail (i ∷ before) arrived
    front = subst (λ (z : List ℕ). IsTail (i ∷ before) z) (sym whole) (tail-append o.newer (i ∷ before))

    number : count i arrived ≡ suc (count i before)
    number =
        ap (λ (z : List ℕ). count i z) whole ∙ count-append i o.newer (i ∷ before)
        ∙ omega (arith, o.none_newer, count-own i i before refl)

    history : upto i (count i arrived) arrived ≡ i ∷ before
    history = ap (λ (t : ℕ). upto i t arrived) number ∙ upto-own i before arrived front

    settled-front : IsTail h.settled (i ∷ before)
    unfolding before
    settled-front = inr (tail-append o.older h.settled)

    version : IsVersionOf n m.version (i ∷ before)
    version = subst (λ (z : List ℕ). IsVersionOf n m.version z) history is.version

    settled-few : count i h.settled ≤ count i before
    unfolding before
    settled-few = omega (arith, count-append i o.older h.settled)

    ahead : is_ahead m.version.timestamps (greatest st).version.timestamps ≡ true
    ahead =
        let greater = greatest-version n world st arrived handled h in
        let more : count i (i ∷ before) ≡ suc (count i before) = count-own i i before refl in
        let fewer : count i h.settled < count i (i ∷ before) = omega (arith, more, settled-few) in
        and_from _ _ (covers-tail n (greatest st).version m.version h.settled (i ∷ before) greater version settled-front)
        (ap not (covers-fewer n (greatest st).version m.version h.settled (i ∷ before) i greater version client fewer))

    led-honest : IsHonest n world (settled (record st { c = i; pending = behind i st.pending }) i m) arrived (i ∷ handled)
    unfolding state before
    led-honest =
        let left : behind i st.pending ≡ pending_of world (i ∷ before) o.newer =
        ap (behind i) (h.pending ∙ ap (pending_of world h.settled) o.split)
        ∙ behind-pending world h.settled o.newer o.older i o.none_older in
        record {
          in_range = IsStateFor-settled n (record st { c = i; pending = behind i st.pending }) i m
              (IsStateFor-led n st i h.in_range client) client message;
          clients = h.clients;
          after = o.newer;
          settled = i ∷ before;
          split = whole;
          leads = sym (ap (λ (t : ℕ). upto i t arrived) commits ∙ history);
          covers = λ k c. elim (cases_eq k i) [
            | inl e ↦
                subst (λ (z : ℕ). IsTail (upto z (count z (i ∷ handled)) arrived) (i ∷ before)) (sym e)
                (subst (λ (z : List ℕ). IsTail z (i ∷ before)) (sym (ap (λ (t : ℕ). upto i t arrived) commits ∙ history))
                (tail-refl (i ∷ before)))
            | inr ne ↦
                subst (λ (t : ℕ). IsTail (upto k t arrived) (i ∷ before)) (sym (count-other k i handled (λ e. ne (sym e))))
                (tail-trans (upto k (count k handled) arrived) h.settled (i ∷ before) (h.covers k c) settled-front)
          ];
          pending =
              ap (without i) left ∙ without-pending world (i ∷ before) o.newer i o.none_newer;
          held = λ k c. state-held i (behind i st.pending) k c;
        }

    pub ahead-honest : IsHonest n world (settled (advanced st i m.version) i m) arrived (i ∷ handled)
    ahead-honest =
        let led : advanced st i m.version ≡ record st { c = i; pending = behind i st.pending } = cond-true _ _ _ ahead in
        subst (λ (z : State). IsHonest n world (settled z i m) arrived (i ∷ handled)) (sym led) led-honest

  -- it stands in the settled part: nothing moves
  module _ (none : count i h.after ≡ 0) where
    all-settled : count i h.settled ≡ count i arrived
    all-settled = omega (arith, none, counted n world st arrived handled h i)

    history-front : IsTail (upto i (count i arrived) arrived) h.settled
    history-front =
        subst (λ (z : List ℕ). IsTail z h.settled)
        (sym (upto-stable i (count i arrived) h.settled arrived (settled-tail n world st arrived handled h) (omega (arith, all-settled))))
        (upto-tail i (count i arrived) h.settled)

    not-ahead : is_ahead m.version.timestamps (greatest st).version.timestamps ≡ false
    not-ahead = and-false _ _ (ap not
        (covers-tail n m.version (greatest st).version (upto i (count i arrived) arrived) h.settled is.version
        (greatest-version n world st arrived handled h) history-front))

    other : st.c ≡ i → ⊥
    other e =
        let leads : h.settled ≡ upto i (count i handled) arrived = subst
        (λ (z : ℕ). h.settled ≡ upto z (count z handled) arrived) e h.leads in
        let few : count i h.settled ≡ count i handled =
        ap (λ (z : List ℕ). count i z) leads ∙ count-upto i (count i handled) arrived own.most in
        absurd (omega (arith, few, all-settled, busy))

    still-honest : IsHonest n world (settled st i m) arrived (i ∷ handled)
    unfolding state
    still-honest = record {
      in_range = IsStateFor-settled n st i m h.in_range client message;
      clients = h.clients;
      after = h.after;
      settled = h.settled;
      split = h.split;
      leads = h.leads ∙ ap (λ (t : ℕ). upto st.c t arrived) (sym (count-other st.c i handled (λ e. other (sym e))));
      covers = λ k c. elim (cases_eq k i) [
        | inl e ↦
            subst (λ (z : ℕ). IsTail (upto z (count z (i ∷ handled)) arrived) h.settled) (sym e)
            (subst (λ (t : ℕ). IsTail (upto i t arrived) h.settled) (sym commits) history-front)
        | inr ne ↦
            subst (λ (t : ℕ). IsTail (upto k t arrived) h.settled) (sym (count-other k i handled (λ e. ne (sym e)))) (h.covers k c)
      ];
      pending = ap (without i) h.pending ∙ without-pending world h.settled h.after i none;
      held = λ k c. state-held st.c st.pending k c;
    }

    pub settled-honest : IsHonest n world (settled (advanced st i m.version) i m) arrived (i ∷ handled)
    settled-honest =
        let same : advanced st i m.version ≡ st = cond-false _ _ _ not-ahead in
        subst (λ (z : State). IsHonest n world (settled z i m) arrived (i ∷ handled)) (sym same) still-honest

  -- the state after the row
  pub honest : IsHonest n world (settled (advanced st i m.version) i m) arrived (i ∷ handled)
  honest = elim (cases_lt (count i h.after) 1) [
    | inl few ↦ settled-honest (omega (arith, few))
    | inr some ↦ ahead-honest (once-from i h.after (omega (arith, some, once n world st arrived handled h i client)))
  ]
