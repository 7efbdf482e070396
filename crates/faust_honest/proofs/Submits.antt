-- The row SUBMIT keeps what an honest server holds.
use Rattle.std.proofs.Common.{◌≡◌, ℕ, ◌-◌, suc, true, false, List, [], ◌∷◌, ◌++◌, None, Ok, nat_lt, refl, sym, ap, ◌∙◌, subst, inl, inr, arith}
use Rattle.std.proofs.lemmas.Bool.{cases_eq, lt-ltb}
use Rattle.std.proofs.lemmas.List.{get_or-set_same, get_or-set_other}
use Rattle.faust_types.specs.Clients.{IsClient}
use Rattle.faust_types.specs.Ranges.{IsSubmitFor}
use Rattle.faust_types.specs.declared.message.Tuple.{Tuple}
use Rattle.faust_types.specs.declared.message.Submit.{Submit}
use Rattle.faust_server.specs.Rows.{State, first_turn, memory_at, version_at, proof_at, turn_at, tuple_of, remembered, appended, served, submitted}
use Rattle.faust_server.specs.declared.turn.Turn.{Turn}
use Rattle.faust_server.proofs.Rows.{alone-taken, served-in_range}
use Rattle.faust_lists.specs.Lists.{count, upto, IsTail}
use Rattle.faust_lists.proofs.Counts.{count-own, count-other, upto-more}
use Rattle.faust_honest.specs.World.{World}
use Rattle.faust_honest.specs.Honest.{mem_of, turn_of, tuple_at, pending_of, next_submit, IsHonest, IsHeld}
use Rattle.faust_honest.proofs.Held.{held-along, turn_of-free, turn_with, renewed-mem}

module _ (n : ℕ) (world : World) (st : State) (arrived handled : List ℕ) (h : IsHonest n world st arrived handled) (i : ℕ)
    (client : IsClient n i) (message : IsSubmitFor n (next_submit world arrived i)) (free : count i arrived ≡ count i handled) where
  own : IsHeld n world i (version_at st i) (proof_at st i) (turn_at st i) (memory_at st i) (count i arrived) (count i handled)
      (upto i (count i handled) arrived)
  own = h.held i client

  pub committed-turn : (turn_at st i).uncommitted ≡ false
  committed-turn =
      ap (λ (t : Turn). t.uncommitted) own.turn_is ∙ turn_of-free (count i arrived) (count i handled) (omega (arith, free))

  -- the SUBMIT is in turn
  pub taken : submitted st i (next_submit world arrived i) ≡ Ok (served st i (next_submit world arrived i))
  taken =
      let last : (turn_at st i).last ≡ count i arrived = ap (λ (t : Turn). t.last) own.turn_is in
      alone-taken st i (next_submit world arrived i) refl committed-turn (omega (arith, last))

  -- what is held of the client after it
  submitted-held : IsHeld n world i (version_at st i) (proof_at st i) (turn_of (suc (count i arrived)) (count i handled))
      (mem_of world i (suc (count i arrived))) (suc (count i arrived)) (count i handled) (upto i (count i handled) arrived)
  submitted-held = record {
    version = own.version;
    right = own.right;
    proven = own.proven;
    turn_is = refl;
    mem_is = refl;
    most = omega (arith, own.most);
    least = omega (arith, free);
  }

  state : State
  state = appended (remembered st i (next_submit world arrived i)) i (next_submit world arrived i)

  state-held : (k : ℕ) → IsClient n k → IsHeld n world k (version_at state k) (proof_at state k) (turn_at state k) (memory_at state k)
      (count k (i ∷ arrived)) (count k handled) (upto k (count k handled) (i ∷ arrived))
  unfolding state
  state-held k within =
      let front : upto k (count k handled) (i ∷ arrived) ≡ upto k (count k handled) arrived =
      upto-more k (count k handled) i arrived (h.held k within).most in
      elim (cases_eq k i) [
        | inl e ↦
            let t : ℕ = suc (count i arrived) in
            let busy : true ≡ nat_lt (count i handled) t = sym (lt-ltb (count i handled) t (omega (arith, own.most))) in
            subst (λ (z : ℕ). IsHeld n world z (version_at state z) (proof_at state z) (turn_at state z) (memory_at state z)
            (count z (i ∷ arrived)) (count z handled) (upto z (count z handled) (i ∷ arrived))) (sym e)
            (held-along n world i (version_at st i) (version_at state i) (proof_at st i) (proof_at state i)
            (turn_of t (count i handled)) (turn_at state i) (mem_of world i t) (memory_at state i)
            t (count i (i ∷ arrived)) (count i handled) (count i handled)
            (upto i (count i handled) arrived) (upto i (count i handled) (i ∷ arrived))
            refl refl
            (get_or-set_same st.turns (i - 1) _ first_turn (omega (arith, client.from_one, client.to_n, h.in_range.turns_paired))
            ∙ ap (turn_with t) busy)
            (get_or-set_same st.memory (i - 1) _ None (omega (arith, client.from_one, client.to_n, h.in_range.memory_paired))
            ∙ renewed-mem world i (count i arrived) (memory_at st i) own.mem_is)
            (count-own i i arrived refl) refl
            (upto-more i (count i handled) i arrived own.most)
            submitted-held)
        | inr ne ↦
            let apart : k - 1 ≡ i - 1 → ⊥ = λ e. ne (omega (arith, e, within.from_one, client.from_one)) in
            held-along n world k (version_at st k) (version_at state k) (proof_at st k) (proof_at state k) (turn_at st k)
            (turn_at state k)
            (memory_at st k) (memory_at state k) (count k arrived) (count k (i ∷ arrived)) (count k handled) (count k handled)
            (upto k (count k handled) arrived) (upto k (count k handled) (i ∷ arrived))
            refl refl
            (get_or-set_other st.turns (i - 1) (k - 1) _ first_turn apart)
            (get_or-set_other st.memory (i - 1) (k - 1) _ None apart)
            (count-other k i arrived (λ e. ne (sym e))) refl front (h.held k within)
      ]

  -- the state after the row
  pub honest : IsHonest n world (served st i (next_submit world arrived i)).state (i ∷ arrived) handled
  unfolding state
  honest =
      let m : Submit = next_submit world arrived i in
      let last : List ℕ → List Tuple = λ (w : List ℕ). pending_of world h.settled h.after ++ tuple_at world i (suc (count i w)) ∷ [] in
      record {
        in_range = (served-in_range n st i m h.in_range client message committed-turn).state_in_range;
        clients = (client, h.clients);
        after = i ∷ h.after;
        settled = h.settled;
        split = ap (λ (z : List ℕ). i ∷ z) h.split;
        leads = h.leads ∙ sym (upto-more st.c (count st.c handled) i arrived (h.held st.c h.in_range.c_in_range).most);
        covers = λ k c.
            subst (λ (z : List ℕ). IsTail z h.settled) (sym (upto-more k (count k handled) i arrived (h.held k c).most)) (h.covers k c);
        pending = ap (λ (z : List Tuple). z ++ tuple_of i m ∷ []) h.pending ∙ ap last h.split;
        held = λ k c. state-held k c;
      }
