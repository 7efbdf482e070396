-- What stands behind the settled part of an honest server's history.
use Rattle.std.proofs.Common.{◌≡◌, ℕ, ◌+◌, ◌≤◌, List, sym, ap, ◌∙◌, subst, arith}
use Rattle.faust_types.specs.Clients.{IsClient}
use Rattle.faust_types.specs.Versions.{digest_at}
use Rattle.faust_hash.specs.Chain.{chain_of}
use Rattle.faust_server.specs.Rows.{State, version_at, greatest}
use Rattle.faust_lists.specs.Lists.{count, upto, last_to, AreClients, IsTail}
use Rattle.faust_lists.specs.Walks.{IsVersionOf}
use Rattle.faust_lists.proofs.Tails.{count-tail, AreClients-front, count-append, tail-append}
use Rattle.faust_lists.proofs.Fronts.{count-upto, upto-stable, upto-upto}
use Rattle.faust_honest.specs.World.{World}
use Rattle.faust_honest.specs.Honest.{IsHonest}

module _ (n : ℕ) (world : World) (st : State) (arrived handled : List ℕ) (h : IsHonest n world st arrived handled) where
  pub counted : (k : ℕ) → count k arrived ≡ count k h.after + count k h.settled
  counted k = ap (λ (z : List ℕ). count k z) h.split ∙ count-append k h.after h.settled

  pub settled-tail : IsTail h.settled arrived
  settled-tail = subst (λ (z : List ℕ). IsTail h.settled z) (sym h.split) (tail-append h.after h.settled)

  pub clients-after : AreClients n h.after
  clients-after = AreClients-front n h.after h.settled (subst (λ (z : List ℕ). AreClients n z) h.split h.clients)

  -- each COMMIT that was handled is settled
  pub reached : (k : ℕ) → IsClient n k → count k handled ≤ count k h.settled
  reached k c =
      let t = count k handled in
      omega (arith, count-upto k t arrived (h.held k c).most, count-tail k (upto k t arrived) h.settled (h.covers k c))

  -- behind it stands at most one operation of each client, the one that isn't committed
  pub once : (k : ℕ) → IsClient n k → count k h.after ≤ 1
  once k c = omega (arith, counted k, reached k c, (h.held k c).least)

  pub settled-counts : (k : ℕ) → IsClient n k → 1 ≤ count k h.after → count k h.settled ≡ count k handled
  settled-counts k c some = omega (arith, counted k, reached k c, (h.held k c).least, some)

  pub settled-free : (k : ℕ) → IsClient n k → count k arrived ≡ count k handled → count k h.after ≡ 0
  settled-free k c free = omega (arith, counted k, reached k c, free)

  -- where all settled operations of a client are committed, the last of them ends its committed history
  pub last-settled : (k : ℕ) → count k h.settled ≡ count k handled → last_to k h.settled ≡ upto k (count k handled) arrived
  last-settled k same =
      ap (λ (t : ℕ). upto k t h.settled) same
      ∙ sym (upto-stable k (count k handled) h.settled arrived settled-tail (omega (arith, same)))

  -- the own digest of a committed version
  pub own-digest : (k : ℕ) → IsClient n k → digest_at (version_at st k).version k ≡ chain_of (upto k (count k handled) arrived)
  own-digest k c =
      let own = h.held k c in
      let t = count k handled in
      let front : List ℕ = upto k t arrived in
      let whole : last_to k front ≡ front =
      ap (λ (z : ℕ). upto k z front) (count-upto k t arrived own.most) ∙ upto-upto k t t arrived (omega arith) own.most in
      own.version.digests k c ∙ ap chain_of whole

  -- the version of c is that of the settled part, which ends with c
  pub greatest-version : IsVersionOf n (greatest st).version h.settled
  greatest-version =
      subst (λ (z : List ℕ). IsVersionOf n (greatest st).version z) (sym h.leads) (h.held st.c h.in_range.c_in_range).version

  pub greatest-last : last_to st.c h.settled ≡ h.settled
  greatest-last =
      let t = count st.c handled in
      let own = h.held st.c h.in_range.c_in_range in
      let same : count st.c h.settled ≡ t = ap (λ (z : List ℕ). count st.c z) h.leads ∙ count-upto st.c t arrived own.most in
      last-settled st.c same ∙ sym h.leads
