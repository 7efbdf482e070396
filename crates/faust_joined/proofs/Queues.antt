-- Messages on their way to the server: one more is sent, and an operation more arrives.
use Rattle.std.proofs.Common.{◌+◌, ◌≤◌, ℕ, suc, List, [], ◌∷◌, ◌++◌, Option, Some, None, IfSome, sym, ap, subst, arith}
use Rattle.faust_types.specs.declared.config.Config.{Config}
use Rattle.faust_types.specs.declared.message.Submit.{Submit}
use Rattle.faust_types.specs.declared.message.Commit.{Commit}
use Rattle.faust_lists.proofs.Counts.{count-le-cons, upto-more}
use Rattle.faust_honest.specs.World.{World, IsCommitOf}
use Rattle.faust_agent.specs.Deeds.{Sent, submits, commits}
use Rattle.faust_joined.specs.Joined.{IsCommitDue, IsCommitMade, IsHeldBack, IsSubmitDue, Lead, rides}

-- messages lead to no fewer SUBMITs
pub lead-le : (config : Config) (world : World) (arrived : List ℕ) (k a m : ℕ) (queue : List Sent) (b e : ℕ)
    → Lead config world arrived k a m queue b e → a ≤ b
lead-le config world arrived k a m [] b e lead = omega (arith, lead.0)
lead-le config world arrived k a m (submits s ∷ rest) b e lead =
    omega (arith, lead-le config world arrived k (suc a) (m + rides s.commit) rest b e lead.1)
lead-le config world arrived k a m (commits c ∷ rest) b e lead = lead-le config world arrived k a (suc m) rest b e lead.1

-- a SUBMIT is sent, and a COMMIT
pub lead-submit : (config : Config) (world : World) (arrived : List ℕ) (k a m : ℕ) (queue : List Sent) (b e : ℕ) (s : Submit)
    → Lead config world arrived k a m queue b e → IsSubmitDue config world arrived k b e s
    → Lead config world arrived k a m (queue ++ submits s ∷ []) (suc b) (e + rides s.commit)
lead-submit config world arrived k a m [] b e s lead due = (
  subst (λ (x : ℕ). IsSubmitDue config world arrived k x m s) (sym lead.0)
      (subst (λ (y : ℕ). IsSubmitDue config world arrived k b y s) (sym lead.1) due),
  (ap (λ (x : ℕ). suc x) lead.0, ap (λ (y : ℕ). y + rides s.commit) lead.1),
)
lead-submit config world arrived k a m (submits x ∷ rest) b e s lead due =
    (lead.0, lead-submit config world arrived k (suc a) (m + rides x.commit) rest b e s lead.1 due)
lead-submit config world arrived k a m (commits x ∷ rest) b e s lead due =
    (lead.0, lead-submit config world arrived k a (suc m) rest b e s lead.1 due)

pub lead-commit : (config : Config) (world : World) (arrived : List ℕ) (k a m : ℕ) (queue : List Sent) (b e : ℕ) (c : Commit)
    → Lead config world arrived k a m queue b e → IsCommitDue config world arrived k b e c
    → Lead config world arrived k a m (queue ++ commits c ∷ []) b (suc e)
lead-commit config world arrived k a m [] b e c lead due = (
  subst (λ (x : ℕ). IsCommitDue config world arrived k x m c) (sym lead.0)
      (subst (λ (y : ℕ). IsCommitDue config world arrived k b y c) (sym lead.1) due),
  (lead.0, ap (λ (y : ℕ). suc y) lead.1),
)
lead-commit config world arrived k a m (submits x ∷ rest) b e c lead due =
    (lead.0, lead-commit config world arrived k (suc a) (m + rides x.commit) rest b e c lead.1 due)
lead-commit config world arrived k a m (commits x ∷ rest) b e c lead due =
    (lead.0, lead-commit config world arrived k a (suc m) rest b e c lead.1 due)

-- another operation arrives
pub made-more : (n : ℕ) (world : World) (arrived : List ℕ) (k t x : ℕ) (c : Commit) → IsCommitMade n world arrived k t c
    → IsCommitMade n world (x ∷ arrived) k t c
made-more n world arrived k t x c made = record {
  has_arrived = omega (arith, made.has_arrived, count-le-cons k x arrived);
  is_commit = subst (λ (w : List ℕ). IsCommitOf n world k w c) (sym (upto-more k t x arrived made.has_arrived)) made.is_commit;
}

rides-more : (n : ℕ) (world : World) (arrived : List ℕ) (k t x : ℕ) (c : Option Commit) → IfSome c (IsCommitMade n world arrived k t)
    → IfSome c (IsCommitMade n world (x ∷ arrived) k t)
rides-more n world arrived k t x None made = tt
rides-more n world arrived k t x (Some c) made = made-more n world arrived k t x c made

pub lead-more : (config : Config) (world : World) (arrived : List ℕ) (k a m : ℕ) (queue : List Sent) (b e x : ℕ)
    → Lead config world arrived k a m queue b e → Lead config world (x ∷ arrived) k a m queue b e
lead-more config world arrived k a m [] b e x lead = lead
lead-more config world arrived k a m (submits s ∷ rest) b e x lead = (
  record {
    is_next = lead.0.is_next;
    in_range = lead.0.in_range;
    balanced = lead.0.balanced;
    rides_rightly = rides-more config.clients world arrived k a x s.commit lead.0.rides_rightly;
  },
  lead-more config world arrived k (suc a) (m + rides s.commit) rest b e x lead.1,
)
lead-more config world arrived k a m (commits c ∷ rest) b e x lead = (
  record {
    in_range = lead.0.in_range;
    balanced = lead.0.balanced;
    is_made = made-more config.clients world arrived k a x c lead.0.is_made;
  },
  lead-more config world arrived k a (suc m) rest b e x lead.1,
)

pub held-more : (n : ℕ) (world : World) (arrived : List ℕ) (k done committed x : ℕ) (held : Option Commit)
    → IsHeldBack n world arrived k done committed held → IsHeldBack n world (x ∷ arrived) k done committed held
held-more n world arrived k done committed x None back = back
held-more n world arrived k done committed x (Some c) back = (back.0, made-more n world arrived k done x c back.1)
