-- Each message of a list is carried by a link.
use Rattle.std.proofs.Common.{◌≡◌, ◌<◌, ℕ, zero, suc, List, [], ◌∷◌, length, get_or, subst, sym, arith}
use Rattle.faust_types.specs.declared.outcome.Post.{Post}
use Rattle.faust_link.specs.Frames.{IsFrame}
use Rattle.faust_node.specs.Sending.{AreCarried}

pub post-carried : (posts : List Post) (k : ℕ) (post : Post) → AreCarried posts → k < length posts → post ≡ get_or posts k post
    → IsFrame post.bytes
post-carried [] k post all inside is = absurd (omega (arith, inside))
post-carried (x ∷ xs) zero post all inside is = subst (λ (p : Post). IsFrame p.bytes) (sym is) all.0
post-carried (x ∷ xs) (suc k) post all inside is = post-carried xs k post all.1 (omega (arith, inside)) is
