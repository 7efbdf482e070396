-- A REPLY that came is in range for as many clients as its version has.
use Rattle.std.proofs.Common.{ℕ, sym, subst}
use Rattle.faust_types.specs.Ranges.{IsReplyFor}
use Rattle.faust_types.specs.declared.message.Reply.{Reply}
use Rattle.faust_audit.specs.Watching.{IsCameFor}

pub came_for : (n : ℕ) (reply : Reply) → IsReplyFor n reply → IsCameFor n reply
came_for n reply range =
    let sized = range.version_known.version_in_range.count in
    record { in_range = range; sized = sized; own_range = subst (λ (k : ℕ). IsReplyFor k reply) (sym sized) range }
