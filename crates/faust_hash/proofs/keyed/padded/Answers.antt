use Rattle.std.proofs.Common.{ℕ, List, ◌++◌, length, drop, replicate, ap, ◌∙◌}
use Rattle.faust_hash.proofs.Lists.{zeros_after}
use Rattle.faust_hash.proofs.keyed.padded.Goals as goal

pub returns : goal.returns
returns c =
    let bytes = c.args.bytes.now in
    ap (λ (front : List ℕ). front ++ drop (length bytes) (replicate 64 0)) c.copy_from_slice.ensures.after
    ∙ ap (λ (rest : List ℕ). bytes ++ rest) (zeros_after (length bytes) 64)
