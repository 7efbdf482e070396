use Rattle.std.proofs.Common.{◌<◌, length, arith, bit_xor, get_or}
use Rattle.std.proofs.lemmas.List.{get_or_default}
use Rattle.std.proofs.lemmas.List.Edits.{map_over_more}
use Rattle.faust_hash.proofs.keyed.masked.Goals as goal

pub loop-byte-preserved : goal.loop-byte-preserved
loop-byte-preserved c =
    let i = c.loop-byte.byte-index in
    let within : i < length c.args.block.now = omega arith in
    let inside : i < length c.loop-byte.byte-items = omega arith in
    map_over_more (λ byte. bit_xor byte c.args.pad) c.args.block.now c.loop-byte.byte-items i
    (get_or c.loop-byte.byte-items i 0) within c.loop-byte.invariant
    (get_or_default c.loop-byte.byte-items i 0 (get_or c.loop-byte.byte-items i 0) inside)
