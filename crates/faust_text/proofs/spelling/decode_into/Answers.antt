use Rattle.std.proofs.Common.{◌≡◌, ◌+◌, ◌*◌, ◌%◌, ◌<◌, ◌≤◌, length, max, refl, arith}
use Rattle.hex.specs.Hex.{encode_with}
use Rattle.faust_text.proofs.ValueLaws.{bytes_set, decoded-more, other-more}
use Rattle.faust_text.proofs.spelling.decode_into.Goals as goal

pub loop-i-init : goal.loop-i-init
unfolding encode_with
loop-i-init c = record {
  decoded = λ small. refl;
  bytes_each = λ k. omega (arith, c.type_inv.bytes k);
  other = λ great. absurd (omega arith);
}

pub loop-i-preserved : goal.loop-i-preserved
loop-i-preserved c =
    let i = c.loop-i.i in
    let high = c.worth-high.result in
    let low = c.worth-low.result in
    let greatest : c.max-greatest.result ≡ max c.loop-i.greatest (max high low) = omega (arith, c.max-greatest.ensures, c.max.ensures) in
    let sized : length c.args.digits.now ≡ 2 * length c.loop-i.bytes = omega arith in
    let below : i < length c.loop-i.bytes = omega arith in
    record {
      decoded = λ small. decoded-more c.args.digits.now c.loop-i.bytes i high low sized below c.worth-high.ensures c.worth-low.ensures
          (omega arith) (omega arith) (c.loop-i.invariant.decoded (omega arith));
      bytes_each = bytes_set c.loop-i.bytes i (high % 16 * 16 + low % 16) below (omega arith) c.loop-i.invariant.bytes_each;
      other = λ great. other-more c.args.digits.now i c.loop-i.greatest high low
          (omega arith) c.worth-high.ensures c.worth-low.ensures c.loop-i.invariant.other (omega arith);
    }
