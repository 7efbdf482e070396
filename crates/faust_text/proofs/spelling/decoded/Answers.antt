use Rattle.std.proofs.Common.{◌≡◌, ◌≤◌, ℕ, ◌<◌, List, length, get_or, sym, ap, ◌∙◌, subst, arith}
use Rattle.std.proofs.lemmas.List.{take-append-le, take_all}
use Rattle.hex.specs.Hex.{encode_lower}
use Rattle.faust_types.specs.Bytes.{AreBytes}
use Rattle.faust_text.proofs.ValueLaws.{not_spelled, odd_digits}
use Rattle.faust_text.proofs.spelling.decoded.Goals as goal

pub returns-then-digits-ne0 : goal.returns-then-digits-ne0
returns-then-digits-ne0 c = λ bytes are same. odd_digits c.args.digits.now bytes c.if-digits-ne0.true same

pub returns-then-decode_into : goal.returns-then-decode_into
returns-then-decode_into c =
    let made = c.decode_into.new.bytes in
    let few : c.in_ok-bytes.bytes.len ≤ length made = omega (arith, c.decode_into.auto.bytes, c.as_mut_slice.ensures.len) in
    let many : length made ≤ c.in_ok-bytes.bytes.len = omega (arith, c.decode_into.auto.bytes, c.as_mut_slice.ensures.len) in
    let is : c.from_vec.result ≡ made = (rw take-append-le at c.from_vec.ensures) ∙ take_all c.in_ok-bytes.bytes.len made many in (
      c.decode_into.ensures.digits c.if-decode_into.true ∙ ap encode_lower (sym is),
      subst (λ (xs : List ℕ). AreBytes xs) (sym is) c.decode_into.ensures.bytes_each,
    )

pub returns-else-decode_into : goal.returns-else-decode_into
returns-else-decode_into c = λ bytes are same. not_spelled c.args.digits.now bytes
    (c.decode_into.ensures.other c.if-decode_into.false) are same
