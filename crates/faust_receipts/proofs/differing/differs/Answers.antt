use Rattle.std.proofs.Common.{◌≡◌, ◌+◌, ◌<◌, List, get_or, length, sym, ap, ◌∙◌, arith}
use Rattle.faust_receipts.specs.Comparing.{first_difference, told_among}
use Rattle.faust_node.specs.declared.receipt.Receipt.{Receipt}
use Rattle.faust_receipts.proofs.Passing.{user-named, user-passed}
use Rattle.faust_receipts.proofs.differing.differs.Goals as goal

pub returns-then-is_some : goal.returns-then-is_some
returns-then-is_some c =
    let entries = c.args.rec.now.entries in
    let all = c.args.receipts.now in
    let k = c.loop-place.place in
    let told : List Receipt = c.told-item.result in
    let within : k < length all = omega (arith, c.loop-place-test.true, ap length c.as_slice-told-items.ensures) in
    let is : told ≡ get_or all k told = c.told-item.is ∙ ap (λ (l : List (List Receipt)). get_or l k told) c.as_slice-told-items.ensures in
    let due : c.in_ok-line.line ≡ first_difference told (told_among (k + 1) entries) =
    c.in_ok-line.ensures ∙ ap (λ (l : List Receipt). first_difference l (told_among (k + 1) entries)) c.as_slice.ensures in
    user-named c.args.rec.now.config entries all k told told c.in_ok-line.line c.config-config.ensures.kept c.requires within is due
    (sym c.is_some.ensures ∙ c.if-is_some.true)
    ∙ sym c.loop-place.invariant

pub loop-place-preserved : goal.loop-place-preserved
loop-place-preserved c =
    let entries = c.args.rec.now.entries in
    let all = c.args.receipts.now in
    let k = c.loop-place.place in
    let told : List Receipt = c.told-item.result in
    let within : k < length all = omega (arith, c.loop-place-test.true, ap length c.as_slice-told-items.ensures) in
    let is : told ≡ get_or all k told = c.told-item.is ∙ ap (λ (l : List (List Receipt)). get_or l k told) c.as_slice-told-items.ensures in
    let due : c.in_ok-line.line ≡ first_difference told (told_among (k + 1) entries) =
    c.in_ok-line.ensures ∙ ap (λ (l : List Receipt). first_difference l (told_among (k + 1) entries)) c.as_slice.ensures in
    c.loop-place.invariant
    ∙ user-passed c.args.rec.now.config entries all k told told c.in_ok-line.line c.config-config.ensures.kept c.requires within is due
    (sym c.is_some.ensures ∙ c.if-is_some.false)
