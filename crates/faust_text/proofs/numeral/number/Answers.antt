use Rattle.std.proofs.Common.{◌≡◌, ◌+◌, take, Some, true, sym, ap, ◌∙◌, arith}
use Rattle.std.proofs.lemmas.List.{take_all}
use Rattle.faust_text.specs.Numbers.{is_number, worth}
use Rattle.faust_text.proofs.NumberLaws.{number_of-fits, number_of-beyond, worth-more}
use Rattle.faust_text.proofs.numeral.number.Goals as goal

pub returns-in_err-checked_mul : goal.returns-in_err-checked_mul
returns-in_err-checked_mul c =
    let token = c.args.token.now in
    let is : is_number token ≡ true = sym c.is_number.ensures ∙ c.if-not-is_number.false in
    let more = worth-more token c.loop-digit.digit-index is (omega arith) in
    c.from_residual.ensures ∙ sym (number_of-beyond token (c.loop-digit.digit-index + 1) is (omega (arith, c.in_err-checked_mul.ensures)))

pub returns-in_err-worth : goal.returns-in_err-worth
returns-in_err-worth c =
    let token = c.args.token.now in
    let is : is_number token ≡ true = sym c.is_number.ensures ∙ c.if-not-is_number.false in
    let more = worth-more token c.loop-digit.digit-index is (omega arith) in
    c.from_residual-in_err-worth.ensures
    ∙ sym (number_of-beyond token (c.loop-digit.digit-index + 1) is
    (omega (arith, c.in_err-worth.ensures, c.in_ok-checked_mul.ensures)))

pub loop-digit-preserved : goal.loop-digit-preserved
loop-digit-preserved c =
    let token = c.args.token.now in
    let is : is_number token ≡ true = sym c.is_number.ensures ∙ c.if-not-is_number.false in
    let more = worth-more token c.loop-digit.digit-index is (omega arith) in
    let so_far : c.loop-digit.worth ≡ worth (take c.loop-digit.digit-index token) = c.loop-digit.invariant.so_far in
    let next : c.in_ok-worth.worth ≡ worth (take (c.loop-digit.digit-index + 1) token) =
    omega (arith, c.in_ok-worth.ensures, c.in_ok-checked_mul.ensures) in
    record { fits = omega (arith, c.in_ok-worth.ensures, c.in_ok-checked_mul.ensures); so_far = next }

pub returns : goal.returns
returns c =
    let token = c.args.token.now in
    let is : is_number token ≡ true = sym c.is_number.ensures ∙ c.if-not-is_number.false in
    let whole : c.loop-digit.worth ≡ worth token = c.loop-digit.invariant.so_far
    ∙ ap worth (take_all c.loop-digit.digit-index token (omega arith)) in
    ap Some whole ∙ sym (number_of-fits token is (omega arith))
