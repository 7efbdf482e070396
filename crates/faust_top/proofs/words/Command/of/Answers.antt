use Rattle.std.proofs.Common.{arith, sym}
use Rattle.std.specs.Prelude.{string_bytes}
use Rattle.faust_top.proofs.CommandLaws.{other_words}
use Rattle.faust_top.proofs.words.Command.of.Goals as goal

pub returns-in_default-2 : goal.returns-in_default-2
returns-in_default-2 c =
    sym (other_words (λ w. string_bytes w) c.args.words.now (λ one. let low = c.in_default.len_at_least in
    omega (arith, one, low)) (λ four. let high = c.in_default.len_below in omega (arith, four, high)))

pub returns-in_default-3 : goal.returns-in_default-3
returns-in_default-3 c =
    sym (other_words (λ w. string_bytes w) c.args.words.now (λ one. let low = c.in_default.len_at_least in
    omega (arith, one, low)) (λ four. let low = c.in_default.len_at_least in omega (arith, four, low)))
