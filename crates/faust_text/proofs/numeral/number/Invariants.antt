use Rattle.std.proofs.Common.{◌≡◌, ◌<◌, ◌^◌, take}
use Rattle.faust_text.specs.Numbers.{worth}
use Rattle.faust_text.proofs.numeral.number.Given as goal

abbrev pub invariant-loop-digit : goal.invariant-loop-digit
invariant-loop-digit l = record { fits : l.worth < 2 ^ 64; so_far : l.worth ≡ worth (take l.digit-index l.token) }
