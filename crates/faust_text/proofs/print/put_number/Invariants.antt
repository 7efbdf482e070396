use Rattle.std.proofs.Common.{◌≡◌, ◌≤◌, ◌<◌, ◌^◌, ◌++◌, length, drop}
use Rattle.std.specs.Fmt.{decimal}
use Rattle.faust_text.proofs.print.put_number.Given as goal

abbrev pub invariant-loop-rest : goal.invariant-loop-rest
invariant-loop-rest l = record {
  sized : length l.digits ≡ 20;
  some : 1 ≤ l.at;
  within : l.at ≤ 20;
  fits : l.rest < 10 ^ l.at;
  small : l.rest < 2 ^ 64;
  so_far : decimal l.rest ++ drop l.at l.digits ≡ decimal l.x;
}

abbrev pub decreases-loop-rest : goal.decreases-loop-rest
decreases-loop-rest l = l.rest
