use Rattle.std.proofs.Common.{◌≡◌, ◌-◌, ◌≤◌, ◌++◌, length, drop, map}
use Rattle.faust_text.specs.Tokens.{token_place, token_rests}
use Rattle.faust_text.proofs.token.tokens.Given as goal

abbrev pub invariant-loop-tokens : goal.invariant-loop-tokens
invariant-loop-tokens l = record {
  within : l.from ≤ length l.line;
  so_far : l.tokens ++ map (token_place l.line) (token_rests (drop l.from l.line)) ≡ map (token_place l.line) (token_rests l.line);
}

abbrev pub decreases-loop-tokens : goal.decreases-loop-tokens
decreases-loop-tokens l = length l.line - l.from
