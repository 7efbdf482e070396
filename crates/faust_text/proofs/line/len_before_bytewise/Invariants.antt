use Rattle.std.proofs.Common.{◌≡◌, ◌+◌, drop}
use Rattle.faust_text.specs.Tokens.{len_before}
use Rattle.faust_text.proofs.line.len_before_bytewise.Given as goal

abbrev pub invariant-loop-at : goal.invariant-loop-at
invariant-loop-at l = l.at + len_before l.kind (drop l.at l.bytes) ≡ len_before l.kind l.bytes
