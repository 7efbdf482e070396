use Rattle.std.proofs.Common.{ℕ, sym, subst}
use Rattle.faust_types.specs.Ranges.{IsSubmitFor}
use Rattle.faust_server.proofs.server.tests.write_behind.Goals as goal

pub submit-requires-clause-message : goal.submit-requires-clause-message
submit-requires-clause-message c = subst (λ (n : ℕ). IsSubmitFor n c.in_ok-m.m) (sym c.requires.two) c.in_ok-m.ensures
