use Rattle.std.proofs.Common.{ℕ, sym, subst}
use Rattle.faust_types.specs.Ranges.{IsCommitFor}
use Rattle.faust_server.proofs.server.tests.commit.Goals as goal

pub commit-requires-clause-message : goal.commit-requires-clause-message
commit-requires-clause-message g c = subst (λ (n : ℕ). IsCommitFor n c.in_ok-m.m) (sym c.requires.two) c.in_ok-m.ensures
