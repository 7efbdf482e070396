use Rattle.std.proofs.Common.{◌≡◌, ◌↔◌, Bool, IsTrue, sym, subst, rules}
use Rattle.faust_types.specs.Versions.{initial, clients_of, is_initial}
use Rattle.faust_types.proofs.Order.{is_initial-means}
use Rattle.faust_types.proofs.version.Version.is_initial.Goals as goal

pub returns-clause-meaning : goal.returns-clause-meaning
unfolding is_initial
returns-clause-meaning c =
    let v = c.args.self.now in
    let test : is_initial v ≡ c.loop-before.holds = sym (search rules) in
    subst (λ (b : Bool). (IsTrue b) ↔ (v ≡ initial (clients_of v))) test (is_initial-means v c.clients-before-end.ensures.kept)
