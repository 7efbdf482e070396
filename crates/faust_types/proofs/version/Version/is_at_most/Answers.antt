use Rattle.std.proofs.Common.{◌≡◌, ◌+◌, ◌↔◌, Bool, true, IsTrue, sym, subst, rules, arith}
use Rattle.faust_types.specs.Clients.{IsClient}
use Rattle.faust_types.specs.Versions.{IsAtMost, clients_of, is_at_most}
use Rattle.faust_types.proofs.Order.{fails-at, is_at_most-means}
use Rattle.faust_types.proofs.version.Version.is_at_most.Goals as goal

pub returns-then-not-is_entry_at_most-clause-test : goal.returns-then-not-is_entry_at_most-clause-test
unfolding is_at_most
returns-then-not-is_entry_at_most-clause-test c =
    let v = c.args.self.now in
    let k = c.loop-before.before + 1 in
    let client : IsClient (clients_of v) k = record {
      from_one = omega arith;
      to_n = omega (arith, c.loop-before-test.true, c.clients-before-end.ensures.count);
    } in
    sym (fails-at v c.args.other.now (clients_of v) k client (sym c.if-not-is_entry_at_most.ensures))

pub returns-clause-meaning : goal.returns-clause-meaning
unfolding is_at_most
returns-clause-meaning c =
    let v = c.args.self.now in
    let w = c.args.other.now in
    let test : is_at_most v w ≡ true = sym (search rules) in
    subst (λ (b : Bool). (IsTrue b) ↔ IsAtMost v w) test (is_at_most-means v w)
