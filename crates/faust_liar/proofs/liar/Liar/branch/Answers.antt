use Rattle.std.proofs.Common.{◌<◌, length, is_ok, subst, sym, rules}
use Rattle.faust_server.specs.Rows.{State}
use Rattle.faust_server.specs.States.{IsStateFor}
use Rattle.faust_liar.proofs.Calls.{branch-range, kept-pushed}
use Rattle.faust_liar.proofs.liar.Liar.branch.Goals as goal

pub invariant_of-self : goal.invariant_of-self
invariant_of-self c =
    let within : c.args.from < length c.self.inside.branches.items = search rules in
    let few : length c.self.inside.branches.items < 8 = search rules in
    let own : IsStateFor (length c.self.inside.sessions.items) c.in_ok-copy.copy = subst
    (λ (z : State). IsStateFor (length c.self.inside.sessions.items) z) (sym c.in_ok-copy.ensures)
    (branch-range _ c.self.invariant c.args.from c.index.result.now c.index.ensures within) in
    kept-pushed _ c.push.new.self.items c.in_ok-copy.copy (is_ok c.push.result) c.self.invariant own few c.push.ensures.items
