use Rattle.std.proofs.Common.{◌≡◌, ℕ, subst, arith}
use Rattle.faust_cluster.proofs.Telling.{AreSomeTold, all-users, empty-user}
use Rattle.faust_cluster.proofs.running.no_receipts.Goals as goal

pub loop-before-preserved : goal.loop-before-preserved
loop-before-preserved g c =
    empty-user g.T.Session.config.clients c.loop-before.before g.T.Cast.ops c.loop-before.receipts c.push.new.self c.new.result
    c.loop-before.invariant c.new.ensures c.in_ok-push.ensures.ok

pub returns : goal.returns
returns g c =
    let all : c.loop-before.before ≡ g.T.Session.config.clients =
    omega (arith, c.loop-before-test.false, c.loop-before.auto.before-end, c.requires) in
    all-users g.T.Session.config.clients g.T.Cast.ops c.loop-before.receipts
    (subst (λ (k : ℕ). AreSomeTold g.T.Session.config.clients k g.T.Cast.ops c.loop-before.receipts) all c.loop-before.invariant)
