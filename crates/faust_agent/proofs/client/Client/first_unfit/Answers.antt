use Rattle.std.proofs.Common.{◌≡◌, ◌+◌, false, sym, arith}
use Rattle.faust_agent.specs.State.{version_at}
use Rattle.faust_agent.specs.Table.{is_fitting}
use Rattle.faust_agent.proofs.Slots.{first_unfit-at}
use Rattle.faust_agent.proofs.client.Client.first_unfit.Goals as goal

pub returns-then-not-is_fitting : goal.returns-then-not-is_fitting
returns-then-not-is_fitting c =
    let unfit : is_fitting c.args.next.now c.args.heard.now (version_at c.args.self.now (c.loop-before.before + 1)) ≡ false = cc in
    let next = c.args.next.now in
    let heard = c.args.heard.now in
    sym (first_unfit-at c.args.self.now next heard c.args.n c.loop-before.before c.loop-before.invariant unfit (omega arith))
