use Rattle.std.proofs.Common.{◌-◌, ◌≤◌, List, ℕ, length, sym, subst}
use Rattle.faust_sim.proofs.Sized.{letter-sized}
use Rattle.faust_sim.proofs.stage.Stage.deliver.Goals as goal

pub push-requires-clause-input : goal.push-requires-clause-input
push-requires-clause-input c =
    let run = c.args.self.now.run in
    subst (λ (b : List ℕ). length b ≤ 16384) (sym c.in_ok-bytes.ensures)
    (letter-sized run.config run.entries c.args.sender c.args.receiver
    (c.args.k - 1) c.in-Some.bytes.now c.requires.kept.run c.requires.sender
    (sym c.in-Some.ensures))
