use Rattle.faust_host.specs.Connections.{ends_at}
use Rattle.faust_host.specs.Rounds.{Answered}
use Rattle.faust_host.proofs.host.Host.answer_all.Given as goal

abbrev pub invariant-loop : goal.invariant-loop
invariant-loop g l =
    let before = ends_at
    (g.I.FrameIn.left l.initial.input)
    (g.I.FrameIn.ends l.initial.input)
    (g.I.FrameIn.faults l.initial.input)
    (g.O.FrameOut.faults l.initial.output) in
    let now = ends_at
    (g.I.FrameIn.left l.input)
    (g.I.FrameIn.ends l.input)
    (g.I.FrameIn.faults l.input)
    (g.O.FrameOut.faults l.output) in
    (goal.iterator-loop g).can_next l.iterator'
    × (goal.iterator-loop g).is_finite l.iterator'
    × Answered g.T.Service.clients before now
