use Rattle.faust_host.specs.Connections.{ends_at}
use Rattle.faust_host.proofs.Stopping.{answered_none, answered_more}
use Rattle.faust_host.proofs.host.Host.answer_all.Goals as goal

pub loop-init : goal.loop-init
loop-init g c = (
  tt,
  tt,
  answered_none
      g.T.Service.clients
      (ends_at
      (g.I.FrameIn.left c.args.input.now)
      (g.I.FrameIn.ends c.args.input.now)
      (g.I.FrameIn.faults c.args.input.now)
      (g.O.FrameOut.faults c.args.output.now)),
)

pub loop-preserved : goal.loop-preserved
loop-preserved g c = (
  tt,
  tt,
  answered_more
      g.T.Service.clients
      (ends_at
      (g.I.FrameIn.left c.args.input.now)
      (g.I.FrameIn.ends c.args.input.now)
      (g.I.FrameIn.faults c.args.input.now)
      (g.O.FrameOut.faults c.args.output.now))
      (ends_at
      (g.I.FrameIn.left c.loop.input)
      (g.I.FrameIn.ends c.loop.input)
      (g.I.FrameIn.faults c.loop.input)
      (g.O.FrameOut.faults c.loop.output))
      (ends_at
      (g.I.FrameIn.left c.answer_next.new.input)
      (g.I.FrameIn.ends c.answer_next.new.input)
      (g.I.FrameIn.faults c.answer_next.new.input)
      (g.O.FrameOut.faults c.answer_next.new.output))
      c.loop.invariant.2
      c.in-Ok.ensures,
)
