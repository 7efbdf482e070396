use Rattle.std.proofs.Common.{refl}
use Rattle.faust_host.specs.Connections.{ends_at}
use Rattle.faust_host.proofs.Stopping.{stopped_behind, stopped_greeting}
use Rattle.faust_host.proofs.host.Host.serve_all.Goals as goal

pub returns-in-Ok : goal.returns-in-Ok
returns-in-Ok g c =
    stopped_behind
    g.T.Service.clients
    (ends_at
    (g.I.FrameIn.left c.args.input.now)
    (g.I.FrameIn.ends c.args.input.now)
    (g.I.FrameIn.faults c.args.input.now)
    (g.O.FrameOut.faults c.args.output.now))
    (ends_at
    (g.I.FrameIn.left c.greeted.new.input)
    (g.I.FrameIn.ends c.greeted.new.input)
    (g.I.FrameIn.faults c.greeted.new.input)
    (g.O.FrameOut.faults c.args.output.now))
    (ends_at
    (g.I.FrameIn.left c.answer_all.new.input)
    (g.I.FrameIn.ends c.answer_all.new.input)
    (g.I.FrameIn.faults c.answer_all.new.input)
    (g.O.FrameOut.faults c.answer_all.new.output))
    c.in-Ok.client
    c.answer_all.result
    c.in-Ok.ensures.greets
    refl
    c.answer_all.ensures

pub returns-in-Err : goal.returns-in-Err
returns-in-Err g c =
    stopped_greeting
    g.T.Service.clients
    (ends_at
    (g.I.FrameIn.left c.args.input.now)
    (g.I.FrameIn.ends c.args.input.now)
    (g.I.FrameIn.faults c.args.input.now)
    (g.O.FrameOut.faults c.args.output.now))
    (ends_at
    (g.I.FrameIn.left c.greeted.new.input)
    (g.I.FrameIn.ends c.greeted.new.input)
    (g.I.FrameIn.faults c.greeted.new.input)
    (g.O.FrameOut.faults c.args.output.now))
    c.in-Err.closing
    c.in-Err.ensures.greets
    refl
