use Rattle.faust_io.proofs.Pieces.{on_err}
use Rattle.faust_link.proofs.Framing.{on_ok_of, on_err_of, Appends-spelling, AppendsPrefix-length, AppendsPrefix-frame}
use Rattle.faust_link.proofs.writer.put_frame.Goals as goal

pub returns-in_err-write_whole-clause-err : goal.returns-in_err-write_whole-clause-err
returns-in_err-write_whole-clause-err g c =
    on_err c.from_residual.result
    (AppendsPrefix-length _ _ c.to_be_bytes.result c.args.frame.now c.to_be_bytes.ensures c.in_err-write_whole.ensures.err)

pub returns-clause-ok : goal.returns-clause-ok
returns-clause-ok g c =
    on_ok_of c.write_whole-2.result
    (Appends-spelling _ _ _ c.to_be_bytes.result c.args.frame.now c.to_be_bytes.ensures c.in_ok-write_whole.ensures.ok)
    c.write_whole-2.ensures.ok

pub returns-clause-err : goal.returns-clause-err
returns-clause-err g c =
    on_err_of c.write_whole-2.result
    (AppendsPrefix-frame _ _ _ c.to_be_bytes.result c.args.frame.now c.to_be_bytes.ensures c.in_ok-write_whole.ensures.ok)
    c.write_whole-2.ensures.err
