use Rattle.std.proofs.Common.{rules, ap}
use Rattle.faust_io.specs.Started.{jobs_of}
use Rattle.faust_io.proofs.Answers.{AnswersBefore-more}
use Rattle.faust_io.proofs.threads.join_each.Goals as goal

pub loop-handle-preserved-in-Some-join : goal.loop-handle-preserved-in-Some-join
loop-handle-preserved-in-Some-join g c = record {
  can_next = tt;
  finite = tt;
  room = search rules;
  answered = λ all. AnswersBefore-more g.J.Job.gives _ _ _ _ _ c.in-Some.handle.promise.0.value c.in-Some-join.answer
      (c.loop-handle.invariant.answered all) (ap jobs_of c.in-Some.ensures.steps.0) (search rules) c.in-Some-join.ensures;
}
