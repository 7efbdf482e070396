-- The answers so far are those of the jobs whose threads are joined, unless one gave none.
use Rattle.std.proofs.Common.{◌+◌, ◌≤◌, IsTrue, vec_len, vec_capacity}
use Rattle.std.specs.Vec.Iter.{into_iter_items, into_iter_len}
use Rattle.faust_io.specs.Started.{jobs_of}
use Rattle.faust_io.proofs.Answers.{AnswersBefore}
use Rattle.faust_io.proofs.threads.join_each.Given as goal

abbrev pub invariant-loop-handle : goal.invariant-loop-handle
invariant-loop-handle g l = record {
  can_next : (goal.iterator-loop-handle g).can_next l.handle-iterator;
  finite : (goal.iterator-loop-handle g).is_finite l.handle-iterator;
  room : vec_len l.answers + into_iter_len l.handle-iterator ≤ vec_capacity l.answers;
  answered : IsTrue l.all
      → AnswersBefore g.J.Job.gives (jobs_of l.fn.handles.items) (jobs_of (into_iter_items l.handle-iterator)) l.answers.items;
}
