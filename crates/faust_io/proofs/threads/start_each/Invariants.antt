-- The threads that run are those of the jobs so far, unless one wasn't started; there is room for the rest.
use Rattle.std.proofs.Common.{◌≡◌, ◌+◌, ◌≤◌, ◌++◌, IsTrue, vec_len, vec_capacity}
use Rattle.std.specs.Vec.Iter.{into_iter_items, into_iter_len}
use Rattle.faust_io.specs.Started.{jobs_of}
use Rattle.faust_io.proofs.threads.start_each.Given as goal

abbrev pub invariant-loop-job : goal.invariant-loop-job
invariant-loop-job g l = record {
  can_next : (goal.iterator-loop-job g).can_next l.job-iterator;
  finite : (goal.iterator-loop-job g).is_finite l.job-iterator;
  room : vec_len l.handles + into_iter_len l.job-iterator ≤ vec_capacity l.handles;
  few : vec_len l.handles + into_iter_len l.job-iterator ≤ vec_len l.fn.jobs;
  allowed : IsTrue l.all → (vec_len l.handles ≤ l.admitted) × (vec_len l.handles + into_iter_len l.job-iterator ≡ vec_len l.fn.jobs);
  started : IsTrue l.all → jobs_of l.handles.items ++ into_iter_items l.job-iterator ≡ l.fn.jobs.items;
}
