-- The jobs of threads that were started. This only helps proofs.
use Rattle.std.specs.Prelude.{List, map, Option}
use Rattle.std.specs.declared.thread.PromisedHandle.{PromisedHandle}
use Rattle.faust_io.specs.declared.threads.AnswerOf.{AnswerOf}

abbrev pub jobs_of : {J Out : Type 0} → List (PromisedHandle (Option Out) (AnswerOf J)) → List J
jobs_of handles = map (λ handle. handle.promise.0.value) handles
