use Rattle.std.proofs.Common.{[], append-nil}
use Rattle.faust_joined.proofs.Running.{known-front}
use Rattle.faust_joined.proofs.laws.replies_complete_operations.Goals as goal

pub returns : goal.returns
returns c = λ config entries run made none. (known-front config entries entries [] run (append-nil entries) made none).well
