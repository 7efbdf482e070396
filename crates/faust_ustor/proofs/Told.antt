-- From the verdict of a call to what is due.
use Rattle.std.proofs.Common.{◌≡◌, Result, Ok, Err, IfOk}
use Rattle.faust_types.specs.declared.operation.Notice.{Notice}
use Rattle.faust_ustor.specs.declared.refusal.JudgeError.{JudgeError}
use Rattle.faust_ustor.specs.Checks.{Gives}

-- An answer that is the one due has what each such answer has.
pub gives-ok : {X : Type 0} (P : X → Type 0) (r : Result X JudgeError) (due : Result X Notice)
    → Gives r due → ((x : X) → due ≡ Ok x → P x) → IfOk r P
gives-ok P (Ok x) due h each = each x h
gives-ok P (Err e) due h each = tt
