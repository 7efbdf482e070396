-- Why a line is refused, in words.
use Rattle.std.specs.Prelude.{ℕ, List, codes}
use Rattle.faust_text.specs.declared.cause.Cause.{Cause}
use Rattle.faust_text.specs.declared.cause.Cause.TheVariants as causes

abbrev pub cause_text : Cause → List ℕ
cause_text causes.TooLong = codes "too long"
cause_text causes.CutOff = codes "cut off"
cause_text causes.Word = codes "word"
cause_text causes.Number = codes "number"
cause_text causes.Value = codes "value"
cause_text causes.Events = codes "events"
cause_text causes.AfterEnd = codes "after end"
cause_text causes.Failed = codes "failed"
cause_text causes.Busy = codes "busy"
cause_text causes.Nothing = codes "nothing"
cause_text causes.Branch = codes "branch"
cause_text causes.Field = codes "field"
cause_text causes.Order = codes "order"
cause_text causes.Frame = codes "frame"
