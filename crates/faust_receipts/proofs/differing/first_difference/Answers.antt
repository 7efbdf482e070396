use Rattle.std.proofs.Common.{◌<◌, length, sym, ◌∙◌, arith}
use Rattle.faust_record.specs.Operations.{Finished}
use Rattle.faust_record.specs.declared.entry.Entry.{Entry}
use Rattle.faust_receipts.proofs.Passing.{entry-passed, receipt-named, receipt-passed}
use Rattle.faust_receipts.proofs.differing.first_difference.Goals as goal
use Rattle.faust_receipts.proofs.differing.first_difference.Goals.{in-Some+in_ok-line-in-Some+else-is_some+in-Some+in-Own-1, in-Some+in_ok-line-in-Some+else-is_some+in-Some+in-Shared-1, in-Some+in_ok-line-in-Some+else-is_some+in-None-1, in-None}

pub returns-then-is_some : goal.returns-then-is_some
returns-then-is_some c =
    let all = c.args.rec.now.entries in
    let told = c.args.told.now in
    let q = c.loop-q.q in
    let next = c.loop-q.next in
    let e : Entry = c.entry_at-entry.result.now in
    let finished : Finished = record { answer = c.in-Some.answer.now; number = e.number } in
    let within : q < length all = omega (arith, c.loop-q-test.true, c.len-q-end.ensures) in
    let inside : next < length told = omega (arith, c.loop-q.invariant.0, c.if-next-told.false) in
    receipt-named c.args.client all q e e finished told next c.index-told-next.result c.index-told-next.result
    c.in_ok-line-in-Some.line within
    (c.entry_at-entry.ensures e) (sym c.in-Some.ensures) inside c.index-told-next.is c.in_ok-line-in-Some.ensures
    (sym c.is_some.ensures ∙ c.if-is_some.true)
    ∙ sym c.loop-q.invariant.1

pub loop-q-preserved : goal.loop-q-preserved
loop-q-preserved c =
    let all = c.args.rec.now.entries in
    let told = c.args.told.now in
    let q = c.loop-q.q in
    let next = c.loop-q.next in
    let e : Entry = c.entry_at-entry.result.now in
    let within : q < length all = omega (arith, c.loop-q-test.true, c.len-q-end.ensures) in
    let inside : next < length told = omega (arith, c.loop-q.invariant.0, c.if-next-told.false) in
    elim c.match-told_in.branch [
      | in-Some+in_ok-line-in-Some+else-is_some+in-Some+in-Own-1 w ↦
          receipt-passed c.args.client all q e e (record { answer = w.in-Some.answer.now; number = e.number }) told next
          c.match-told_in.next w.index-told-next.result w.index-told-next.result w.in_ok-line-in-Some.line within
          (c.entry_at-entry.ensures e)
          (sym w.in-Some.ensures) inside w.index-told-next.is w.in_ok-line-in-Some.ensures (sym w.is_some.ensures
          ∙ w.if-is_some.false) w.next-is
          c.loop-q.invariant.1
      | in-Some+in_ok-line-in-Some+else-is_some+in-Some+in-Shared-1 w ↦
          receipt-passed c.args.client all q e e (record { answer = w.in-Some.answer.now; number = e.number }) told next
          c.match-told_in.next w.index-told-next.result w.index-told-next.result w.in_ok-line-in-Some.line within
          (c.entry_at-entry.ensures e)
          (sym w.in-Some.ensures) inside w.index-told-next.is w.in_ok-line-in-Some.ensures (sym w.is_some.ensures
          ∙ w.if-is_some.false) w.next-is
          c.loop-q.invariant.1
      | in-Some+in_ok-line-in-Some+else-is_some+in-None-1 w ↦
          receipt-passed c.args.client all q e e (record { answer = w.in-Some.answer.now; number = e.number }) told next
          c.match-told_in.next w.index-told-next.result w.index-told-next.result w.in_ok-line-in-Some.line within
          (c.entry_at-entry.ensures e)
          (sym w.in-Some.ensures) inside w.index-told-next.is w.in_ok-line-in-Some.ensures (sym w.is_some.ensures
          ∙ w.if-is_some.false) w.next-is
          c.loop-q.invariant.1
      | in-None w ↦
          entry-passed c.args.client all q e e told next c.match-told_in.next within (c.entry_at-entry.ensures e)
          (sym w.in-None.ensures) c.loop-q.invariant.0 w.next-is c.loop-q.invariant.1
    ]
