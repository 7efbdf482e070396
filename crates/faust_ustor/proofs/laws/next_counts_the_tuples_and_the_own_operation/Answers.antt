use Rattle.std.proofs.Common.{◌≡◌, ap, ◌∙◌, arith}
use Rattle.faust_types.specs.Versions.{Vector, timestamp_at}
use Rattle.faust_ustor.specs.declared.judgement.Judged.{Judged}
use Rattle.faust_ustor.specs.Passed.{next_of}
use Rattle.faust_ustor.proofs.Passes.{judged-passed}
use Rattle.faust_ustor.proofs.Counts.{next-told, timestamp-next_other, timestamp-next_own}
use Rattle.faust_ustor.proofs.laws.next_counts_the_tuples_and_the_own_operation.Goals as goal

pub returns-clause-own : goal.returns-clause-own
returns-clause-own c key me own op reply answer pending h told =
    let right = judged-passed key me own op reply answer told in
    let next : answer.next ≡ next_of me reply = ap (λ (j : Judged). j.next) right.tells ∙ next-told (next_of me reply) reply.read in
    omega (
      arith,
      ap (λ (v : Vector). timestamp_at v me) next,
      timestamp-next_own key _ me reply h pending.client_in_range
          right.passed.tuples_passed,
      right.passed.own_counted,
      pending.number,
    )

pub returns-clause-others : goal.returns-clause-others
returns-clause-others c key me own op reply answer k pending h told client other =
    let right = judged-passed key me own op reply answer told in
    let next : answer.next ≡ next_of me reply = ap (λ (j : Judged). j.next) right.tells ∙ next-told (next_of me reply) reply.read in
    ap (λ (v : Vector). timestamp_at v k) next ∙ timestamp-next_other _ me k reply h pending.client_in_range client other
