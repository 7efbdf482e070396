use Rattle.std.proofs.Common.{◌≡◌, ap, ◌∙◌, sym, subst}
use Rattle.faust_types.specs.Versions.{Vector, IsAtMost}
use Rattle.faust_ustor.specs.declared.judgement.Judged.{Judged}
use Rattle.faust_ustor.specs.Passed.{next_of}
use Rattle.faust_types.proofs.Order.{at_most_along}
use Rattle.faust_ustor.proofs.Above.{at_most-next}
use Rattle.faust_ustor.proofs.Passes.{judged-passed}
use Rattle.faust_ustor.proofs.Counts.{next-told}
use Rattle.faust_ustor.proofs.laws.next_is_above.Goals as goal

pub returns-clause-version : goal.returns-clause-version
returns-clause-version c key me own op reply answer pending h told =
    let right = judged-passed key me own op reply answer told in
    let next : answer.next ≡ next_of me reply = ap (λ (j : Judged). j.next) right.tells ∙ next-told (next_of me reply) reply.read in
    subst (λ (v : Vector). IsAtMost reply.version.version v) (sym next) (at_most-next _ me reply h pending.client_in_range)

pub returns-clause-own : goal.returns-clause-own
returns-clause-own c key me own op reply answer pending h told =
    let right = judged-passed key me own op reply answer told in
    at_most_along own reply.version.version answer.next (sym h.version_known.version_in_range.count) right.passed.own_at_most
    (returns-clause-version c key me own op reply answer pending h told)
