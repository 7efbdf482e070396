use Rattle.std.proofs.Common.{◌≡◌, ap, ◌∙◌}
use Rattle.faust_types.specs.Versions.{Vector, digest_at}
use Rattle.faust_ustor.specs.declared.judgement.Judged.{Judged}
use Rattle.faust_ustor.specs.Passed.{next_of}
use Rattle.faust_ustor.proofs.Counts.{digest_followed, next-told}
use Rattle.faust_ustor.proofs.Followed.{digest-next_own}
use Rattle.faust_ustor.proofs.Passes.{judged-passed}
use Rattle.faust_ustor.proofs.laws.digest_is_that_of_the_chain.Goals as goal

pub returns-clause-walk : goal.returns-clause-walk
returns-clause-walk c walk tuples clients h = digest_followed walk tuples clients h

pub returns-clause-next : goal.returns-clause-next
returns-clause-next c key me own op reply answer clients pending h told start =
    let right = judged-passed key me own op reply answer told in
    let next : answer.next ≡ next_of me reply = ap (λ (j : Judged). j.next) right.tells ∙ next-told (next_of me reply) reply.read in
    ap (λ (v : Vector). digest_at v me) next ∙ digest-next_own _ me reply clients h pending.client_in_range start
