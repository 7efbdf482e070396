use Rattle.std.proofs.Common.{◌≡◌, ◌+◌, ◌<◌, ◌∷◌, ◌++◌, [], ℕ, suc, List, length, get_or, drop, take, Option, Some, refl, sym, ap, ◌∙◌, subst, arith}
use Rattle.std.proofs.lemmas.List.{drop_more, take_more}
use Rattle.faust_record.specs.Journals.{AreJournals, IsJournal, Log}
use Rattle.faust_record.specs.Merging.{first_stranger}
use Rattle.faust_record.specs.declared.errors.MergeError.{MergeError}
use Rattle.faust_record.specs.declared.errors.MergeError.TheVariants as merges
use Rattle.faust_record.proofs.Merged.{journals-last, stranger-here, stranger-next}
use Rattle.faust_record.proofs.merging.first_stranger.Goals as goal

pub returns-then-client-place-clause-stranger : goal.returns-then-client-place-clause-stranger
returns-then-client-place-clause-stranger c =
    let logs = c.args.journals.now in
    let log : Log = c.at.result.now in
    let before = c.loop-before.before in
    let inside : before < length logs = omega (arith, c.loop-before-test.true, c.requires) in
    let read : log ≡ get_or logs before log = c.at.ensures log ∙ ap (λ (k : ℕ). get_or logs k log) c.from.ensures in
    let here : drop before logs ≡ log ∷ drop (before + 1) logs =
    drop_more logs before log inside ∙ ap (λ (l : Log). l ∷ drop (before + 1) logs) (sym read) in
    let other : log.me ≡ before + 1 → ⊥ = λ same. c.if-client-place.true (c.client-client.ensures.client ∙ same) in
    ap (λ (k : ℕ). Some (merges.Client (before + 1) k)) c.client-client.ensures.client
    ∙ sym (stranger-here (before + 1) log (drop (before + 1) logs) other)
    ∙ ap (first_stranger (before + 1)) (sym here)
    ∙ c.loop-before.invariant.0

pub loop-before-preserved : goal.loop-before-preserved
loop-before-preserved c =
    let logs = c.args.journals.now in
    let log : Log = c.at.result.now in
    let before = c.loop-before.before in
    let inside : before < length logs = omega (arith, c.loop-before-test.true, c.requires) in
    let read : log ≡ get_or logs before log = c.at.ensures log ∙ ap (λ (k : ℕ). get_or logs k log) c.from.ensures in
    let here : drop before logs ≡ log ∷ drop (before + 1) logs =
    drop_more logs before log inside ∙ ap (λ (l : Log). l ∷ drop (before + 1) logs) (sym read) in
    let more : take (before + 1) logs ≡ take before logs ++ log ∷ [] =
    take_more logs before log inside ∙ ap (λ (l : Log). take before logs ++ l ∷ []) (sym read) in
    let same : log.me ≡ before + 1 = sym c.client-client.ensures.client ∙ c.if-client-place.false in
    let place : (before + 1) + 1 ≡ suc (before + 1) = omega arith in (
      ap (λ (k : ℕ). first_stranger k (drop (before + 1) logs)) place
          ∙ sym (stranger-next (before + 1) log (drop (before + 1) logs) same)
          ∙ ap (first_stranger (before + 1)) (sym here)
          ∙ c.loop-before.invariant.0,
      subst AreJournals (sym more) (journals-last (take before logs) log c.loop-before.invariant.1 c.client-client.ensures.kept),
    )
