use Rattle.std.proofs.Common.{◌≡◌, ◌+◌, ◌++◌, ◌∷◌, [], ℕ, List, Option, None, Some, drop, take, sym, subst, arith}
use Rattle.faust_types.specs.Clients.{IsClient}
use Rattle.faust_types.specs.declared.config.Config.{Config}
use Rattle.faust_record.specs.Runs.{IsRun}
use Rattle.faust_premises.specs.Premises.{first_forged}
use Rattle.faust_audit.specs.Passing.{GoesOn, IsPassAt, forged_at}
use Rattle.faust_audit.specs.Watching.{IsWatchedFor, watched_in}
use Rattle.faust_audit.proofs.Clients.{client-at}
use Rattle.faust_audit.proofs.PassLaws.{watched-at}
use Rattle.faust_audit.proofs.Verdicts.{forged-verdict}
use Rattle.faust_audit.proofs.Along.{IsEntryAt, entry-at, forged-next, run-at}
use Rattle.faust_audit.proofs.deciding.premises.Goals as goal

pub step-requires-clause-client : goal.step-requires-clause-client
step-requires-clause-client c =
    let config = c.args.rec.now.config in
    let xs = c.args.rec.now.entries in
    let q = c.loop-q.q in
    let e = c.in-Some.entry.now in
    let at : IsEntryAt xs q e = entry-at xs q e (sym c.in-Some.ensures) in
    subst (λ (k : Config). IsClient k.clients e.client) (sym c.config-config.ensures.config)
    (client-at config (take q xs) (drop (q + 1) xs) e (run-at config xs q e c.config-config.ensures.kept at))

pub step-requires-clause-watched : goal.step-requires-clause-watched
step-requires-clause-watched c =
    let config = c.args.rec.now.config in
    let xs = c.args.rec.now.entries in
    let q = c.loop-q.q in
    let e = c.in-Some.entry.now in
    let items = c.loop-q.pass.watched.items in
    let at : IsEntryAt xs q e = entry-at xs q e (sym c.in-Some.ensures) in
    subst (λ (k : Config). IsWatchedFor k.clients e.client (watched_in items e.client)) (sym c.config-config.ensures.config)
    (watched-at config items (take q xs) (drop (q + 1) xs) e (run-at config xs q e c.config-config.ensures.kept at)
    c.loop-q.invariant.passed.watched)

pub returns-in-Some-2 : goal.returns-in-Some-2
returns-in-Some-2 c =
    let config = c.args.rec.now.config in
    let used = c.config-config.result.now in
    let same : used ≡ config = c.config-config.ensures.config in
    let xs = c.args.rec.now.entries in
    let q = c.loop-q.q in
    let e = c.in-Some.entry.now in
    let at : IsEntryAt xs q e = entry-at xs q e (sym c.in-Some.ensures) in
    let run : IsRun used _ = subst (λ (k : Config). IsRun k (take q xs ++ e ∷ drop (q + 1) xs)) (sym same)
    (run-at config xs q e c.config-config.ensures.kept at) in
    let passed : IsPassAt used c.loop-q.pass (take q xs) =
    subst (λ (k : Config). IsPassAt k c.loop-q.pass (take q xs)) (sym same) c.loop-q.invariant.passed in
    let found : forged_at used (take q xs) e ≡ Some c.in-Some-2.body =
    subst (λ (o : Option (List ℕ)). GoesOn o used (take q xs) e c.step.new.self) c.in-Some-2.is
    (c.in_ok-body.ensures (take q xs) (drop (q + 1) xs) run passed) in
    forged-verdict config xs q e c.in-Some-2.body at
    (subst (λ (k : Config). forged_at k (take q xs) e ≡ Some c.in-Some-2.body) same found) c.loop-q.invariant.rest

pub loop-q-preserved : goal.loop-q-preserved
loop-q-preserved c =
    let config = c.args.rec.now.config in
    let used = c.config-config.result.now in
    let same : used ≡ config = c.config-config.ensures.config in
    let xs = c.args.rec.now.entries in
    let q = c.loop-q.q in
    let e = c.in-Some.entry.now in
    let now = c.step.new.self in
    let at : IsEntryAt xs q e = entry-at xs q e (sym c.in-Some.ensures) in
    let run : IsRun used _ = subst (λ (k : Config). IsRun k (take q xs ++ e ∷ drop (q + 1) xs)) (sym same)
    (run-at config xs q e c.config-config.ensures.kept at) in
    let passed : IsPassAt used c.loop-q.pass (take q xs) =
    subst (λ (k : Config). IsPassAt k c.loop-q.pass (take q xs)) (sym same) c.loop-q.invariant.passed in
    let none : c.in_ok-body.field-0 ≡ None = grind (arith, c.in_default-2.not-Some) in
    let on : GoesOn None used (take q xs) e now =
    subst (λ (o : Option (List ℕ)). GoesOn o used (take q xs) e now) none
    (c.in_ok-body.ensures (take q xs) (drop (q + 1) xs) run passed) in
    record {
      passed = subst (IsPassAt config now) (sym at.front) (subst (λ (k : Config). IsPassAt k now (take q xs ++ e ∷ [])) same on.1);
      rest = forged-next config xs q e (first_forged config xs) at
          (subst (λ (k : Config). forged_at k (take q xs) e ≡ None) same on.0) c.loop-q.invariant.rest;
    }
