-- Each event of a generated script can be played.
use Rattle.std.proofs.Common.{◌≡◌, ◌+◌, ℕ, List, [], ◌++◌, length, None, Result, Ok, refl, ap, subst, append_assoc, lit<, lit≤}
use Rattle.faust_types.specs.Ranges.{IsConfig}
use Rattle.faust_types.specs.declared.config.Config.{Config}
use Rattle.faust_record.specs.Runs.{IsRun, Run}
use Rattle.faust_record.specs.declared.entry.Entry.{Entry}
use Rattle.faust_record.proofs.Runs.{run-first}
use Rattle.faust_script.specs.Generated.{IsSampleSize, drawn_events, generated, last_operation, round_of, sample_config}
use Rattle.faust_script.specs.Parsing.{Refusal}
use Rattle.faust_script.specs.declared.event.Event.{Event}
use Rattle.faust_script.proofs.Rounds.{generated_in_range}
use Rattle.faust_premises.specs.Premises.{first_forged}
use Rattle.faust_audit.specs.Departure.{first_departure}
use Rattle.faust_joined.specs.Promised.{AreWellGiven}
use Rattle.faust_joined.proofs.Clearing.{none-forged-at-all}
use Rattle.faust_liar.specs.Lies.{LiarState, first_lies}
use Rattle.faust_sim.specs.Play.{head_lines, played}
use Rattle.faust_sampled.proofs.Drawing.{IsQuiet, operations-lead}
use Rattle.faust_sampled.proofs.Leading.{Leads, leads-append, leads-played, run_at}
use Rattle.faust_sampled.proofs.Rounds.{AreEven, round-leads}
use Rattle.faust_sampled.proofs.Standing.{IsStanding, known-of}

sample-in_range : (seed n ops : ℕ) → IsSampleSize n ops → IsConfig (sample_config n)
unfolding generated
sample-in_range seed n ops size = (generated_in_range seed n ops size).config_in_range

-- before the rounds nothing was said
quiet-even : (config : Config) (entries : List Entry) (liar : LiarState) → IsQuiet config entries liar → AreEven config 0 0 entries liar
quiet-even config entries liar quiet = record {
  standing = quiet.standing;
  timed = quiet.silent.timed;
  counted = λ i j sender receiver apart. ap (λ (l : List (List ℕ)). length l) (quiet.silent.unsaid i j);
}

events-lead : (seed n ops : ℕ) → IsSampleSize n ops
    → Leads (sample_config n) [] (first_lies 1 n) ((drawn_events seed n ops ++ last_operation n) ++ (round_of n 1 ++ round_of n 2))
    (AreEven (sample_config n) 2000 4)
events-lead seed n ops size =
    let config : Config = sample_config n in
    let run : IsRun config [] = run-first config (sample-in_range seed n ops size) in
    leads-append config [] (first_lies 1 n) (drawn_events seed n ops ++ last_operation n) (round_of n 1 ++ round_of n 2) (IsQuiet config)
    (AreEven config 2000 4) (operations-lead config seed ops refl size run)
    (λ entries liar quiet.
    leads-append config entries liar (round_of n 1) (round_of n 2) (AreEven config 1000 2) (AreEven config 2000 4)
    (round-leads config 0 0 1 entries liar size.clients_count.at_most_32 (lit≤ tt) (lit< tt) refl refl
    (quiet-even config entries liar quiet))
    (λ next now even. round-leads config 1000 2 2 next now size.clients_count.at_most_32 (lit≤ tt) (lit< tt) refl refl even))

-- What comes of a generated script: the run, and all that stands behind it.
record IsGeneratedRun (seed n ops : ℕ) : Type 0 where
  entries : List Entry
  liar : LiarState
  plays : played (generated seed n ops) ≡ Ok (run_at (sample_config n) entries)
  standing : IsStanding (sample_config n) entries liar

generated-run : (seed n ops : ℕ) → IsSampleSize n ops → IsGeneratedRun seed n ops
unfolding played generated
generated-run seed n ops size =
    let config : Config = sample_config n in
    let drawn : List Event = drawn_events seed n ops in
    let rounds : List Event = round_of n 1 ++ round_of n 2 in
    let out = leads-played config [] (first_lies 1 n) (head_lines 1 + 1) (drawn ++ (last_operation n ++ rounds)) (AreEven config 2000 4)
    (subst (λ (events : List Event). Leads config [] (first_lies 1 n) events (AreEven config 2000 4))
    (append_assoc drawn (last_operation n) rounds) (events-lead seed n ops size)) in
    record { entries = out.next; liar = out.now; plays = out.plays; standing = out.holds.standing }

pub plays-through : (seed n ops : ℕ) → IsSampleSize n ops → (run : Run) × (played (generated seed n ops) ≡ Ok run)
plays-through seed n ops size =
    let made : IsGeneratedRun seed n ops = generated-run seed n ops size in
    (run_at (sample_config n) made.entries, made.plays)

-- no other run comes of it
same-run : (result : Result Run Refusal) (a b : Run) → result ≡ Ok a → result ≡ Ok b → a ≡ b
same-run result a b one other = cc

pub played-honestly : (seed n ops : ℕ) (run : Run) → IsSampleSize n ops → played (generated seed n ops) ≡ Ok run
    → (first_departure run.config run.entries ≡ None) × (first_forged run.config run.entries ≡ None) × AreWellGiven run.entries
played-honestly seed n ops run size plays =
    let config : Config = sample_config n in
    let made : IsGeneratedRun seed n ops = generated-run seed n ops size in
    let all = made.standing in
    let same : run_at config made.entries ≡ run =
    same-run (played (generated seed n ops)) (run_at config made.entries) run made.plays plays in
    subst (λ (r : Run). (first_departure r.config r.entries ≡ None) × (first_forged r.config r.entries ≡ None) × AreWellGiven r.entries)
    same (all.stays, none-forged-at-all config made.entries all.run all.made all.stays, (known-of config made.entries made.liar all).well)
