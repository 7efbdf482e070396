use Rattle.std.proofs.Common.{◌≡◌, Ok, Err, subst}
use Rattle.faust_record.specs.Merging.{Merges, merged}
use Rattle.faust_record.specs.declared.errors.MergeError.{MergeError}
use Rattle.faust_record.specs.declared.errors.MergeError.TheVariants as merges
use Rattle.faust_outcome.specs.Outcomes.{AreRuns, IsPromisedOf}
use Rattle.faust_outcome.proofs.OutcomeLaws.{any-ok, are-runs, due-has, merged-with, none-are-runs, promised-of}
use Rattle.faust_outcome.proofs.Sizes.{as-many-users, few-entries, few-receipts}
use Rattle.faust_outcome.proofs.deciding.outcome.Goals as goal

pub of_run-requires-clause-as_many : goal.of_run-requires-clause-as_many
of_run-requires-clause-as_many c =
    let command = c.args.command.now in
    let it = c.args.gathered in
    let merged_is = merged-with command it c.in_ok-config.config (Ok c.in-Ok.run') c.in_ok-config.ensures.config c.in-Ok.ensures in
    as-many-users command it c.in-Ok.run' c.requires.gathered merged_is

pub of_run-requires-clause-few_receipts : goal.of_run-requires-clause-few_receipts
of_run-requires-clause-few_receipts c = few-receipts c.args.command.now c.args.gathered c.requires.range c.requires.gathered

pub of_run-requires-clause-few_entries : goal.of_run-requires-clause-few_entries
of_run-requires-clause-few_entries c =
    let command = c.args.command.now in
    let it = c.args.gathered in
    let merged_is = merged-with command it c.in_ok-config.config (Ok c.in-Ok.run') c.in_ok-config.ensures.config c.in-Ok.ensures in
    few-entries command it c.in-Ok.run' c.requires.range c.requires.gathered merged_is

pub returns-in-Ok-clause-text : goal.returns-in-Ok-clause-text
returns-in-Ok-clause-text c =
    let command = c.args.command.now in
    let it = c.args.gathered in
    due-has command it (Ok c.in-Ok.run') c.of_run.result
    (merged-with command it c.in_ok-config.config (Ok c.in-Ok.run') c.in_ok-config.ensures.config c.in-Ok.ensures) c.of_run.ensures.output

pub returns-in-Ok-clause-runs : goal.returns-in-Ok-clause-runs
returns-in-Ok-clause-runs c =
    let command = c.args.command.now in
    let it = c.args.gathered in
    let merged_is = merged-with command it c.in_ok-config.config (Ok c.in-Ok.run') c.in_ok-config.ensures.config c.in-Ok.ensures in
    any-ok c.of_run.result (AreRuns command it) (are-runs command it c.in-Ok.run' merged_is c.of_run.ensures.is_run)

pub returns-in-Ok-clause-promised : goal.returns-in-Ok-clause-promised
returns-in-Ok-clause-promised c =
    let command = c.args.command.now in
    let it = c.args.gathered in
    let merged_is = merged-with command it c.in_ok-config.config (Ok c.in-Ok.run') c.in_ok-config.ensures.config c.in-Ok.ensures in
    any-ok c.of_run.result (IsPromisedOf command it)
    (promised-of command it (are-runs command it c.in-Ok.run' merged_is c.of_run.ensures.is_run))

pub returns-in-Err-Client-clause-runs : goal.returns-in-Err-Client-clause-runs
returns-in-Err-Client-clause-runs c =
    let command = c.args.command.now in
    let it = c.args.gathered in
    let e : MergeError = merges.Client c.in-Err-Client.place c.in-Err-Client.client in
    let refused : merged c.in_ok-config.config it.journals it.arrivals ≡ Err e =
    subst (λ (x : MergeError). Merges (Err x) (merged c.in_ok-config.config it.journals it.arrivals)) c.in-Err-Client.field-0-is
    c.in-Err-Client.ensures in
    any-ok c.stranger.result (AreRuns command it)
    (none-are-runs command it e (merged-with command it c.in_ok-config.config (Err e) c.in_ok-config.ensures.config refused))

pub returns-in-Err-Client-clause-promised : goal.returns-in-Err-Client-clause-promised
returns-in-Err-Client-clause-promised c =
    let command = c.args.command.now in
    let it = c.args.gathered in
    let e : MergeError = merges.Client c.in-Err-Client.place c.in-Err-Client.client in
    let refused : merged c.in_ok-config.config it.journals it.arrivals ≡ Err e =
    subst (λ (x : MergeError). Merges (Err x) (merged c.in_ok-config.config it.journals it.arrivals)) c.in-Err-Client.field-0-is
    c.in-Err-Client.ensures in
    any-ok c.stranger.result (IsPromisedOf command it)
    (promised-of command it
    (none-are-runs command it e (merged-with command it c.in_ok-config.config (Err e) c.in_ok-config.ensures.config refused)))

pub returns-in-Err-Frame-clause-text : goal.returns-in-Err-Frame-clause-text
returns-in-Err-Frame-clause-text c =
    let command = c.args.command.now in
    let it = c.args.gathered in
    let e : MergeError = merges.Frame c.in-Err-Frame.client c.in-Err-Frame.index c.in-Err-Frame.sent c.in-Err-Frame.got in
    let refused : merged c.in_ok-config.config it.journals it.arrivals ≡ Err e =
    subst (λ (x : MergeError). Merges (Err x) (merged c.in_ok-config.config it.journals it.arrivals)) c.in-Err-Frame.field-0-is
    c.in-Err-Frame.ensures in
    due-has command it (Err e) c.frame.result
    (merged-with command it c.in_ok-config.config (Err e) c.in_ok-config.ensures.config refused) c.frame.ensures

pub returns-in-Err-Frame-clause-runs : goal.returns-in-Err-Frame-clause-runs
returns-in-Err-Frame-clause-runs c =
    let command = c.args.command.now in
    let it = c.args.gathered in
    let e : MergeError = merges.Frame c.in-Err-Frame.client c.in-Err-Frame.index c.in-Err-Frame.sent c.in-Err-Frame.got in
    let refused : merged c.in_ok-config.config it.journals it.arrivals ≡ Err e =
    subst (λ (x : MergeError). Merges (Err x) (merged c.in_ok-config.config it.journals it.arrivals)) c.in-Err-Frame.field-0-is
    c.in-Err-Frame.ensures in
    any-ok c.frame.result (AreRuns command it)
    (none-are-runs command it e (merged-with command it c.in_ok-config.config (Err e) c.in_ok-config.ensures.config refused))

pub returns-in-Err-Frame-clause-promised : goal.returns-in-Err-Frame-clause-promised
returns-in-Err-Frame-clause-promised c =
    let command = c.args.command.now in
    let it = c.args.gathered in
    let e : MergeError = merges.Frame c.in-Err-Frame.client c.in-Err-Frame.index c.in-Err-Frame.sent c.in-Err-Frame.got in
    let refused : merged c.in_ok-config.config it.journals it.arrivals ≡ Err e =
    subst (λ (x : MergeError). Merges (Err x) (merged c.in_ok-config.config it.journals it.arrivals)) c.in-Err-Frame.field-0-is
    c.in-Err-Frame.ensures in
    any-ok c.frame.result (IsPromisedOf command it)
    (promised-of command it
    (none-are-runs command it e (merged-with command it c.in_ok-config.config (Err e) c.in_ok-config.ensures.config refused)))
