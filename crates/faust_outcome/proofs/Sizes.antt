-- How much is gathered: no count of it passes what the calls take.
use Rattle.std.proofs.Common.{◌≡◌, ◌+◌, ◌*◌, ◌^◌, ◌<◌, ◌≤◌, ℕ, suc, List, [], ◌∷◌, length, get_or, drop, Ok, sym, ap, ◌∙◌, arith}
use Rattle.std.proofs.lemmas.List.{drop_all, drop_more}
use Rattle.faust_types.specs.declared.config.Config.{Config}
use Rattle.faust_record.specs.Runs.{Run}
use Rattle.faust_node.specs.declared.receipt.Receipt.{Receipt}
use Rattle.faust_outcome.specs.declared.gathered.Gathered.{Gathered}
use Rattle.faust_outcome.specs.declared.words.LiveCommand.{LiveCommand}
use Rattle.faust_outcome.specs.Gathering.{IsGathered}
use Rattle.faust_outcome.specs.Outcomes.{IsMerged, receipts_in}
use Rattle.faust_outcome.specs.UserLists.{AreAllTold}
use Rattle.faust_outcome.specs.Words.{IsInRange, config_of}
use Rattle.faust_outcome.proofs.MergedLaws.{few-merged, merged-made}

few-told : (n ops i : ℕ) (all : List (List Receipt)) → ops ≤ 1000 → AreAllTold n ops i all → receipts_in all ≤ 1000 * length all
few-told n ops i [] few told = omega arith
few-told n ops i (receipts ∷ rest) few told =
    let first = told.0.few in
    let later = few-told n ops (suc i) rest few told.1 in
    omega (arith, few, first, later)

pub few-receipts : (command : LiveCommand) (it : Gathered) → IsInRange command → IsGathered command it → receipts_in it.receipts < 2 ^ 64
few-receipts command it range is =
    let all = few-told command.clients command.ops 1 it.receipts range.few_operations is.told in
    let users = is.as_many_users in
    let clients = range.few_clients in
    omega (arith, all, users, clients)

pub few-entries : (command : LiveCommand) (it : Gathered) (run : Run) → IsInRange command → IsGathered command it
    → IsMerged command it (Ok run) → length run.entries < 2 ^ 27
few-entries command it run range is merged_is =
    let all = few-merged (config_of command) it.journals it.arrivals run is.kept merged_is in
    let journals = is.as_many in
    let arrivals = is.few_arrivals in
    let clients = range.few_clients in
    omega (arith, all, journals, arrivals, clients)

pub as-many-users : (command : LiveCommand) (it : Gathered) (run : Run) → IsGathered command it → IsMerged command it (Ok run)
    → length it.receipts ≡ run.config.clients
as-many-users command it run is merged_is =
    let made = merged-made (config_of command) it.journals it.arrivals run merged_is in
    is.as_many_users ∙ sym (ap (λ (c : Config). c.clients) made.config_is)

-- One more user's receipts are counted.
pub counted-more : (all : List (List Receipt)) (k : ℕ) (told : List Receipt) → k < length all → told ≡ get_or all k told
    → receipts_in (drop k all) ≡ length told + receipts_in (drop (k + 1) all)
counted-more all k told within is =
    ap receipts_in (drop_more all k told within)
    ∙ ap (λ (l : List Receipt). length l + receipts_in (drop (k + 1) all)) (sym is)

pub counted-all : (all : List (List Receipt)) (k : ℕ) → length all ≤ k → receipts_in (drop k all) ≡ 0
counted-all all k past = ap receipts_in (drop_all k all past)
