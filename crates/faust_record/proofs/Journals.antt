-- Journals with one more entry.
use Rattle.std.proofs.Common.{◌≡◌, ◌+◌, ◌-◌, ◌<◌, ◌≤◌, ℕ, suc, List, [], ◌∷◌, ◌++◌, length, Option, Some, None, IfSome, refl, sym, ap, ◌∙◌, subst, arith, length-append}
use Rattle.std.specs.Prelude.{slice_get}
use Rattle.faust_types.specs.Clients.{IsClient}
use Rattle.faust_types.specs.Ranges.{IsConfig}
use Rattle.faust_types.specs.declared.config.Config.{Config}
use Rattle.faust_agent.specs.State.{first_client}
use Rattle.faust_record.specs.Entries.{MayCome, entry_at, replay}
use Rattle.faust_record.specs.Runs.{arriving}
use Rattle.faust_record.specs.Journals.{AreOwn, AreRising, IsJournal, IsNumberBehind, IsOwn, Log, first_log}
use Rattle.faust_record.specs.Refusals.{logged}
use Rattle.faust_record.specs.declared.entry.Input.{Input}
use Rattle.faust_record.specs.declared.entry.Entry.{Entry}
use Rattle.faust_record.proofs.Own.{obeys-append}

-- the last of two or more entries is the last of those behind the first
last-behind : (number : ℕ) (x y : Entry) (xs : List Entry) → IsNumberBehind (x ∷ y ∷ xs) number → IsNumberBehind (y ∷ xs) number
last-behind number x y xs behind =
    let place : length (x ∷ y ∷ xs) - 1 ≡ suc (length (y ∷ xs) - 1) = omega arith in
    subst (λ (k : ℕ). IfSome (slice_get (x ∷ y ∷ xs) k) (λ (last : Entry). last.number < number)) place behind

rising-behind : (least : ℕ) (x : Entry) (xs : List Entry) (e : Entry) → AreRising least (x ∷ xs) → IsNumberBehind (x ∷ xs) e.number
    → AreRising least (x ∷ (xs ++ e ∷ []))
rising-behind least x [] e front behind =
    let above : suc x.number ≤ e.number = omega (arith, behind) in
    (front.0, (above, tt))
rising-behind least x (y ∷ xs) e front behind =
    (front.0, rising-behind (suc x.number) y xs e front.1 (last-behind e.number x y xs behind))

rising-append : (xs : List Entry) (e : Entry) → AreRising 0 xs → IsNumberBehind xs e.number → AreRising 0 (xs ++ e ∷ [])
rising-append [] e front behind = (omega arith, tt)
rising-append (x ∷ xs) e front behind = rising-behind 0 x xs e front behind

own-append : (me : ℕ) (xs : List Entry) (e : Entry) → AreOwn me xs → IsOwn me e → AreOwn me (xs ++ e ∷ [])
own-append me [] e front own = (own, tt)
own-append me (x ∷ xs) e front own = (front.0, own-append me xs e front.1 own)

pub journal-acted : (log : Log) (number : ℕ) (input : Input) → IsJournal log → IsNumberBehind log.entries number → arriving input ≡ None
    → length log.entries < 200000 → MayCome log.config log.me (replay log.config log.me log.entries) input
    → IsJournal (logged log (entry_at log.config log.me (replay log.config log.me log.entries) number input))
journal-acted log number input kept behind own few may =
    let st = replay log.config log.me log.entries in
    let entry : Entry = entry_at log.config log.me st number input in
    let longer : length (log.entries ++ entry ∷ []) ≡ length log.entries + 1 = length-append log.entries (entry ∷ []) in
    record {
      config_in_range = kept.config_in_range;
      me_in_range = kept.me_in_range;
      few = omega (arith, longer, few);
      own = own-append log.me log.entries entry kept.own (record { of_client = refl; no_arrival = own });
      rising = rising-append log.entries entry kept.rising behind;
      obeyed = obeys-append log.config log.me (first_client log.config.clients log.me) log.entries (entry ∷ []) kept.obeyed
          (record { may_come = may; outcome_is = refl }, tt);
    }

pub journal-first : (config : Config) (me : ℕ) → IsConfig config → IsClient config.clients me → IsJournal (first_log config me)
journal-first config me range client = record {
  config_in_range = range;
  me_in_range = client;
  few = omega arith;
  own = tt;
  rising = tt;
  obeyed = tt;
}
