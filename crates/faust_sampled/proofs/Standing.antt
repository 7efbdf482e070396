-- What stands along a generated script: the entries are a run in which no reply departs, what clients say to one another
-- was made, and the liar is the honest server behind the entries.
use Rattle.std.proofs.Common.{◌≡◌, ℕ, Bool, true, false, List, [], ◌∷◌, ◌++◌, length, Option, Some, None, Ok, refl, sym, ap, ◌∙◌, subst, append_assoc}
use Rattle.std.specs.Prelude.{if◌then◌else◌}
use Rattle.std.proofs.lemmas.List.{append-nil}
use Rattle.faust_types.specs.Clients.{IsClient}
use Rattle.faust_types.specs.declared.config.Config.{Config}
use Rattle.faust_agent.specs.State.{first_client}
use Rattle.faust_agent.specs.InRange.{IsClientOf}
use Rattle.faust_agent.specs.declared.client.Client.{Client}
use Rattle.faust_record.specs.Entries.{MayCome, entry_at, replay, state_at}
use Rattle.faust_record.specs.Refusals.{acted, recorded_unless, refusal_at}
use Rattle.faust_record.specs.Runs.{IsRun, arriving, entries_of}
use Rattle.faust_record.specs.declared.entry.Entry.{Entry}
use Rattle.faust_record.specs.declared.entry.Input.{Input}
use Rattle.faust_record.proofs.Own.{entries_of-other, entries_of-own, replayed-append}
use Rattle.faust_record.proofs.Runs.{run-acted}
use Rattle.faust_audit.specs.Departure.{Line, departs, departs_at, first_departure, first_departure_from, first_line, line_after, line_at, line_from, line_of}
use Rattle.faust_audit.proofs.Following.{line-append}
use Rattle.faust_joined.specs.Joined.{world_of}
use Rattle.faust_joined.specs.Promised.{ArePeersMade, AreWellGiven, IsPeerMade, IsWellGiven}
use Rattle.faust_joined.proofs.Running.{IsKnown, known-front}
use Rattle.faust_liar.specs.Lies.{LiarState, first_lies}
use Rattle.faust_sampled.proofs.Branch.{IsLone, lone-first}
use Rattle.faust_sampled.proofs.Leading.{run_at}

pub record IsStanding (config : Config) (entries : List Entry) (liar : LiarState) : Type 0 where
  pub run : IsRun config entries
  pub made : ArePeersMade config [] entries
  pub stays : first_departure config entries ≡ None
  pub lone : IsLone config (line_of config entries) liar

-- so all are joined with one history
pub known-of : (config : Config) (entries : List Entry) (liar : LiarState) → IsStanding config entries liar
    → IsKnown config (world_of config entries) entries
known-of config entries liar standing = known-front config entries entries [] standing.run (append-nil entries) standing.made standing.stays

-- one more entry
made-more : (config : Config) (before xs : List Entry) (e : Entry) → ArePeersMade config before xs → IsPeerMade config (before ++ xs) e
    → ArePeersMade config before (xs ++ e ∷ [])
made-more config before [] e all here = (subst (λ (l : List Entry). IsPeerMade config l e) (append-nil before) here, tt)
made-more config before (x ∷ xs) e all here = (
  all.0,
  made-more config (before ++ x ∷ []) xs e all.1
      (subst (λ (l : List Entry). IsPeerMade config l e) (sym (append_assoc before (x ∷ []) xs)) here),
)

stays-if : (b : Bool) (q : ℕ) (xs ys : Option ℕ) → (if b then Some q else xs) ≡ None → (xs ≡ None → ys ≡ None)
    → (if b then Some q else ys) ≡ None
stays-if true q xs ys none more = none
stays-if false q xs ys none more = more none

stays-more : (config : Config) (line : Line) (xs : List Entry) (e : Entry) → first_departure_from config line xs ≡ None
    → departs config (line_from config line xs) e ≡ false → first_departure_from config line (xs ++ e ∷ []) ≡ None
stays-more config line [] e none stays = ap (λ (b : Bool). if b then Some e.number else None) stays
stays-more config line (x ∷ xs) e none stays =
    stays-if (departs config line x) x.number (first_departure_from config (line_after config line x) xs)
    (first_departure_from config (line_after config line x) (xs ++ e ∷ [])) none
    (λ later. stays-more config (line_after config line x) xs e later stays)

pub standing-more : (config : Config) (entries : List Entry) (liar now : LiarState) (e : Entry) → IsStanding config entries liar
    → IsRun config (entries ++ e ∷ []) → IsPeerMade config entries e → departs config (line_of config entries) e ≡ false
    → IsLone config (line_after config (line_of config entries) e) now → IsStanding config (entries ++ e ∷ []) now
standing-more config entries liar now e standing run made stays lone = record {
  run = run;
  made = made-more config [] entries e standing.made made;
  stays = stays-more config (first_line config.clients) entries e standing.stays stays;
  lone = subst (λ (l : Line). IsLone config l now) (sym (line-append config (first_line config.clients) entries e)) lone;
}

pub standing-first : (config : Config) → IsRun config [] → IsStanding config [] (first_lies config.wire config.clients)
standing-first config run = record { run = run; made = tt; stays = refl; lone = lone-first config }

-- what the last entry gives
well-last : (xs : List Entry) (e : Entry) → AreWellGiven (xs ++ e ∷ []) → IsWellGiven e
well-last [] e all = all.0
well-last (x ∷ xs) e all = well-last xs e all.1

pub last-well : (config : Config) (entries : List Entry) (liar : LiarState) (e : Entry) → IsStanding config (entries ++ e ∷ []) liar
    → IsWellGiven e
last-well config entries liar e standing = well-last entries e (known-of config (entries ++ e ∷ []) liar standing).well

-- What client i holds, and the entry of an input that comes to it.
abbrev pub holding : Config → List Entry → ℕ → Client
holding config entries i = replay config i (entries_of i entries)

abbrev pub entry_of : Config → List Entry → ℕ → Input → Entry
entry_of config entries i input = entry_at config i (holding config entries i) (length entries) input

pub acted-ok : (config : Config) (entries : List Entry) (i : ℕ) (input : Input)
    → refusal_at config i (holding config entries i) input ≡ None
    → acted (run_at config entries) i input ≡ Ok (run_at config (entries ++ entry_of config entries i input ∷ []))
unfolding acted
acted-ok config entries i input none = ap (recorded_unless (run_at config entries) (entry_of config entries i input)) none

pub acted-standing : (config : Config) (entries : List Entry) (liar now : LiarState) (i : ℕ) (input : Input)
    → IsStanding config entries liar → IsClient config.clients i → MayCome config i (holding config entries i) input → arriving input ≡ None
    → IsPeerMade config entries (entry_of config entries i input) → departs_at config (line_of config entries) i input ≡ false
    → IsLone config (line_at config (line_of config entries) i input) now
    → IsStanding config (entries ++ entry_of config entries i input ∷ []) now
acted-standing config entries liar now i input standing client may act made stays lone =
    standing-more config entries liar now (entry_of config entries i input) standing
    (run-acted config entries i input standing.run client may act) made stays lone

-- what clients hold behind one more entry
pub holding-own : (config : Config) (entries : List Entry) (e : Entry)
    → holding config (entries ++ e ∷ []) e.client ≡ state_at config e.client (holding config entries e.client) e.input
holding-own config entries e =
    ap (replay config e.client) (entries_of-own e.client entries e refl)
    ∙ replayed-append config e.client (first_client config.clients e.client) (entries_of e.client entries) (e ∷ [])

pub holding-other : (config : Config) (entries : List Entry) (e : Entry) (i : ℕ) → (e.client ≡ i → ⊥)
    → holding config (entries ++ e ∷ []) i ≡ holding config entries i
holding-other config entries e i other = ap (replay config i) (entries_of-other i entries e other)

-- what a client holds is in range
pub client-kept : (config : Config) (entries : List Entry) (liar : LiarState) (i : ℕ) → IsStanding config entries liar
    → IsClient config.clients i → IsClientOf config i (holding config entries i)
client-kept config entries liar i standing client = ((known-of config entries liar standing).joined.each i client).in_step.in_range

-- no client has a notice
pub no-notice : (config : Config) (entries : List Entry) (liar : LiarState) (i : ℕ) → IsStanding config entries liar
    → IsClient config.clients i → (holding config entries i).notice ≡ None
no-notice config entries liar i standing client = ((known-of config entries liar standing).joined.each i client).in_step.no_notice
