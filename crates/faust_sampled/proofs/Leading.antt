-- Playing event by event: events lead from one scene to another, and what then holds of the entries and of the liar.
use Rattle.std.proofs.Common.{◌≡◌, ◌+◌, ◌≤◌, ℕ, zero, suc, List, [], ◌∷◌, ◌++◌, Ok, refl, ap, ◌∙◌, arith}
use Rattle.faust_types.specs.declared.config.Config.{Config}
use Rattle.faust_record.specs.Runs.{Run}
use Rattle.faust_record.specs.declared.entry.Entry.{Entry}
use Rattle.faust_script.specs.Generated.{each_up_to}
use Rattle.faust_script.specs.declared.event.Event.{Event}
use Rattle.faust_liar.specs.Lies.{LiarState}
use Rattle.faust_sim.specs.Play.{Scene, and_then_events, event_played, played_from}

-- The scene of these entries.
abbrev pub run_at : Config → List Entry → Run
run_at config entries = record { config = config; entries = entries }

abbrev pub scene_at : Config → List Entry → LiarState → Scene
scene_at config entries liar = record { run = run_at config entries; liar = liar }

-- An event is played, and something holds then.
pub record IsPlayed (config : Config) (entries : List Entry) (liar : LiarState) (event : Event)
    (Holds : List Entry → LiarState → Type 0) : Type 0 where
  pub next : List Entry
  pub now : LiarState
  pub played : event_played (scene_at config entries liar) event ≡ Ok (scene_at config next now)
  pub holds : Holds next now

-- Events are played one after the other, and something holds then.
abbrev pub Leads : Config → List Entry → LiarState → List Event → (List Entry → LiarState → Type 0) → Type 0
Leads config entries liar [] Holds = Holds entries liar
Leads config entries liar (event ∷ events) Holds = IsPlayed config entries liar event (λ next now. Leads config next now events Holds)

pub leads-append : (config : Config) (entries : List Entry) (liar : LiarState) (xs ys : List Event)
    (Mid Holds : List Entry → LiarState → Type 0) → Leads config entries liar xs Mid
    → ((next : List Entry) (now : LiarState) → Mid next now → Leads config next now ys Holds)
    → Leads config entries liar (xs ++ ys) Holds
leads-append config entries liar [] ys Mid Holds front more = more entries liar front
leads-append config entries liar (x ∷ xs) ys Mid Holds front more = record {
  next = front.next;
  now = front.now;
  played = front.played;
  holds = leads-append config front.next front.now xs ys Mid Holds front.holds more;
}

pub leads-one : (config : Config) (entries : List Entry) (liar : LiarState) (event : Event) (Mid Holds : List Entry → LiarState → Type 0)
    → IsPlayed config entries liar event Mid → ((next : List Entry) (now : LiarState) → Mid next now → Holds next now)
    → Leads config entries liar (event ∷ []) Holds
leads-one config entries liar event Mid Holds one more = record {
  next = one.next;
  now = one.now;
  played = one.played;
  holds = more one.next one.now one.holds;
}

pub leads-later : (config : Config) (entries : List Entry) (liar : LiarState) (events : List Event)
    (Mid Holds : List Entry → LiarState → Type 0) → Leads config entries liar events Mid
    → ((next : List Entry) (now : LiarState) → Mid next now → Holds next now) → Leads config entries liar events Holds
leads-later config entries liar [] Mid Holds leads more = more entries liar leads
leads-later config entries liar (x ∷ xs) Mid Holds leads more = record {
  next = leads.next;
  now = leads.now;
  played = leads.played;
  holds = leads-later config leads.next leads.now xs Mid Holds leads.holds more;
}

-- the events for each number
pub leads-each : (config : Config) (entries : List Entry) (liar : LiarState) (m : ℕ) (events : ℕ → List Event)
    (Holds : ℕ → List Entry → LiarState → Type 0)
    → ((k : ℕ) (next : List Entry) (now : LiarState) → suc k ≤ m → Holds k next now
    → Leads config next now (events (suc k)) (Holds (suc k)))
    → Holds 0 entries liar → Leads config entries liar (each_up_to m events) (Holds m)
unfolding each_up_to
leads-each config entries liar zero events Holds step first = first
leads-each config entries liar (suc m) events Holds step first =
    leads-append config entries liar (each_up_to m events) (events (suc m)) (Holds m) (Holds (suc m))
    (leads-each config entries liar m events Holds (λ k next now within. step k next now (omega (arith, within))) first)
    (λ next now. step m next now (omega arith))

-- So a run comes of them, and what holds then holds of it.
pub record IsPlayedOut (config : Config) (entries : List Entry) (liar : LiarState) (line : ℕ) (events : List Event)
    (Holds : List Entry → LiarState → Type 0) : Type 0 where
  pub next : List Entry
  pub now : LiarState
  pub plays : played_from (scene_at config entries liar) line events ≡ Ok (run_at config next)
  pub holds : Holds next now

pub leads-played : (config : Config) (entries : List Entry) (liar : LiarState) (line : ℕ) (events : List Event)
    (Holds : List Entry → LiarState → Type 0) → Leads config entries liar events Holds
    → IsPlayedOut config entries liar line events Holds
unfolding played_from
leads-played config entries liar line [] Holds leads = record { next = entries; now = liar; plays = refl; holds = leads }
leads-played config entries liar line (event ∷ events) Holds leads =
    let rest = leads-played config leads.next leads.now (line + 1) events Holds leads.holds in
    record {
      next = rest.next;
      now = rest.now;
      plays = ap (and_then_events line (λ (scene : Scene). played_from scene (line + 1) events)) leads.played ∙ rest.plays;
      holds = rest.holds;
    }
