-- A pass over a run with one more entry.
use Rattle.std.proofs.Common.{◌≡◌, ◌-◌, ◌<◌, ℕ, List, [], ◌∷◌, ◌++◌, Option, Some, None, IfSome, slice_set, replicate, refl, sym, ap, ◌∙◌, subst, inl, inr, arith, length-set, append_assoc}
use Rattle.std.proofs.lemmas.Bool.{cases_eq}
use Rattle.std.proofs.lemmas.List.{get_or-replicate, length-replicate}
use Rattle.faust_types.specs.Clients.{IsClient}
use Rattle.faust_types.specs.Messages.{unmade}
use Rattle.faust_types.specs.Versions.{Vector}
use Rattle.faust_types.specs.declared.config.Config.{Config}
use Rattle.faust_types.specs.declared.message.Known.{Known}
use Rattle.faust_types.specs.declared.operation.Operation.{Operation}
use Rattle.faust_ustor.specs.InRange.{IsPendingOf}
use Rattle.faust_agent.specs.State.{first_client, version_at}
use Rattle.faust_agent.specs.InRange.{IsClientOf, IsWaitedFor}
use Rattle.faust_agent.specs.declared.client.Client.{Client}
use Rattle.faust_agent.proofs.Kept.{slot-sized}
use Rattle.faust_record.specs.Entries.{replay, state_at}
use Rattle.faust_record.specs.Made.{made_behind, made_bodies}
use Rattle.faust_record.specs.Runs.{IsRun, entries_of}
use Rattle.faust_record.specs.declared.entry.Entry.{Entry}
use Rattle.faust_record.proofs.Agents.{set-other, set-own}
use Rattle.faust_record.proofs.Own.{entries_of-other, entries_of-own, replayed-append}
use Rattle.faust_premises.specs.Premises.{hashed_in_run, hashed_inputs}
use Rattle.faust_premises.proofs.Forgeries.{made_behind-one}
use Rattle.faust_premises.proofs.Collisions.{hashed_in_run-one}
use Rattle.faust_audit.specs.Watching.{AreWatched, IsWatchedFor, bodies_at, first_watched, hashed_at, hashed_breaking, no_watched, reply_came, seen_at, watched_in, watched_of, watched_then}
use Rattle.faust_audit.specs.Tables.{HoldsBodies, HoldsInputs}
use Rattle.faust_audit.specs.Passing.{IsPassAt}
use Rattle.faust_audit.specs.declared.pass.Pass.{Pass}
use Rattle.faust_audit.specs.declared.watched.Watched.{Watched}
use Rattle.faust_audit.proofs.Clients.{client-at, client-in_range, front-of, step-at}
use Rattle.faust_audit.proofs.Seeing.{IsEntrySeen, entry-seen}

-- what is kept of a client is in range
waiting-pending : (n me : ℕ) (own : Vector) (waiting : Option Operation) → IfSome waiting (IsWaitedFor n me own)
    → IfSome waiting (IsPendingOf me own)
waiting-pending n me own None range = tt
waiting-pending n me own (Some op) range = range.pending

pub watched-in_range : (config : Config) (me : ℕ) (st : Client) → IsClient config.clients me → IsClientOf config me st
    → IsWatchedFor config.clients me (watched_of me st)
watched-in_range config me st client kept = record {
  counted = slot-sized config.clients st.heard me kept.versions client;
  waiting_in_range = waiting-pending config.clients me (version_at st me) st.waiting kept.waiting_in_range;
}

pub watched-at : (config : Config) (watched : List Watched) (before rest : List Entry) (e : Entry) → IsRun config (before ++ e ∷ rest)
    → AreWatched config watched before → IsWatchedFor config.clients e.client (watched_in watched e.client)
watched-at config watched before rest e run are =
    let client = client-at config before rest e run in
    let kept = client-in_range config before e.client (front-of config before rest e run) client in
    subst (IsWatchedFor config.clients e.client) (sym (are.each e.client client))
    (watched-in_range config e.client (replay config e.client (entries_of e.client before)) client kept)

-- what an entry of a run makes, hashes and leaves
pub record IsEntryOf (config : Config) (before : List Entry) (e : Entry) (watched : Watched) : Type 0 where
  pub bodies : bodies_at config e.client watched e ≡ made_bodies config before e
  pub hashed : hashed_at config e.client watched e ≡ hashed_inputs config before e
  pub kept : watched_then config e.client watched e
      ≡ watched_of e.client (state_at config e.client (replay config e.client (entries_of e.client before)) e.input)

entry-first : (config : Config) (before rest : List Entry) (e : Entry) → IsRun config (before ++ e ∷ rest)
    → IsEntryOf config before e (watched_of e.client (replay config e.client (entries_of e.client before)))
unfolding made_bodies hashed_inputs
entry-first config before rest e run =
    let client = client-at config before rest e run in
    let kept = client-in_range config before e.client (front-of config before rest e run) client in
    let seen : IsEntrySeen config e.client (replay config e.client (entries_of e.client before)) e =
    entry-seen config e.client (replay config e.client (entries_of e.client before)) e run.config_in_range.clients_count client kept
    (step-at config before rest e run) in
    record { bodies = seen.bodies; hashed = seen.hashed; kept = seen.kept }

pub entry-of : (config : Config) (before rest : List Entry) (e : Entry) (watched : Watched) → IsRun config (before ++ e ∷ rest)
    → watched ≡ watched_of e.client (replay config e.client (entries_of e.client before)) → IsEntryOf config before e watched
entry-of config before rest e watched run is = subst (IsEntryOf config before e) (sym is) (entry-first config before rest e run)

-- what is kept of all clients
pub watched-next : (config : Config) (watched : List Watched) (before : List Entry) (e : Entry) (now : Watched)
    → AreWatched config watched before → IsClient config.clients e.client
    → now ≡ watched_of e.client (state_at config e.client (replay config e.client (entries_of e.client before)) e.input)
    → AreWatched config (slice_set watched (e.client - 1) now) (before ++ e ∷ [])
watched-next config watched before e now are client is = record {
  counted = length-set watched (e.client - 1) now ∙ are.counted;
  each = λ i within. elim (cases_eq e.client i) [
    | inl own ↦
        let here : watched_in (slice_set watched (e.client - 1) now) e.client ≡ now =
        set-own watched e.client now no_watched config.clients are.counted client in
        let st = replay config e.client (entries_of e.client before) in
        let after : replay config e.client (entries_of e.client (before ++ e ∷ [])) ≡ state_at config e.client st e.input =
        ap (replay config e.client) (entries_of-own e.client before e refl)
        ∙ replayed-append config e.client (first_client config.clients e.client) (entries_of e.client before) (e ∷ []) in
        subst (λ (k : ℕ). watched_in (slice_set watched (e.client - 1) now) k ≡ watched_of k
        (replay config k (entries_of k (before ++ e ∷ [])))) own
        (here ∙ is ∙ ap (watched_of e.client) (sym after))
    | inr other ↦
        set-other watched e.client i now no_watched config.clients client within other
        ∙ are.each i within
        ∙ ap (λ (l : List Entry). watched_of i (replay config i l)) (sym (entries_of-other i before e other))
  ];
}

-- the pass behind the entry
pub pass-next : (config : Config) (before rest : List Entry) (e : Entry) (old now : Pass) (watched : Watched)
    → IsRun config (before ++ e ∷ rest) → IsPassAt config old before → watched ≡ watched_in old.watched.items e.client
    → HoldsBodies now.collected.made (made_behind config [] before ++ bodies_at config e.client watched e)
    → HoldsInputs now.collected.inputs ((hashed_in_run config before ++ (seen_at config e.client watched e).hashed)
    ++ hashed_breaking config.key e.client watched (reply_came config e.input) e.outcome.notice)
    → now.watched.items ≡ slice_set old.watched.items (e.client - 1) (watched_then config e.client watched e)
    → IsPassAt config now (before ++ e ∷ [])
pass-next config before rest e old now watched run at is made inputs set =
    let client = client-at config before rest e run in
    let of = entry-of config before rest e watched run (is ∙ at.watched.each e.client client) in
    let made_is : made_behind config [] before ++ bodies_at config e.client watched e ≡ made_behind config [] (before ++ e ∷ []) =
    ap (λ (l : List (List ℕ)). made_behind config [] before ++ l) of.bodies ∙ sym (made_behind-one config before e) in
    let inputs_is : (hashed_in_run config before ++ (seen_at config e.client watched e).hashed)
    ++ hashed_breaking config.key e.client watched (reply_came config e.input) e.outcome.notice ≡ hashed_in_run config (before ++ e ∷ []) =
    append_assoc (hashed_in_run config before) (seen_at config e.client watched e).hashed
    (hashed_breaking config.key e.client watched (reply_came config e.input) e.outcome.notice)
    ∙ ap (λ (l : List (List ℕ)). hashed_in_run config before ++ l) of.hashed ∙ sym (hashed_in_run-one config before e) in
    record {
      made = subst (HoldsBodies now.collected.made) made_is made;
      inputs = subst (HoldsInputs now.collected.inputs) inputs_is inputs;
      watched = subst (λ (l : List Watched). AreWatched config l (before ++ e ∷ [])) (sym set)
          (watched-next config old.watched.items before e (watched_then config e.client watched e) at.watched client of.kept);
    }

-- the pass before the first entry
first-in : (n i : ℕ) → IsClient n i → watched_in (replicate n (first_watched n)) i ≡ watched_of i (first_client n i)
first-in n i client =
    let within : i - 1 < n = omega (arith, client.from_one, client.to_n) in
    get_or-replicate n (i - 1) (first_watched n) no_watched within
    ∙ sym (ap (λ (known : Known). record { own = known.version; last = None; waiting = None })
    (get_or-replicate n (i - 1) (unmade n) (unmade 0) within))

pub watched-first : (config : Config) → AreWatched config (replicate config.clients (first_watched config.clients)) []
watched-first config = record {
  counted = length-replicate config.clients (first_watched config.clients);
  each = λ i client. first-in config.clients i client;
}
