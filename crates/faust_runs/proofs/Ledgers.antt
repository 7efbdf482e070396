-- The ledger of a clean run is sound.
use Rattle.std.proofs.Common.{◌≡◌, ℕ, ◌+◌, ◌-◌, suc, List, [], ◌∷◌, ◌++◌, length, None, append_assoc, refl, sym, ap, ◌∙◌, subst, inl, arith}
use Rattle.std.proofs.lemmas.List.{append-nil}
use Rattle.faust_types.specs.Clients.{IsClient, IsClientCount}
use Rattle.faust_types.specs.Versions.{Vector, initial, timestamp_at}
use Rattle.faust_types.specs.Messages.{unmade}
use Rattle.faust_types.specs.declared.message.Known.{Known}
use Rattle.faust_types.proofs.Order.{zero-at-initial}
use Rattle.std.proofs.lemmas.List.{get_or-replicate}
use Rattle.faust_forks.specs.Answers.{IsWritten}
use Rattle.faust_types.specs.declared.config.Config.{Config}
use Rattle.faust_agent.specs.State.{first_client, version_at}
use Rattle.faust_agent.specs.declared.client.Client.{Client}
use Rattle.faust_agent.proofs.Kept.{kept-first}
use Rattle.faust_forks.specs.Pasts.{Past, first_past}
use Rattle.faust_forks.proofs.Grounds.{ground-first}
use Rattle.faust_record.specs.Entries.{IsStep, Obeys, replayed, state_at}
use Rattle.faust_record.specs.Runs.{AreNumbered, AreOfClients, IsRun, entries_of}
use Rattle.faust_record.specs.declared.entry.Entry.{Entry}
use Rattle.faust_record.proofs.Own.{entries_of-own}
use Rattle.faust_record.proofs.Runs.{run-front}
use Rattle.faust_premises.specs.Premises.{IsClean}
use Rattle.faust_premises.proofs.Collisions.{no-collision-free}
use Rattle.faust_premises.proofs.Forgeries.{right-pairs-made}
use Rattle.faust_premises.proofs.Fronts.{front-clean}
use Rattle.faust_runs.specs.Ledgers.{ledger_of, past_behind, past_with}
use Rattle.faust_runs.specs.Sound.{Holds, IsSoundLedger}
use Rattle.faust_runs.proofs.Stepping.{IsPlayed, step-sound}

-- the last entry of a run
numbered-last : (q : ℕ) (front : List Entry) (entry : Entry) → AreNumbered q (front ++ entry ∷ []) → entry.number ≡ q + length front
numbered-last q [] entry all = omega (arith, all.0)
numbered-last q (x ∷ front) entry all = omega (arith, numbered-last (suc q) front entry all.1)

client-last : (n : ℕ) (front : List Entry) (entry : Entry) → AreOfClients n (front ++ entry ∷ []) → IsClient n entry.client
client-last n [] entry all = all.0
client-last n (x ∷ front) entry all = client-last n front entry all.1

step-last : (config : Config) (me : ℕ) (st : Client) (own : List Entry) (entry : Entry) → Obeys config me st (own ++ entry ∷ [])
    → IsStep config me (replayed config me st own) entry
step-last config me st [] entry obeys = obeys.0
step-last config me st (x ∷ own) entry obeys = step-last config me (state_at config me st x.input) own entry obeys.1

-- each entry of a clean run is played
pub is-played : (config : Config) (entries front rest : List Entry) (entry : Entry) → IsRun config entries → IsClean config entries
    → entries ≡ front ++ entry ∷ rest → IsPlayed config front entry
is-played config entries front rest entry run clean split =
    let whole : entries ≡ (front ++ entry ∷ []) ++ rest = split ∙ sym (append_assoc front (entry ∷ []) rest) in
    let first : IsRun config (front ++ entry ∷ []) = run-front config (front ++ entry ∷ []) rest (subst (IsRun config) whole run) in
    let kept : IsClean config (front ++ entry ∷ []) =
    front-clean config (front ++ entry ∷ []) rest (subst (IsClean config) whole clean) in
    let client : IsClient config.clients entry.client = client-last config.clients front entry first.of_clients in
    record {
      client = client;
      number = numbered-last 0 front entry first.numbered ∙ omega arith;
      step = step-last config entry.client (first_client config.clients entry.client) (entries_of entry.client front) entry
          (subst (λ (l : List Entry). Obeys config entry.client (first_client config.clients entry.client) l)
          (entries_of-own entry.client front entry refl) (first.obeyed entry.client client));
      unforged = λ pair has right. right-pairs-made config front [] entry pair kept.no_forgery has right;
      free = no-collision-free config (front ++ entry ∷ []) kept.no_collision;
    }

-- the first ledger
held-first : (config : Config) (i : ℕ) → IsClientCount config.clients → IsClient config.clients i
    → Holds config.clients first_past i (first_client config.clients i)
held-first config i count client =
    let n = config.clients in
    let own : version_at (first_client n i) i ≡ initial n =
    ap (λ (k : Known). k.version)
    (get_or-replicate n (i - 1) (unmade n) (unmade 0) (omega (arith, client.from_one, client.to_n))) in
    let none : timestamp_at (initial n) i ≡ 0 = zero-at-initial n i client in
    let zero_is : timestamp_at (version_at (first_client n i) i) i ≡ 0 = ap (λ (v : Vector). timestamp_at v i) own ∙ none in
    record {
      owned = record { held = inl own; last = λ t above. refl };
      pending = tt;
      written = subst (λ (t : ℕ). IsWritten [] i t None) (sym zero_is)
          (record { begun_to = λ s one le. absurd (omega (arith, one, le)); is_digest = refl });
      fresh = λ t above. refl;
    }

pub sound-first : (config : Config) → IsClientCount config.clients → IsSoundLedger config [] first_past
sound-first config count = record {
  ground = ground-first config.clients;
  answered = λ k t done begun found. absurd (cc);
  proper = λ k t begun found. absurd (cc);
  counted = refl;
  hashed_is = refl;
  made_is = λ body. (λ made. absurd made.in_made, λ has. absurd has);
  in_range = λ i within. kept-first config i count within;
  held = λ i within. held-first config i count within;
}

-- what holds before the first entry, and at each entry goes on, holds of the whole record
pub along-behind : (config : Config) (P : List Entry → Past → Type 0) (entries before rest : List Entry) (past : Past)
    → ((front back : List Entry) (entry : Entry) → entries ≡ front ++ entry ∷ back → IsPlayed config front entry)
    → ((front : List Entry) (entry : Entry) (here : Past) → IsPlayed config front entry → P front here
    → P (front ++ entry ∷ []) (past_with config here front entry))
    → entries ≡ before ++ rest → P before past → P entries (past_behind config past before rest)
along-behind config P entries before [] past played step whole holds =
    subst (λ (l : List Entry). P l past) (sym (whole ∙ append-nil before)) holds
along-behind config P entries before (entry ∷ rest) past played step whole holds =
    along-behind config P entries (before ++ entry ∷ []) rest (past_with config past before entry) played step
    (whole ∙ sym (append_assoc before (entry ∷ []) rest))
    (step before entry past (played before rest entry whole) holds)

pub along-run : (config : Config) (P : List Entry → Past → Type 0) (entries : List Entry) → IsRun config entries
    → IsClean config entries
    → ((front : List Entry) (entry : Entry) (here : Past) → IsPlayed config front entry → P front here
    → P (front ++ entry ∷ []) (past_with config here front entry))
    → P [] first_past → P entries (ledger_of config entries)
along-run config P entries run clean step first =
    along-behind config P entries [] entries first_past
    (λ front back entry split. is-played config entries front back entry run clean split) step refl first

pub ledger-sound : (config : Config) (entries : List Entry) → IsRun config entries → IsClean config entries
    → IsSoundLedger config entries (ledger_of config entries)
ledger-sound config entries run clean =
    let count = run.config_in_range.clients_count in
    along-run config (IsSoundLedger config) entries run clean
    (λ front entry past played sound. step-sound config front entry past count sound played) (sound-first config count)
