-- One more entry keeps the ledger sound.
use Rattle.std.proofs.Common.{◌≡◌, ◌⊎◌, ℕ, suc, List, [], ◌∷◌, ◌++◌, length, Option, Some, None, IfSome, length-append, refl, sym, ap, ◌∙◌, subst, inl, inr, arith}
use Rattle.std.proofs.lemmas.Bool.{cases_eq}
use Rattle.faust_types.specs.Clients.{IsClient, IsClientCount}
use Rattle.faust_types.specs.Versions.{Vector, timestamp_at}
use Rattle.faust_types.specs.declared.config.Config.{Config}
use Rattle.faust_types.specs.declared.operation.Operation.{Operation}
use Rattle.faust_tags.specs.Bodies.{tag_of}
use Rattle.faust_agent.specs.State.{first_client, version_at}
use Rattle.faust_agent.specs.Table.{after}
use Rattle.faust_agent.specs.InRange.{IsClientOf}
use Rattle.faust_agent.specs.declared.client.Client.{Client}
use Rattle.faust_agent.specs.declared.deed.Deed.{Deed}
use Rattle.faust_agent.proofs.Kept.{kept-after}
use Rattle.faust_agent.proofs.Reasons.{deed-in_range, deed-tells}
use Rattle.faust_lists.specs.Names.{Has}
use Rattle.faust_lists.specs.Walks.{IsFree}
use Rattle.faust_forks.specs.Books.{Begun, find, find_begun}
use Rattle.faust_forks.specs.Pairs.{Pair}
use Rattle.faust_forks.specs.Sources.{IsMade, Source}
use Rattle.faust_forks.specs.Pasts.{Past}
use Rattle.faust_forks.specs.Forks.{IsOwn}
use Rattle.faust_forks.proofs.Grounds.{ground-hashed}
use Rattle.faust_forks.proofs.Members.{has-left, has-right}
use Rattle.faust_forks.proofs.Registers.{IsWritten-more}
use Rattle.faust_record.specs.Entries.{IsStep, deed_at, event_of, replay, state_at}
use Rattle.faust_record.specs.Made.{bodies_of, made_behind, made_bodies}
use Rattle.faust_record.specs.Runs.{entries_of}
use Rattle.faust_record.specs.declared.entry.Entry.{Entry}
use Rattle.faust_record.proofs.Own.{entries_of-other, entries_of-own, replayed-append}
use Rattle.faust_premises.specs.Premises.{checked_pairs, hashed_in_run, hashed_inputs, inputs_at, pairs_of_input}
use Rattle.faust_premises.proofs.Collisions.{hashed_in_run-one}
use Rattle.faust_premises.proofs.Forgeries.{made_behind-one}
use Rattle.faust_runs.specs.ForkViews.{reply_at}
use Rattle.faust_runs.specs.Ledgers.{client_after, hashing, past_by, past_with}
use Rattle.faust_runs.specs.Sound.{Holds, IsAwaited, IsSoundLedger}
use Rattle.faust_runs.proofs.Events.{event-in_range}
use Rattle.faust_runs.proofs.Leading.{IsComing, LeadsTo}
use Rattle.faust_runs.proofs.Deeds.{deed-leads}
use Rattle.faust_runs.proofs.Bodies.{deed-made, deed-sources, has-either, made-grows}

-- What is known of an entry of a clean run behind others.
pub record IsPlayed (config : Config) (before : List Entry) (entry : Entry) : Type 0 where
  pub client : IsClient config.clients entry.client
  pub number : entry.number ≡ length before
  pub step : IsStep config entry.client (client_after config entry.client before) entry
  pub unforged : (pair : Pair) → Has (checked_pairs config entry) pair → pair.tag ≡ tag_of config.key pair.body
      → Has (made_behind config [] before) pair.body
  pub free : IsFree (hashed_in_run config (before ++ entry ∷ []))

-- the client of the entry moves, and no other one
pub client-own : (config : Config) (before : List Entry) (entry : Entry)
    → client_after config entry.client (before ++ entry ∷ [])
    ≡ state_at config entry.client (client_after config entry.client before) entry.input
client-own config before entry =
    ap (replay config entry.client) (entries_of-own entry.client before entry refl)
    ∙ replayed-append config entry.client (first_client config.clients entry.client) (entries_of entry.client before) (entry ∷ [])

pub client-other : (config : Config) (i : ℕ) (before : List Entry) (entry : Entry) → (entry.client ≡ i → ⊥)
    → client_after config i (before ++ entry ∷ []) ≡ client_after config i before
client-other config i before entry other = ap (replay config i) (entries_of-other i before entry other)

-- what the entry hashes, and what it makes, in the words of its client
pub inputs-here : (config : Config) (before : List Entry) (entry : Entry)
    → hashed_inputs config before entry ≡ inputs_at config entry.client (client_after config entry.client before) entry.input
unfolding hashed_inputs
inputs-here config before entry = refl

pub pairs-here : (config : Config) (entry : Entry) → checked_pairs config entry ≡ pairs_of_input config entry.input
unfolding checked_pairs
pairs-here config entry = refl

pub bodies-here : (config : Config) (before : List Entry) (entry : Entry)
    → made_bodies config before entry
    ≡ bodies_of config entry.client (client_after config entry.client before)
    (deed_at config entry.client (client_after config entry.client before) entry.input)
unfolding made_bodies
bodies-here config before entry = refl

pub past-here : (config : Config) (past : Past) (before : List Entry) (entry : Entry)
    → past_with config past before entry
    ≡ past_by config (hashing past (hashed_inputs config before entry)) entry.client (client_after config entry.client before)
    (reply_at config entry.input) (deed_at config entry.client (client_after config entry.client before) entry.input)
unfolding past_with
past-here config past before entry = refl

pub state-here : (config : Config) (me : ℕ) (st : Client) (entry : Entry)
    → state_at config me st entry.input ≡ after config me st (deed_at config me st entry.input)
unfolding state_at
state-here config me st entry = refl

-- what the ledger has of another client
owned-other : (n : ℕ) (past later : Past) (i : ℕ) (own : Vector) → ((t : ℕ) → find later.book i t ≡ find past.book i t)
    → IsOwn n past.book i own → IsOwn n later.book i own
owned-other n past later i own dones h = record {
  held = elim h.held [
    | inl first ↦ inl first
    | inr last ↦ inr (record {
      done = last.done;
      found = dones (timestamp_at own i) ∙ last.found;
      fits_it = last.fits_it;
    })
  ];
  last = λ t above. dones t ∙ h.last t above;
}

awaited-other : (past later : Past) (i : ℕ) (waiting : Option Operation)
    → ((k t : ℕ) (begun : Begun) → find_begun past.started k t ≡ Some begun → find_begun later.started k t ≡ Some begun)
    → IfSome waiting (IsAwaited past.started i) → IfSome waiting (IsAwaited later.started i)
awaited-other past later i None grows h = tt
awaited-other past later i (Some op) grows h = record {
  began = record {
    begun = h.began.begun;
    found = grows i op.name.t h.began.begun h.began.found;
    fits_it = h.began.fits_it;
  };
  own_name = h.own_name;
}

pub held-other : (n : ℕ) (past later : Past) (i : ℕ) (st : Client)
    → ((t : ℕ) → find_begun later.started i t ≡ find_begun past.started i t) → ((t : ℕ) → find later.book i t ≡ find past.book i t)
    → ((k t : ℕ) (begun : Begun) → find_begun past.started k t ≡ Some begun → find_begun later.started k t ≡ Some begun)
    → Holds n past i st → Holds n later i st
held-other n past later i st begins dones grows held = record {
  owned = owned-other n past later i (version_at st i) dones held.owned;
  pending = awaited-other past later i st.waiting grows held.pending;
  written = IsWritten-more past.started later.started i _ st.last grows held.written;
  fresh = λ t above. begins t ∙ held.fresh t above;
}

-- a body that was made before, or in the entry
made-either : (config : Config) (before : List Entry) (entry : Entry) (past later : Past) (body : List ℕ)
    → ((source : Source) → Has past.made source → Has later.made source)
    → (Has (made_behind config [] before) body → IsMade past.made body)
    → (Has (made_bodies config before entry) body → IsMade later.made body)
    → Has (made_behind config [] before ++ made_bodies config before entry) body → IsMade later.made body
made-either config before entry past later body grows old here has =
    elim (has-either (made_behind config [] before) (made_bodies config before entry) body has) [
      | inl left ↦ made-grows past.made later.made body grows (old left)
      | inr right ↦ here right
    ]

sources-either : (config : Config) (before : List Entry) (entry : Entry) (past : Past) (body : List ℕ)
    → (IsMade past.made body → Has (made_behind config [] before) body)
    → IsMade past.made body ⊎ Has (made_bodies config before entry) body
    → Has (made_behind config [] before ++ made_bodies config before entry) body
sources-either config before entry past body old (inl made) =
    has-left (made_behind config [] before) (made_bodies config before entry) body (old made)
sources-either config before entry past body old (inr here) =
    has-right (made_behind config [] before) (made_bodies config before entry) body here

-- the entry comes to its client
pub is-coming : (config : Config) (before : List Entry) (entry : Entry) (past : Past) → IsClientCount config.clients
    → IsSoundLedger config before past → IsPlayed config before entry
    → IsComing config (hashing past (hashed_inputs config before entry)) entry.client (client_after config entry.client before) entry.input
is-coming config before entry past count sound played =
    let me = entry.client in
    let st = client_after config me before in
    let inputs = hashed_inputs config before entry in
    let all : past.hashed ++ inputs ≡ hashed_in_run config (before ++ entry ∷ []) =
    ap (λ (l : List (List ℕ)). l ++ inputs) sound.hashed_is ∙ sym (hashed_in_run-one config before entry) in
    record {
      count = count;
      client = played.client;
      kept = sound.in_range me played.client;
      event = event-in_range config me st entry.input count played.client played.step.may_come;
      ground = ground-hashed config.clients past (past.hashed ++ inputs) past.entry sound.ground (subst IsFree (sym all) played.free)
          (λ x has. has-left past.hashed inputs x has) (omega arith);
      answered = sound.answered;
      proper = sound.proper;
      held = sound.held me played.client;
      hashes = λ x has. has-right past.hashed inputs x
          (subst (λ (l : List (List ℕ)). Has l x) (sym (inputs-here config before entry)) has);
      unforged = λ pair has right. (sound.made_is pair.body).1
          (played.unforged pair (subst (λ (l : List Pair). Has l pair) (sym (pairs-here config entry)) has) right);
    }

-- the ledger after it
pub step-leads : (config : Config) (before : List Entry) (entry : Entry) (past : Past) → IsClientCount config.clients
    → IsSoundLedger config before past → IsPlayed config before entry
    → LeadsTo config (hashing past (hashed_inputs config before entry)) (past_with config past before entry) entry.client
    (client_after config entry.client (before ++ entry ∷ []))
step-leads config before entry past count sound played =
    let me = entry.client in
    let st = client_after config me before in
    let more = hashing past (hashed_inputs config before entry) in
    let deed : Deed = deed_at config me st entry.input in
    let coming = is-coming config before entry past count sound played in
    let there : LeadsTo config more (past_by config more me st (reply_at config entry.input) deed) me (after config me st deed) =
    deed-leads config more me st entry.input deed coming (deed-tells config me st (event_of config me entry.input))
    (deed-in_range config me st (event_of config me entry.input) played.client coming.kept coming.event) in
    let moved : client_after config me (before ++ entry ∷ []) ≡ after config me st deed =
    client-own config before entry ∙ state-here config me st entry in
    subst (λ (p : Past). LeadsTo config more p me (client_after config me (before ++ entry ∷ [])))
    (sym (past-here config past before entry))
    (subst (λ (now : Client). LeadsTo config more (past_by config more me st (reply_at config entry.input) deed) me now) (sym moved) there)

pub step-made : (config : Config) (before : List Entry) (entry : Entry) (past : Past) → IsClientCount config.clients
    → IsSoundLedger config before past → IsPlayed config before entry
    → (body : List ℕ) → Has (made_bodies config before entry) body → IsMade (past_with config past before entry).made body
step-made config before entry past count sound played body has =
    let me = entry.client in
    let st = client_after config me before in
    let more = hashing past (hashed_inputs config before entry) in
    let deed : Deed = deed_at config me st entry.input in
    let coming = is-coming config before entry past count sound played in
    subst (λ (p : Past). IsMade p.made body) (sym (past-here config past before entry))
    (deed-made config more me st entry.input deed body coming (deed-tells config me st (event_of config me entry.input))
    (subst (λ (l : List (List ℕ)). Has l body) (bodies-here config before entry) has))

pub step-sources : (config : Config) (before : List Entry) (entry : Entry) (past : Past) → IsClientCount config.clients
    → IsSoundLedger config before past → IsPlayed config before entry
    → (body : List ℕ) → IsMade (past_with config past before entry).made body
    → IsMade past.made body ⊎ Has (made_bodies config before entry) body
step-sources config before entry past count sound played body made =
    let me = entry.client in
    let st = client_after config me before in
    let more = hashing past (hashed_inputs config before entry) in
    let deed : Deed = deed_at config me st entry.input in
    let coming = is-coming config before entry past count sound played in
    subst (λ (l : List (List ℕ)). IsMade past.made body ⊎ Has l body) (sym (bodies-here config before entry))
    (deed-sources config more me st entry.input deed body coming (deed-tells config me st (event_of config me entry.input))
    (subst (λ (p : Past). IsMade p.made body) (past-here config past before entry) made))

pub step-in_range : (config : Config) (before : List Entry) (entry : Entry) (past : Past) → IsClientCount config.clients
    → IsSoundLedger config before past → IsPlayed config before entry
    → IsClientOf config entry.client (client_after config entry.client (before ++ entry ∷ []))
step-in_range config before entry past count sound played =
    let me = entry.client in
    let st = client_after config me before in
    let deed : Deed = deed_at config me st entry.input in
    let coming = is-coming config before entry past count sound played in
    let moved : client_after config me (before ++ entry ∷ []) ≡ after config me st deed =
    client-own config before entry ∙ state-here config me st entry in
    subst (IsClientOf config me) (sym moved)
    (kept-after config me st deed played.client coming.kept
    (deed-in_range config me st (event_of config me entry.input) played.client coming.kept coming.event))

pub step-sound : (config : Config) (before : List Entry) (entry : Entry) (past : Past) → IsClientCount config.clients
    → IsSoundLedger config before past → IsPlayed config before entry
    → IsSoundLedger config (before ++ entry ∷ []) (past_with config past before entry)
step-sound config before entry past count sound played =
    let n = config.clients in
    let me = entry.client in
    let more = hashing past (hashed_inputs config before entry) in
    let later : Past = past_with config past before entry in
    let leads = step-leads config before entry past count sound played in
    record {
      ground = leads.ground;
      answered = leads.answered;
      proper = leads.proper;
      counted = leads.counted ∙ ap suc sound.counted ∙ sym (length-append before (entry ∷ []) ∙ omega arith);
      hashed_is = leads.same_hashed ∙ ap (λ (l : List (List ℕ)). l ++ hashed_inputs config before entry) sound.hashed_is
          ∙ sym (hashed_in_run-one config before entry);
      made_is = λ body. (
        λ made.
            subst (λ (l : List (List ℕ)). Has l body) (sym (made_behind-one config before entry))
            (sources-either config before entry past body (λ old. (sound.made_is body).0 old)
            (step-sources config before entry past count sound played body made)),
        λ has. made-either config before entry past later body leads.grows.made_kept (λ old. (sound.made_is body).1 old)
            (step-made config before entry past count sound played body)
            (subst (λ (l : List (List ℕ)). Has l body) (made_behind-one config before entry) has),
      );
      in_range = λ i within. elim (cases_eq me i) [
        | inl own ↦ subst (λ (k : ℕ). IsClientOf config k (client_after config k (before ++ entry ∷ []))) own
            (step-in_range config before entry past count sound played)
        | inr other ↦ subst (IsClientOf config i) (sym (client-other config i before entry other)) (sound.in_range i within)
      ];
      held = λ i within. elim (cases_eq me i) [
        | inl own ↦ subst (λ (k : ℕ). Holds n later k (client_after config k (before ++ entry ∷ []))) own leads.held
        | inr other ↦
            subst (Holds n later i) (sym (client-other config i before entry other))
            (held-other n past later i (client_after config i before)
            (λ t. leads.begun_of_others i t (λ same. other (sym same))) (λ t. leads.done_of_others i t (λ same. other (sym same)))
            leads.grows.begun_kept (sound.held i within))
      ];
    }
