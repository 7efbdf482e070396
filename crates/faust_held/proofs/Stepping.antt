-- What is known of the versions that clients hold is kept by each entry.
use Rattle.std.proofs.Common.{◌≡◌, ◌⊎◌, ℕ, ◌-◌, true, List, [], ◌∷◌, ◌++◌, refl, sym, ap, ◌∙◌, subst, inl, inr, arith}
use Rattle.std.proofs.lemmas.Bool.{cases_eq}
use Rattle.std.proofs.lemmas.List.{get_or-replicate}
use Rattle.std.specs.Prelude.{replicate}
use Rattle.faust_types.specs.Clients.{IsClient, IsClientCount}
use Rattle.faust_types.specs.Messages.{unmade}
use Rattle.faust_types.specs.Ranges.{IsAnnouncedFor, IsPeerFor, IsPeerMessageFor}
use Rattle.faust_types.specs.Versions.{IsAtMost, clients_of, is_comparable, is_initial}
use Rattle.faust_types.specs.declared.config.Config.{Config}
use Rattle.faust_types.specs.declared.message.Known.{Known}
use Rattle.faust_types.specs.declared.message.Peer.TheVariants as peers
use Rattle.faust_types.specs.declared.message.PeerMessage.{PeerMessage}
use Rattle.faust_types.proofs.Messages.{is_initial-initial}
use Rattle.faust_types.proofs.Order.{at_most_along, at_most_self, comparable_self}
use Rattle.faust_agent.specs.State.{slot_in, version_at}
use Rattle.faust_agent.specs.Table.{after}
use Rattle.faust_agent.specs.InRange.{IsDeedFor}
use Rattle.faust_agent.specs.Tells.{Tells}
use Rattle.faust_agent.specs.declared.client.Client.{Client}
use Rattle.faust_agent.specs.declared.deed.Deed.{Deed}
use Rattle.faust_agent.specs.declared.deed.Deed.TheVariants as deeds
use Rattle.faust_agent.proofs.Reasons.{deed-in_range, deed-tells}
use Rattle.faust_lists.specs.Names.{Has}
use Rattle.faust_forks.specs.Books.{AreDoneIn}
use Rattle.faust_forks.specs.Pasts.{Past}
use Rattle.faust_forks.specs.Sources.{AreSources, Source, of_peer}
use Rattle.faust_forks.proofs.Booked.{booked-more}
use Rattle.faust_forks.proofs.Made.{source-in_range}
use Rattle.faust_record.specs.Entries.{deed_at, event_of}
use Rattle.faust_record.specs.Runs.{IsRun}
use Rattle.faust_record.specs.declared.entry.Entry.{Entry}
use Rattle.faust_record.specs.declared.entry.Input.{Input}
use Rattle.faust_premises.specs.Premises.{IsClean, hashed_inputs}
use Rattle.faust_runs.specs.ForkViews.{reply_at}
use Rattle.faust_runs.specs.Ledgers.{client_after, hashing, ledger_of, past_by, past_with}
use Rattle.faust_runs.specs.Sound.{IsSoundLedger}
use Rattle.faust_runs.proofs.Deeds.{deed-leads}
use Rattle.faust_runs.proofs.Leading.{IsComing}
use Rattle.faust_runs.proofs.Ledgers.{along-run, sound-first}
use Rattle.faust_runs.proofs.Splits.{step-later}
use Rattle.faust_runs.proofs.Stepping.{IsPlayed, client-other, client-own, is-coming, past-here, state-here, step-leads, step-sound}
use Rattle.faust_held.specs.Given.{AreAllHeld, AreHeld, IsBelowHeld, IsBookedFor}
use Rattle.faust_held.proofs.Finishing.{completing-step}
use Rattle.faust_held.proofs.Hearing.{hearing-step}
use Rattle.faust_held.proofs.Holding.{IsStepOf, held-more, quiet-step}
use Rattle.faust_held.proofs.Posting.{IsHeldAndSaid, deed-messages, post-said}
use Rattle.faust_held.proofs.Putting.{ticked-heard}

-- what a deed says
deed-said : (config : Config) (past : Past) (me : ℕ) (st : Client) (input : Input) (deed : Deed) (message : PeerMessage) (known : Known)
    → IsClientCount config.clients → Has (past_by config past me st (reply_at config input) deed).made (of_peer message)
    → message.peer ≡ peers.Version known → Has past.made (of_peer message) ⊎ IsHeldAndSaid config.clients me st message known
deed-said config past me st input deed message known count has says =
    elim (deed-messages config past me st (reply_at config input) deed message has) [
      | inl old ↦ inl old
      | inr post ↦ inr (post-said config me st deed message known count post says)
    ]

-- a deed that changes no version
still-step : (config : Config) (past : Past) (me : ℕ) (st : Client) (input : Input) (deed : Deed) → IsComing config past me st input
    → Tells config me st (event_of config me input) deed → IsDeedFor config me st deed → (after config me st deed).heard ≡ st.heard
    → AreHeld config.clients past.book past.made me st.heard
    → IsStepOf config.clients past.made (past_by config past me st (reply_at config input) deed) me st (after config me st deed)
still-step config past me st input deed coming tells fits same h =
    let leads = deed-leads config past me st input deed coming tells fits in
    quiet-step config.clients past (past_by config past me st (reply_at config input) deed) me st (after config me st deed) same
    leads.grows.done_kept leads.grows.made_kept h
    (λ message known has says. deed-said config past me st input deed message known coming.count has says)

pub deed-step : (config : Config) (past : Past) (me : ℕ) (st : Client) (input : Input) (deed : Deed) → IsComing config past me st input
    → Tells config me st (event_of config me input) deed → IsDeedFor config me st deed
    → AreHeld config.clients past.book past.made me st.heard
    → ((message : PeerMessage) (known : Known) → Has past.made (of_peer message) → message.peer ≡ peers.Version known
    → IsBookedFor past.book known)
    → IsStepOf config.clients past.made (past_by config past me st (reply_at config input) deed) me st (after config me st deed)
deed-step config past me st input deeds.Ignores coming tells fits h booked =
    still-step config past me st input deeds.Ignores coming tells fits refl h
deed-step config past me st input (deeds.Begins order) coming tells fits h booked =
    still-step config past me st input (deeds.Begins order) coming tells fits refl h
deed-step config past me st input (deeds.Completes done) coming tells fits h booked =
    completing-step config past me st input done coming tells fits h
    (λ message known has says. deed-said config past me st input (deeds.Completes done) message known coming.count has says)
deed-step config past me st input (deeds.Breaks notice) coming tells fits h booked =
    still-step config past me st input (deeds.Breaks notice) coming tells fits refl h
deed-step config past me st input (deeds.Answers j) coming tells fits h booked =
    still-step config past me st input (deeds.Answers j) coming tells fits refl h
deed-step config past me st input (deeds.Hears j known) coming tells fits h booked =
    hearing-step config past me st input j known coming tells fits h booked
deed-step config past me st input (deeds.Ticks m) coming tells fits h booked =
    still-step config past me st input (deeds.Ticks m) coming tells fits (ticked-heard config me st m) h

-- an entry
pub entry-step : (config : Config) (before : List Entry) (entry : Entry) (past : Past) → IsClientCount config.clients
    → IsSoundLedger config before past → IsPlayed config before entry → AreAllHeld config before past
    → IsStepOf config.clients past.made (past_with config past before entry) entry.client (client_after config entry.client before)
    (client_after config entry.client (before ++ entry ∷ []))
entry-step config before entry past count sound played h =
    let n = config.clients in
    let me = entry.client in
    let st = client_after config me before in
    let more = hashing past (hashed_inputs config before entry) in
    let deed : Deed = deed_at config me st entry.input in
    let coming = is-coming config before entry past count sound played in
    let event = event_of config me entry.input in
    let there : IsStepOf n past.made (past_by config more me st (reply_at config entry.input) deed) me st (after config me st deed) =
    deed-step config more me st entry.input deed coming (deed-tells config me st event)
    (deed-in_range config me st event played.client coming.kept coming.event) (h.held me played.client)
    (λ message known has says. (h.said message known has says).booked) in
    let moved : client_after config me (before ++ entry ∷ []) ≡ after config me st deed =
    client-own config before entry ∙ state-here config me st entry in
    subst (λ (p : Past). IsStepOf n past.made p me st (client_after config me (before ++ entry ∷ [])))
    (sym (past-here config past before entry))
    (subst (λ (now : Client). IsStepOf n past.made (past_by config more me st (reply_at config entry.input) deed) me st now)
    (sym moved) there)

-- the versions of all clients go up
pub all-grow : (config : Config) (before : List Entry) (entry : Entry) (past : Past) (i k : ℕ) → IsClientCount config.clients
    → IsSoundLedger config before past → IsPlayed config before entry → AreAllHeld config before past → IsClient config.clients k
    → IsAtMost (version_at (client_after config i before) k) (version_at (client_after config i (before ++ entry ∷ [])) k)
all-grow config before entry past i k count sound played h client = elim (cases_eq entry.client i) [
  | inl own ↦
      subst
      (λ (j : ℕ).
      IsAtMost (version_at (client_after config j before) k) (version_at (client_after config j (before ++ entry ∷ [])) k))
      own ((entry-step config before entry past count sound played h).grows k client)
  | inr other ↦
      subst (λ (st : Client). IsAtMost (version_at (client_after config i before) k) (version_at st k))
      (sym (client-other config i before entry other)) (at_most_self (version_at (client_after config i before) k))
]

-- a version that is said is in range
pub said-in_range : (n : ℕ) (made : List Source) (message : PeerMessage) (known : Known) → AreSources n made
    → Has made (of_peer message) → message.peer ≡ peers.Version known → IsAnnouncedFor n known
said-in_range n made message known sources has says =
    let range : IsPeerMessageFor n message = source-in_range n made (of_peer message) sources has in
    subst (IsPeerFor n) says range.peer_in_range

below-more : (config : Config) (before : List Entry) (entry : Entry) (past later : Past) (i : ℕ) (known : Known)
    → IsClientCount config.clients → IsSoundLedger config before past → IsPlayed config before entry → AreAllHeld config before past
    → IsClient config.clients i → IsAnnouncedFor config.clients known
    → AreDoneIn past.book later.book
    → IsBelowHeld config.clients past.book (client_after config i before).heard known
    → IsBelowHeld config.clients later.book (client_after config i (before ++ entry ∷ [])).heard known
below-more config before entry past later i known count sound played h within range dones old =
    let slot = version_at (client_after config i before) old.at in
    let sized : clients_of known.version ≡ clients_of slot =
    range.known_by.version_in_range.count
    ∙ sym ((sound.in_range i within).versions.in_range old.at old.client).known_by.version_in_range.count in
    record {
      booked = booked-more past.book later.book known.maker known.version dones old.booked;
      at = old.at;
      client = old.client;
      below = at_most_along known.version slot (version_at (client_after config i (before ++ entry ∷ [])) old.at) sized old.below
          (all-grow config before entry past i old.at count sound played h old.client);
    }

pub all-held-step : (config : Config) (before : List Entry) (entry : Entry) (past : Past) → IsClientCount config.clients
    → IsSoundLedger config before past → IsPlayed config before entry → AreAllHeld config before past
    → AreAllHeld config (before ++ entry ∷ []) (past_with config past before entry)
all-held-step config before entry past count sound played h =
    let n = config.clients in
    let me = entry.client in
    let after_it = before ++ entry ∷ [] in
    let later : Past = past_with config past before entry in
    let step = entry-step config before entry past count sound played h in
    let grows = step-later config before entry past count sound played in
    let leads = step-leads config before entry past count sound played in
    record {
      held = λ i within. elim (cases_eq me i) [
        | inl own ↦ subst (λ (j : ℕ). AreHeld n later.book later.made j (client_after config j after_it).heard) own step.held
        | inr other ↦
            subst (λ (st : Client). AreHeld n later.book later.made i st.heard) (sym (client-other config i before entry other))
            (held-more n past.book later.book past.made later.made i (client_after config i before).heard grows.done_kept grows.made_kept
            (h.held i within))
      ];
      said = λ message known has says.
          let range = source-in_range n later.made (of_peer message) leads.ground.sources has in
          let announced = said-in_range n later.made message known leads.ground.sources has says in
          below-more config before entry past later message.from known count sound played h range.from_in_range announced grows.done_kept
          (elim (step.said message known has says) [
            | inl old ↦ h.said message known old says
            | inr said ↦
                subst (λ (i : ℕ). IsBelowHeld n past.book (client_after config i before).heard known) (sym said.from_me) (record {
                  booked = subst (IsBookedFor past.book) said.holds ((h.held me played.client).booked said.at said.client);
                  at = said.at;
                  client = said.client;
                  below = subst (λ (v : Known). IsAtMost known.version v.version) (sym said.holds) (at_most_self known.version);
                })
          ]);
    }

-- before the first entry
held-first : (n me : ℕ) → IsClientCount n → AreHeld n [] [] me (replicate n (unmade n))
held-first n me count =
    let slot : (k : ℕ) → IsClient n k → slot_in (replicate n (unmade n)) k ≡ unmade n = λ k client.
    get_or-replicate n (k - 1) (unmade n) (unmade 0) (omega (arith, client.from_one, client.to_n)) in
    let first : (k : ℕ) → IsClient n k → is_initial (slot_in (replicate n (unmade n)) k).version ≡ true = λ k client.
    ap (λ (v : Known). is_initial v.version) (slot k client) ∙ is_initial-initial n count in
    record {
      booked = λ k client. inl (first k client);
      agree = λ k l client other.
          ap (λ (v : Known). is_comparable v.version (slot_in (replicate n (unmade n)) l).version) (slot k client)
          ∙ ap (λ (v : Known). is_comparable (unmade n).version v.version) (slot l other) ∙ comparable_self (unmade n).version;
      given = λ k client other. inl (first k client);
    }

-- What is known of entries and their ledger.
pub record AreKept (config : Config) (entries : List Entry) (past : Past) : Type 0 where
  pub sound : IsSoundLedger config entries past
  pub held : AreAllHeld config entries past

pub run-kept : (config : Config) (entries : List Entry) → IsRun config entries → IsClean config entries
    → AreKept config entries (ledger_of config entries)
run-kept config entries run clean =
    let count = run.config_in_range.clients_count in
    along-run config (AreKept config) entries run clean
    (λ front entry past played h. record {
      sound = step-sound config front entry past count h.sound played;
      held = all-held-step config front entry past count h.sound played h.held;
    })
    (record {
      sound = sound-first config count;
      held = record {
        held = λ i within. held-first config.clients i count;
        said = λ message known has says. absurd has;
      };
    })
