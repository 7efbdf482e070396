-- The agents of all clients after one more entry.
use Rattle.std.proofs.Common.{◌≡◌, ◌+◌, ◌-◌, ◌<◌, ◌≤◌, ℕ, zero, suc, List, [], ◌∷◌, ◌++◌, length, get_or, refl, sym, ap, ◌∙◌, subst, inl, inr, arith, length-append}
use Rattle.std.proofs.lemmas.List.{get_or_append_left, get_or_push, get_or-set_other, length-set}
use Rattle.std.proofs.lemmas.Grind.{get_or-set_at}
use Rattle.std.proofs.lemmas.Bool.{cases_eq}
use Rattle.std.specs.Prelude.{slice_set}
use Rattle.faust_types.specs.Clients.{IsClient}
use Rattle.faust_types.specs.declared.config.Config.{Config}
use Rattle.faust_agent.specs.State.{Member, first_member}
use Rattle.faust_record.specs.Entries.{member_after}
use Rattle.faust_record.specs.Acting.{member_at}
use Rattle.faust_record.specs.Runs.{entries_of}
use Rattle.faust_record.specs.Kept.{AreReplayed, agent_in, first_members}
use Rattle.faust_record.specs.declared.entry.Entry.{Entry}
use Rattle.faust_record.specs.declared.entry.Input.TheVariants as inputs
use Rattle.faust_record.proofs.Own.{entries_of-other, entries_of-own, member_after-append}
use Rattle.faust_record.proofs.Inputs.{member-arrival}

-- another item in the place of one client
pub set-own : {X : Type 0} (xs : List X) (i : ℕ) (x d : X) (n : ℕ) → length xs ≡ n → IsClient n i
    → get_or (slice_set xs (i - 1) x) (i - 1) d ≡ x
set-own xs i x d n counted client = get_or-set_at xs (i - 1) (i - 1) x d refl (omega (arith, client.from_one, client.to_n, counted))

pub set-other : {X : Type 0} (xs : List X) (i j : ℕ) (x d : X) (n : ℕ) → IsClient n i → IsClient n j → (i ≡ j → ⊥)
    → get_or (slice_set xs (i - 1) x) (j - 1) d ≡ get_or xs (j - 1) d
set-other xs i j x d n client within apart =
    let other : j - 1 ≡ i - 1 → ⊥ = λ same. apart (omega (arith, client.from_one, within.from_one, same)) in
    get_or-set_other xs (i - 1) (j - 1) x d other

-- the agents where client i has one more entry, at which its agent moved
pub replayed-own : (config : Config) (agents : List Member) (xs : List Entry) (e : Entry) (now : Member)
    → AreReplayed config agents xs → IsClient config.clients e.client → now ≡ member_at (agent_in config agents e.client) e.input
    → AreReplayed config (slice_set agents (e.client - 1) now) (xs ++ e ∷ [])
replayed-own config agents xs e now kept client moved = record {
  counted = length-set agents (e.client - 1) now ∙ kept.counted;
  each = λ i within. elim (cases_eq e.client i) [
    | inl own ↦
        let same : agent_in config (slice_set agents (e.client - 1) now) e.client ≡ now =
        set-own agents e.client now (first_member config e.client) config.clients kept.counted client in
        let before : now ≡ member_at (member_after config e.client (entries_of e.client xs)) e.input =
        moved ∙ ap (λ (m : Member). member_at m e.input) (kept.each e.client client) in
        let after : member_at (member_after config e.client (entries_of e.client xs)) e.input ≡ member_after config e.client
        (entries_of e.client (xs ++ e ∷ [])) =
        sym (ap (member_after config e.client) (entries_of-own e.client xs e refl)
        ∙ member_after-append config e.client (entries_of e.client xs) e) in
        subst (λ (k : ℕ). agent_in config (slice_set agents (e.client - 1) now) k ≡ member_after config k
        (entries_of k (xs ++ e ∷ []))) own
        (same ∙ before ∙ after)
    | inr other ↦
        set-other agents e.client i now (first_member config i) config.clients client within other
        ∙ kept.each i within ∙ ap (member_after config i) (sym (entries_of-other i xs e other))
  ];
}

-- the agents where a message arrived
pub replayed-arrival : (config : Config) (agents : List Member) (xs : List Entry) (e : Entry) (message : List ℕ)
    → AreReplayed config agents xs → e.input ≡ inputs.Arrive message → AreReplayed config agents (xs ++ e ∷ [])
replayed-arrival config agents xs e message kept arrival = record {
  counted = kept.counted;
  each = λ i within. elim (cases_eq e.client i) [
    | inl own ↦
        let before : Member = member_after config i (entries_of i xs) in
        let same : before ≡ member_at before e.input =
        member-arrival before message ∙ ap (member_at before) (sym arrival) in
        kept.each i within ∙ same
        ∙ sym (ap (member_after config i) (entries_of-own i xs e own) ∙ member_after-append config i (entries_of i xs) e)
    | inr other ↦ kept.each i within ∙ ap (member_after config i) (sym (entries_of-other i xs e other))
  ];
}

-- the agents at first
length-first : (config : Config) (k : ℕ) → length (first_members config k) ≡ k
length-first config zero = refl
length-first config (suc k) =
    let before : length (first_members config k) ≡ k = length-first config k in
    length-append (first_members config k) (first_member config (suc k) ∷ []) ∙ omega (arith, before)

first-at : (config : Config) (k i : ℕ) → IsClient k i → agent_in config (first_members config k) i ≡ first_member config i
first-at config zero i within = absurd (omega (arith, within.from_one, within.to_n))
first-at config (suc k) i within =
    let sized : length (first_members config k) ≡ k = length-first config k in
    elim (cases_eq i (suc k)) [
      | inl last ↦
          let place : length (first_members config k) ≡ i - 1 = omega (arith, sized, last) in
          get_or_push (first_members config k) (first_member config (suc k)) (first_member config i) (i - 1) place
          ∙ ap (first_member config) (sym last)
      | inr earlier ↦
          let inside : i ≤ k = omega (arith, within.to_n, earlier) in
          let below : i - 1 < length (first_members config k) = omega (arith, sized, within.from_one, inside) in
          get_or_append_left (first_members config k) (first_member config (suc k) ∷ []) (first_member config i) (i - 1) below
          ∙ first-at config k i (record { from_one = within.from_one; to_n = inside })
    ]

pub replayed-first : (config : Config) → AreReplayed config (first_members config config.clients) []
replayed-first config = record { counted = length-first config config.clients; each = first-at config config.clients }
