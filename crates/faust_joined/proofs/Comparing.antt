-- Where no reply departs, all versions that clients made are of fronts of one history. So one of two is at most the other.
use Rattle.std.proofs.Common.{◌≡◌, ◌⊎◌, ℕ, List, [], ◌∷◌, ◌++◌, None, refl, sym, ap, ◌∙◌, subst, inl, inr, append_assoc}
use Rattle.faust_types.specs.Clients.{IsClient}
use Rattle.faust_types.specs.Versions.{Vector, IsAtMost}
use Rattle.faust_types.specs.declared.config.Config.{Config}
use Rattle.faust_lists.proofs.Tails.{tail-linear, tail-trans}
use Rattle.faust_lists.proofs.Versions.{at_most-tail}
use Rattle.faust_agent.specs.State.{version_at}
use Rattle.faust_record.specs.Entries.{replay}
use Rattle.faust_record.specs.Runs.{IsRun, entries_of}
use Rattle.faust_record.specs.declared.entry.Entry.{Entry}
use Rattle.faust_record.proofs.Runs.{run-front}
use Rattle.faust_audit.specs.Departure.{first_departure, first_line}
use Rattle.faust_joined.specs.Joined.{IsWithin, world_of}
use Rattle.faust_joined.specs.Promised.{ArePeersMade, AreVersionsComparable}
use Rattle.faust_joined.proofs.Linear.{IsThrough, none-front, through}
use Rattle.faust_joined.proofs.Running.{last-client, made-front}

-- of two fronts of one list one goes on from the other
same-head : {X : Type 0} (x u : X) (xs us : List X) → x ∷ xs ≡ u ∷ us → x ≡ u
same-head x u xs us same = cc

same-rest : {X : Type 0} (x u : X) (xs us : List X) → x ∷ xs ≡ u ∷ us → xs ≡ us
same-rest x u xs us same = cc

first-front : {X : Type 0} (xs ys us vs : List X) → xs ++ ys ≡ us ++ vs
    → ((more : List X) × (us ≡ xs ++ more)) ⊎ ((more : List X) × (xs ≡ us ++ more))
first-front {X} [] ys us vs same = inl (us, refl)
first-front {X} (x ∷ xs) ys [] vs same = inr (x ∷ xs, refl)
first-front {X} (x ∷ xs) ys (u ∷ us) vs same =
    let head : x ≡ u = same-head x u (xs ++ ys) (us ++ vs) same in
    elim (first-front xs ys us vs (same-rest x u (xs ++ ys) (us ++ vs) same)) [
      | inl longer ↦ inl (longer.0, ap (λ (z : X). z ∷ us) (sym head) ∙ ap (λ (l : List X). x ∷ l) longer.1)
      | inr shorter ↦ inr (shorter.0, ap (λ (z : X). z ∷ xs) head ∙ ap (λ (l : List X). u ∷ l) shorter.1)
    ]

within-ordered : (n : ℕ) (arrived : List ℕ) (v w : Vector) → IsWithin n arrived v → IsWithin n arrived w → IsAtMost v w ⊎ IsAtMost w v
within-ordered n arrived v w h i = elim (tail-linear h.history i.history arrived h.within i.within) [
  | inl front ↦ inl (at_most-tail n v w h.history i.history h.is_version i.is_version front)
  | inr back ↦ inr (at_most-tail n w v i.history h.history i.is_version h.is_version back)
]

-- What a client holds as its own behind a front, and what one holds behind a longer one.
abbrev own_behind : Config → List Entry → ℕ → Vector
own_behind config front k = version_at (replay config k (entries_of k front)) k

fronts-ordered : (config : Config) (front more rest : List Entry) (k l : ℕ) → IsRun config ((front ++ more) ++ rest)
    → ArePeersMade config [] ((front ++ more) ++ rest) → first_departure config ((front ++ more) ++ rest) ≡ None
    → IsClient config.clients k → IsClient config.clients l
    → IsAtMost (own_behind config front k) (own_behind config (front ++ more) l)
    ⊎ IsAtMost (own_behind config (front ++ more) l) (own_behind config front k)
fronts-ordered config front more rest k l run made none of_k of_l =
    let n = config.clients in
    let both : IsThrough config (world_of config (front ++ more)) front (front ++ more) =
    through config front more (run-front config (front ++ more) rest run) (made-front config [] (front ++ more) rest made)
    (none-front config (first_line config.clients) (front ++ more) rest none) in
    let early : IsWithin n both.early.joined.arrived (own_behind config front k) = (both.early.joined.each k of_k).in_step.within k of_k in
    let late : IsWithin n both.late.joined.arrived (own_behind config (front ++ more) l) =
    (both.late.joined.each l of_l).in_step.within l of_l in
    within-ordered n both.late.joined.arrived (own_behind config front k) (own_behind config (front ++ more) l)
    (record {
      history = early.history;
      is_version = early.is_version;
      within = tail-trans early.history both.early.joined.arrived both.late.joined.arrived early.within both.on;
    })
    late

-- the same of fronts of a run that are named otherwise
run-ordered : (config : Config) (entries first second more rest : List Entry) (k l : ℕ) → IsRun config entries
    → ArePeersMade config [] entries → first_departure config entries ≡ None → IsClient config.clients k → IsClient config.clients l
    → entries ≡ second ++ rest → second ≡ first ++ more
    → IsAtMost (own_behind config first k) (own_behind config second l) ⊎ IsAtMost (own_behind config second l) (own_behind config first k)
run-ordered config entries first second more rest k l run made none of_k of_l whole longer =
    let split : entries ≡ (first ++ more) ++ rest = whole ∙ ap (λ (z : List Entry). z ++ rest) longer in
    let Ordered : List Entry → Type 0 = λ (z : List Entry). IsAtMost (own_behind config first k) (own_behind config z l)
    ⊎ IsAtMost (own_behind config z l) (own_behind config first k) in
    subst Ordered (sym longer) (fronts-ordered config first more rest k l (subst (IsRun config) split run)
    (subst (ArePeersMade config []) split made) (ap (first_departure config) (sym split) ∙ none) of_k of_l)

either-order : (v w : Vector) → IsAtMost v w ⊎ IsAtMost w v → IsAtMost w v ⊎ IsAtMost v w
either-order v w (inl h) = inr h
either-order v w (inr h) = inl h

made-client : (config : Config) (entries front rest : List Entry) (e : Entry) → IsRun config entries → entries ≡ front ++ e ∷ rest
    → IsClient config.clients e.client
made-client config entries front rest e run stands =
    let split : entries ≡ (front ++ e ∷ []) ++ rest = stands ∙ sym (append_assoc front (e ∷ []) rest) in
    last-client config.clients front e (run-front config (front ++ e ∷ []) rest (subst (IsRun config) split run)).of_clients

pub versions-comparable : (config : Config) (entries : List Entry) → IsRun config entries → ArePeersMade config [] entries
    → first_departure config entries ≡ None → AreVersionsComparable config entries
versions-comparable config entries run made none v w a b =
    let first : List Entry = a.front ++ a.entry ∷ [] in
    let second : List Entry = b.front ++ b.entry ∷ [] in
    let k : ℕ = a.entry.client in
    let l : ℕ = b.entry.client in
    let of_k : IsClient config.clients k = made-client config entries a.front a.rest a.entry run a.stands in
    let of_l : IsClient config.clients l = made-client config entries b.front b.rest b.entry run b.stands in
    let at_a : entries ≡ first ++ a.rest = a.stands ∙ sym (append_assoc a.front (a.entry ∷ []) a.rest) in
    let at_b : entries ≡ second ++ b.rest = b.stands ∙ sym (append_assoc b.front (b.entry ∷ []) b.rest) in
    let owns : IsAtMost (own_behind config first k) (own_behind config second l)
    ⊎ IsAtMost (own_behind config second l) (own_behind config first k) =
    elim (first-front first a.rest second b.rest (sym at_a ∙ at_b)) [
      | inl longer ↦ run-ordered config entries first second longer.0 b.rest k l run made none of_k of_l at_b longer.1
      | inr shorter ↦ either-order (own_behind config second l) (own_behind config first k)
          (run-ordered config entries second first shorter.0 a.rest l k run made none of_l of_k at_a shorter.1)
    ] in
    subst (λ (z : Vector). IsAtMost z w ⊎ IsAtMost w z) (sym a.is_own)
    (subst (λ (z : Vector). IsAtMost (own_behind config first k) z ⊎ IsAtMost z (own_behind config first k)) (sym b.is_own) owns)
