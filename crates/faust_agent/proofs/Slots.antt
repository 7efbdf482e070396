-- What a search over the versions of all clients finds, and how long a cut is.
use Rattle.std.proofs.Common.{inl, inr, true, ◌≡◌, ℕ, ◌+◌, ◌-◌, ◌≤◌, ◌∷◌, suc, zero, Bool, false, Option, Some, None, [], length, length-append, refl, sym, ap, ◌∙◌, arith}
use Rattle.std.proofs.lemmas.Bool.{cases_eq}
use Rattle.faust_types.specs.Clients.{IsClientCount, IsClient}
use Rattle.faust_types.specs.Versions.{Vector}
use Rattle.faust_types.specs.Ranges.{IsAnnouncedFor}
use Rattle.faust_types.specs.declared.message.Known.{Known}
use Rattle.faust_types.specs.declared.operation.Operation.{Operation}
use Rattle.faust_types.specs.declared.config.Config.{Config}
use Rattle.faust_ustor.specs.declared.judgement.Judged.{Judged}
use Rattle.faust_agent.specs.State.{cut_at, cut_up_to, greatest, greatest_up_to, is_less, version_at}
use Rattle.faust_agent.specs.Table.{first_unfit, fitted, is_fitting, or_unfit}
use Rattle.faust_agent.specs.InRange.{HoldsEach, IsCompletionOf, IsDeedFor}
use Rattle.faust_agent.specs.declared.client.Client.{Client}
use Rattle.faust_agent.proofs.Kept.{either_way}

-- the first client that doesn't fit stays the first as more are looked at
pub first_unfit-stays : (st : Client) (next : Vector) (heard : Option Known) (k more x : ℕ) → first_unfit st next heard k ≡ Some x
    → first_unfit st next heard (k + more) ≡ Some x
first_unfit-stays st next heard k zero x found = let same : k + zero ≡ k = omega arith in ap (first_unfit st next heard) same ∙ found
first_unfit-stays st next heard k (suc more) x found =
    let next_place : k + suc more ≡ suc (k + more) = omega arith in
    let before : first_unfit st next heard (k + more) ≡ Some x = first_unfit-stays st next heard k more x found in
    let fits : Bool = is_fitting next heard (version_at st (suc (k + more))) in
    ap (first_unfit st next heard) next_place ∙ ap (λ (first : Option ℕ). or_unfit first fits (suc (k + more))) before

-- where all before client k + 1 fit, and it doesn't, it is the first of n
pub first_unfit-at : (st : Client) (next : Vector) (heard : Option Known) (n k : ℕ) → first_unfit st next heard k ≡ None
    → is_fitting next heard (version_at st (k + 1)) ≡ false → k + 1 ≤ n → first_unfit st next heard n ≡ Some (k + 1)
first_unfit-at st next heard n k none unfit within =
    let step : k + 1 ≡ suc k = omega arith in
    let whole : suc k + (n - suc k) ≡ n = omega arith in
    let here : is_fitting next heard (version_at st (suc k)) ≡ false =
    ap (λ (j : ℕ). is_fitting next heard (version_at st j)) (sym step) ∙ unfit in
    let found : first_unfit st next heard (suc k) ≡ Some (suc k) =
    ap (λ (first : Option ℕ). or_unfit first (is_fitting next heard (version_at st (suc k))) (suc k)) none
    ∙ ap (λ (fits : Bool). or_unfit None fits (suc k)) here in
    ap (first_unfit st next heard) (sym whole) ∙ first_unfit-stays st next heard (suc k) (n - suc k) (suc k) found
    ∙ ap (λ (j : ℕ). Some j) (sym step)

-- where none is found all fit, and where all fit none is found
or_unfit-none : (first : Option ℕ) (fits : Bool) (k : ℕ) → or_unfit first fits k ≡ None → (first ≡ None) × (fits ≡ true)
or_unfit-none None true k none = (refl, refl)
or_unfit-none None false k none = cc
or_unfit-none (Some x) fits k none = cc

pub fits-below : (st : Client) (next : Vector) (heard : Option Known) (n : ℕ) → first_unfit st next heard n ≡ None
    → (k : ℕ) → IsClient n k → is_fitting next heard (version_at st k) ≡ true
fits-below st next heard zero none k client = absurd (omega (arith, client.from_one, client.to_n))
fits-below st next heard (suc n) none k client =
    let parts = or_unfit-none (first_unfit st next heard n) (is_fitting next heard (version_at st (suc n))) (suc n) none in
    elim (cases_eq k (suc n)) [
      | inl e ↦ ap (λ (j : ℕ). is_fitting next heard (version_at st j)) e ∙ parts.1
      | inr ne ↦ fits-below st next heard n parts.0 k (record { from_one = client.from_one; to_n = omega (arith, client.to_n, ne) })
    ]

pub fits-all : (st : Client) (next : Vector) (heard : Option Known) (n : ℕ)
    → ((k : ℕ) → IsClient n k → is_fitting next heard (version_at st k) ≡ true) → first_unfit st next heard n ≡ None
fits-all st next heard zero each = refl
fits-all st next heard (suc n) each =
    let before : first_unfit st next heard n ≡ None =
    fits-all st next heard n (λ k client. each k (record { from_one = client.from_one; to_n = omega (arith, client.to_n) })) in
    let here : is_fitting next heard (version_at st (suc n)) ≡ true =
    each (suc n) (record { from_one = omega arith; to_n = omega arith }) in
    ap (λ (first : Option ℕ). or_unfit first (is_fitting next heard (version_at st (suc n))) (suc n)) before
    ∙ ap (λ (fits : Bool). or_unfit None fits (suc n)) here

-- the greatest known version is that of a client
pub greatest_up_to-client : (n : ℕ) (st : Client) (k : ℕ) → IsClientCount n → k ≤ n → IsClient n (greatest_up_to st k)
greatest_up_to-client n st zero count within = record { from_one = omega arith; to_n = omega (arith, count.at_least_two) }
greatest_up_to-client n st (suc k) count within =
    let best : ℕ = greatest_up_to st k in
    either_way (IsClient n) (is_less (version_at st best) (version_at st (suc k))) (suc k) best
    (λ newer. record { from_one = omega arith; to_n = within }) (λ older. greatest_up_to-client n st k count (omega arith))

pub greatest-in_range : (n : ℕ) (st : Client) → HoldsEach n st.heard → IsAnnouncedFor n (greatest n st)
unfolding greatest
greatest-in_range n st holds = holds.in_range (greatest_up_to st n) (greatest_up_to-client n st n holds.count (omega arith))

-- a cut has an entry for each client
pub length-cut : (me : ℕ) (st : Client) (k : ℕ) → length (cut_up_to me st k) ≡ k
length-cut me st zero = refl
length-cut me st (suc k) =
    let before : length (cut_up_to me st k) ≡ k = length-cut me st k in
    length-append (cut_up_to me st k) (cut_at me st (suc k) ∷ []) ∙ omega arith

-- check 13 gives a deed that the client can do
pub deed-fitted : (config : Config) (me : ℕ) (st : Client) (op : Operation) (judged : Judged) (first : Option ℕ)
    → IsCompletionOf config me st (record { op = op; judged = judged }) → IsDeedFor config me st (fitted op judged first)
deed-fitted config me st op judged None completes = completes
deed-fitted config me st op judged (Some k) completes = record { from_one = omega arith; to_15 = omega arith }
