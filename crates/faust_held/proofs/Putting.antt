-- How a client comes to hold other versions.
use Rattle.std.proofs.Common.{◌≡◌, ◌⊎◌, ℕ, ◌-◌, ◌==◌, ◌&&◌, true, not, length, Option, Some, None, refl, sym, ap, ◌∙◌, subst, inl, inr}
use Rattle.std.proofs.lemmas.Bool.{and_parts, cases_eq}
use Rattle.std.specs.Prelude.{slice_set}
use Rattle.faust_types.specs.Clients.{IsClient}
use Rattle.faust_types.specs.Versions.{IsAtMost, Vector, is_at_most}
use Rattle.faust_types.specs.declared.config.Config.{Config}
use Rattle.faust_types.specs.declared.message.Known.{Known}
use Rattle.faust_types.proofs.Order.{is_at_most-means}
use Rattle.faust_agent.specs.State.{is_less, slot_at, slot_in, version_at}
use Rattle.faust_agent.specs.Table.{begun_by, completed_by, dummy_of, heard_by, held_after, is_dummy_due, moved_on, own_tag, ticked_by, with_news, with_read, with_slot}
use Rattle.faust_agent.specs.declared.client.Client.{Client}
use Rattle.faust_agent.specs.declared.deed.Completion.{Completion}
use Rattle.faust_agent.proofs.Kept.{differs, either_way, slot-other, slot-same}

pub less-means : (v w : Vector) → is_less v w ≡ true → IsAtMost v w
less-means v w less = (is_at_most-means v w).0 (and_parts (is_at_most v w) (not (is_at_most w v)) less).0

-- What is held then as the version of client k is the one that came as that of j, and it grew.
pub record IsRaised (st : Client) (then : Known) (j : ℕ) (known : Known) (k : ℕ) : Type 0 where
  pub is_j : k ≡ j
  pub holds : then ≡ known
  pub grew : IsAtMost (version_at st k) known.version

pub put-cases : (n : ℕ) (st : Client) (j : ℕ) (known : Known) (k : ℕ) → length st.heard ≡ n → IsClient n j → IsClient n k
    → IsAtMost (version_at st j) known.version
    → (slot_at (with_slot st j known) k ≡ slot_at st k) ⊎ IsRaised st (slot_at (with_slot st j known) k) j known k
put-cases n st j known k counted of_j of_k up = elim (cases_eq k j) [
  | inl same ↦ inr (record {
    is_j = same;
    holds = ap (slot_in (slice_set st.heard (j - 1) known)) same ∙ slot-same n st.heard j known counted of_j;
    grew = subst (λ (i : ℕ). IsAtMost (version_at st i) known.version) (sym same) up;
  })
  | inr other ↦ inl (slot-other n st.heard j known k of_j of_k other)
]

-- a VERSION of client j
pub heard-cases : (n : ℕ) (st : Client) (j : ℕ) (known : Known) (k : ℕ) → length st.heard ≡ n → IsClient n j → IsClient n k
    → (slot_at (heard_by st j known) k ≡ slot_at st k) ⊎ IsRaised st (slot_at (heard_by st j known) k) j known k
heard-cases n st j known k counted of_j of_k =
    either_way (λ (now : Client). (slot_at now k ≡ slot_at st k) ⊎ IsRaised st (slot_at now k) j known k)
    (is_less (version_at st j) known.version) (with_slot st j known) st
    (λ newer. put-cases n st j known k counted of_j of_k (less-means (version_at st j) known.version newer))
    (λ older. inl refl)

-- the version of client j that comes with a read
pub record IsRead (me : ℕ) (st : Client) (then : Known) (j : ℕ) (heard : Option Known) (k : ℕ) : Type 0 where
  pub known : Known
  pub came : heard ≡ Some known
  pub another : j ≡ me → ⊥
  pub raised : IsRaised st then j known k

pub read-cases : (n me : ℕ) (st : Client) (j : ℕ) (heard : Option Known) (k : ℕ) → length st.heard ≡ n → IsClient n j → IsClient n k
    → (slot_at (with_read me st j heard) k ≡ slot_at st k) ⊎ IsRead me st (slot_at (with_read me st j heard) k) j heard k
read-cases n me st j None k counted of_j of_k = inl refl
read-cases n me st j (Some known) k counted of_j of_k =
    either_way (λ (now : Client). (slot_at now k ≡ slot_at st k) ⊎ IsRead me st (slot_at now k) j (Some known) k)
    (not (j == me) && is_less (version_at st j) known.version) (with_news (with_slot st j known) j) st
    (λ newer.
    let both = and_parts (not (j == me)) (is_less (version_at st j) known.version) newer in
    elim (put-cases n st j known k counted of_j of_k (less-means (version_at st j) known.version both.1)) [
      | inl same ↦ inl same
      | inr is ↦ inr (record { known = known; came = refl; another = differs j me both.0; raised = is })
    ])
    (λ older. inl refl)

-- the own version, with its tag
abbrev pub own_known : Config → ℕ → Vector → Known
own_known config me next = record { maker = me; version = next; tag = own_tag config me next }

-- What is held after a completion as the version of client k: the next version as the own one, the version that came
-- with the read, or what was held before.
pub data Completing (config : Config) (me : ℕ) (st : Client) (done : Completion) (then : Known) (k : ℕ) : Type 0 where
  is_own : k ≡ me → then ≡ own_known config me done.judged.next → Completing config me st done then k
  is_read : (known : Known) → done.judged.heard ≡ Some known → k ≡ done.op.register → then ≡ known
      → IsAtMost (version_at st k) known.version → Completing config me st done then k
  is_old : (k ≡ me → ⊥) → then ≡ slot_at st k → Completing config me st done then k

pub completing-cases : (config : Config) (me : ℕ) (st : Client) (done : Completion) (k : ℕ) → length st.heard ≡ config.clients
    → length (moved_on config me st done.judged.next).heard ≡ config.clients → IsClient config.clients me
    → IsClient config.clients done.op.register → IsClient config.clients k
    → Completing config me st done (slot_at (completed_by config me st done) k) k
completing-cases config me st done k counted moved_counted of_me of_j of_k =
    let n = config.clients in
    let next = done.judged.next in
    let moved = moved_on config me st next in
    let mine = own_known config me next in
    elim (read-cases n me moved done.op.register done.judged.heard k moved_counted of_j of_k) [
      | inl same ↦ elim (cases_eq k me) [
        | inl own ↦
            is_own own (same ∙ ap (slot_in (slice_set st.heard (me - 1) mine)) own ∙ slot-same n st.heard me mine counted of_me)
        | inr other ↦ is_old other (same ∙ slot-other n st.heard me mine k of_me of_k other)
      ]
      | inr is ↦
          let other : k ≡ me → ⊥ = λ own. is.another (sym is.raised.is_j ∙ own) in
          is_read is.known is.came is.raised.is_j is.raised.holds
          (subst (λ (known : Known). IsAtMost known.version is.known.version) (slot-other n st.heard me mine k of_me of_k other)
          is.raised.grew)
    ]

-- a tick changes no version
pub ticked-heard : (config : Config) (me : ℕ) (st : Client) (m : ℕ) → (ticked_by config me st m).heard ≡ st.heard
ticked-heard config me st m =
    either_way (λ (now : Client). now.heard ≡ st.heard) (is_dummy_due config me st m) (begun_by me st (dummy_of st))
    (record st { held = held_after st }) (λ due. refl) (λ not_due. refl)
