-- What is kept of the versions that a client holds, as they change.
use Rattle.std.proofs.Common.{◌≡◌, ◌⊎◌, ℕ, true, List, Option, Some, None, refl, sym, ap, ◌∙◌, subst, inl, inr}
use Rattle.std.proofs.lemmas.Bool.{and_parts}
use Rattle.faust_types.specs.Clients.{IsClient}
use Rattle.faust_types.specs.Versions.{IsAtMost, Vector, is_comparable, is_initial}
use Rattle.faust_types.specs.declared.message.Known.{Known}
use Rattle.faust_types.specs.declared.message.Peer.TheVariants as peers
use Rattle.faust_types.specs.declared.message.PeerMessage.{PeerMessage}
use Rattle.faust_types.proofs.Order.{at_most_self, comparable_self, comparable_turned}
use Rattle.faust_agent.specs.State.{slot_in, version_at}
use Rattle.faust_agent.specs.Table.{is_fitting}
use Rattle.faust_agent.specs.declared.client.Client.{Client}
use Rattle.faust_lists.specs.Names.{Has}
use Rattle.faust_forks.specs.Books.{AreDoneIn, Done}
use Rattle.faust_forks.specs.Pasts.{Past}
use Rattle.faust_forks.specs.Sources.{Source, of_peer}
use Rattle.faust_forks.proofs.Booked.{booked-more}
use Rattle.faust_forks.proofs.Found.{Completed-more}
use Rattle.faust_held.specs.Given.{AreHeld, IsGiven, by_completion, by_message}
use Rattle.faust_held.proofs.Posting.{IsHeldAndSaid}

-- what was given stays given
pub given-more : (book more : List Done) (made later : List Source) (k : ℕ) (known : Known) → AreDoneIn book more
    → ((source : Source) → Has made source → Has later source) → IsGiven book made k known → IsGiven more later k known
given-more book more made later k known dones grows (by_completion maker came) =
    by_completion maker (Completed-more book more k _ _ dones came)
given-more book more made later k known dones grows (by_message said) = by_message (record {
  message = said.message;
  in_made = grows (of_peer said.message) said.in_made;
  from_k = said.from_k;
  says = said.says;
})

pub given-or_more : (book more : List Done) (made later : List Source) (k : ℕ) (known : Known) → AreDoneIn book more
    → ((source : Source) → Has made source → Has later source) → (is_initial known.version ≡ true) ⊎ IsGiven book made k known
    → (is_initial known.version ≡ true) ⊎ IsGiven more later k known
given-or_more book more made later k known dones grows (inl is) = inl is
given-or_more book more made later k known dones grows (inr given) = inr (given-more book more made later k known dones grows given)

-- what is held stays so as more completes and is sent
pub held-more : (n : ℕ) (book more : List Done) (made later : List Source) (me : ℕ) (heard : List Known) → AreDoneIn book more
    → ((source : Source) → Has made source → Has later source) → AreHeld n book made me heard → AreHeld n more later me heard
held-more n book more made later me heard dones grows h = record {
  booked = λ k client.
      booked-more book more (slot_in heard k).maker (slot_in heard k).version dones (h.booked k client);
  agree = h.agree;
  given = λ k client other. given-or_more book more made later k (slot_in heard k) dones grows (h.given k client other);
}

-- What an entry does to the versions of its client, and what it says.
pub record IsStepOf (n : ℕ) (made : List Source) (later : Past) (me : ℕ) (st now : Client) : Type 0 where
  pub grows : (k : ℕ) → IsClient n k → IsAtMost (version_at st k) (version_at now k)
  pub held : AreHeld n later.book later.made me now.heard
  pub said : (message : PeerMessage) (known : Known) → Has later.made (of_peer message) → message.peer ≡ peers.Version known
      → Has made (of_peer message) ⊎ IsHeldAndSaid n me st message known

-- A version that a client holds after a change: one that it held, its next one, or one that came.
pub data IsAfter (n : ℕ) (st : Client) (next : Vector) (came : Option Known) (v : Vector) : Type 0 where
  is_next : v ≡ next → IsAfter n st next came v
  is_held : (k : ℕ) → IsClient n k → v ≡ version_at st k → IsAfter n st next came v
  is_new : (known : Known) → came ≡ Some known → v ≡ known.version → IsAfter n st next came v

-- The next version and the one that came are comparable with each that was held, and with each other.
pub record DoFit (n : ℕ) (st : Client) (next : Vector) (came : Option Known) : Type 0 where
  pub held : (k l : ℕ) → IsClient n k → IsClient n l → is_comparable (version_at st k) (version_at st l) ≡ true
  pub next_held : (k : ℕ) → IsClient n k → is_comparable next (version_at st k) ≡ true
  pub came_held : (known : Known) → came ≡ Some known → (k : ℕ) → IsClient n k → is_comparable known.version (version_at st k) ≡ true
  pub came_next : (known : Known) → came ≡ Some known → is_comparable known.version next ≡ true

pub comparable-as : (v w v' w' : Vector) → v ≡ v' → w ≡ w' → is_comparable v' w' ≡ true → is_comparable v w ≡ true
comparable-as v w v' w' e f h = ap (λ (x : Vector). is_comparable x w) e ∙ ap (λ (x : Vector). is_comparable v' x) f ∙ h

came-same : (came : Option Known) (a b : Known) → came ≡ Some a → came ≡ Some b → a.version ≡ b.version
came-same came a b h i = let same : a ≡ b = cc in ap (λ (k : Known). k.version) same

pub after-comparable : (n : ℕ) (st : Client) (next : Vector) (came : Option Known) (v w : Vector) → DoFit n st next came
    → IsAfter n st next came v → IsAfter n st next came w → is_comparable v w ≡ true
after-comparable n st next came v w fit (is_next e) (is_next f) = comparable-as v w next next e f (comparable_self next)
after-comparable n st next came v w fit (is_next e) (is_held l client f) =
    comparable-as v w next (version_at st l) e f (fit.next_held l client)
after-comparable n st next came v w fit (is_next e) (is_new known is f) =
    comparable-as v w next known.version e f (comparable_turned next known.version ∙ fit.came_next known is)
after-comparable n st next came v w fit (is_held k client e) (is_next f) =
    comparable-as v w (version_at st k) next e f (comparable_turned (version_at st k) next ∙ fit.next_held k client)
after-comparable n st next came v w fit (is_held k client e) (is_held l other f) =
    comparable-as v w (version_at st k) (version_at st l) e f (fit.held k l client other)
after-comparable n st next came v w fit (is_held k client e) (is_new known is f) =
    comparable-as v w (version_at st k) known.version e f
    (comparable_turned (version_at st k) known.version ∙ fit.came_held known is k client)
after-comparable n st next came v w fit (is_new known is e) (is_next f) =
    comparable-as v w known.version next e f (fit.came_next known is)
after-comparable n st next came v w fit (is_new known is e) (is_held l client f) =
    comparable-as v w known.version (version_at st l) e f (fit.came_held known is l client)
after-comparable n st next came v w fit (is_new a is e) (is_new b is_b f) =
    comparable-as v w a.version a.version e (f ∙ came-same came b a is_b is) (comparable_self a.version)

-- the test of checks 13 and 14
pub fitting-next : (next : Vector) (came : Option Known) (v : Vector) → is_fitting next came v ≡ true → is_comparable next v ≡ true
fitting-next next None v fits = fits
fitting-next next (Some known) v fits = (and_parts (is_comparable next v) (is_comparable known.version v) fits).0

pub fitting-came : (next : Vector) (came : Option Known) (v : Vector) (known : Known) → came ≡ Some known
    → is_fitting next came v ≡ true → is_comparable known.version v ≡ true
fitting-came next None v known is fits = absurd (cc)
fitting-came next (Some other) v known is fits =
    let both = and_parts (is_comparable next v) (is_comparable other.version v) fits in
    ap (λ (x : Vector). is_comparable x v) (came-same (Some other) known other is refl) ∙ both.1

-- nothing changes
pub quiet-step : (n : ℕ) (past later : Past) (me : ℕ) (st now : Client) → now.heard ≡ st.heard → AreDoneIn past.book later.book
    → ((source : Source) → Has past.made source → Has later.made source) → AreHeld n past.book past.made me st.heard
    → ((message : PeerMessage) (known : Known) → Has later.made (of_peer message) → message.peer ≡ peers.Version known
    → Has past.made (of_peer message) ⊎ IsHeldAndSaid n me st message known)
    → IsStepOf n past.made later me st now
quiet-step n past later me st now same dones grows h said = record {
  grows = λ k client. subst (λ (heard : List Known). IsAtMost (version_at st k) (slot_in heard k).version) (sym same)
      (at_most_self (version_at st k));
  held = subst (λ (heard : List Known). AreHeld n later.book later.made me heard) (sym same)
      (held-more n past.book later.book past.made later.made me st.heard dones grows h);
  said = said;
}
