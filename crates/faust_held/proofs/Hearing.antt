-- A client hears a version from another client.
use Rattle.std.proofs.Common.{◌≡◌, ◌⊎◌, ℕ, true, [], ◌∷◌, Option, Some, None, refl, sym, ap, ◌∙◌, subst, inl, inr}
use Rattle.faust_types.specs.Clients.{IsClient}
use Rattle.faust_types.specs.Ranges.{IsPeerMessageFor}
use Rattle.faust_types.specs.Versions.{IsAtMost, is_comparable, is_initial}
use Rattle.faust_types.specs.declared.config.Config.{Config}
use Rattle.faust_types.specs.declared.message.Known.{Known}
use Rattle.faust_types.specs.declared.message.Peer.TheVariants as peers
use Rattle.faust_types.specs.declared.message.PeerMessage.{PeerMessage}
use Rattle.faust_types.proofs.Order.{at_most_self}
use Rattle.faust_agent.specs.State.{version_at}
use Rattle.faust_agent.specs.Deeds.{peer_in, told}
use Rattle.faust_agent.specs.Table.{heard_by}
use Rattle.faust_agent.specs.InRange.{IsHeardFor}
use Rattle.faust_agent.specs.Tells.{IsEventFor, TellsHearing}
use Rattle.faust_agent.specs.Tells as telling
use Rattle.faust_agent.specs.declared.client.Client.{Client}
use Rattle.faust_lists.specs.Names.{Has}
use Rattle.faust_forks.specs.Pairs.{AreMade, peer_pair}
use Rattle.faust_forks.specs.Pasts.{Past}
use Rattle.faust_forks.specs.Sources.{IsSent, of_peer}
use Rattle.faust_forks.proofs.Made.{made-peer, peer-made}
use Rattle.faust_record.specs.Entries.{event_of}
use Rattle.faust_record.specs.declared.entry.Input.{Input}
use Rattle.faust_record.specs.declared.entry.Input.TheVariants as inputs
use Rattle.faust_premises.specs.Premises.{pairs_of_input, pairs_of_message}
use Rattle.faust_runs.specs.Ledgers.{passing}
use Rattle.faust_runs.proofs.Leading.{IsComing}
use Rattle.faust_held.specs.Given.{AreHeld, IsBookedFor, IsGiven, IsSaidBy, by_message}
use Rattle.faust_held.proofs.Holding.{DoFit, IsAfter, IsStepOf, after-comparable, fitting-next, is_held, is_new}
use Rattle.faust_held.proofs.Putting.{heard-cases}

told-same : (a b : Option PeerMessage) → told a ≡ told b → a ≡ b
told-same a b h = cc

-- the checked pairs of a message that came
pub message-pairs : (config : Config) (me : ℕ) (input : Input) (message : PeerMessage) → event_of config me input ≡ told (Some message)
    → pairs_of_input config input ≡ peer_pair message ∷ []
message-pairs config me (inputs.Write value) message came = absurd (cc)
message-pairs config me (inputs.Read register) message came = absurd (cc)
message-pairs config me (inputs.Reply bytes) message came = absurd (cc)
message-pairs config me (inputs.Peer bytes) message came =
    ap pairs_of_message (told-same (peer_in config bytes) (Some message) came)
message-pairs config me (inputs.Tick moment) message came = absurd (cc)
message-pairs config me (inputs.Arrive message') message came = absurd (cc)

-- a message that is accepted was sent
pub accepted-sent : (config : Config) (past : Past) (me : ℕ) (st : Client) (input : Input) (message : PeerMessage)
    → IsComing config past me st input → telling.IsAccepted config me (event_of config me input) message → IsSent past.made message
accepted-sent config past me st input message coming accepted =
    let range : IsPeerMessageFor config.clients message = subst (IsEventFor config.clients) accepted.came coming.event in
    let pairs : AreMade config.key past.made (peer_pair message ∷ []) =
    subst (AreMade config.key past.made) (message-pairs config me input message accepted.came) coming.unforged in
    made-peer config.clients past.made message coming.ground.sources range
    (peer-made config.key past.made message pairs accepted.signed)

-- What is known of a version that is heard from client j: it was said by it, and is that of a completion.
record IsTidings (past : Past) (j : ℕ) (known : Known) : Type 0 where
  said : IsSaidBy past.made j known
  booked : IsBookedFor past.book known

tidings : (config : Config) (past : Past) (me : ℕ) (st : Client) (input : Input) (j : ℕ) (known : Known)
    → IsComing config past me st input → TellsHearing config me st (event_of config me input) j known
    → ((message : PeerMessage) (other : Known) → Has past.made (of_peer message) → message.peer ≡ peers.Version other
    → IsBookedFor past.book other) → IsTidings past j known
tidings config past me st input j known coming tells booked =
    let sent = accepted-sent config past me st input tells.message coming tells.accepted in
    let says : sent.sent.peer ≡ peers.Version known = sent.same_peer ∙ tells.says in
    record {
      said = record { message = sent.sent; in_made = sent.in_made; from_k = sent.same_from ∙ tells.from_j; says = says };
      booked = booked sent.sent known sent.in_made says;
    }

new-same : (known other : Known) → Some known ≡ Some other → known ≡ other
new-same known other h = cc

pub hearing-step : (config : Config) (past : Past) (me : ℕ) (st : Client) (input : Input) (j : ℕ) (known : Known)
    → IsComing config past me st input → TellsHearing config me st (event_of config me input) j known
    → IsHeardFor config me j known → AreHeld config.clients past.book past.made me st.heard
    → ((message : PeerMessage) (other : Known) → Has past.made (of_peer message) → message.peer ≡ peers.Version other
    → IsBookedFor past.book other)
    → IsStepOf config.clients past.made (passing past) me st (heard_by st j known)
hearing-step config past me st input j known coming tells fits h booked =
    let n = config.clients in
    let now = heard_by st j known in
    let counted = coming.kept.versions.counted in
    let of_j : IsClient n j = fits.from_another.in_range in
    let is = tidings config past me st input j known coming tells booked in
    let own = version_at st me in
    let fit : DoFit n st own (Some known) = record {
      held = h.agree;
      next_held = λ k client. h.agree me k coming.client client;
      came_held = λ other same k client.
          subst (λ (v : Known). is_comparable v.version (version_at st k) ≡ true) (new-same known other same)
          (fitting-next known.version None (version_at st k) (tells.all_fit k client));
      came_next = λ other same.
          subst (λ (v : Known). is_comparable v.version own ≡ true) (new-same known other same)
          (fitting-next known.version None own (tells.all_fit me coming.client));
    } in
    let each : (k : ℕ) → IsClient n k → IsAfter n st own (Some known) (version_at now k) = λ k client.
    elim (heard-cases n st j known k counted of_j client) [
      | inl same ↦ is_held k client (ap (λ (v : Known). v.version) same)
      | inr raised ↦ is_new known refl (ap (λ (v : Known). v.version) raised.holds)
    ] in
    record {
      grows = λ k client. elim (heard-cases n st j known k counted of_j client) [
        | inl same ↦ subst (λ (v : Known). IsAtMost (version_at st k) v.version) (sym same) (at_most_self (version_at st k))
        | inr raised ↦ subst (λ (v : Known). IsAtMost (version_at st k) v.version) (sym raised.holds) raised.grew
      ];
      held = record {
        booked = λ k client. elim (heard-cases n st j known k counted of_j client) [
          | inl same ↦ subst (IsBookedFor past.book) (sym same) (h.booked k client)
          | inr raised ↦ subst (IsBookedFor past.book) (sym raised.holds) is.booked
        ];
        agree = λ k l client other.
            after-comparable n st own (Some known) (version_at now k) (version_at now l) fit (each k client) (each l other);
        given = λ k client other. elim (heard-cases n st j known k counted of_j client) [
          | inl same ↦
              subst (λ (v : Known). (is_initial v.version ≡ true) ⊎ IsGiven past.book past.made k v) (sym same) (h.given k client other)
          | inr raised ↦
              subst (λ (v : Known). (is_initial v.version ≡ true) ⊎ IsGiven past.book past.made k v) (sym raised.holds)
              (subst (λ (i : ℕ). (is_initial known.version ≡ true) ⊎ IsGiven past.book past.made i known) (sym raised.is_j)
              (inr (by_message is.said)))
        ];
      };
      said = λ message other has says. inl has;
    }
