-- What a deed sends to other clients, as the ledger has it.
use Rattle.std.proofs.Common.{◌≡◌, ◌⊎◌, ℕ, Bool, true, false, List, [], ◌∷◌, ◌++◌, Option, Some, None, map, refl, sym, ap, ◌∙◌, inl, inr, arith}
use Rattle.faust_types.specs.Clients.{IsClient, IsClientCount}
use Rattle.faust_types.specs.declared.config.Config.{Config}
use Rattle.faust_types.specs.declared.operation.Notice.{Notice}
use Rattle.faust_types.specs.declared.operation.Operation.{Operation}
use Rattle.faust_types.specs.declared.message.Known.{Known}
use Rattle.faust_types.specs.declared.message.Peer.{Peer}
use Rattle.faust_types.specs.declared.message.Peer.TheVariants as peers
use Rattle.faust_types.specs.declared.message.PeerMessage.{PeerMessage}
use Rattle.faust_types.specs.declared.message.Reply.{Reply}
use Rattle.faust_agent.specs.State.{greatest, greatest_up_to, slot_at}
use Rattle.faust_agent.specs.Table.{dummy_of, is_dummy_due, message_to, others_up_to, posts_of, probe_answer, probed_up_to}
use Rattle.faust_agent.specs.declared.client.Client.{Client}
use Rattle.faust_agent.specs.declared.deed.Order.{Order}
use Rattle.faust_agent.specs.declared.deed.Deed.{Deed}
use Rattle.faust_agent.specs.declared.deed.Deed.TheVariants as deeds
use Rattle.faust_agent.proofs.Slots.{greatest_up_to-client}
use Rattle.faust_lists.specs.Names.{Has}
use Rattle.faust_forks.specs.Pasts.{Past}
use Rattle.faust_forks.specs.Sources.{Source, of_peer}
use Rattle.faust_runs.specs.Ledgers.{beginning, completing, past_by, posting, ticking}
use Rattle.faust_runs.proofs.Bodies.{has-either}

same-message : (a b : PeerMessage) → of_peer a ≡ of_peer b → a ≡ b
same-message a b h = cc

posted : (messages : List PeerMessage) (message : PeerMessage) → Has (map of_peer messages) (of_peer message) → Has messages message
posted [] message has = absurd has
posted (first ∷ rest) message (inl same) = inl (same-message message first same)
posted (first ∷ rest) message (inr has) = inr (posted rest message has)

posting-made : (past : Past) (messages : List PeerMessage) (message : PeerMessage) → Has (posting past messages).made (of_peer message)
    → Has past.made (of_peer message) ⊎ Has messages message
posting-made past messages message has =
    elim (has-either (map of_peer messages) past.made (of_peer message) has) [
      | inl here ↦ inr (posted messages message here)
      | inr old ↦ inl old
    ]

beginning-made : (past : Past) (me : ℕ) (st : Client) (order : Order) (message : PeerMessage)
    → Has (beginning past me st order).made (of_peer message) → Has past.made (of_peer message)
beginning-made past me st order message (inl same) = absurd (cc)
beginning-made past me st order message (inr (inl same)) = absurd (cc)
beginning-made past me st order message (inr (inr has)) = has

completing-made : (past : Past) (me : ℕ) (op : Operation) (reply : Option Reply) (message : PeerMessage)
    → Has (completing past me op reply).made (of_peer message) → Has past.made (of_peer message)
completing-made past me op None message has = has
completing-made past me op (Some reply) message (inl same) = absurd (cc)
completing-made past me op (Some reply) message (inr (inl same)) = absurd (cc)
completing-made past me op (Some reply) message (inr (inr has)) = has

ticking-made : (past : Past) (me : ℕ) (st : Client) (due : Bool) (message : PeerMessage)
    → Has (ticking past me st due).made (of_peer message) → Has past.made (of_peer message)
ticking-made past me st true message has = beginning-made past me st (dummy_of st) message has
ticking-made past me st false message has = has

-- a message of the ledger is an old one, or one that the deed sends
pub deed-messages : (config : Config) (past : Past) (me : ℕ) (st : Client) (reply : Option Reply) (deed : Deed) (message : PeerMessage)
    → Has (past_by config past me st reply deed).made (of_peer message)
    → Has past.made (of_peer message) ⊎ Has (posts_of config me st deed) message
deed-messages config past me st reply deeds.Ignores message has = inl has
deed-messages config past me st reply (deeds.Begins order) message has = inl (beginning-made past me st order message has)
deed-messages config past me st reply (deeds.Completes done) message has = inl (completing-made past me done.op reply message has)
deed-messages config past me st reply (deeds.Breaks notice) message has =
    posting-made past (posts_of config me st (deeds.Breaks notice)) message has
deed-messages config past me st reply (deeds.Answers j) message has =
    posting-made past (posts_of config me st (deeds.Answers j)) message has
deed-messages config past me st reply (deeds.Hears j known) message has = inl has
deed-messages config past me st reply (deeds.Ticks m) message has =
    let messages = posts_of config me st (deeds.Ticks m) in
    posting-made past messages message (ticking-made (posting past messages) me st (is_dummy_due config me st m) message has)

-- A message of client me that says a version which it holds.
pub record IsHeldAndSaid (n me : ℕ) (st : Client) (message : PeerMessage) (known : Known) : Type 0 where
  pub from_me : message.from ≡ me
  pub at : ℕ
  pub client : IsClient n at
  pub holds : slot_at st at ≡ known

to-each : (config : Config) (me : ℕ) (peer : Peer) (clients : List ℕ) (message : PeerMessage)
    → Has (map (message_to config me peer) clients) message → message.peer ≡ peer
to-each config me peer [] message has = absurd has
to-each config me peer (j ∷ rest) message (inl same) = ap (λ (m : PeerMessage). m.peer) same
to-each config me peer (j ∷ rest) message (inr has) = to-each config me peer rest message has

failure-version : (check : ℕ) (known : Known) → peers.Failure check ≡ peers.Version known → ⊥
failure-version check known h = cc

probe-version : (known : Known) → peers.Probe ≡ peers.Version known → ⊥
probe-version known h = cc

version-same : (a b : Known) → peers.Version a ≡ peers.Version b → a ≡ b
version-same a b h = cc

greatest-slot : (n : ℕ) (st : Client) → greatest n st ≡ slot_at st (greatest_up_to st n)
unfolding greatest
greatest-slot n st = refl

answer-said : (n : ℕ) (st : Client) (notice : Option Notice) (known : Known) → probe_answer n st notice ≡ peers.Version known
    → greatest n st ≡ known
answer-said n st None known says = version-same (greatest n st) known says
answer-said n st (Some notice) known says = absurd (failure-version notice.check known says)

pub post-said : (config : Config) (me : ℕ) (st : Client) (deed : Deed) (message : PeerMessage) (known : Known)
    → IsClientCount config.clients → Has (posts_of config me st deed) message → message.peer ≡ peers.Version known
    → IsHeldAndSaid config.clients me st message known
post-said config me st deeds.Ignores message known count has says = absurd has
post-said config me st (deeds.Begins order) message known count has says = absurd has
post-said config me st (deeds.Completes done) message known count has says = absurd has
post-said config me st (deeds.Breaks notice) message known count has says =
    let is = to-each config me (peers.Failure notice.check) (others_up_to me config.clients) message has in
    absurd (failure-version notice.check known (sym is ∙ says))
post-said config me st (deeds.Answers j) message known count (inl same) says =
    let n = config.clients in
    let is : probe_answer n st st.notice ≡ peers.Version known = ap (λ (m : PeerMessage). m.peer) (sym same) ∙ says in
    record {
      from_me = ap (λ (m : PeerMessage). m.from) same;
      at = greatest_up_to st n;
      client = greatest_up_to-client n st n count (omega arith);
      holds = sym (greatest-slot n st) ∙ answer-said n st st.notice known is;
    }
post-said config me st (deeds.Answers j) message known count (inr none) says = absurd none
post-said config me st (deeds.Hears j heard) message known count has says = absurd has
post-said config me st (deeds.Ticks m) message known count has says =
    let is = to-each config me peers.Probe (probed_up_to config me st m config.clients) message has in
    absurd (probe-version known (sym is ∙ says))

-- and each message that the deed sends is in the ledger
posted-has : (messages : List PeerMessage) (made : List Source) (message : PeerMessage) → Has messages message
    → Has (map of_peer messages ++ made) (of_peer message)
posted-has [] made message has = absurd has
posted-has (first ∷ rest) made message (inl same) = inl (ap (λ (m : PeerMessage). of_peer m) same)
posted-has (first ∷ rest) made message (inr has) = inr (posted-has rest made message has)

ticked-has : (past : Past) (me : ℕ) (st : Client) (due : Bool) (source : Source) → Has past.made source
    → Has (ticking past me st due).made source
ticked-has past me st true source has = inr (inr has)
ticked-has past me st false source has = has

pub message-made : (config : Config) (past : Past) (me : ℕ) (st : Client) (reply : Option Reply) (deed : Deed) (message : PeerMessage)
    → Has (posts_of config me st deed) message → Has (past_by config past me st reply deed).made (of_peer message)
message-made config past me st reply deeds.Ignores message has = absurd has
message-made config past me st reply (deeds.Begins order) message has = absurd has
message-made config past me st reply (deeds.Completes done) message has = absurd has
message-made config past me st reply (deeds.Breaks notice) message has =
    posted-has (posts_of config me st (deeds.Breaks notice)) past.made message has
message-made config past me st reply (deeds.Answers j) message has =
    posted-has (posts_of config me st (deeds.Answers j)) past.made message has
message-made config past me st reply (deeds.Hears j known) message has = absurd has
message-made config past me st reply (deeds.Ticks m) message has =
    let messages = posts_of config me st (deeds.Ticks m) in
    ticked-has (posting past messages) me st (is_dummy_due config me st m) (of_peer message)
    (posted-has messages past.made message has)
