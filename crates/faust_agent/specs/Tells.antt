-- What a deed tells: at which event it is done, and which checks the client made. The laws say so of each deed; no
-- promise of a call rests on it.
use Rattle.std.specs.Prelude.{◌≡◌, ℕ, ◌≤◌, true, Some, None, Ok, Err, IfSome}
use Rattle.faust_types.specs.Clients.{IsClient}
use Rattle.faust_types.specs.Ranges.{IsPeerMessageFor, IsReplyFor}
use Rattle.faust_types.specs.declared.config.Config.{Config}
use Rattle.faust_types.specs.declared.operation.Notice.{Notice}
use Rattle.faust_types.specs.declared.operation.Operation.{Operation}
use Rattle.faust_types.specs.declared.message.Known.{Known}
use Rattle.faust_types.specs.declared.message.Reply.{Reply}
use Rattle.faust_types.specs.declared.message.Peer.TheVariants as peers
use Rattle.faust_types.specs.declared.message.PeerMessage.{PeerMessage}
use Rattle.faust_ustor.specs.Checks.{judged}
use Rattle.faust_ustor.specs.declared.judgement.Judged.{Judged}
use Rattle.faust_agent.specs.State.{is_idle, version_at}
use Rattle.faust_agent.specs.Deeds.{Event, asked, replied, told, ticked, passed}
use Rattle.faust_agent.specs.Table.{first_unfit, is_fitting, is_signed}
use Rattle.faust_agent.specs.InRange.{IsOrderFor}
use Rattle.faust_agent.specs.declared.client.Client.{Client}
use Rattle.faust_agent.specs.declared.deed.Order.{Order}
use Rattle.faust_agent.specs.declared.deed.Completion.{Completion}
use Rattle.faust_agent.specs.declared.deed.Deed.{Deed}
use Rattle.faust_agent.specs.declared.deed.Deed.TheVariants as deeds

-- What may come to a client of n.
abbrev pub IsEventFor : ℕ → Event → Type 0
IsEventFor n (asked order) = IsOrderFor n order
IsEventFor n (replied reply) = IfSome reply (IsReplyFor n)
IsEventFor n (told message) = IfSome message (IsPeerMessageFor n)
IsEventFor n (ticked m) = Unit {0}
IsEventFor n passed = Unit {0}

-- An operation begins where an idle client is asked for it.
pub record TellsBegin (me : ℕ) (st : Client) (event : Event) (order : Order) : Type 0 where
  pub came : event ≡ asked order
  pub idle : is_idle me st ≡ true

-- It completes where the reply to it breaks none of the checks 1 to 13.
pub record TellsCompletion (config : Config) (me : ℕ) (st : Client) (event : Event) (done : Completion) : Type 0 where
  pub reply : Reply
  pub came : event ≡ replied (Some reply)
  pub no_notice : st.notice ≡ None
  pub waited : st.waiting ≡ Some done.op
  pub passed_checks : judged config.key me (version_at st me) done.op reply ≡ Ok done.judged
  pub all_fit : (k : ℕ) → IsClient config.clients k → is_fitting done.judged.next done.judged.heard (version_at st k) ≡ true

-- A message between clients that is addressed to this one and rightly tagged.
pub record IsAccepted (config : Config) (me : ℕ) (event : Event) (message : PeerMessage) : Type 0 where
  pub came : event ≡ told (Some message)
  pub to_me : message.to ≡ me
  pub signed : is_signed config message ≡ true

-- Which check a notice is of.
pub data Breaking (config : Config) (me : ℕ) (st : Client) (event : Event) (notice : Notice) : Type 0 where
  no_reply : event ≡ replied None → notice ≡ record { check = 1; place = 0 } → Breaking config me st event notice
  unasked : (reply : Reply) → event ≡ replied (Some reply) → st.waiting ≡ None → notice ≡ record { check = 2; place = 0 }
      → Breaking config me st event notice
  misjudged : (reply : Reply) (op : Operation) → event ≡ replied (Some reply) → st.waiting ≡ Some op
      → judged config.key me (version_at st me) op reply ≡ Err notice → Breaking config me st event notice
  unfit : (reply : Reply) (op : Operation) (answer : Judged) (k : ℕ) → event ≡ replied (Some reply) → st.waiting ≡ Some op
      → judged config.key me (version_at st me) op reply ≡ Ok answer → first_unfit st answer.next answer.heard config.clients ≡ Some k
      → notice ≡ record { check = 13; place = k } → Breaking config me st event notice
  version_unfit : (message : PeerMessage) (known : Known) (k : ℕ) → IsAccepted config me event message
      → message.peer ≡ peers.Version known → first_unfit st known.version None config.clients ≡ Some k
      → notice ≡ record { check = 14; place = message.from } → Breaking config me st event notice
  failed : (message : PeerMessage) (check : ℕ) → IsAccepted config me event message → message.peer ≡ peers.Failure check
      → notice ≡ record { check = 15; place = message.from } → Breaking config me st event notice

pub record TellsBreak (config : Config) (me : ℕ) (st : Client) (event : Event) (notice : Notice) : Type 0 where
  pub no_notice : st.notice ≡ None
  pub breaking : Breaking config me st event notice

-- A PROBE of client j is answered.
pub record TellsAnswer (config : Config) (me : ℕ) (event : Event) (j : ℕ) : Type 0 where
  pub message : PeerMessage
  pub accepted : IsAccepted config me event message
  pub from_j : message.from ≡ j
  pub probes : message.peer ≡ peers.Probe

-- A VERSION of client j is taken where check 14 holds.
pub record TellsHearing (config : Config) (me : ℕ) (st : Client) (event : Event) (j : ℕ) (known : Known) : Type 0 where
  pub message : PeerMessage
  pub accepted : IsAccepted config me event message
  pub from_j : message.from ≡ j
  pub says : message.peer ≡ peers.Version known
  pub no_notice : st.notice ≡ None
  pub all_fit : (k : ℕ) → IsClient config.clients k → is_fitting known.version None (version_at st k) ≡ true

-- A moment comes where it isn't before the last one.
pub record TellsTick (st : Client) (event : Event) (m : ℕ) : Type 0 where
  pub came : event ≡ ticked m
  pub no_notice : st.notice ≡ None
  pub in_order : st.timers.now ≤ m

abbrev pub Tells : Config → ℕ → Client → Event → Deed → Type 0
Tells config me st event deeds.Ignores = Unit {0}
Tells config me st event (deeds.Begins order) = TellsBegin me st event order
Tells config me st event (deeds.Completes done) = TellsCompletion config me st event done
Tells config me st event (deeds.Breaks notice) = TellsBreak config me st event notice
Tells config me st event (deeds.Answers j) = TellsAnswer config me event j
Tells config me st event (deeds.Hears j known) = TellsHearing config me st event j known
Tells config me st event (deeds.Ticks m) = TellsTick st event m
