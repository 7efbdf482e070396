-- What every client keeps, and which deeds keep it. Promises rest on this only where a call names it.
use Rattle.std.specs.Prelude.{◌≡◌, ◌≢◌, ℕ, true, length, List, Some, IsNone, IfSome}
use Rattle.faust_types.specs.Clients.{IsClient, IsClientCount}
use Rattle.faust_types.specs.Versions.{Vector}
use Rattle.faust_types.specs.Ranges.{IsAnnouncedFor, IsCheck, IsCommitFor, IsConfig, IsValueOf, IsSubmitFor}
use Rattle.faust_types.specs.declared.config.Config.{Config}
use Rattle.faust_types.specs.declared.operation.Notice.{Notice}
use Rattle.faust_types.specs.declared.operation.Operation.{Operation}
use Rattle.faust_types.specs.declared.message.Known.{Known}
use Rattle.faust_ustor.specs.InRange.{IsPendingOf, IsJudgedFor}
use Rattle.faust_agent.specs.Deeds.{Sent, commits, submits}
use Rattle.faust_agent.specs.State.{Member, is_idle, slot_in, version_at}
use Rattle.faust_agent.specs.declared.client.Client.{Client}
use Rattle.faust_agent.specs.declared.deed.Order.{Order}
use Rattle.faust_agent.specs.declared.deed.Completion.{Completion}
use Rattle.faust_agent.specs.declared.deed.Deed.{Deed}
use Rattle.faust_agent.specs.declared.deed.Deed.TheVariants as deeds

-- The operation that client me of n waits for, whose version is own.
pub record IsWaitedFor (n me : ℕ) (own : Vector) (op : Operation) : Type 0 where
  pub pending : IsPendingOf me own op
  pub register_in_range : IsClient n op.register

-- One version of each of n clients.
pub record HoldsEach (n : ℕ) (heard : List Known) : Type 0 where
  pub count : IsClientCount n
  pub counted : length heard ≡ n
  pub in_range : (k : ℕ) → IsClient n k → IsAnnouncedFor n (slot_in heard k)

-- What client me of a run holds.
pub record IsClientOf (config : Config) (me : ℕ) (st : Client) : Type 0 where
  pub versions : HoldsEach config.clients st.heard
  pub news_counted : length st.timers.news ≡ config.clients
  pub next_in_range : IsClient config.clients st.timers.next_dummy
  pub waiting_in_range : IfSome st.waiting (IsWaitedFor config.clients me (version_at st me))
  pub notice_in_range : IfSome st.notice (λ (notice : Notice). IsCheck notice.check)
  pub held_in_range : IfSome st.held (IsCommitFor config.clients)
  pub held_under_wire_2 : config.wire ≡ 1 → IsNone st.held

-- A client of a run.
pub record IsMember (member : Member) : Type 0 where
  pub config_in_range : IsConfig member.config
  pub me_in_range : IsClient member.config.clients member.me
  pub kept : IsClientOf member.config member.me member.client

-- What a user may ask for.
pub record IsOrderFor (n : ℕ) (order : Order) : Type 0 where
  pub register_in_range : IsClient n order.register
  pub value_in_range : IsValueOf order.kind order.value

-- A completion of the pending operation.
pub record IsCompletionOf (config : Config) (me : ℕ) (st : Client) (done : Completion) : Type 0 where
  pub was_waiting : st.waiting ≡ Some done.op
  pub register_in_range : IsClient config.clients done.op.register
  pub judged_in_range : IsJudgedFor config.clients done.op.register done.judged

-- Client j is another one of n.
pub record IsOther (n me j : ℕ) : Type 0 where
  pub in_range : IsClient n j
  pub differs : j ≢ me

pub record IsBegunFor (config : Config) (me : ℕ) (st : Client) (order : Order) : Type 0 where
  pub idle : is_idle me st ≡ true
  pub order_in_range : IsOrderFor config.clients order

pub record IsHeardFor (config : Config) (me j : ℕ) (known : Known) : Type 0 where
  pub from_another : IsOther config.clients me j
  pub known_in_range : IsAnnouncedFor config.clients known

-- A deed that a client in range can do.
abbrev pub IsDeedFor : Config → ℕ → Client → Deed → Type 0
IsDeedFor config me st deeds.Ignores = Unit {0}
IsDeedFor config me st (deeds.Begins order) = IsBegunFor config me st order
IsDeedFor config me st (deeds.Completes done) = IsCompletionOf config me st done
IsDeedFor config me st (deeds.Breaks notice) = IsCheck notice.check
IsDeedFor config me st (deeds.Answers j) = IsOther config.clients me j
IsDeedFor config me st (deeds.Hears j known) = IsHeardFor config me j known
IsDeedFor config me st (deeds.Ticks m) = Unit {0}

-- What goes to the server is in range. Under wire 1 no COMMIT rides.
abbrev pub IsSentFor : Config → Sent → Type 0
IsSentFor config (submits submit) = IsSubmitFor config.clients submit × (config.wire ≡ 1 → IsNone submit.commit)
IsSentFor config (commits commit) = IsCommitFor config.clients commit
