-- An operation begins.
use Rattle.std.proofs.Common.{◌≡◌, ℕ, ◌+◌, ◌^◌, ◌<◌, suc, true, List, ◌∷◌, Option, Some, None, refl, sym, ap, ◌∙◌, subst, inl, inr, arith}
use Rattle.faust_types.specs.Ranges.{IsValueOf}
use Rattle.faust_types.specs.declared.config.Config.{Config}
use Rattle.faust_types.specs.declared.operation.Kind.{Kind}
use Rattle.faust_types.specs.declared.operation.Kind.TheVariants.{Write, Read}
use Rattle.faust_types.specs.declared.operation.Operation.{Operation}
use Rattle.faust_ustor.specs.Checks.{digest_of}
use Rattle.faust_agent.specs.State.{completed_count, is_idle, version_at}
use Rattle.faust_agent.specs.Table.{begun_by, last_after, operation_of}
use Rattle.faust_agent.specs.InRange.{IsOrderFor}
use Rattle.faust_agent.specs.declared.client.Client.{Client}
use Rattle.faust_agent.specs.declared.deed.Order.{Order}
use Rattle.faust_agent.proofs.Kept.{idle-room}
use Rattle.faust_forks.specs.Books.{Begun}
use Rattle.faust_forks.specs.Pasts.{Past, begun_at}
use Rattle.faust_forks.specs.Answers.{AreAnswered, IsWritten, written, written_by}
use Rattle.faust_forks.specs.Forks.{IsBegin, IsGround}
use Rattle.faust_forks.proofs.Answering.{answered-begun}
use Rattle.faust_forks.proofs.Found.{begun-cases, begun-first, begun-named}
use Rattle.faust_forks.proofs.Grounds.{ground-begun}
use Rattle.faust_forks.proofs.Later.{later-begun}
use Rattle.faust_forks.proofs.Registers.{IsWritten-next}
use Rattle.faust_runs.specs.Ledgers.{beginning}
use Rattle.faust_runs.specs.Sound.{AreProper, Holds, IsHolding, IsProper}
use Rattle.faust_runs.proofs.Options.{begun-later, begun-other}
use Rattle.faust_runs.proofs.Events.{IsOrdered}
use Rattle.faust_runs.proofs.Frames.{idle-waiting}
use Rattle.faust_runs.proofs.Leading.{LeadsTo}

-- the digest of the value written last, after one more operation
pub digest-next : (kind : Kind) (value last before : Option (List ℕ)) → IsValueOf kind value → last ≡ digest_of before
    → last_after last value ≡ digest_of (written_by kind value before)
digest-next Write None last before range is = absurd range
digest-next Write (Some value) last before range is = refl
digest-next Read None last before range is = is
digest-next Read (Some value) last before range is = absurd (cc)

-- one more that began has a number, and if it is a write its own register
pub proper-begun : (started : List Begun) (added : Begun) → AreProper started → IsProper added.client added.number added
    → AreProper (added ∷ started)
proper-begun started added proper own = λ k t begun found.
    elim (begun-cases started added k t begun found) [
      | inl old ↦ proper k t begun old
      | inr same ↦
          let named = begun-named (added ∷ started) k t begun found in
          let client : added.client ≡ k = ap (λ (b : Begun). b.client) same ∙ named.is_client in
          let number : added.number ≡ t = ap (λ (b : Begun). b.number) same ∙ named.is_number in
          subst (λ (b : Begun). IsProper k t b) same
          (subst (λ (c : ℕ). IsProper c t added) client (subst (λ (s : ℕ). IsProper added.client s added) number own))
    ]

-- What client me knows that begins an operation.
pub record IsStart (config : Config) (past : Past) (me : ℕ) (st : Client) (order : Order) : Type 0 where
  pub ground : IsGround config.clients past
  pub answered : AreAnswered past.started past.book
  pub proper : AreProper past.started
  pub held : Holds config.clients past me st
  pub idle : is_idle me st ≡ true
  pub order_in_range : IsOrderFor config.clients order
  pub ordered : IsOrdered me past.hashed order

pub held-idle : (config : Config) (past : Past) (me : ℕ) (st : Client) (order : Order) → IsStart config past me st order
    → IsHolding config.clients past.started past.book me (version_at st me) None st.last
held-idle config past me st order h =
    subst (λ (w : Option Operation). IsHolding config.clients past.started past.book me (version_at st me) w st.last)
    (idle-waiting me st h.idle) h.held

pub is-begin : (config : Config) (past : Past) (me : ℕ) (st : Client) (order : Order) → IsStart config past me st order
    → IsBegin past me (operation_of me st order) order.value (last_after st.last order.value)
is-begin config past me st order h =
    let held = held-idle config past me st order h in
    let room : completed_count me st + 1 < 2 ^ 40 = idle-room me st h.idle in
    record {
      number = record { from_one = omega arith; below = room };
      before = completed_count me st;
      follows = omega arith;
      fresh = held.fresh (completed_count me st + 1) (omega arith);
      begun_to = held.written.begun_to;
      is_digest = digest-next order.kind order.value st.last (written past.started me (completed_count me st))
          h.order_in_range.value_in_range held.written.is_digest;
      value_hashed = h.ordered.hashes;
    }

pub held-begun : (config : Config) (past : Past) (me : ℕ) (st : Client) (order : Order) → IsStart config past me st order
    → Holds config.clients (beginning past me st order) me (begun_by me st order)
held-begun config past me st order h =
    let held = held-idle config past me st order h in
    let begin = is-begin config past me st order h in
    let op = operation_of me st order in
    let added : Begun = begun_at past me op order.value in
    let next : completed_count me st + 1 ≡ suc (completed_count me st) = omega arith in
    let there : IsWritten (added ∷ past.started) me (completed_count me st + 1) (last_after st.last order.value) =
    IsWritten-next past.started added (completed_count me st) (last_after st.last order.value) next begin.fresh
    held.written.begun_to (digest-next order.kind order.value st.last (written past.started me (completed_count me st))
    h.order_in_range.value_in_range held.written.is_digest) in
    record {
      owned = held.owned;
      pending = record {
        began = record {
          begun = added;
          found = begun-first past.started added me (completed_count me st + 1) begin.fresh refl refl;
          fits_it = (refl, refl);
        };
        own_name = refl;
      };
      written = subst (λ (t : ℕ). IsWritten (added ∷ past.started) me t (last_after st.last order.value)) next there;
      fresh = λ t later. begun-later past.started added me t (held.fresh t (omega (arith, later))) (λ same. omega (arith, same, later));
    }

pub beginning-leads : (config : Config) (past : Past) (me : ℕ) (st : Client) (order : Order) → IsStart config past me st order
    → LeadsTo config past (beginning past me st order) me (begun_by me st order)
beginning-leads config past me st order h =
    let begin = is-begin config past me st order h in
    let op = operation_of me st order in
    let digest = last_after st.last order.value in
    let added : Begun = begun_at past me op order.value in
    record {
      ground = ground-begun config.clients past me op order.value digest h.ground begin;
      answered = answered-begun config.clients past added h.ground.sound h.answered;
      proper = proper-begun past.started added h.proper (record { from_one = omega arith; own_register = h.ordered.own });
      counted = refl;
      same_hashed = refl;
      grows = later-begun past me op order.value digest;
      begun_of_others = λ k t other. begun-other past.started added k t (λ same. other (sym same));
      done_of_others = λ k t other. refl;
      held = held-begun config past me st order h;
    }
