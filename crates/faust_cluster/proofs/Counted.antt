-- What becomes of the counts of links and of the net.
use Rattle.std.proofs.Common.{◌≡◌, ◌≢◌, ℕ, zero, suc, ◌+◌, ◌-◌, ◌<◌, ◌≤◌, Option, Some, None, Result, Ok, Err, ◌⊎◌, inl, inr, refl, sym, ap, subst, ◌∙◌, arith}
use Rattle.faust_io.specs.Faults.{CountsFault}
use Rattle.faust_types.specs.declared.arrival.Closing.{Closing}
use Rattle.faust_types.specs.declared.arrival.Closing.TheVariants as closings
use Rattle.faust_link.specs.Counts.{CountsBack}
use Rattle.faust_node.specs.Serving.{StopsPeers, StopsReplies, StopsSending}
use Rattle.faust_host.specs.Connections.{Ends, IsFaultless, StoppedBy}
use Rattle.faust_cluster.specs.Ending.{CountsBoth, CountsHealth, CountsStop, health_at, worse}
use Rattle.faust_cluster.specs.Counting.{CountsNet, IsFailureOf}
use Rattle.faust_cluster.specs.declared.running.Failure.{Failure}
use Rattle.faust_cluster.specs.declared.running.Failure.TheVariants as failures
use Rattle.faust_cluster.specs.declared.health.Health.{Health}
use Rattle.faust_cluster.specs.declared.health.Health.TheVariants.{Sound, LinkFailed, Starved}

-- a count that rose isn't 0
rose-some : (before now : ℕ) → CountsFault before now → 0 < now
rose-some zero now h = omega (arith, h.rose)
rose-some (suc before) now h = omega (arith, h.later)

some-one : (a b : Closing) → ◌≡◌ {A = Option Closing} (Some a) (Some b) → a ≡ b
some-one a b h = cc

-- a loop that stopped, by cause: its count rose with `Link`, and else stands still
stood : (cause : Closing) (before now : ℕ) → before ≡ 0 → now ≡ before → cause ≢ closings.Link → CountsStop (Some cause) now
stood cause before now none same other = record {
  failed = λ h. absurd (other (some-one cause closings.Link h));
  sound = λ h. same ∙ none;
}

rose : (cause : Closing) (before now : ℕ) → CountsFault before now → cause ≡ closings.Link → CountsStop (Some cause) now
rose cause before now h is = record {
  failed = λ same. rose-some before now h;
  sound = λ other. absurd (other (ap (λ (c : Closing). Some c) is));
}

pub replies-counted : (cause : Closing) (ends ends_now before now : ℕ) → before ≡ 0
    → StopsReplies cause ends ends_now before now → CountsStop (Some cause) now
replies-counted closings.Asked ends ends_now before now none h = stood closings.Asked before now none h.1 (λ e. absurd (cc))
replies-counted (closings.Failed notice) ends ends_now before now none h =
    stood (closings.Failed notice) before now none h.1 (λ e. absurd (cc))
replies-counted closings.Ended ends ends_now before now none h = stood closings.Ended before now none h.1 (λ e. absurd (cc))
replies-counted closings.Link ends ends_now before now none h = rose closings.Link before now h.1 refl
replies-counted closings.Malformed ends ends_now before now none h = absurd h
replies-counted (closings.Named client) ends ends_now before now none h = absurd h
replies-counted (closings.Turn expected got) ends ends_now before now none h = absurd h
replies-counted closings.Full ends ends_now before now none h = stood closings.Full before now none h.1 (λ e. absurd (cc))
replies-counted closings.Memory ends ends_now before now none h = stood closings.Memory before now none h.1 (λ e. absurd (cc))

pub peers-counted : (cause : Closing) (before now : ℕ) → before ≡ 0 → StopsPeers cause before now → CountsStop (Some cause) now
peers-counted closings.Asked before now none h = stood closings.Asked before now none h (λ e. absurd (cc))
peers-counted (closings.Failed notice) before now none h = stood (closings.Failed notice) before now none h (λ e. absurd (cc))
peers-counted closings.Ended before now none h = absurd h
peers-counted closings.Link before now none h = rose closings.Link before now h refl
peers-counted closings.Malformed before now none h = absurd h
peers-counted (closings.Named client) before now none h = absurd h
peers-counted (closings.Turn expected got) before now none h = absurd h
peers-counted closings.Full before now none h = stood closings.Full before now none h (λ e. absurd (cc))
peers-counted closings.Memory before now none h = stood closings.Memory before now none h (λ e. absurd (cc))

pub sending-counted : (cause : Closing) (before now : ℕ) → before ≡ 0 → StopsSending cause before now → CountsStop (Some cause) now
sending-counted closings.Asked before now none h = stood closings.Asked before now none h (λ e. absurd (cc))
sending-counted (closings.Failed notice) before now none h = stood (closings.Failed notice) before now none h (λ e. absurd (cc))
sending-counted closings.Ended before now none h = absurd h
sending-counted closings.Link before now none h = rose closings.Link before now h refl
sending-counted closings.Malformed before now none h = absurd h
sending-counted (closings.Named client) before now none h = absurd h
sending-counted (closings.Turn expected got) before now none h = absurd h
sending-counted closings.Full before now none h = absurd h
sending-counted closings.Memory before now none h = stood closings.Memory before now none h (λ e. absurd (cc))

both-stood : (cause : Closing) (before after : Ends) → before.inlet.faults ≡ 0 → before.faults_out ≡ 0 → IsFaultless before after
    → cause ≢ closings.Link → CountsBoth (Some cause) after.inlet.faults after.faults_out
both-stood cause before after input output h other = record {
  failed = λ same. absurd (other (some-one cause closings.Link same));
  sound_in = λ e. h.input ∙ input;
  sound_out = λ e. h.output ∙ output;
}

both-rose : (cause : Closing) (before after : Ends) → cause ≡ closings.Link
    → CountsFault before.inlet.faults after.inlet.faults ⊎ CountsFault before.faults_out after.faults_out
    → CountsBoth (Some cause) after.inlet.faults after.faults_out
both-rose cause before after is (inl h) = record {
  failed = λ same. omega (arith, rose-some before.inlet.faults after.inlet.faults h);
  sound_in = λ other. absurd (other (ap (λ (c : Closing). Some c) is));
  sound_out = λ other. absurd (other (ap (λ (c : Closing). Some c) is));
}
both-rose cause before after is (inr h) = record {
  failed = λ same. omega (arith, rose-some before.faults_out after.faults_out h);
  sound_in = λ other. absurd (other (ap (λ (c : Closing). Some c) is));
  sound_out = λ other. absurd (other (ap (λ (c : Closing). Some c) is));
}

pub connection-counted : (n : ℕ) (cause : Closing) (before after : Ends) → before.inlet.faults ≡ 0 → before.faults_out ≡ 0
    → StoppedBy n before after cause → CountsBoth (Some cause) after.inlet.faults after.faults_out
connection-counted n closings.Asked before after input output h = absurd h
connection-counted n (closings.Failed notice) before after input output h = absurd h
connection-counted n closings.Ended before after input output (frames, h) =
    both-stood closings.Ended before after input output h.faultless (λ e. absurd (cc))
connection-counted n closings.Link before after input output h = both-rose closings.Link before after refl h
connection-counted n closings.Malformed before after input output (frames, last, h) =
    both-stood closings.Malformed before after input output h.quiet.faultless (λ e. absurd (cc))
connection-counted n (closings.Named client) before after input output h =
    both-stood (closings.Named client) before after input output h.quiet.faultless (λ e. absurd (cc))
connection-counted n (closings.Turn expected got) before after input output (first, requests, last, h) =
    both-stood (closings.Turn expected got) before after input output h.quiet.faultless (λ e. absurd (cc))
connection-counted n closings.Full before after input output (first, requests, last, h) =
    both-stood closings.Full before after input output h.quiet.faultless (λ e. absurd (cc))
connection-counted n closings.Memory before after input output h =
    both-stood closings.Memory before after input output h.faultless (λ e. absurd (cc))

pub fresh-link : (faults : ℕ) → faults ≡ 0 → CountsStop None faults
fresh-link faults none = record { failed = λ same. absurd (cc); sound = λ other. none }

pub fresh-both : (input output : ℕ) → input ≡ 0 → output ≡ 0 → CountsBoth None input output
fresh-both input output in_none out_none =
    record { failed = λ same. absurd (cc); sound_in = λ other. in_none; sound_out = λ other. out_none }

-- a link of which no loop stopped
pub still-fresh : (stopped : Option Closing) (faults : ℕ) → CountsStop stopped faults → stopped ≡ None → faults ≡ 0
still-fresh stopped faults counted none = counted.sound (λ same. absurd (cc))

pub still-fresh-in : (stopped : Option Closing) (input output : ℕ) → CountsBoth stopped input output → stopped ≡ None → input ≡ 0
still-fresh-in stopped input output counted none = counted.sound_in (λ same. absurd (cc))

pub still-fresh-out : (stopped : Option Closing) (input output : ℕ) → CountsBoth stopped input output → stopped ≡ None → output ≡ 0
still-fresh-out stopped input output counted none = counted.sound_out (λ same. absurd (cc))

-- a link comes back with its cause
back-sound : (stopped : Option Closing) (faults before now : ℕ) → CountsStop stopped faults → CountsBack faults before now
    → (stopped ≡ Some closings.Link → ⊥) → now ≡ before
back-sound stopped faults before now counted back other = back.stands (counted.sound other)

pub back-counted : (stopped : Option Closing) (faults before now : ℕ) → CountsStop stopped faults → CountsBack faults before now
    → CountsHealth (health_at stopped) before now
back-counted None faults before now counted back = back-sound None faults before now counted back (λ e. absurd (cc))
back-counted (Some closings.Asked) faults before now counted back =
    back-sound (Some closings.Asked) faults before now counted back (λ e. absurd (cc))
back-counted (Some (closings.Failed notice)) faults before now counted back =
    back-sound (Some (closings.Failed notice)) faults before now counted back (λ e. absurd (cc))
back-counted (Some closings.Ended) faults before now counted back =
    back-sound (Some closings.Ended) faults before now counted back (λ e. absurd (cc))
back-counted (Some closings.Link) faults before now counted back = back.rises (counted.failed refl)
back-counted (Some closings.Malformed) faults before now counted back =
    back-sound (Some closings.Malformed) faults before now counted back (λ e. absurd (cc))
back-counted (Some (closings.Named client)) faults before now counted back =
    back-sound (Some (closings.Named client)) faults before now counted back (λ e. absurd (cc))
back-counted (Some (closings.Turn expected got)) faults before now counted back =
    back-sound (Some (closings.Turn expected got)) faults before now counted back (λ e. absurd (cc))
back-counted (Some closings.Full) faults before now counted back =
    back-sound (Some closings.Full) faults before now counted back (λ e. absurd (cc))
back-counted (Some closings.Memory) faults before now counted back = tt

-- both ends of a connection come back
both-sound : (stopped : Option Closing) (input output before between now : ℕ) → CountsBoth stopped input output
    → CountsBack input before between → CountsBack output between now → (stopped ≡ Some closings.Link → ⊥) → now ≡ before
both-sound stopped input output before between now counted first second other =
    second.stands (counted.sound_out other) ∙ first.stands (counted.sound_in other)

-- the count never falls when a link comes back
back-later : (faults before now : ℕ) → CountsBack faults before now → before ≤ now
back-later zero before now back = omega (arith, back.stands refl)
back-later (suc faults) before now back = (back.rises (omega arith)).later

both-failed : (input output before between now : ℕ) → 0 < input + output → CountsBack input before between → CountsBack output between now
    → CountsFault before now
both-failed zero output before between now some first second =
    subst (λ (x : ℕ). CountsFault x now) (first.stands refl) (second.rises (omega (arith, some)))
both-failed (suc input) output before between now some first second =
    let rose = first.rises (omega arith) in
    let later = back-later output between now second in
    record { rose = omega (arith, rose.rose, later); later = omega (arith, rose.later, later) }

pub both-counted : (stopped : Option Closing) (input output before between now : ℕ) → CountsBoth stopped input output
    → CountsBack input before between → CountsBack output between now → CountsHealth (health_at stopped) before now
both-counted None input output before between now counted first second =
    both-sound None input output before between now counted first second (λ e. absurd (cc))
both-counted (Some closings.Asked) input output before between now counted first second =
    both-sound (Some closings.Asked) input output before between now counted first second (λ e. absurd (cc))
both-counted (Some (closings.Failed notice)) input output before between now counted first second =
    both-sound (Some (closings.Failed notice)) input output before between now counted first second (λ e. absurd (cc))
both-counted (Some closings.Ended) input output before between now counted first second =
    both-sound (Some closings.Ended) input output before between now counted first second (λ e. absurd (cc))
both-counted (Some closings.Link) input output before between now counted first second =
    both-failed input output before between now (counted.failed refl) first second
both-counted (Some closings.Malformed) input output before between now counted first second =
    both-sound (Some closings.Malformed) input output before between now counted first second (λ e. absurd (cc))
both-counted (Some (closings.Named client)) input output before between now counted first second =
    both-sound (Some (closings.Named client)) input output before between now counted first second (λ e. absurd (cc))
both-counted (Some (closings.Turn expected got)) input output before between now counted first second =
    both-sound (Some (closings.Turn expected got)) input output before between now counted first second (λ e. absurd (cc))
both-counted (Some closings.Full) input output before between now counted first second =
    both-sound (Some closings.Full) input output before between now counted first second (λ e. absurd (cc))
both-counted (Some closings.Memory) input output before between now counted first second = tt

-- one link after the other
pub worse-counted : (health other : Health) (before between now : ℕ) → CountsHealth health before between
    → CountsHealth other between now → CountsHealth (worse health other) before now
worse-counted Sound Sound before between now first second = second ∙ first
worse-counted Sound LinkFailed before between now first second =
    subst (λ (x : ℕ). CountsFault x now) first second
worse-counted Sound Starved before between now first second = tt
worse-counted LinkFailed Sound before between now first second = subst (λ (x : ℕ). CountsFault before x) (sym second) first
worse-counted LinkFailed LinkFailed before between now first second =
    record { rose = omega (arith, first.rose, second.later); later = omega (arith, first.later, second.later) }
worse-counted LinkFailed Starved before between now first second = tt
worse-counted Starved other before between now first second = tt

-- a net's count after a run that went so
pub failure-counted : {A : Type 0} (health : Health) (result : Result A Failure) (before now : ℕ) → IsFailureOf health result
    → CountsHealth health before now → CountsNet result before now
failure-counted health (Ok done) before now is counted = subst (λ (h : Health). CountsHealth h before now) is counted
failure-counted health (Err failures.Start) before now is counted = absurd is
failure-counted health (Err failures.Link) before now is counted = subst (λ (h : Health). CountsHealth h before now) is counted
failure-counted health (Err failures.Memory) before now is counted = tt

pub not-linked : (A : Type 0) (failure : Failure) (before now : ℕ) → failure ≢ failures.Link → now ≡ before
    → CountsNet {A = A} (Err failure) before now
not-linked A failures.Start before now other same = same
not-linked A failures.Link before now other same = absurd (other refl)
not-linked A failures.Memory before now other same = tt
