-- The moments that a client holds: none is later than the last tick.
use Rattle.std.proofs.Common.{◌≡◌, ◌-◌, ◌≤◌, ℕ, zero, suc, List, [], ◌∷◌, Option, Some, None, arith}
use Rattle.std.specs.Prelude.{◌&&◌, ◌==◌, not, replicate, slice_index, slice_set}
use Rattle.faust_types.specs.declared.config.Config.{Config}
use Rattle.faust_types.specs.declared.message.Known.{Known}
use Rattle.faust_agent.specs.State.{first_client, is_less, version_at}
use Rattle.faust_agent.specs.Deeds.{Event, ticked}
use Rattle.faust_agent.specs.Table.{after, deed_of, is_probe_due, moved_on, news_up_to, raised, timers_after, with_news, with_read, with_slot}
use Rattle.faust_agent.specs.Tells.{Tells}
use Rattle.faust_agent.specs.declared.client.Client.{Client}
use Rattle.faust_agent.specs.declared.client.Timers.{Timers}
use Rattle.faust_agent.specs.declared.deed.Deed.{Deed}
use Rattle.faust_agent.specs.declared.deed.Deed.TheVariants as deeds
use Rattle.faust_agent.proofs.Kept.{either_way}
use Rattle.faust_agent.proofs.Reasons.{deed-tells}
use Rattle.faust_record.specs.Entries.{event_of, state_at}
use Rattle.faust_record.specs.declared.entry.Input.{Input}

abbrev pub AreAtMost : ℕ → List ℕ → Type 0
AreAtMost b news = (k : ℕ) → slice_index news k ≤ b

pub record IsTimed (b : ℕ) (timers : Timers) : Type 0 where
  pub now_below : timers.now ≤ b
  pub news_below : AreAtMost b timers.news

pub timed-later : (a b : ℕ) (timers : Timers) → a ≤ b → IsTimed a timers → IsTimed b timers
timed-later a b timers le timed = record {
  now_below = omega (arith, le, timed.now_below);
  news_below = λ k. omega (arith, le, timed.news_below k);
}

set-below : (b : ℕ) (xs : List ℕ) (p v : ℕ) → AreAtMost b xs → v ≤ b → AreAtMost b (slice_set xs p v)
set-below b [] p v each below k = each k
set-below b (x ∷ xs) zero v each below zero = below
set-below b (x ∷ xs) zero v each below (suc k) = each (suc k)
set-below b (x ∷ xs) (suc p) v each below zero = each zero
set-below b (x ∷ xs) (suc p) v each below (suc k) = set-below b xs p v (λ j. each (suc j)) below k

-- news of a client
news-timed : (b : ℕ) (st : Client) (j : ℕ) → IsTimed b st.timers → IsTimed b (with_news st j).timers
news-timed b st j timed = record {
  now_below = timed.now_below;
  news_below = set-below b st.timers.news (j - 1) st.timers.now timed.news_below timed.now_below;
}

read-timed : (config : Config) (b me : ℕ) (st : Client) (j : ℕ) (heard : Option Known) → IsTimed b st.timers
    → IsTimed b (with_read me st j heard).timers
read-timed config b me st j None timed = timed
read-timed config b me st j (Some known) timed =
    either_way (λ (c : Client). IsTimed b c.timers) (not (j == me) && is_less (version_at st j) known.version)
    (with_news (with_slot st j known) j) st (λ taken. news-timed b (with_slot st j known) j timed) (λ stale. timed)

raised-timed : (b : ℕ) (st : Client) (j : ℕ) (known : Known) → IsTimed b st.timers → IsTimed b (raised st j known).timers
raised-timed b st j known timed =
    either_way (λ (c : Client). IsTimed b c.timers) (is_less (version_at st j) known.version) (with_slot st j known) st
    (λ less. timed) (λ more. timed)

-- a tick
probed-below : (config : Config) (me : ℕ) (st : Client) (b m k : ℕ) → m ≤ b → AreAtMost b st.timers.news
    → AreAtMost b (news_up_to config me st m k)
probed-below config me st b m zero below each = each
probed-below config me st b m (suc k) below each =
    let before : AreAtMost b (news_up_to config me st m k) = probed-below config me st b m k below each in
    either_way (AreAtMost b) (is_probe_due config me st m (suc k)) (slice_set (news_up_to config me st m k) (suc k - 1) m)
    (news_up_to config me st m k) (λ due. set-below b (news_up_to config me st m k) (suc k - 1) m before below) (λ later. before)

ticked-timed : (config : Config) (me : ℕ) (st : Client) (b m : ℕ) → m ≤ b → IsTimed b st.timers → IsTimed b (timers_after config me st m)
ticked-timed config me st b m below timed = record {
  now_below = below;
  news_below = probed-below config me st b m config.clients below timed.news_below;
}

-- any deed
abbrev TicksBy : Event → ℕ → Type 0
TicksBy event b = (m : ℕ) → event ≡ ticked m → m ≤ b

deed-timed : (config : Config) (me : ℕ) (st : Client) (b : ℕ) (event : Event) (deed : Deed) → Tells config me st event deed
    → TicksBy event b → IsTimed b st.timers → IsTimed b (after config me st deed).timers
deed-timed config me st b event deeds.Ignores tells below timed = timed
deed-timed config me st b event (deeds.Begins order) tells below timed = timed
deed-timed config me st b event (deeds.Completes done) tells below timed =
    read-timed config b me (moved_on config me st done.judged.next) done.op.register done.judged.heard timed
deed-timed config me st b event (deeds.Breaks notice) tells below timed = timed
deed-timed config me st b event (deeds.Answers j) tells below timed = timed
deed-timed config me st b event (deeds.Hears j known) tells below timed =
    news-timed b (raised st j known) j (raised-timed b st j known timed)
deed-timed config me st b event (deeds.Ticks m) tells below timed =
    ticked-timed config me st b m (below m tells.came) timed

pub state-timed : (config : Config) (me : ℕ) (st : Client) (b : ℕ) (input : Input)
    → ((m : ℕ) → event_of config me input ≡ ticked m → m ≤ b) → IsTimed b st.timers
    → IsTimed b (state_at config me st input).timers
unfolding state_at
state-timed config me st b input below timed =
    let event : Event = event_of config me input in
    deed-timed config me st b event (deed_of config me st event) (deed-tells config me st event) below timed

-- at first
zeros-below : (n : ℕ) → AreAtMost 0 (replicate n 0)
zeros-below zero k = omega arith
zeros-below (suc n) zero = omega arith
zeros-below (suc n) (suc k) = zeros-below n k

pub first-timed : (n me : ℕ) → IsTimed 0 (first_client n me).timers
first-timed n me = record { now_below = omega arith; news_below = zeros-below n }
