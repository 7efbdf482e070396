-- Each deed leads to a sound ledger.
use Rattle.std.proofs.Common.{◌≡◌, ℕ, Bool, true, false, List, refl}
use Rattle.std.proofs.lemmas.Bool.{and_parts}
use Rattle.std.specs.List.{AllByRecursion}
use Rattle.faust_types.specs.Ranges.{IsPeerMessageFor}
use Rattle.faust_types.specs.declared.config.Config.{Config}
use Rattle.faust_types.specs.declared.message.PeerMessage.{PeerMessage}
use Rattle.faust_agent.specs.State.{is_idle}
use Rattle.faust_agent.specs.Table.{after, begun_by, dummy_of, is_dummy_due, posts_of, ticked_by}
use Rattle.faust_agent.specs.InRange.{IsDeedFor}
use Rattle.faust_agent.specs.Tells.{Tells}
use Rattle.faust_agent.specs.declared.client.Client.{Client}
use Rattle.faust_agent.specs.declared.deed.Deed.{Deed}
use Rattle.faust_agent.specs.declared.deed.Deed.TheVariants as deeds
use Rattle.faust_agent.proofs.Kept.{dummy-begun}
use Rattle.faust_agent.proofs.Sends.{posts-in_range}
use Rattle.faust_forks.specs.Pasts.{Past}
use Rattle.faust_record.specs.Entries.{event_of}
use Rattle.faust_record.specs.declared.entry.Input.{Input}
use Rattle.faust_runs.specs.ForkViews.{reply_at}
use Rattle.faust_runs.specs.Ledgers.{past_by, posting, ticking}
use Rattle.faust_runs.proofs.Events.{asked-ordered, ordered-among, read-ordered}
use Rattle.faust_runs.proofs.Frames.{IsFrame, frame-dummy, frame-heard, frame-self, frame-ticked}
use Rattle.faust_runs.proofs.Leading.{IsComing, LeadsTo, ground-posting, leads-frame, passing-leads, posting-leads}
use Rattle.faust_runs.proofs.Beginnings.{beginning-leads}
use Rattle.faust_runs.proofs.Completions.{completing-leads}

-- nothing but messages to other clients
pub posted-leads : (config : Config) (past : Past) (me : ℕ) (st now : Client) (input : Input) (messages : List PeerMessage)
    → IsComing config past me st input → AllByRecursion (IsPeerMessageFor config.clients) messages → IsFrame me st now
    → LeadsTo config past (ticking (posting past messages) me st false) me now
posted-leads config past me st now input messages coming range frame =
    posting-leads config past (ticking (posting past messages) me st false) messages me now
    (passing-leads config (posting past messages) me st now (ground-posting config.clients past messages coming.ground range)
    coming.answered coming.proper coming.held frame)

-- messages to other clients, and a dummy read
pub dummy-leads : (config : Config) (past : Past) (me : ℕ) (st now : Client) (input : Input) (messages : List PeerMessage)
    → IsComing config past me st input → AllByRecursion (IsPeerMessageFor config.clients) messages → is_idle me st ≡ true
    → IsFrame me (begun_by me st (dummy_of st)) now
    → LeadsTo config past (ticking (posting past messages) me st true) me now
dummy-leads config past me st now input messages coming range idle frame =
    let posted = posting past messages in
    let later = ticking posted me st true in
    posting-leads config past later messages me now
    (leads-frame config posted later me (begun_by me st (dummy_of st)) now frame
    (beginning-leads config posted me st (dummy_of st) (record {
      ground = ground-posting config.clients past messages coming.ground range;
      answered = coming.answered;
      proper = coming.proper;
      held = coming.held;
      idle = idle;
      order_in_range = (dummy-begun config me st coming.kept idle).order_in_range;
      ordered = read-ordered me past.hashed (dummy_of st) refl refl;
    })))

pub ticking-leads : (config : Config) (past : Past) (me : ℕ) (st : Client) (input : Input) (m : ℕ) (due : Bool)
    → IsComing config past me st input → IsDeedFor config me st (deeds.Ticks m) → is_dummy_due config me st m ≡ due
    → LeadsTo config past (ticking (posting past (posts_of config me st (deeds.Ticks m))) me st due) me (ticked_by config me st m)
ticking-leads config past me st input m true coming fits is =
    dummy-leads config past me st (ticked_by config me st m) input (posts_of config me st (deeds.Ticks m)) coming
    (posts-in_range config me st (deeds.Ticks m) coming.client coming.kept fits) (and_parts _ _ is).0 (frame-dummy config me st m is)
ticking-leads config past me st input m false coming fits is =
    posted-leads config past me st (ticked_by config me st m) input (posts_of config me st (deeds.Ticks m)) coming
    (posts-in_range config me st (deeds.Ticks m) coming.client coming.kept fits) (frame-ticked config me st m is)

pub deed-leads : (config : Config) (past : Past) (me : ℕ) (st : Client) (input : Input) (deed : Deed) → IsComing config past me st input
    → Tells config me st (event_of config me input) deed → IsDeedFor config me st deed
    → LeadsTo config past (past_by config past me st (reply_at config input) deed) me (after config me st deed)
deed-leads config past me st input deeds.Ignores coming tells fits =
    passing-leads config past me st st coming.ground coming.answered coming.proper coming.held (frame-self me st)
deed-leads config past me st input (deeds.Begins order) coming tells fits =
    let ordered = asked-ordered config me st input order tells.came in
    beginning-leads config past me st order (record {
      ground = coming.ground;
      answered = coming.answered;
      proper = coming.proper;
      held = coming.held;
      idle = tells.idle;
      order_in_range = fits.order_in_range;
      ordered = ordered-among me _ past.hashed order coming.hashes ordered;
    })
deed-leads config past me st input (deeds.Completes done) coming tells fits =
    completing-leads config past me st input done coming tells fits
deed-leads config past me st input (deeds.Breaks notice) coming tells fits =
    posted-leads config past me st (after config me st (deeds.Breaks notice)) input (posts_of config me st (deeds.Breaks notice)) coming
    (posts-in_range config me st (deeds.Breaks notice) coming.client coming.kept fits)
    (record { own = refl; waiting = refl; last = refl })
deed-leads config past me st input (deeds.Answers j) coming tells fits =
    posted-leads config past me st st input (posts_of config me st (deeds.Answers j)) coming
    (posts-in_range config me st (deeds.Answers j) coming.client coming.kept fits) (frame-self me st)
deed-leads config past me st input (deeds.Hears j known) coming tells fits =
    passing-leads config past me st (after config me st (deeds.Hears j known)) coming.ground coming.answered coming.proper coming.held
    (frame-heard config.clients me st j known coming.client fits.from_another)
deed-leads config past me st input (deeds.Ticks m) coming tells fits =
    ticking-leads config past me st input m (is_dummy_due config me st m) coming fits refl
