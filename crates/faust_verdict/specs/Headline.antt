-- What is promised of every clean run: the words of the main promise, a field each. Each word has its own definition, in
-- the crate where it belongs.
use Rattle.std.specs.Prelude.{◌≡◌, ◌≤◌, ℕ, List, ◌∷◌, ◌++◌, None, Some, IsSomeAnd}
use Rattle.faust_types.specs.declared.operation.Notice.{Notice}
use Rattle.faust_names.specs.Views.{IsWeakForkLinearizable}
use Rattle.faust_names.specs.Cuts.{IsRightCut}
use Rattle.faust_record.specs.Runs.{Run}
use Rattle.faust_record.specs.declared.entry.Entry.{Entry}
use Rattle.faust_runs.specs.ForkViews.{view_of}
use Rattle.faust_runs.specs.Histories.{history_read}
use Rattle.faust_premises.specs.Premises.{clean, first_forged, premises_of}
use Rattle.faust_held.specs.Cuts.{Announces}
use Rattle.faust_held.specs.Held.{GivesNotice}
use Rattle.faust_audit.specs.Departure.{first_departure}
use Rattle.faust_audit.specs.Findings.{order_of}
use Rattle.faust_audit.specs.Meetings.{MeetIncomparable}
use Rattle.faust_joined.specs.Promised.{AreVersionsComparable, AreWellGiven, AreWithoutPeers, IsLinearizableBy}

-- Every cut that a client announces is right for the clients that it covers, judged by the history and the views of the
-- whole run.
abbrev pub AreCutsRight : Run → Type 0
AreCutsRight run = (i : ℕ) (cut : List ℕ) → Announces run.entries i cut
    → IsRightCut run.config.clients (history_read run.entries) (view_of run.config run.entries) i cut

-- Failure is announced only after the server departed from its protocol: a notice stands in an entry at which, or before
-- which, a reply departed.
abbrev pub DoNoticesFollow : Run → Type 0
DoNoticesFollow run = (front rest : List Entry) (entry : Entry) (notice : Notice) → run.entries ≡ front ++ entry ∷ rest
    → entry.outcome.notice ≡ Some notice → IsSomeAnd (first_departure run.config run.entries) (λ q. q ≤ entry.number)

-- Where incomparable versions meet in an entry, it gives its client a notice.
abbrev pub AreMeetingsNoticed : Run → Type 0
AreMeetingsNoticed run = (front rest : List Entry) (entry : Entry) → run.entries ≡ front ++ entry ∷ rest
    → MeetIncomparable run.config front entry → GivesNotice entry

-- All operations are linearizable in the order of their arrival, no client has a notice, each reply completes an
-- operation, and of any two versions that clients made one is at most the other.
pub record IsHonestlyServed (run : Run) : Type 0 where
  pub linearizable : IsLinearizableBy (history_read run.entries) (order_of run.config run.entries)
  pub well_given : AreWellGiven run.entries
  pub comparable : AreVersionsComparable run.config run.entries

-- The headline: the views that the report tells are weak fork-linearizable and causal; every announced cut is right;
-- failure is announced only after the server departed from its protocol, and always where incomparable versions meet; and
-- where no reply departed, all is as with an honest server.
pub record IsHeadline (run : Run) : Type 0 where
  pub views : IsWeakForkLinearizable run.config.clients (history_read run.entries) (view_of run.config run.entries)
  pub cuts : AreCutsRight run
  pub notices : DoNoticesFollow run
  pub meetings : AreMeetingsNoticed run
  pub honest : first_departure run.config run.entries ≡ None → IsHonestlyServed run

-- What is promised of every run: the headline, where it is clean; and that no tag is forged in it, where no reply departed
-- and nothing came to a client from another client.
pub record IsPromised (run : Run) : Type 0 where
  pub of_clean : premises_of run ≡ clean → IsHeadline run
  pub unforged : AreWithoutPeers run.entries → first_departure run.config run.entries ≡ None → first_forged run.config run.entries ≡ None
