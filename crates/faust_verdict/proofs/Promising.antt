-- What is promised of a run holds of it.
use Rattle.std.proofs.Common.{◌≡◌, List, [], Option, None, Some, refl, subst, append-nil}
use Rattle.faust_record.specs.Runs.{IsRun, Run}
use Rattle.faust_premises.specs.Premises.{Collision, Forgery, IsClean, clean, first_collision, first_forged, premises_of, verdict_of}
use Rattle.faust_record.specs.declared.entry.Entry.{Entry}
use Rattle.faust_runs.proofs.Claims.{run-views}
use Rattle.faust_held.proofs.Claims.{announced-right}
use Rattle.faust_claims.proofs.Bringing.{meeting-noticed}
use Rattle.faust_joined.proofs.Clearing.{none-forged-at-all, without-made}
use Rattle.faust_joined.proofs.Comparing.{versions-comparable}
use Rattle.faust_joined.proofs.Linear.{order-linear}
use Rattle.faust_joined.proofs.Running.{known-front, notice-after}
use Rattle.faust_joined.proofs.Unforged.{peers-made}
use Rattle.faust_audit.specs.Departure.{first_departure}
use Rattle.faust_joined.specs.Promised.{ArePeersMade}
use Rattle.faust_verdict.specs.Headline.{AreCutsRight, AreMeetingsNoticed, DoNoticesFollow, IsHeadline, IsHonestlyServed, IsPromised}

-- a run of which nothing is found is clean
clean-parts : (forgery : Option Forgery) (found : Option Collision) → verdict_of forgery found ≡ clean
    → (forgery ≡ None) × (found ≡ None)
clean-parts None None is = (refl, refl)
clean-parts None (Some found) is = absurd (cc)
clean-parts (Some forgery) found is = absurd (cc)

is_clean : (run : Run) → premises_of run ≡ clean → IsClean run.config run.entries
is_clean run is =
    let parts = clean-parts (first_forged run.config run.entries) (first_collision run.config run.entries) is in
    record { no_forgery = parts.0; no_collision = parts.1 }

meetings-noticed : (run : Run) → IsRun run.config run.entries → IsClean run.config run.entries → AreMeetingsNoticed run
meetings-noticed run is kept = λ front rest entry whole met.
    meeting-noticed run.config front rest entry
    (subst (λ (entries : List Entry). IsRun run.config entries) whole is)
    (subst (λ (entries : List Entry). IsClean run.config entries) whole kept)
    met

cuts-right : (run : Run) → IsRun run.config run.entries → IsClean run.config run.entries → AreCutsRight run
cuts-right run is kept = λ i cut said. announced-right run.config run.entries i cut is kept said

peers_made : (run : Run) → IsClean run.config run.entries → ArePeersMade run.config [] run.entries
peers_made run kept = peers-made run.config [] run.entries kept.no_forgery

notices-follow : (run : Run) → IsRun run.config run.entries → ArePeersMade run.config [] run.entries → DoNoticesFollow run
notices-follow run is made = λ front rest entry notice whole given.
    notice-after run.config run.entries front rest entry notice is made whole given

honestly-served : (run : Run) → IsRun run.config run.entries → ArePeersMade run.config [] run.entries
    → first_departure run.config run.entries ≡ None → IsHonestlyServed run
honestly-served run is made none = record {
  linearizable = order-linear run.config run.entries is made none;
  well_given = (known-front run.config run.entries run.entries [] is (append-nil run.entries) made none).well;
  comparable = versions-comparable run.config run.entries is made none;
}

headline : (run : Run) → IsRun run.config run.entries → IsClean run.config run.entries → IsHeadline run
headline run is kept =
    let made : ArePeersMade run.config [] run.entries = peers_made run kept in
    record {
      views = run-views run.config run.entries is kept;
      cuts = cuts-right run is kept;
      notices = notices-follow run is made;
      meetings = meetings-noticed run is kept;
      honest = honestly-served run is made;
    }

pub promises-of : (run : Run) → IsRun run.config run.entries → IsPromised run
promises-of run is = record {
  of_clean = λ found. headline run is (is_clean run found);
  unforged = λ alone none.
      none-forged-at-all run.config run.entries is (without-made run.config [] run.entries alone) none;
}
