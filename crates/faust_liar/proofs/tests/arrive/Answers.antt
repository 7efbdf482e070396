use Rattle.std.proofs.Common.{◌≡◌, ℕ, List, Option, None, IsNone, refl, sym, subst}
use Rattle.faust_types.specs.Ranges.{IsSubmitFor}
use Rattle.faust_types.specs.declared.message.Commit.{Commit}
use Rattle.faust_types.specs.declared.message.Submit.{Submit}
use Rattle.faust_types.specs.declared.message.Message.TheVariants as messages
use Rattle.faust_wire.specs.Grammar.{submit_bytes}
use Rattle.faust_liar.specs.InRange.{IsArrival, IsBehind, IsFor}
use Rattle.faust_liar.specs.Lies.{LiarState, session_count}
use Rattle.faust_liar.proofs.tests.arrive.Goals as goal

arrival : (st : LiarState) (i : ℕ) (m : Submit) (bytes : List ℕ) → IsFor 1 2 st → IsSubmitFor 2 m → m.commit ≡ None
    → bytes ≡ submit_bytes 1 m → IsArrival st.wire (session_count st) i bytes
arrival st i m bytes is fits alone spelled =
    let none : IsNone m.commit = subst (λ (o : Option Commit). IsNone o) (sym alone) refl in
    let here : IsArrival 1 2 i bytes = record {
      message = messages.Submit m;
      spelled = record { in_range = fits; for_wire = λ _. none; spelled = spelled };
      for_server = (fits, subst (λ (o : Option Commit). IsBehind i m o) (sym alone) tt);
    } in
    subst (λ (w : ℕ). IsArrival w (session_count st) i bytes) (sym is.same_wire)
    (subst (λ (n : ℕ). IsArrival 1 n i bytes) (sym is.same_count) here)

pub arrive-requires-clause-message : goal.arrive-requires-clause-message
arrive-requires-clause-message c =
    arrival c.args.liar.now c.args.i c.args.m c.in_ok-bytes.bytes c.requires.liar c.requires.message c.requires.alone
    c.in_ok-bytes.ensures
