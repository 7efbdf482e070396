use Rattle.std.proofs.Common.{◌≡◌, ◌+◌, ◌<◌, ℕ, List, length, Option, Some, IfSome, slice_get, refl, sym, ap, ◌∙◌, subst, option_copied, arith}
use Rattle.faust_link.specs.Frames.{IsFrame}
use Rattle.faust_record.specs.Journals.{Log}
use Rattle.faust_record.specs.declared.entry.Entry.{Entry}
use Rattle.faust_node.proofs.First.{sent-first, sent-silent, stands-within}
use Rattle.faust_node.proofs.cell.NodeCell.message_from.Goals.{in-Some+in_default-to_server, in_default}
use Rattle.faust_node.proofs.cell.NodeCell.message_from.Goals as goal

pub returns-in-Some-to_server : goal.returns-in-Some-to_server
returns-in-Some-to_server g c =
    let entries : List Entry = c.args.self.now.log.entries in
    let place = c.loop-place.place in
    let e : Entry = c.in-Some.entry.now in
    let stands : slice_get entries place ≡ Some e = sym c.in-Some.ensures.entry in
    let sent : e.outcome.to_server ≡ Some c.in_ok-copy.field-0 =
    sym c.to_server.ensures ∙ ap option_copied c.in-Some-to_server.is ∙ ap (λ (b : List ℕ). Some b) (sym c.in_ok-copy.ensures) in
    record {
      later = omega (arith, c.loop-place.auto.place);
      first = c.loop-place.invariant ∙ sent-first entries place (place + 1) e c.in_ok-copy.field-0 stands sent refl;
      carried = subst (λ (o : Option (List ℕ)). IfSome o IsFrame) sent c.in-Some.ensures.carried.to_server;
    }

pub loop-place-preserved : goal.loop-place-preserved
loop-place-preserved g c =
    let entries : List Entry = c.args.self.now.log.entries in
    let place = c.loop-place.place in
    let inside : place < length entries =
    subst (λ (l : Log). place < length l.entries) c.journal.ensures.journal
    (subst (λ (n : ℕ). place < n) c.len-place-end.ensures c.loop-place-test.true) in
    elim c.match-entry.branch [
      | in-Some+in_default-to_server w ↦
          c.loop-place.invariant
          ∙ sent-silent entries place (place + 1) w.in-Some.entry.now (sym w.in-Some.ensures.entry) (sym w.to_server.ensures
          ∙ ap option_copied w.in_default-to_server.is) refl
      | in_default w ↦ absurd (stands-within entries place inside (sym w.in_default.ensures.entry))
    ]
