use Rattle.std.proofs.Common.{◌≡◌, ◌+◌, ◌<◌, ◌++◌, ℕ, List, length, drop, Some, slice_get, refl, sym, ap, ◌∙◌, subst, option_copied, arith}
use Rattle.faust_types.specs.declared.outcome.Post.{Post}
use Rattle.faust_record.specs.Journals.{Log}
use Rattle.faust_record.specs.declared.entry.Entry.{Entry}
use Rattle.faust_node.specs.Sending.{AreCarried, posts_in}
use Rattle.faust_node.proofs.First.{none-first, posts-first, posts-silent, stands-within}
use Rattle.faust_node.proofs.cell.NodeCell.batch_from.Goals.{in-Some+in_default-first, in_default}
use Rattle.faust_node.proofs.cell.NodeCell.batch_from.Goals as goal

pub returns-in-Some-first : goal.returns-in-Some-first
returns-in-Some-first g c =
    let entries : List Entry = c.args.self.now.log.entries in
    let at = c.loop-at.at in
    let e : Entry = c.in-Some.entry.now in
    let stands : slice_get entries at ≡ Some e = sym c.in-Some.ensures.entry in
    let same : c.in_ok-copy_of.field-0 ≡ e.outcome.to_peers = c.in_ok-copy_of.ensures ∙ c.to_peers-posts.ensures in
    record {
      later = omega (arith, c.loop-at.auto.at);
      first = c.loop-at.invariant ∙ posts-first entries at (at + 1) e stands refl
          ∙ ap (λ (l : List Post). l ++ posts_in (drop (at + 1) entries)) (sym same);
      carried = subst AreCarried (sym same) c.in-Some.ensures.carried.to_peers;
    }

pub loop-at-preserved : goal.loop-at-preserved
loop-at-preserved g c =
    let entries : List Entry = c.args.self.now.log.entries in
    let at = c.loop-at.at in
    let inside : at < length entries =
    subst (λ (l : Log). at < length l.entries) c.journal.ensures.journal
    (subst (λ (n : ℕ). at < n) c.len-at-end.ensures c.loop-at-test.true) in
    elim c.match-entry.branch [
      | in-Some+in_default-first w ↦
          c.loop-at.invariant
          ∙ posts-silent entries at (at + 1) w.in-Some.entry.now (sym w.in-Some.ensures.entry)
          (sym w.to_peers-posts.ensures ∙ none-first w.to_peers-posts.result.now (sym w.first.ensures.value
          ∙ ap option_copied w.in_default-first.is)) refl
      | in_default w ↦ absurd (stands-within entries at inside (sym w.in_default.ensures.entry))
    ]
