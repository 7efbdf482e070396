use Rattle.std.proofs.Common.{◌≡◌, ◌<◌, ◌++◌, ◌∙◌, [], List, Option, ℕ, ap, length, reverse, subst, sym}
use Rattle.faust_types.specs.declared.operation.OpName.{OpName}
use Rattle.faust_tree.specs.Trees.{IsUnder, path_under}
use Rattle.faust_runs.specs.ForkViews.{fork_views, kept_behind, last_view, stays}
use Rattle.faust_views.specs.Forests.{last_end}
use Rattle.faust_views.proofs.EndsFound.{end-inside, ends-last}
use Rattle.faust_views.proofs.Seeing.{under-above, view-begins, view-gone, view-there}
use Rattle.faust_views.proofs.seen.Seen.view_of.Goals as goal

pub loop-place-init : goal.loop-place-init
loop-place-init c =
    let tree = c.args.self.now.forest.tree in
    let ends = c.args.self.now.forest.ends in
    let views = fork_views c.requires.run.config c.requires.run.entries in
    let at : c.last_of-place.result ≡ last_end c.args.self.now.forest.ends c.args.i =
    c.last_of-place.ensures ∙ ap (λ (l : List (OpName × ℕ)). last_end l c.args.i) c.as_slice.ensures in (
      subst (λ (o : Option ℕ). IsUnder c.args.self.now.forest.tree o) (sym at)
          (end-inside tree (last_end ends c.args.i) (last_view views c.args.i)
          (ends-last tree ends views c.args.i c.requires.seen_of.forest_is.ends_are)),
      λ run is. view-begins c.args.self.now run c.args.i is c.last_of-place.result at
          ∙ ap (λ (names : List OpName).
          kept_behind (stays run.entries (fork_views run.config run.entries)) []
          (path_under c.args.self.now.forest.tree c.last_of-place.result) ++ reverse names)
          (sym c.new-names.ensures.items),
    )

pub loop-place-preserved-in_ok-push : goal.loop-place-preserved-in_ok-push
loop-place-preserved-in_ok-push c =
    let inside : c.in-Some.number < length c.args.self.now.forest.tree = rw c.in-Some.is at c.loop-place.invariant.0 in (
      under-above c.args.self.now.forest.tree c.node-node.result.under c.in-Some.number c.node-node.ensures.earlier inside,
      λ run is. view-there c.args.self.now run c.args.i is c.loop-place.place c.in-Some.number c.node-node.result
          c.loop-place.names.items c.push.new.self.items c.stays.result c.node-node.ensures.tree c.in-Some.is inside
          c.node-node.ensures.path c.stays.ensures c.if-stays.true c.in_ok-push.ensures.items (c.loop-place.invariant.1 run is),
    )

pub loop-place-preserved : goal.loop-place-preserved
loop-place-preserved c =
    let inside : c.in-Some.number < length c.args.self.now.forest.tree = rw c.in-Some.is at c.loop-place.invariant.0 in (
      under-above c.args.self.now.forest.tree c.node-node.result.under c.in-Some.number c.node-node.ensures.earlier inside,
      λ run is. view-gone c.args.self.now run c.args.i is c.loop-place.place c.in-Some.number c.node-node.result
          c.loop-place.names.items c.stays.result c.node-node.ensures.tree c.in-Some.is inside
          c.node-node.ensures.path c.stays.ensures c.if-stays.false (c.loop-place.invariant.1 run is),
    )
