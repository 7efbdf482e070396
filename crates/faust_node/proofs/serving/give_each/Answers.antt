use Rattle.std.proofs.Common.{List, subst, sym}
use Rattle.faust_types.specs.declared.outcome.Post.{Post}
use Rattle.faust_link.specs.Frames.{IsFrame}
use Rattle.faust_node.specs.Sending.{AreCarried}
use Rattle.faust_node.proofs.Posts.{post-carried}
use Rattle.faust_node.proofs.serving.give_each.Goals as goal

pub give-requires : goal.give-requires
give-requires g c =
    let items : List Post = c.as_slice-each-items.result.now in
    let carried : AreCarried items = subst AreCarried (sym c.as_slice-each-items.ensures) c.requires in
    subst IsFrame (sym c.as_slice.ensures)
    (post-carried items c.loop-each.each-index c.each-item.result carried c.loop-each-test.true c.each-item.is)
