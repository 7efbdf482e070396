use Rattle.std.proofs.Common.{◌≡◌, take}
use Rattle.faust_node.proofs.sending.copy_of.Given as goal

abbrev pub invariant-loop-post : goal.invariant-loop-post
invariant-loop-post l = l.copies ≡ take l.post-index l.posts
