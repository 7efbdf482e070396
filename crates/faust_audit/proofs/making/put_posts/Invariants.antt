use Rattle.std.proofs.Common.{◌≡◌, ◌++◌, map, take}
use Rattle.faust_audit.specs.Watching.{post_body}
use Rattle.faust_audit.proofs.making.put_posts.Given as goal

abbrev pub invariant-loop-post : goal.invariant-loop-post
invariant-loop-post l = record {
  items : l.posts ≡ l.posts;
  done : l.out ≡ l.fn.out ++ map post_body (take l.post-index l.posts);
}
