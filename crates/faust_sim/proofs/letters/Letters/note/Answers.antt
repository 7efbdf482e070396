use Rattle.std.proofs.Common.{◌+◌, ◌<◌, ℕ, length, drop, ◌∙◌, subst, arith}
use Rattle.faust_sim.specs.Kept.{AreToClients, place_at}
use Rattle.faust_sim.proofs.Places.{blank-post, note-client, note-sized, note-step}
use Rattle.faust_sim.proofs.letters.Letters.note.Goals as goal

pub put-requires : goal.put-requires
put-requires c =
    let posts = c.args.posts.now in
    let index = c.loop-index.index in
    let inside : index < length posts = omega (arith, c.loop-index-test.true) in
    (note-client (length c.loop-index.self) posts index c.at.result.now blank-post inside (c.at.ensures blank-post)
    c.loop-index.invariant.clients).0

pub loop-index-preserved : goal.loop-index-preserved
loop-index-preserved c =
    let posts = c.args.posts.now in
    let index = c.loop-index.index in
    let inside : index < length posts = omega (arith, c.loop-index-test.true) in
    let rest = (note-client (length c.loop-index.self) posts index c.at.result.now blank-post inside (c.at.ensures blank-post)
    c.loop-index.invariant.clients).1 in
    let place = place_at c.args.entry index in
    let sized = note-sized c.loop-index.self c.put.new.self c.at.result.now.to place c.in_ok-put.ensures in record {
      so_far = note-step c.loop-index.self c.put.new.self c.args.entry index posts c.at.result.now blank-post inside
          (c.at.ensures blank-post) c.in_ok-put.ensures
          ∙ c.loop-index.invariant.so_far;
      clients = subst (λ (n : ℕ). AreToClients n (drop (index + 1) posts)) sized rest;
    }
