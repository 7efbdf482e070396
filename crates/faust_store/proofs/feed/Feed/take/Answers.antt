use Rattle.std.proofs.Common.{◌-◌, length, ◌∙◌, arith}
use Rattle.faust_store.proofs.Feeds.{piece_kept, piece_left, piece_taken}
use Rattle.faust_store.proofs.feed.Feed.take.Goals as goal

pub returns-in-Ok-clause-takes : goal.returns-in-Ok-clause-takes
returns-in-Ok-clause-takes c =
    let feed = c.args.self in
    let piece = c.args.piece.now in
    piece_taken feed piece c.as_slice.result.now (feed.left - length piece) c.fed.result (c.as_slice.ensures
    ∙ c.in-Ok.ensures) c.fed.ensures

pub returns-in-Ok-clause-feed : goal.returns-in-Ok-clause-feed
returns-in-Ok-clause-feed c =
    let feed = c.args.self in
    piece_kept feed.stage feed.number c.as_slice.result.now (feed.left - length c.args.piece.now) c.fed.result c.fed.ensures

pub returns-in-Ok-clause-left : goal.returns-in-Ok-clause-left
returns-in-Ok-clause-left c =
    let feed = c.args.self in
    let len = length c.args.piece.now in
    piece_left feed.stage feed.number c.as_slice.result.now (feed.left - len) feed.left len c.fed.result
    (omega (arith, c.requires.room)) c.fed.ensures
