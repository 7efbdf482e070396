use Rattle.faust_store.proofs.Feeds.{fed_on}
use Rattle.faust_store.proofs.feed.fed.Goals as goal

pub returns-in-Ok : goal.returns-in-Ok
returns-in-Ok c =
    fed_on c.args.start c.args.first c.args.bytes.now c.args.left c.in-Ok.taken c.next_feed.result c.in-Ok.ensures c.requires.counted
    c.next_feed.ensures
