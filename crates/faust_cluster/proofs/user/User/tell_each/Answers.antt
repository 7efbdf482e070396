use Rattle.faust_cluster.proofs.Telling.{one-told}
use Rattle.faust_cluster.proofs.user.User.tell_each.Goals as goal

pub loop-place-preserved : goal.loop-place-preserved
loop-place-preserved g c =
    one-told c.args.self.now.clients c.args.self.now.ops c.args.self.now.client c.loop-place.place c.loop-place.receipts
    c.put_receipt.new.receipts
    c.in_ok-receipt.receipt c.loop-place.invariant c.loop-place-test.true c.in_ok-receipt.ensures.listed c.in_ok-receipt.ensures.printable
    c.in_ok-put_receipt.ensures.ok
