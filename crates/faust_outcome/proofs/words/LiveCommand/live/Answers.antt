use Rattle.std.proofs.Common.{sym, arith}
use Rattle.faust_outcome.proofs.WordLaws.{few_clients}
use Rattle.faust_outcome.proofs.words.LiveCommand.live.Goals as goal

pub overflow_cast-result : goal.overflow_cast-result
overflow_cast-result c =
    let few = few_clients c.args.clients.now c.in-Some.clients (sym c.in-Some.ensures) in omega (arith, few)
