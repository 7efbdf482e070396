use Rattle.std.specs.Prelude.{codes}
use Rattle.std.specs.Fmt.{decimal}
use Rattle.faust_outcome.proofs.Pieced.{operations-put}
use Rattle.faust_outcome.proofs.numbers.put_operations.Goals as goal

pub returns : goal.returns
returns c =
    operations-put c.push.result c.args.out.now c.append.new.self c.put_number.new.out c.append-2.new.self c.put_number-2.new.out
    c.push.new.self (codes "user operations ") (decimal c.args.made) (codes " of ") (decimal c.args.of) c.in_ok-append.ensures.ok
    c.in_ok-put_number.ensures.ok c.in_ok-append-2.ensures.ok c.in_ok-put_number-2.ensures.ok c.push.ensures.ok
