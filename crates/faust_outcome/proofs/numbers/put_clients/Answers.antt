use Rattle.std.proofs.Common.{ℕ, ◌++◌, ap, ◌∙◌}
use Rattle.std.specs.Prelude.{codes}
use Rattle.std.specs.Fmt.{decimal}
use Rattle.faust_outcome.proofs.Pieced.{clients-put}
use Rattle.faust_outcome.proofs.numbers.put_clients.Goals as goal

pub returns : goal.returns
returns c =
    clients-put c.push.result c.args.out.now c.append.new.self c.put_number.new.out c.push.new.self (codes "live clients ")
    (decimal c.args.clients) c.in_ok-append.ensures.ok
    (c.in_ok-put_number.ensures.ok ∙ ap (λ (k : ℕ). c.append.new.self ++ decimal k) c.from.ensures) c.push.ensures.ok
