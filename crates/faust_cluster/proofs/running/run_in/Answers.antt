use Rattle.std.proofs.Common.{ℕ, sym, ap, subst, ◌∙◌}
use Rattle.faust_types.specs.declared.config.Config.{Config}
use Rattle.faust_outcome.specs.declared.gathered.Gathered.{Gathered}
use Rattle.faust_cluster.specs.Ending.{CountsHealth}
use Rattle.faust_cluster.proofs.Counted.{failure-counted, not-linked}
use Rattle.faust_cluster.proofs.running.run_in.Goals as goal

pub returns-in-Ok-clause-net : goal.returns-in-Ok-clause-net
returns-in-Ok-clause-net g c =
    let before = g.N.Net.faults c.args.net.now in
    let now = g.N.Net.faults c.give_back-health.new.net in
    failure-counted c.give_back-health.result c.gathered.result before now c.gathered.ensures.health
    (subst (λ (x : ℕ). CountsHealth c.give_back-health.result x now) c.in_ok-links.ensures.count c.give_back-health.ensures.count)

pub returns-in-Err-clause-net : goal.returns-in-Err-clause-net
returns-in-Err-clause-net g c =
    not-linked Gathered c.in-Err.failure (g.N.Net.faults c.args.net.now) (g.N.Net.faults c.connected.new.net) c.in-Err.ensures.no_link
    c.in_ok-links.ensures.count

pub gathered-requires-clause-named : goal.gathered-requires-clause-named
gathered-requires-clause-named g c = c.requires.named.1 ∙ ap (λ (config : Config). config.clients) (sym c.requires.named.0)
