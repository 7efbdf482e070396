use Rattle.std.proofs.Common.{sym, subst}
use Rattle.faust_agent.specs.State.{Member}
use Rattle.faust_agent.specs.InRange.{IsDeedFor}
use Rattle.faust_agent.proofs.Kept.{does-kept}
use Rattle.faust_agent.proofs.agent.Agent.perform.Goals as goal

pub invariant_of-self : goal.invariant_of-self
invariant_of-self c =
    let id = c.self.inside.identity in
    let fits : IsDeedFor id.config id.me c.self.inside.client c.args.deed =
    subst (λ (member : Member). IsDeedFor member.config member.me member.client c.args.deed) (sym c.self.view_is) c.requires in
    does-kept id.config id.me c.self.inside.client c.perform.new.self c.args.deed c.perform.result _
    id.member c.self.invariant fits c.perform.ensures
