use Rattle.faust_agent.proofs.Kept.{kept-first}
use Rattle.faust_agent.proofs.agent.Agent.with_key.Goals as goal

pub invariant_of-result : goal.invariant_of-result
invariant_of-result c =
    rw (c.in_ok-identity.ensures.config, c.in_ok-identity.ensures.client, c.in_ok-client.ensures)
    (kept-first c.args.config.now c.args.me c.requires.config.clients_count c.requires.client)
