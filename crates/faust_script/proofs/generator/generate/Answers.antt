use Rattle.std.proofs.Common.{◌≡◌, sym, subst}
use Rattle.faust_script.specs.declared.script.Script.{Script}
use Rattle.faust_script.specs.Generated.{generated}
use Rattle.faust_script.specs.InRange.{IsScript}
use Rattle.faust_script.proofs.Rounds.{generated_in_range, generated_is, script_of}
use Rattle.faust_script.proofs.generator.generate.Goals as goal

pub returns-clause-exact : goal.returns-clause-exact
returns-clause-exact c =
    generated_is c.args.seed c.args.clients c.args.ops c.in_ok-sample_config.field-0 c.in_ok-events.events c.end_operations.new.events
    c.put_round.new.events c.put_round-2.new.events c.in_ok-events.ensures c.in_ok-end_operations.ensures c.in_ok-put_round.ensures
    c.in_ok-put_round-2.ensures c.in_ok-sample_config.ensures

pub returns-clause-in_range : goal.returns-clause-in_range
returns-clause-in_range c =
    let is : script_of c.in_ok-sample_config.field-0 c.put_round-2.new.events ≡ generated c.args.seed c.args.clients c.args.ops =
    generated_is c.args.seed c.args.clients c.args.ops c.in_ok-sample_config.field-0 c.in_ok-events.events c.end_operations.new.events
    c.put_round.new.events c.put_round-2.new.events c.in_ok-events.ensures c.in_ok-end_operations.ensures c.in_ok-put_round.ensures
    c.in_ok-put_round-2.ensures c.in_ok-sample_config.ensures in
    subst (λ (script : Script). IsScript script) (sym is) (generated_in_range c.args.seed c.args.clients c.args.ops c.requires)
