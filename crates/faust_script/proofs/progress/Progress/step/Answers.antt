use Rattle.faust_script.proofs.Steps.{step_can_act}
use Rattle.faust_script.proofs.progress.Progress.step.Goals as goal

pub act-requires : goal.act-requires
act-requires c =
    step_can_act c.args.clients c.args.ops c.able_at-client.result c.as_slice-2.result.now c.args.self.now c.draw.new.self c.requires
    c.draw.ensures.state c.as_slice-2.ensures c.able_at-client.ensures.client
