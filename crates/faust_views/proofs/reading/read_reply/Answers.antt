use Rattle.faust_views.proofs.Replies.{reply-fits}
use Rattle.faust_views.proofs.reading.read_reply.Goals as goal

pub returns-in-Ok-Reply-clause-in_range : goal.returns-in-Ok-Reply-clause-in_range
returns-in-Ok-Reply-clause-in_range c =
    let found = rw c.in-Ok-Reply.field-0-is at c.in-Ok-Reply.ensures.found in
    reply-fits c.args.config.now.clients c.in-Ok-Reply.reply found.in_range
