use Rattle.std.proofs.Common.{sym, subst}
use Rattle.faust_link.specs.Frames.{IsFrame}
use Rattle.faust_server.specs.Rows.{client_count}
use Rattle.faust_host.proofs.Sized.{reply_is_frame}
use Rattle.faust_host.proofs.servers.tried_submit.Goals as goal

pub returns-clause-sendable : goal.returns-clause-sendable
returns-clause-sendable c =
    let frame =
    reply_is_frame (client_count c.args.server) c.in-Ok-submit.reply c.clients-n.ensures.kept.count c.in-Ok-submit.ensures.in_range in
    subst IsFrame (sym c.in-Ok-encode.ensures) frame
