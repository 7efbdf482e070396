use Rattle.std.proofs.Common.{arith, replicate}
use Rattle.faust_types.proofs.Entries.{in_range-with_entry}
use Rattle.faust_types.proofs.Messages.{IsDigest-replicate}
use Rattle.faust_server.proofs.server.tests.put.Goals as goal

pub returns : goal.returns
returns c = rw c.set.ensures (in_range-with_entry 2 c.args.version.now c.args.k c.args.t
    (replicate 32 c.args.byte) c.requires.two c.requires.client (omega arith) c.requires.below
    (IsDigest-replicate c.args.byte (omega arith)))
