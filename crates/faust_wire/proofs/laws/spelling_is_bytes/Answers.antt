use Rattle.faust_wire.proofs.Bytes.{AreBytes-spelling}
use Rattle.faust_wire.proofs.laws.spelling_is_bytes.Goals as goal

pub returns : goal.returns
returns c = AreBytes-spelling
