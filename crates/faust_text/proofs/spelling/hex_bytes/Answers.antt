use Rattle.faust_text.proofs.ValueLaws.{reads_decoded, too_many_digits}
use Rattle.faust_text.proofs.spelling.hex_bytes.Goals as goal

pub returns-then-token-limit : goal.returns-then-token-limit
returns-then-token-limit c = too_many_digits c.args.limit c.args.token.now c.if-token-limit.true

pub returns : goal.returns
returns c = reads_decoded c.args.limit c.args.token.now c.decoded.result c.if-token-limit.false c.decoded.ensures
