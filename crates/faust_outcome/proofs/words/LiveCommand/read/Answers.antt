use Rattle.std.proofs.Common.{sym}
use Rattle.std.specs.Prelude.{string_bytes}
use Rattle.faust_outcome.proofs.WordLaws.{other_words}
use Rattle.faust_outcome.proofs.words.LiveCommand.read.Goals as goal

pub returns-then-words-ne5 : goal.returns-then-words-ne5
returns-then-words-ne5 c = sym (other_words (λ w. string_bytes w) c.args.words.now c.if-words-ne5.true)
