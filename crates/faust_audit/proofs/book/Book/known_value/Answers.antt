use Rattle.std.proofs.Common.{◌∙◌}
use Rattle.faust_audit.proofs.DigestLaws.{known-right}
use Rattle.faust_audit.proofs.book.Book.known_value.Goals as goal

pub returns : goal.returns
returns c =
    known-right c.self.inside.values.entries c.args.input.now c.as_slice.result.now c.copied.result c.self.invariant c.as_slice.ensures
    (c.copied.ensures ∙ c.get.ensures.value)
