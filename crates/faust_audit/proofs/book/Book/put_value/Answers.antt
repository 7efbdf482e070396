use Rattle.std.proofs.Common.{sym, ap, ◌∙◌, subst}
use Rattle.faust_hash.specs.Chain.{input_digest}
use Rattle.faust_audit.specs.Digests.{AreDigests}
use Rattle.faust_audit.proofs.DigestLaws.{are-digests-insert}
use Rattle.faust_audit.proofs.book.Book.put_value.Goals as goal

pub invariant_of-self-2 : goal.invariant_of-self-2
invariant_of-self-2 c =
    subst AreDigests (sym c.in_ok-insert.ensures.entries)
    (are-digests-insert c.self.inside.values.entries c.in_ok-into_vec.field-0 c.input_digest-digest.result c.self.invariant
    (c.input_digest-digest.ensures ∙ ap input_digest (c.as_slice.ensures ∙ sym (c.in_ok-into_vec.ensures ∙ c.in_ok-copy.ensures))))
