use Rattle.std.proofs.Common.{ℕ, List, Some, refl, sym, ap, ◌∙◌}
use Rattle.faust_audit.proofs.InputLaws.{again-as, alike, collide-as, new-as, stay, unlike}
use Rattle.faust_audit.proofs.input_table.InputTable.add.Goals as goal

pub returns-then-is_some : goal.returns-then-is_some
returns-then-is_some c = λ all holds. stay c.args.self.now all c.args.hashed.now (cc (c.is_some.ensures, c.if-is_some.true)) holds

pub returns-in_ok-insert-in-None : goal.returns-in_ok-insert-in-None
returns-in_ok-insert-in-None c = λ all holds.
    new-as c.args.self.now (record { firsts = c.insert.new.self; found = c.args.self.now.found }) all c.args.hashed.now
    c.digest.result.now c.digest-in-None.result.now c.in_ok-input-in-None.input c.digest.ensures c.digest-in-None.ensures
    (c.in_ok-input-in-None.ensures ∙ c.input.ensures) (cc (c.is_some.ensures, c.if-is_some.false)) refl (sym c.in-None.ensures.value)
    (λ q. c.in_ok-insert-in-None.ensures.updates.0 q) holds

pub returns-in_ok-copy-in-Some-2 : goal.returns-in_ok-copy-in-Some-2
returns-in_ok-copy-in-Some-2 c = λ all holds.
    collide-as c.args.self.now
    (record {
      firsts = c.args.self.now.firsts;
      found = Some (record { first = c.in_ok-copy-in-Some.field-0; second = c.in_ok-copy-in-Some-2.field-0 });
    })
    all c.args.hashed.now c.digest.result.now c.in_ok-copy-in-Some.field-0 c.in_ok-copy-in-Some-2.field-0 c.digest.ensures
    (cc (c.is_some.ensures, c.if-is_some.false))
    (sym c.in-Some.ensures.value ∙ ap (λ (l : List ℕ). Some l) (sym c.in_ok-copy-in-Some.ensures)) (λ e. unlike _ _ c.if-ne.ensures
    (c.as_slice.ensures ∙ sym c.in_ok-copy-in-Some.ensures ∙ e ∙ sym (c.as_slice-in-Some.ensures ∙ c.input-in-Some.ensures)))
    (c.in_ok-copy-in-Some-2.ensures ∙ c.input-then-ne.ensures) refl holds

pub returns-else-ne : goal.returns-else-ne
returns-else-ne c = λ all holds.
    again-as c.args.self.now all c.args.hashed.now c.digest.result.now c.in-Some.first.now c.digest.ensures
    (cc (c.is_some.ensures, c.if-is_some.false))
    (sym c.in-Some.ensures.value) (sym c.as_slice.ensures ∙ alike _ _ c.if-ne.ensures ∙ c.as_slice-in-Some.ensures
    ∙ c.input-in-Some.ensures) holds
