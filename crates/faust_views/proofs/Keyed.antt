-- Keys compare equal exactly where the names are.
use Rattle.std.proofs.Common.{◌≡◌, ◌==◌, ◌&&◌, Bool, refl, sym, ap, ◌∙◌}
use Rattle.std.specs.declared.cmp.Ordering.{Ordering}
use Rattle.std.specs.declared.cmp.Ordering.TheVariants.{Less, Equal, Greater}
use Rattle.std.specs.Ordering.{is_eq, nat_cmp, ordering_then}
use Rattle.std.specs.Cmp.{unsigned_ties}
use Rattle.faust_types.specs.declared.operation.OpName.{OpName}
use Rattle.faust_record.specs.Operations.{is_named}
use Rattle.faust_views.specs.Keys.{key_of, key_order}

then-is : (a b : Ordering) → is_eq (ordering_then a b) ≡ is_eq a && is_eq b
then-is Less b = refl
then-is Equal b = refl
then-is Greater b = refl

pub key-is : (name other : OpName) → is_eq (key_order (key_of name) (key_of other)) ≡ is_named name other
key-is name other =
    then-is (nat_cmp name.client other.client) (nat_cmp name.t other.t)
    ∙ ap (λ (b : Bool). b && is_eq (nat_cmp name.t other.t)) (sym (unsigned_ties name.client other.client))
    ∙ ap (λ (b : Bool). (name.client == other.client) && b) (sym (unsigned_ties name.t other.t))
