use Rattle.std.proofs.Common.{◌≡◌, ℕ, List, ap, length, rules}
use Rattle.std.specs.BTreeMap.{is_at}
use Rattle.std.specs.Map.{lookup}
use Rattle.faust_tree.specs.KeptTree.{child_order}
use Rattle.faust_tree.specs.declared.node.Child.{Child}
use Rattle.faust_tree.proofs.Keeping.{kept-put, kept-same}
use Rattle.faust_tree.proofs.tree.Tree.put.Goals as goal

pub invariant_of-self-in_err-insert : goal.invariant_of-self-in_err-insert
invariant_of-self-in_err-insert c =
    kept-same c.self.inside.slots.items c.reserve.new.self.items _ _ c.self.invariant c.in_ok-reserve.ensures.items
    (ap (λ (entries : List (Child × ℕ)). λ (q : Child). lookup (is_at (child_order q)) entries) c.in_err-insert.ensures.err)

pub invariant_of-self-2 : goal.invariant_of-self-2
invariant_of-self-2 c =
    let count : c.len-number.result ≡ length c.self.inside.slots.items = search rules in
    kept-put c.self.inside.slots.items c.reserve.new.self.items c.push.new.self.items _ _ c.args.self.now c.args.slot c.child.result
    c.len-number.result c.self.invariant c.self.view_is c.requires.few c.requires.absent c.requires.slot
    c.in_ok-reserve.ensures.items c.in_ok-push.ensures.items count c.child.ensures c.in_ok-insert.ensures.updates.1
    c.in_ok-insert.ensures.updates.2
