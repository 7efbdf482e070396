use Rattle.std.proofs.Common.{◌∙◌, eq-eqb}
use Rattle.std.proofs.lemmas.Bool.{eqb-true}
use Rattle.faust_tree.proofs.Keeping.{prefix-tells}
use Rattle.faust_tree.proofs.tree.Tree.is_prefix.Goals as goal

pub returns-then-depth : goal.returns-then-depth
returns-then-depth c =
    let tells = prefix-tells c.args.self.now c.args.a c.args.b c.ancestor.result c.depth.ensures.tree c.requires.a
    c.ancestor.ensures.within c.ancestor.ensures.prefix (c.ancestor.ensures.depth ∙ c.depth-depth.ensures.depth) in
    (λ h. tells.0 (eqb-true c.ancestor.result c.args.a h), λ h. eq-eqb c.ancestor.result c.args.a (tells.1 h))
