use Rattle.std.proofs.Common.{ℕ, ◌-◌, ap, ◌∙◌}
use Rattle.std.specs.Prelude.{slice_set}
use Rattle.faust_cluster.proofs.Telling.{user-told}
use Rattle.faust_cluster.proofs.running.give_one_back.Goals as goal

pub returns-in-User-clause-told : goal.returns-in-User-clause-told
returns-in-User-clause-told g c =
    let told = c.in-User.told in
    user-told g.T.Session.config.clients g.T.Cast.ops told.client c.args.receipts.now c.set.new.self told.receipts c.requires told.of_cast
    (record { listed = told.listed; few = told.few; printable = told.printable })
    (c.set.ensures ∙ ap (λ (k : ℕ). slice_set c.args.receipts.now (k - 1) told.receipts) c.from.ensures)
