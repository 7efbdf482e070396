use Rattle.std.proofs.Common.{option_copied, slice_get, ap, ◌∙◌, subst}
use Rattle.faust_record.specs.Journals.{IsJournal, Log}
use Rattle.faust_node.proofs.Carried.{carried-if}
use Rattle.faust_node.proofs.cell.NodeCell.entry.Goals as goal

pub returns-clause-carried : goal.returns-clause-carried
returns-clause-carried g c =
    let log : Log = c.args.self.now.log in
    carried-if log c.args.place (option_copied c.entry.result) (subst IsJournal c.journal.ensures.journal c.client-client.ensures.kept)
    (c.entry.ensures ∙ ap (λ (l : Log). slice_get l.entries c.args.place) c.journal-2.ensures.journal)
