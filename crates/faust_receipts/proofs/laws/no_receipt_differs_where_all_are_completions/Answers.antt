use Rattle.faust_receipts.proofs.Right.{receipts_are_right}
use Rattle.faust_receipts.proofs.laws.no_receipt_differs_where_all_are_completions.Goals as goal

pub returns : goal.returns
returns c = receipts_are_right
