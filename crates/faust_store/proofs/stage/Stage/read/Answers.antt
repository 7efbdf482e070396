use Rattle.std.proofs.Common.{rules}
use Rattle.faust_text.specs.Tokens.{tokens_of}
use Rattle.faust_store.proofs.Ranges.{config_kept}
use Rattle.faust_store.proofs.stage.Stage.read.Goals as goal

pub first_entry_due-requires : goal.first_entry_due-requires
first_entry_due-requires c =
    config_kept c.in-Head.head c.in-Whole.format c.in-Whole.config (tokens_of c.args.text.now) (search rules) (search rules)
