-- Which cuts a record has: those that outcomes announce. The promise that every announced cut is right rests on this
-- file.
use Rattle.std.specs.Prelude.{◌≡◌, ℕ, List, Some}
use Rattle.faust_lists.specs.Names.{Has}
use Rattle.faust_record.specs.declared.entry.Entry.{Entry}

-- Client i announces a cut in some entry.
pub record Announces (entries : List Entry) (i : ℕ) (cut : List ℕ) : Type 0 where
  pub entry : Entry
  pub in_record : Has entries entry
  pub of_client : entry.client ≡ i
  pub announced : entry.outcome.cut ≡ Some cut
