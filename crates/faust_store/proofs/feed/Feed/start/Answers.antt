use Rattle.std.proofs.Common.{ℕ, List, ◌++◌, ap, ◌∙◌}
use Rattle.faust_text.specs.Lines.{lines_of}
use Rattle.faust_store.specs.Feeding.{due_of}
use Rattle.faust_store.specs.Reading.{lines_from, read, start}
use Rattle.faust_store.proofs.feed.Feed.start.Goals as goal

pub returns-clause-due : goal.returns-clause-due
unfolding due_of read
returns-clause-due c = λ later.
    ap (λ st. lines_from st 1 (lines_of (c.new.result ++ later))) c.start.ensures
    ∙ ap (λ (rest : List ℕ). lines_from start 1 (lines_of (rest ++ later))) c.new.ensures
