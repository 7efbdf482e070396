use Rattle.std.proofs.Common.{ℕ, List, sym, ◌∙◌, subst}
use Rattle.std.proofs.lemmas.List.{append-nil}
use Rattle.faust_text.specs.Lines.{lines_of}
use Rattle.faust_store.specs.Feeding.{due_of}
use Rattle.faust_store.specs.Reading.{Reads, lines_from}
use Rattle.faust_store.proofs.feed.Feed.finish.Goals as goal

pub returns : goal.returns
unfolding due_of
returns c =
    let feed = c.args.self in
    subst (λ (input : List ℕ). Reads c.run_from.result (lines_from feed.stage feed.number (lines_of input)))
    (c.as_slice.ensures ∙ sym (append-nil feed.rest)) c.run_from.ensures
