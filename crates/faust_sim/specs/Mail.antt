-- The messages that the clients of a run sent to one another, in the order sent. The promise on `peer` rests on this
-- file.
use Rattle.std.specs.Prelude.{◌==◌, ℕ, cond, List, [], ◌∷◌, ◌++◌}
use Rattle.faust_types.specs.declared.outcome.Post.{Post}
use Rattle.faust_record.specs.Runs.{entries_of}
use Rattle.faust_record.specs.declared.entry.Entry.{Entry}

-- Of messages to other clients those to client j.
abbrev pub posts_to : ℕ → List Post → List (List ℕ)
posts_to j [] = []
posts_to j (post ∷ rest) = cond (post.to == j) (post.bytes ∷ posts_to j rest) (posts_to j rest)

-- What one client's own entries sent to client j.
abbrev pub mailed_in : ℕ → List Entry → List (List ℕ)
mailed_in j [] = []
mailed_in j (entry ∷ rest) = posts_to j entry.outcome.to_peers ++ mailed_in j rest

-- What client i sent to client j.
abbrev pub mailed : ℕ → ℕ → List Entry → List (List ℕ)
mailed i j entries = mailed_in j (entries_of i entries)
