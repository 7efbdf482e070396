-- Which operations of a record are writes, as it is noted entry by entry. It helps proofs.
use Rattle.std.specs.Prelude.{◌≡◌, ℕ, ◌-◌, ◌==◌, ◌||◌, Bool, false, List, [], ◌∷◌, ◌++◌, Option, Some, None, map, option_map, slice_get, slice_index_or, slice_set}
use Rattle.faust_types.specs.declared.operation.OpName.{OpName}
use Rattle.faust_names.specs.ForkViews.{is_writing}
use Rattle.faust_record.specs.Operations.{Started, started_among, started_in}
use Rattle.faust_record.specs.Runs.{entries_of}
use Rattle.faust_record.specs.declared.entry.Entry.{Entry}

-- Whether an operation that began is a write; and that of an entry, and those of entries.
abbrev pub writes_of : Started → Bool
writes_of started = is_writing started.order.kind

abbrev pub kind_in : Entry → Option Bool
kind_in entry = option_map writes_of (started_in entry)

abbrev pub kinds_among : List Entry → List Bool
kinds_among entries = map writes_of (started_among entries)

-- One more entry is noted.
abbrev pub noted_by : List (List Bool) → ℕ → Option Bool → List (List Bool)
noted_by kinds client None = kinds
noted_by kinds client (Some kind) = slice_set kinds client (slice_index_or kinds client [] ++ kind ∷ [])

abbrev pub noted : List (List Bool) → Entry → List (List Bool)
noted kinds entry = noted_by kinds entry.client (kind_in entry)

-- What is noted of each client are the kinds of its operations.
abbrev pub AreNoted : List (List Bool) → List Entry → Type 0
AreNoted kinds entries = (k : ℕ) → slice_index_or kinds k [] ≡ kinds_among (entries_of k entries)

abbrev pub is_true : Option Bool → Bool
is_true None = false
is_true (Some kind) = kind

abbrev pub is_noted_write : List (List Bool) → OpName → Bool
is_noted_write kinds name = is_true (slice_get (slice_index_or kinds name.client []) (name.t - 1))

-- An operation stays at a node: it is a write, or its own end is the node.
abbrev pub is_at : Option ℕ → ℕ → Bool
is_at None node = false
is_at (Some end) node = end == node

abbrev pub stays_at : List (List Bool) → Option ℕ → OpName → ℕ → Bool
stays_at kinds end name node = is_noted_write kinds name || is_at end node
