-- What bytes are, wherever they lie. No promise rests on it: callers see a list.
use Rattle.std.specs.Prelude.{ℕ, List, take}
use Rattle.std.specs.Arc.{arc_value}
use Rattle.faust_types.specs.declared.bytes.Prefix.{Prefix}
use Rattle.faust_types.specs.declared.bytes.Held.{Held}
use Rattle.faust_types.specs.declared.bytes.Held.TheVariants.{Own, Shared}

-- The first bytes of shared memory, as many as the prefix says.
abbrev pub prefix_of : Prefix → List ℕ
prefix_of prefix = take prefix.len (arc_value prefix.bytes).items

-- The bytes that are held.
abbrev pub bytes_of : Held → List ℕ
bytes_of (Own bytes) = bytes.items
bytes_of (Shared prefix) = prefix_of prefix
