-- What a net in memory changes of the frames that it carries.
use Rattle.std.specs.Prelude.{ℕ, ◌-◌, List, length, Bool, if◌then◌else◌, bit_xor, slice_index, slice_set}

-- The lowest bit of the last byte is changed, where the net is to change it.
abbrev pub flipped : Bool → List ℕ → List ℕ
flipped is_flipped bytes =
    let last = length bytes - 1 in if is_flipped then slice_set bytes last (bit_xor (slice_index bytes last) 1) else bytes
