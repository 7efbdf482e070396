use Rattle.std.proofs.Common.{◌≡◌, ◌*◌, ◌<◌, ◌≤◌, ◌++◌, false, take, drop}
use Rattle.std.specs.List.{list_all}
use Rattle.hex.specs.Hex.{encode_lower}
use Rattle.faust_types.specs.Bytes.{AreBytes}
use Rattle.faust_text.specs.Values.{is_hex}
use Rattle.faust_text.proofs.spelling.decode_into.Given as goal

abbrev pub invariant-loop-i : goal.invariant-loop-i
invariant-loop-i l = record {
  decoded : l.greatest < 16 → encode_lower (take l.i l.bytes) ++ drop (2 * l.i) l.digits ≡ l.digits;
  bytes_each : AreBytes l.bytes;
  other : 16 ≤ l.greatest → list_all is_hex l.digits ≡ false;
}
