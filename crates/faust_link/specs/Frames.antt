-- Frames and the streams that carry them. The promise that a stream's frames are those of its bytes rests on this.
use Rattle.std.specs.Prelude.{ℕ, ◌+◌, ◌<◌, ◌≤◌, List, [], ◌∷◌, ◌++◌, length, take}
use Rattle.std.specs.Int.{to_be_bytes, from_be_bytes, w32}

-- A frame has 1 to 16,384 bytes.
pub record IsFrameLength (len : ℕ) : Type 0 where
  pub some : 1 ≤ len
  pub few : len ≤ 16384

abbrev pub IsFrame : List ℕ → Type 0
IsFrame frame = IsFrameLength (length frame)

-- On a stream stands the length of a frame in four bytes, big end first, and then its bytes.
unfoldable pub spelling_of : List ℕ → List ℕ
spelling_of frame = to_be_bytes w32 (length frame) ++ frame

-- The bytes of a stream that carries these frames.
abbrev pub stream_of : List (List ℕ) → List ℕ
stream_of [] = []
stream_of (frame ∷ frames) = spelling_of frame ++ stream_of frames

-- Each of them is a frame.
abbrev pub AreFrames : List (List ℕ) → Type 0
AreFrames [] = Unit {0}
AreFrames (frame ∷ frames) = IsFrame frame × AreFrames frames

-- The length that stands at the front of these bytes.
abbrev pub length_in : List ℕ → ℕ
length_in bytes = from_be_bytes w32 (take 4 bytes)

-- Bytes that go on with no frame: they end within a length, or the length is out of range, or they end within the
-- bytes of the frame.
pub data IsBroken (bytes : List ℕ) : Type 0 where
  length_cut : 0 < length bytes → length bytes < 4 → IsBroken bytes
  length_out_of_range : 4 ≤ length bytes → (IsFrameLength (length_in bytes) → ⊥) → IsBroken bytes
  frame_cut : 4 ≤ length bytes → length bytes < 4 + length_in bytes → IsBroken bytes
