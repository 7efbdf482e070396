-- Frames that are put out and taken in, piece by piece.
use Rattle.std.proofs.Common.{◌≡◌, ℕ, ◌+◌, ◌<◌, ◌≤◌, List, [], ◌++◌, length, take, None, Some, refl, sym, ap, ◌∙◌, subst, append_assoc, append-nil, length-append, arith, IfSome, Result, Ok, Err, OnOk, OnErr}
use Rattle.std.proofs.Math.Seq.{take-append_seam, take-length}
use Rattle.std.specs.Int.{to_be_bytes, from_be_bytes, w32}
use Rattle.std.specs.Io.KnownBytes.{Appends, Consumes, IsAtEnd, Keeps}
use Rattle.std.proofs.KnownBytes.{Appends-trans, Consumes-trans}
use Rattle.std.specs.declared.option.Option.{Option}
use Rattle.faust_io.specs.Writing.{AppendsPrefix}
use Rattle.faust_link.specs.Frames.{IsFrame, IsFrameLength, IsBroken, spelling_of, length_in}
use Rattle.faust_link.specs.Frames.IsBroken.{length_cut, length_out_of_range, frame_cut}
use Rattle.faust_link.specs.Links.{GoesOnTelling, TakesFrame}
use Rattle.faust_link.specs.Finding.{FindsFrame}

-- A length and a frame behind it are put out whole, or a front of both.
spelling_is : (len frame : List ℕ) → len ≡ to_be_bytes w32 (length frame) → len ++ frame ≡ spelling_of frame
unfolding spelling_of
spelling_is len frame is = ap (λ xs. xs ++ frame) is

pub Appends-spelling : (a b c : Option (List ℕ)) (len frame : List ℕ) → len ≡ to_be_bytes w32 (length frame) → Appends a b len
    → Appends b c frame → Appends a c (spelling_of frame)
Appends-spelling a b c len frame is first second =
    subst (Appends a c) (spelling_is len frame is) (Appends-trans a b c len frame first second)

pub AppendsPrefix-length : (a b : Option (List ℕ)) (len frame : List ℕ) → len ≡ to_be_bytes w32 (length frame)
    → AppendsPrefix a b len → AppendsPrefix a b (spelling_of frame)
AppendsPrefix-length a b len frame is before = subst (AppendsPrefix a b) (spelling_is len frame is) (record {
  front = before.front;
  is_prefix = record {
    rest = before.is_prefix.rest ++ frame;
    joined = ap (λ xs. xs ++ frame) before.is_prefix.joined ∙ append_assoc before.front before.is_prefix.rest frame;
  };
  behind = before.behind;
})

pub AppendsPrefix-frame : (a b c : Option (List ℕ)) (len frame : List ℕ) → len ≡ to_be_bytes w32 (length frame) → Appends a b len
    → AppendsPrefix b c frame → AppendsPrefix a c (spelling_of frame)
AppendsPrefix-frame a b c len frame is first before = subst (AppendsPrefix a c) (spelling_is len frame is) (record {
  front = len ++ before.front;
  is_prefix = record {
    rest = before.is_prefix.rest;
    joined = ap (λ xs. len ++ xs) before.is_prefix.joined ∙ sym (append_assoc len before.front before.is_prefix.rest);
  };
  behind = Appends-trans a b c len before.front first before.behind;
})

pub on_ok_of : {T E P Q : Type 0} (result : Result T E) → (P → Q) → OnOk result P → OnOk result Q
on_ok_of (Ok x) f holds = f holds
on_ok_of (Err e) f holds = tt

pub on_err_of : {T E P Q : Type 0} (result : Result T E) → (P → Q) → OnErr result P → OnErr result Q
on_err_of (Ok x) f holds = tt
on_err_of (Err e) f holds = f holds

-- A source that tells goes on telling, whatever was taken from it.
pub telling_taken : (a b : Option (List ℕ)) (piece : List ℕ) → Consumes a b piece → GoesOnTelling a b
telling_taken None b piece taken = tt
telling_taken (Some x) None piece taken = absurd taken
telling_taken (Some x) (Some y) piece taken = (y, refl)

pub telling_kept : (a b c : Option (List ℕ)) (piece : List ℕ) → Consumes a b piece → c ≡ b → GoesOnTelling a c
telling_kept a b c piece taken same = subst (GoesOnTelling a) (sym same) (telling_taken a b piece taken)

pub telling_more : (a b c : Option (List ℕ)) (piece : List ℕ) → Consumes a b piece → GoesOnTelling b c → GoesOnTelling a c
telling_more None b c piece taken telling = tt
telling_more (Some x) None c piece taken telling = absurd taken
telling_more (Some x) (Some y) c piece taken telling = telling

-- Nothing was taken, and nothing is left.
pub nothing_left : (a b : Option (List ℕ)) (piece : List ℕ) → piece ≡ [] → Consumes a b piece → IsAtEnd b → IsAtEnd a × Keeps a b
nothing_left None b piece none taken end = (tt, tt)
nothing_left (Some x) None piece none taken end = absurd taken
nothing_left (Some x) (Some y) piece none taken end =
    let is : x ≡ y = taken ∙ ap (λ xs. xs ++ y) none in
    (is ∙ end, sym is)

-- The whole of the source was taken.
all_taken : (x y piece : List ℕ) → x ≡ piece ++ y → y ≡ [] → x ≡ piece
all_taken x y piece taken end = taken ∙ ap (λ ys. piece ++ ys) end ∙ append-nil piece

-- A stream that ends within a length, that goes on with a length out of range, and that ends within a frame.
pub broken_in_length : (a b : Option (List ℕ)) (piece : List ℕ) → Consumes a b piece → IsAtEnd b → 0 < length piece
    → length piece < 4 → IfSome a IsBroken
broken_in_length None b piece taken end some few = tt
broken_in_length (Some x) None piece taken end some few = absurd taken
broken_in_length (Some x) (Some y) piece taken end some few = subst IsBroken (sym (all_taken x y piece taken end)) (length_cut some few)

-- The first four bytes, where four were taken.
front_is : (x y len : List ℕ) → x ≡ len ++ y → length len ≡ 4 → take 4 x ≡ len
front_is x y len taken sized =
    ap (take 4) taken ∙ subst (λ k. take k (len ++ y) ≡ len) sized (take-append_seam len y)

pub broken_at_length : (a b : Option (List ℕ)) (len : List ℕ) → Consumes a b len → length len ≡ 4
    → (IsFrameLength (from_be_bytes w32 len) → ⊥) → IfSome a IsBroken
broken_at_length None b len taken sized bad = tt
broken_at_length (Some x) None len taken sized bad = absurd taken
broken_at_length (Some x) (Some y) len taken sized bad =
    let long : 4 ≤ length x = omega (arith, ap length taken, length-append len y, sized) in
    length_out_of_range long (λ good. bad (subst IsFrameLength (ap (from_be_bytes w32) (front_is x y len taken sized)) good))

pub broken_in_frame : (a b c : Option (List ℕ)) (len piece : List ℕ) → Consumes a b len → length len ≡ 4 → Consumes b c piece
    → IsAtEnd c → length piece < from_be_bytes w32 len → IfSome a IsBroken
broken_in_frame None b c len piece first sized second end few = tt
broken_in_frame (Some x) None c len piece first sized second end few = absurd first
broken_in_frame (Some x) (Some y) None len piece first sized second end few = absurd second
broken_in_frame (Some x) (Some y) (Some z) len piece first sized second end few =
    let rest : y ≡ piece = all_taken y z piece second end in
    let is : length_in x ≡ from_be_bytes w32 len = ap (from_be_bytes w32) (front_is x y len first sized) in
    let total : length x ≡ 4 + length piece = omega (arith, ap length first, length-append len y, sized, ap length rest) in
    frame_cut (omega (arith, total)) (omega (arith, total, is, few))

-- A length and a frame of this length were taken.
pub frame_taken : (a b c : Option (List ℕ)) (len frame : List ℕ) → Consumes a b len → Consumes b c frame
    → to_be_bytes w32 (length frame) ≡ len → IsFrame frame → TakesFrame a c frame
unfolding spelling_of
frame_taken a b c len frame first second is good = record {
  in_range = good;
  next = subst (λ xs. Consumes a c (xs ++ frame)) (sym is) (Consumes-trans a b c len frame first second);
}

take_whole : (n : ℕ) (xs : List ℕ) → n ≡ length xs → take n xs ≡ xs
take_whole n xs is = subst (λ k. take k xs ≡ xs) (sym is) (take-length xs)

-- Four bytes that spell a length, and a frame of this length behind them, were read into two buffers.
pub frame_found : (a b c : Option (List ℕ)) (spelled piece rest : List ℕ) (given more len : ℕ) → given ≡ length spelled
    → Consumes a b (take given spelled) → more ≡ length piece → length piece ≡ len
    → Consumes b c (take more piece) → to_be_bytes w32 len ≡ spelled → IsFrameLength len → FindsFrame a c (piece ++ rest) len
frame_found a b c spelled piece rest given more len all first whole fits second is good =
    let front : take len (piece ++ rest) ≡ piece = subst (λ k. take k (piece ++ rest) ≡ piece) fits (take-append_seam piece rest) in
    let good_frame : IsFrame piece = subst IsFrameLength (sym fits) good in
    let spelling : to_be_bytes w32 (length piece) ≡ spelled = ap (to_be_bytes w32) fits ∙ is in
    record {
      len_in_range = good;
      taken = subst (TakesFrame a c) (sym front)
          (frame_taken a b c spelled piece (subst (Consumes a b) (take_whole given spelled all) first)
          (subst (Consumes b c) (take_whole more piece whole) second) spelling good_frame);
    }
