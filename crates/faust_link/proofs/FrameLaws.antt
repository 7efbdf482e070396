-- What a stream carries is told by its bytes.
use Rattle.std.proofs.Common.{◌≡◌, ℕ, ◌+◌, List, [], ◌∷◌, ◌++◌, length, take, None, Some, refl, sym, ap, ◌∙◌, subst, append_assoc, length-append, arith}
use Rattle.std.proofs.Math.Seq.{take-append_seam}
use Rattle.std.proofs.lemmas.List.{append_cancel_left}
use Rattle.std.proofs.lemmas.Nat.{from_be_bytes-to_be_bytes_4}
use Rattle.std.specs.Int.{to_be_bytes, from_be_bytes, w32}
use Rattle.std.specs.declared.option.Option.{Option}
use Rattle.faust_link.specs.Frames.{IsFrame, IsFrameLength, AreFrames, IsBroken, spelling_of, stream_of, length_in}
use Rattle.faust_link.specs.Frames.IsBroken.{length_cut, length_out_of_range, frame_cut}
use Rattle.faust_link.specs.Links.{TakesFrame}

same_front : (xs ys a b : List ℕ) → length xs ≡ length ys → xs ++ a ≡ ys ++ b → xs ≡ ys
same_front xs ys a b sized same =
    sym (take-append_seam xs a) ∙ ap (take (length xs)) same
    ∙ subst (λ k. take k (ys ++ b) ≡ ys) (sym sized) (take-append_seam ys b)

same_rest : (xs ys a b : List ℕ) → xs ≡ ys → xs ++ a ≡ ys ++ b → a ≡ b
same_rest xs ys a b front same = append_cancel_left ys a b (subst (λ z. z ++ a ≡ ys ++ b) front same)

-- The length that a frame's spelling begins with is read back.
length_back : (frame : List ℕ) → IsFrame frame → from_be_bytes w32 (to_be_bytes w32 (length frame)) ≡ length frame
length_back frame good = let few = good.few in from_be_bytes-to_be_bytes_4 (length frame) (omega (arith, few))

-- Bytes begin with at most one frame, and go on behind it in one way.
pub one_frame : (f g r s : List ℕ) → IsFrame f → IsFrame g → spelling_of f ++ r ≡ spelling_of g ++ s → (f ≡ g) × (r ≡ s)
unfolding spelling_of
one_frame f g r s good_f good_g same =
    let first = to_be_bytes w32 (length f) in
    let second = to_be_bytes w32 (length g) in
    let e : first ++ (f ++ r) ≡ second ++ (g ++ s) = sym (append_assoc first f r) ∙ same ∙ append_assoc second g s in
    let lens : first ≡ second = same_front first second (f ++ r) (g ++ s) refl e in
    let sized : length f ≡ length g = sym (length_back f good_f) ∙ ap (from_be_bytes w32) lens ∙ length_back g good_g in
    let rest : f ++ r ≡ g ++ s = same_rest first second (f ++ r) (g ++ s) lens e in
    let frame : f ≡ g = same_front f g r s sized rest in
    (frame, same_rest f g r s frame rest)

length-spelling : (f r : List ℕ) → length (spelling_of f ++ r) ≡ 4 + length f + length r
unfolding spelling_of
length-spelling f r = length-append (spelling_of f) r ∙ ap (λ n. n + length r) (length-append (to_be_bytes w32 (length f)) f)

pub no_frame_at_end : (f r : List ℕ) → [] ≡ spelling_of f ++ r → ⊥
no_frame_at_end f r same = let sized = ap length same in let is = length-spelling f r in omega (arith, sized, is)

-- The frames of a stream are told by its bytes.
pub one_stream : (fs gs : List (List ℕ)) → AreFrames fs → AreFrames gs → stream_of fs ≡ stream_of gs → fs ≡ gs
one_stream [] [] good_f good_g same = refl
one_stream [] (g ∷ gs) good_f good_g same = absurd (no_frame_at_end g (stream_of gs) same)
one_stream (f ∷ fs) [] good_f good_g same = absurd (no_frame_at_end f (stream_of fs) (sym same))
one_stream (f ∷ fs) (g ∷ gs) good_f good_g same =
    let first = one_frame f g (stream_of fs) (stream_of gs) good_f.0 good_g.0 same in
    let rest : fs ≡ gs = one_stream fs gs good_f.1 good_g.1 first.1 in
    let head : f ≡ g = first.0 in cc

front_back : (f r : List ℕ) → IsFrame f → length_in (spelling_of f ++ r) ≡ length f
unfolding spelling_of
front_back f r good =
    let len = to_be_bytes w32 (length f) in
    ap (from_be_bytes w32) (ap (take 4) (append_assoc len f r) ∙ take-append_seam len (f ++ r)) ∙ length_back f good

-- A stream that goes on with a frame isn't broken, and one at its end isn't.
pub frame_not_broken : (f r : List ℕ) → IsFrame f → IsBroken (spelling_of f ++ r) → ⊥
frame_not_broken f r good (length_cut some few) = let is = length-spelling f r in omega (arith, is, few)
frame_not_broken f r good (length_out_of_range long bad) = bad (subst IsFrameLength (sym (front_back f r good)) good)
frame_not_broken f r good (frame_cut long short) =
    let is = length-spelling f r in let back = front_back f r good in omega (arith, is, short, back)

pub end_not_broken : IsBroken [] → ⊥
end_not_broken (length_cut some few) = omega (arith, some)
end_not_broken (length_out_of_range long bad) = omega (arith, long)
end_not_broken (frame_cut long short) = omega (arith, long)

-- Of a stream of frames the first one is taken, and the stream of the others is left.
pub first_is_taken : (f : List ℕ) (fs : List (List ℕ)) (after : Option (List ℕ)) (frame : List ℕ) → AreFrames (f ∷ fs)
    → TakesFrame (Some (stream_of (f ∷ fs))) after frame → (frame ≡ f) × (after ≡ Some (stream_of fs))
first_is_taken f fs None frame good taken = absurd taken.next
first_is_taken f fs (Some left) frame good taken =
    let first = one_frame frame f left (stream_of fs) taken.in_range good.0 (sym taken.next) in
    (first.0, ap Some first.1)

pub none_is_taken : (after : Option (List ℕ)) (frame : List ℕ) → TakesFrame (Some []) after frame → ⊥
none_is_taken None frame taken = taken.next
none_is_taken (Some left) frame taken = no_frame_at_end frame left taken.next
