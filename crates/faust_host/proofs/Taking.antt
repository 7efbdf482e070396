-- Frames that were taken from a stream, one after the other.
use Rattle.std.proofs.Common.{◌≡◌, ℕ, List, [], ◌∷◌, ◌++◌, Option, Some, None, refl, sym, ap, ◌∙◌, subst, append_assoc, append-nil}
use Rattle.std.proofs.KnownBytes.{Consumes-trans}
use Rattle.std.specs.Io.KnownBytes.{Consumes, Keeps}
use Rattle.faust_link.specs.Frames.{IsFrame, AreFrames, spelling_of, stream_of}
use Rattle.faust_host.specs.Connections.{Inlet, Took}
use Rattle.faust_host.specs.Rounds.{TookOne}

are_frames-snoc : (fs : List (List ℕ)) (f : List ℕ) → AreFrames fs → IsFrame f → AreFrames (fs ++ f ∷ [])
are_frames-snoc [] f each frame = (frame, tt)
are_frames-snoc (g ∷ gs) f each frame = (each.0, are_frames-snoc gs f each.1 frame)

stream_of-snoc : (fs : List (List ℕ)) (f : List ℕ) → stream_of (fs ++ f ∷ []) ≡ stream_of fs ++ spelling_of f
stream_of-snoc [] f = append-nil (spelling_of f)
stream_of-snoc (g ∷ gs) f =
    ap (λ rest. spelling_of g ++ rest) (stream_of-snoc gs f) ∙ sym (append_assoc (spelling_of g) (stream_of gs) (spelling_of f))

pub took-none : (a : Option (List ℕ)) → Consumes a a []
took-none None = tt
took-none (Some xs) = refl

consumes_kept : (a b c : Option (List ℕ)) (bytes : List ℕ) → Consumes a b bytes → Keeps b c → Consumes a c bytes
consumes_kept None b c bytes first kept = tt
consumes_kept (Some xs) None c bytes first kept = absurd first
consumes_kept (Some xs) (Some ys) None bytes first kept = absurd kept
consumes_kept (Some xs) (Some ys) (Some zs) bytes first kept = first ∙ ap (λ rest. bytes ++ rest) (sym kept)

-- no frame was taken
pub takes_none : (a b : Inlet) → Keeps a.left b.left → Took a b []
takes_none a b kept = record { each = tt; bytes = consumes_kept a.left a.left b.left [] (took-none a.left) kept }

-- one frame was taken
pub takes_one : (a b : Inlet) (f : List ℕ) → TookOne a b f → Took a b (f ∷ [])
takes_one a b f one = record {
  each = (one.next.in_range, tt);
  bytes = subst (Consumes a.left b.left) (sym (append-nil (spelling_of f))) one.next.next;
}

-- one more frame behind others
pub takes_more : (a b c : Inlet) (fs : List (List ℕ)) (f : List ℕ) → Took a b fs → TookOne b c f → Took a c (fs ++ f ∷ [])
takes_more a b c fs f took one = record {
  each = are_frames-snoc fs f took.each one.next.in_range;
  bytes = subst (Consumes a.left c.left) (sym (stream_of-snoc fs f))
      (Consumes-trans a.left b.left c.left (stream_of fs) (spelling_of f) took.bytes one.next.next);
}

-- frames behind one that was taken first
pub takes_behind : (a b c : Inlet) (f : List ℕ) (fs : List (List ℕ)) → TookOne a b f → Took b c fs → Took a c (f ∷ fs)
takes_behind a b c f fs one took = record {
  each = (one.next.in_range, took.each);
  bytes = Consumes-trans a.left b.left c.left (spelling_of f) (stream_of fs) one.next.next took.bytes;
}

-- then the end was found
pub takes_kept : (a b c : Inlet) (fs : List (List ℕ)) → Took a b fs → Keeps b.left c.left → Took a c fs
takes_kept a b c fs took kept = record { each = took.each; bytes = consumes_kept a.left b.left c.left (stream_of fs) took.bytes kept }
