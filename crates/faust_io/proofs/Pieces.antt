-- Pieces of a text that are written, and pieces of an input that are read, one behind the other.
use Rattle.std.proofs.Common.{◌≡◌, ℕ, ◌+◌, List, ◌++◌, take, drop, Option, Result, Ok, Err, OnErr, sym, subst, ◌∙◌, ap}
use Rattle.std.proofs.Math.Seq.{take-add}
use Rattle.std.proofs.lemmas.List.{take-append-drop}
use Rattle.std.specs.Io.KnownBytes.{Appends, Consumes}
use Rattle.std.proofs.KnownBytes.{Appends-trans, Consumes-trans}
use Rattle.faust_io.specs.Writing.{AppendsPrefix}

-- The front that was written grows by what one more write took of the rest.
pub Appends-more : (a b c : Option (List ℕ)) (text rest : List ℕ) (written count : ℕ) → rest ≡ drop written text
    → Appends a b (take written text) → Appends b c (take count rest) → Appends a c (take (written + count) text)
Appends-more a b c text rest written count is front piece =
    subst (Appends a c) (ap (λ xs. take written text ++ take count xs) is ∙ sym (take-add written count text))
    (Appends-trans a b c _ _ front piece)

-- What was written before a write failed is a prefix of the text.
pub prefix_written : (a b c : Option (List ℕ)) (text : List ℕ) (written : ℕ) → Appends a b (take written text) → c ≡ b
    → AppendsPrefix a c text
prefix_written a b c text written front same = record {
  front = take written text;
  is_prefix = record { rest = drop written text; joined = sym (take-append-drop written text) };
  behind = subst (λ z. Appends a z (take written text)) (sym same) front;
}

-- The front that was read grows by what one more read gave.
pub Consumes-more : (a b c : Option (List ℕ)) (before after : List ℕ) (filled count : ℕ) → Consumes a b (take filled before)
    → take filled after ≡ take filled before → Consumes b c (take count (drop filled after))
    → Consumes a c (take (filled + count) after)
Consumes-more a b c before after filled count front same piece =
    subst (Consumes a c) (sym (take-add filled count after ∙ ap (λ xs. xs ++ take count (drop filled after)) same))
    (Consumes-trans a b c _ _ front piece)

pub on_err : {T E P : Type 0} (result : Result T E) → P → OnErr result P
on_err (Ok x) holds = tt
on_err (Err e) holds = holds
