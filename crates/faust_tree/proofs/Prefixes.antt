-- Lists of names that begin other ones.
use Rattle.std.proofs.Common.{◌≡◌, ◌+◌, ◌≤◌, List, [], ◌++◌, length, refl, sym, ap, ◌∙◌, length-append, append-nil, append_assoc, arith}
use Rattle.faust_types.specs.declared.operation.OpName.{OpName}
use Rattle.faust_tree.specs.Trees.{IsPrefix}
use Rattle.faust_tree.proofs.Lists.{front-fits}

pub prefix-refl : (names : List OpName) → IsPrefix names names
prefix-refl names = record { rest = []; is_whole = sym (append-nil names) }

pub prefix-same : (front whole : List OpName) → front ≡ whole → IsPrefix front whole
prefix-same front whole same = record { rest = []; is_whole = sym same ∙ sym (append-nil front) }

pub prefix-left : (front rest : List OpName) → IsPrefix front (front ++ rest)
prefix-left front rest = record { rest = rest; is_whole = refl }

pub prefix-trans : (front middle whole : List OpName) → IsPrefix front middle → IsPrefix middle whole → IsPrefix front whole
prefix-trans front middle whole h i = record {
  rest = h.rest ++ i.rest;
  is_whole = i.is_whole ∙ ap (λ (names : List OpName). names ++ i.rest) h.is_whole ∙ append_assoc front h.rest i.rest;
}

pub prefix-length : (front whole : List OpName) → IsPrefix front whole → length front ≤ length whole
prefix-length front whole h =
    let e : length whole ≡ length front + length h.rest = ap length h.is_whole ∙ length-append front h.rest in omega arith

-- two prefixes of one length are equal
pub prefix-one : (front other whole : List OpName) → IsPrefix front whole → IsPrefix other whole → length front ≡ length other
    → front ≡ other
prefix-one front other whole h i same = front-fits front h.rest other i.rest (sym h.is_whole ∙ i.is_whole) same
