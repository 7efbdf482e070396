-- The content of a message between clients tells what the message says.
use Rattle.std.proofs.Common.{◌≡◌, ℕ, Bool, true, false, cond, List, [], ◌∷◌, ◌++◌, drop, get_or, inl, inr, arith, ap, refl, sym, ◌∙◌}
use Rattle.std.proofs.lemmas.Bool.{cases_Bool}
use Rattle.faust_types.proofs.Messages.{unmade-only}
use Rattle.faust_types.specs.Ranges.{IsAnnouncedFor, IsPeerFor}
use Rattle.faust_types.specs.Spelling.{announced, peer_byte, peer_content, version_bytes}
use Rattle.faust_types.specs.Versions.{Vector, is_initial}
use Rattle.faust_types.specs.declared.message.Known.{Known}
use Rattle.faust_types.specs.declared.message.Peer.{Peer}
use Rattle.faust_types.specs.declared.message.Peer.TheVariants as peers
use Rattle.faust_tags.proofs.Versions.{version_bytes_before}

abbrev known_of : ℕ → Vector → List ℕ → Known
known_of who v bytes = record { maker = who; version = v; tag = bytes }

same_known : (maker other : ℕ) (v w : Vector) (tag tagged : List ℕ) → maker ≡ other → v ≡ w → tag ≡ tagged →
    known_of maker v tag ≡ known_of other w tagged
same_known maker other v w tag tagged makers versions tags =
    ap (λ (x : ℕ). known_of x v tag) makers
    ∙ ap (λ (x : Vector). known_of other x tag) versions
    ∙ ap (λ (x : List ℕ). known_of other w x) tags

-- the two forms of a version between clients
of_initial : (known : Known) → is_initial known.version ≡ true → announced known ≡ 0 ∷ []
unfolding announced
of_initial known h = ap (λ (b : Bool). cond b (0 ∷ []) (known.maker ∷ (version_bytes known.version ++ known.tag))) h

of_other : (known : Known) → is_initial known.version ≡ false → announced known ≡ known.maker ∷ (version_bytes known.version ++ known.tag)
unfolding announced
of_other known h = ap (λ (b : Bool). cond b (0 ∷ []) (known.maker ∷ (version_bytes known.version ++ known.tag))) h

-- only the initial version is spelled by a 0
differ : (n : ℕ) (known other : Known) → IsAnnouncedFor n other → is_initial known.version ≡ true → is_initial other.version ≡ false →
    announced known ≡ announced other → ⊥
differ n known other range h g same =
    let firsts : 0 ≡ other.maker = ap (λ (l : List ℕ). get_or l 0 0) (sym (of_initial known h) ∙ same ∙ of_other other g) in
    let client = range.maker_in_range g in
    omega (arith, client.from_one)

others_tell : (n : ℕ) (known other : Known) → IsAnnouncedFor n known → IsAnnouncedFor n other →
    is_initial known.version ≡ false → is_initial other.version ≡ false → announced known ≡ announced other → known ≡ other
others_tell n known other known_range other_range h g same =
    let spelled : known.maker ∷ (version_bytes known.version ++ known.tag) ≡ other.maker ∷ (version_bytes other.version ++ other.tag) =
    sym (of_other known h) ∙ same ∙ of_other other g in
    let makers : known.maker ≡ other.maker = ap (λ (l : List ℕ). get_or l 0 0) spelled in
    let rest = version_bytes_before n known.version other.version known.tag other.tag
    known_range.known_by.version_in_range other_range.known_by.version_in_range (ap (λ (l : List ℕ). drop 1 l) spelled) in
    same_known known.maker other.maker known.version other.version known.tag other.tag makers rest.0 rest.1

pub announced_tells : (n : ℕ) (known other : Known) → IsAnnouncedFor n known → IsAnnouncedFor n other →
    announced known ≡ announced other → known ≡ other
announced_tells n known other known_range other_range same =
    elim (cases_Bool (is_initial known.version)) [
      | inl h ↦ elim (cases_Bool (is_initial other.version)) [
        | inl g ↦ unmade-only n known.maker known known_range.known_by h ∙ sym (unmade-only n other.maker other other_range.known_by g)
        | inr g ↦ absurd (differ n known other other_range h g same)
      ]
      | inr h ↦ elim (cases_Bool (is_initial other.version)) [
        | inl g ↦ absurd (differ n other known known_range g h (sym same))
        | inr g ↦ others_tell n known other known_range other_range h g same
      ]
    ]

pub content_tells : (n : ℕ) (peer other : Peer) → IsPeerFor n peer → IsPeerFor n other →
    peer_byte peer ≡ peer_byte other → peer_content peer ≡ peer_content other → peer ≡ other
content_tells n peers.Probe peers.Probe _ _ h same = refl
content_tells n peers.Probe (peers.Version y) _ _ h same = absurd (omega arith)
content_tells n peers.Probe (peers.Failure y) _ _ h same = absurd (omega arith)
content_tells n (peers.Version x) peers.Probe _ _ h same = absurd (omega arith)
content_tells n (peers.Version x) (peers.Version y) x_range y_range h same =
    ap (λ (z : Known). peers.Version z) (announced_tells n x y x_range y_range same)
content_tells n (peers.Version x) (peers.Failure y) _ _ h same = absurd (omega arith)
content_tells n (peers.Failure x) peers.Probe _ _ h same = absurd (omega arith)
content_tells n (peers.Failure x) (peers.Version y) _ _ h same = absurd (omega arith)
content_tells n (peers.Failure x) (peers.Failure y) _ _ h same =
    ap (λ (l : List ℕ). peers.Failure (get_or l 0 0)) same
