-- A body begins with the number of its kind, and so bodies of two kinds differ.
use Rattle.std.proofs.Common.{◌≡◌, ℕ, List, get_or, Option, arith, ap, refl, sym, ◌∙◌}
use Rattle.faust_types.specs.Versions.{Vector}
use Rattle.faust_types.specs.declared.operation.Kind.{Kind}
use Rattle.faust_types.specs.declared.message.PeerMessage.{PeerMessage}
use Rattle.faust_tags.specs.Bodies.{commit_body, data_body, peer_body, proof_body, submit_body}

pub submit_first : (i : ℕ) (k : Kind) (r t : ℕ) → get_or (submit_body i k r t) 0 0 ≡ 1
unfolding submit_body
submit_first i k r t = refl

pub data_first : (i t : ℕ) (d : Option (List ℕ)) → get_or (data_body i t d) 0 0 ≡ 2
unfolding data_body
data_first i t d = refl

pub commit_first : (i : ℕ) (v : Vector) → get_or (commit_body i v) 0 0 ≡ 3
unfolding commit_body
commit_first i v = refl

pub proof_first : (i : ℕ) (d : List ℕ) → get_or (proof_body i d) 0 0 ≡ 4
unfolding proof_body
proof_first i d = refl

pub peer_first : (m : PeerMessage) → get_or (peer_body m) 0 0 ≡ 5
unfolding peer_body
peer_first m = refl

-- bodies that begin with different numbers differ
apart : (a b : List ℕ) (x y : ℕ) → get_or a 0 0 ≡ x → get_or b 0 0 ≡ y → a ≡ b → x ≡ y
apart a b x y first other h = sym first ∙ ap (λ (l : List ℕ). get_or l 0 0) h ∙ other

pub submit_no_data : (i j : ℕ) (k : Kind) (r t u : ℕ) (d : Option (List ℕ)) → submit_body i k r t ≡ data_body j u d → ⊥
submit_no_data i j k r t u d h = omega (arith, apart _ _ 1 2 (submit_first i k r t) (data_first j u d) h)

pub submit_no_commit : (i j : ℕ) (k : Kind) (r t : ℕ) (v : Vector) → submit_body i k r t ≡ commit_body j v → ⊥
submit_no_commit i j k r t v h = omega (arith, apart _ _ 1 3 (submit_first i k r t) (commit_first j v) h)

pub submit_no_proof : (i j : ℕ) (k : Kind) (r t : ℕ) (d : List ℕ) → submit_body i k r t ≡ proof_body j d → ⊥
submit_no_proof i j k r t d h = omega (arith, apart _ _ 1 4 (submit_first i k r t) (proof_first j d) h)

pub submit_no_peer : (i : ℕ) (k : Kind) (r t : ℕ) (m : PeerMessage) → submit_body i k r t ≡ peer_body m → ⊥
submit_no_peer i k r t m h = omega (arith, apart _ _ 1 5 (submit_first i k r t) (peer_first m) h)

pub data_no_commit : (i j t : ℕ) (d : Option (List ℕ)) (v : Vector) → data_body i t d ≡ commit_body j v → ⊥
data_no_commit i j t d v h = omega (arith, apart _ _ 2 3 (data_first i t d) (commit_first j v) h)

pub data_no_proof : (i j t : ℕ) (d : Option (List ℕ)) (e : List ℕ) → data_body i t d ≡ proof_body j e → ⊥
data_no_proof i j t d e h = omega (arith, apart _ _ 2 4 (data_first i t d) (proof_first j e) h)

pub data_no_peer : (i t : ℕ) (d : Option (List ℕ)) (m : PeerMessage) → data_body i t d ≡ peer_body m → ⊥
data_no_peer i t d m h = omega (arith, apart _ _ 2 5 (data_first i t d) (peer_first m) h)

pub commit_no_proof : (i j : ℕ) (v : Vector) (d : List ℕ) → commit_body i v ≡ proof_body j d → ⊥
commit_no_proof i j v d h = omega (arith, apart _ _ 3 4 (commit_first i v) (proof_first j d) h)

pub commit_no_peer : (i : ℕ) (v : Vector) (m : PeerMessage) → commit_body i v ≡ peer_body m → ⊥
commit_no_peer i v m h = omega (arith, apart _ _ 3 5 (commit_first i v) (peer_first m) h)

pub proof_no_peer : (i : ℕ) (d : List ℕ) (m : PeerMessage) → proof_body i d ≡ peer_body m → ⊥
proof_no_peer i d m h = omega (arith, apart _ _ 4 5 (proof_first i d) (peer_first m) h)
