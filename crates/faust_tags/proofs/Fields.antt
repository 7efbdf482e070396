-- A body tells its fields.
use Rattle.std.proofs.Common.{◌≡◌, ℕ, ◌^◌, ◌<◌, List, drop, get_or, Option, ap, subst, sym, ◌∙◌}
use Rattle.faust_types.specs.Ranges.{IsPeerMessageFor, IsVersionFor}
use Rattle.faust_types.specs.Spelling.{be64, optional, peer_front}
use Rattle.faust_types.specs.Versions.{Vector}
use Rattle.faust_types.specs.declared.operation.Kind.{Kind}
use Rattle.faust_types.specs.declared.message.PeerMessage.{PeerMessage}
use Rattle.faust_tags.specs.Bodies.{commit_body, data_body, peer_body, proof_body, submit_body}
use Rattle.faust_tags.proofs.Peers.{content_tells}
use Rattle.faust_tags.proofs.Pieces.{be64_length, be64_tells, kind_byte_tells, optional_tells, same_pieces}
use Rattle.faust_tags.proofs.Versions.{version_bytes_tells}

pub submit_maker : (i j : ℕ) (k l : Kind) (r s t u : ℕ) → submit_body i k r t ≡ submit_body j l s u → i ≡ j
unfolding submit_body
submit_maker i j k l r s t u h = ap (λ (b : List ℕ). get_or b 1 0) h

pub submit_kind : (i j : ℕ) (k l : Kind) (r s t u : ℕ) → submit_body i k r t ≡ submit_body j l s u → k ≡ l
unfolding submit_body
submit_kind i j k l r s t u h = kind_byte_tells k l (ap (λ (b : List ℕ). get_or b 2 0) h)

pub submit_register : (i j : ℕ) (k l : Kind) (r s t u : ℕ) → submit_body i k r t ≡ submit_body j l s u → r ≡ s
unfolding submit_body
submit_register i j k l r s t u h = ap (λ (b : List ℕ). get_or b 3 0) h

pub submit_number : (i j : ℕ) (k l : Kind) (r s t u : ℕ) → t < 2 ^ 64 → u < 2 ^ 64 → submit_body i k r t ≡ submit_body j l s u → t ≡ u
unfolding submit_body
submit_number i j k l r s t u t_below u_below h = be64_tells t u t_below u_below (ap (λ (b : List ℕ). drop 4 b) h)

pub data_maker : (i j t u : ℕ) (d e : Option (List ℕ)) → data_body i t d ≡ data_body j u e → i ≡ j
unfolding data_body
data_maker i j t u d e h = ap (λ (b : List ℕ). get_or b 1 0) h

data_pieces : (i j t u : ℕ) (d e : Option (List ℕ)) → data_body i t d ≡ data_body j u e → (be64 t ≡ be64 u) × (optional d ≡ optional e)
unfolding data_body
data_pieces i j t u d e h =
    same_pieces (be64 t) (optional d) (be64 u) (optional e) (be64_length t ∙ sym (be64_length u)) (ap (λ (b : List ℕ). drop 2 b) h)

pub data_number : (i j t u : ℕ) (d e : Option (List ℕ)) → t < 2 ^ 64 → u < 2 ^ 64 → data_body i t d ≡ data_body j u e → t ≡ u
data_number i j t u d e t_below u_below h = be64_tells t u t_below u_below (data_pieces i j t u d e h).0

pub data_value : (i j t u : ℕ) (d e : Option (List ℕ)) → data_body i t d ≡ data_body j u e → d ≡ e
data_value i j t u d e h = optional_tells d e (data_pieces i j t u d e h).1

pub commit_maker : (i j : ℕ) (v w : Vector) → commit_body i v ≡ commit_body j w → i ≡ j
unfolding commit_body
commit_maker i j v w h = ap (λ (b : List ℕ). get_or b 1 0) h

-- the number of clients stands before the version's bytes, so that both versions are of one number
pub commit_version : (n m i j : ℕ) (v w : Vector) → IsVersionFor n v → IsVersionFor m w → commit_body i v ≡ commit_body j w → v ≡ w
unfolding commit_body
commit_version n m i j v w v_range w_range h =
    let counts : m ≡ n = sym w_range.count ∙ ap (λ (b : List ℕ). get_or b 2 0) (sym h) ∙ v_range.count in
    version_bytes_tells n v w v_range (subst (λ (x : ℕ). IsVersionFor x w) counts w_range) (ap (λ (b : List ℕ). drop 3 b) h)

pub proof_maker : (i j : ℕ) (d e : List ℕ) → proof_body i d ≡ proof_body j e → i ≡ j
unfolding proof_body
proof_maker i j d e h = ap (λ (b : List ℕ). get_or b 1 0) h

pub proof_digest : (i j : ℕ) (d e : List ℕ) → proof_body i d ≡ proof_body j e → d ≡ e
unfolding proof_body
proof_digest i j d e h = ap (λ (b : List ℕ). drop 2 b) h

pub peer_from : (m o : PeerMessage) → peer_body m ≡ peer_body o → m.from ≡ o.from
unfolding peer_body peer_front
peer_from m o h = ap (λ (b : List ℕ). get_or b 3 0) h

pub peer_to : (m o : PeerMessage) → peer_body m ≡ peer_body o → m.to ≡ o.to
unfolding peer_body peer_front
peer_to m o h = ap (λ (b : List ℕ). get_or b 4 0) h

pub peer_content : (n : ℕ) (m o : PeerMessage) → IsPeerMessageFor n m → IsPeerMessageFor n o → peer_body m ≡ peer_body o → m.peer ≡ o.peer
unfolding peer_body peer_front
peer_content n m o m_range o_range h =
    content_tells n m.peer o.peer m_range.peer_in_range o_range.peer_in_range
    (ap (λ (b : List ℕ). get_or b 2 0) h) (ap (λ (b : List ℕ). drop 5 b) h)
