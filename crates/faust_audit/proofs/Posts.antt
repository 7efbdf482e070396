-- The body of a message to another client is read off its bytes.
use Rattle.std.proofs.Common.{◌≡◌, ◌+◌, ◌-◌, ℕ, List, [], ◌∷◌, ◌++◌, length, drop, take, map, refl, ap, ◌∙◌, arith, length-append}
use Rattle.std.proofs.Math.Seq.{take-append_seam}
use Rattle.faust_types.specs.Spelling.{peer_byte, peer_content, peer_front}
use Rattle.faust_types.specs.declared.config.Config.{Config}
use Rattle.faust_types.specs.declared.message.Peer.{Peer}
use Rattle.faust_types.specs.declared.message.Peer.TheVariants as peers
use Rattle.faust_types.specs.declared.message.PeerMessage.{PeerMessage}
use Rattle.faust_hash.proofs.Sizes.{tag_length}
use Rattle.faust_tags.specs.Bodies.{peer_body}
use Rattle.faust_wire.specs.Grammar.{peer_bytes}
use Rattle.faust_agent.specs.Table.{message_to, others_up_to, posts_of, probe_answer, probed_up_to, unsigned_to}
use Rattle.faust_agent.specs.Outcomes.{spelled_post}
use Rattle.faust_agent.specs.declared.client.Client.{Client}
use Rattle.faust_agent.specs.declared.deed.Deed.{Deed}
use Rattle.faust_agent.specs.declared.deed.Deed.TheVariants as deeds
use Rattle.faust_record.specs.Made.{bodies_of_posts}
use Rattle.faust_audit.specs.Watching.{post_body}

-- what stands before a tag
before-tag : (front tag : List ℕ) → length tag ≡ 32 → take (length (front ++ tag) - 32) (front ++ tag) ≡ front
before-tag front tag sized =
    let all : length (front ++ tag) ≡ length front + length tag = length-append front tag in
    let before : length (front ++ tag) - 32 ≡ length front = omega (arith, all, sized) in
    ap (λ (n : ℕ). take n (front ++ tag)) before ∙ take-append_seam front tag

post-body : (wire : ℕ) (message : PeerMessage) → length message.tag ≡ 32 → post_body (spelled_post wire message) ≡ peer_body message
unfolding peer_bytes peer_front peer_body
post-body wire message sized =
    let rest = peer_byte message.peer ∷ message.from ∷ message.to ∷ peer_content message.peer in
    ap (λ (l : List ℕ). 5 ∷ 1 ∷ drop 1 l) (before-tag (wire ∷ rest) message.tag sized)

sent-bodies : (config : Config) (me : ℕ) (peer : Peer) (js : List ℕ)
    → map post_body (map (spelled_post config.wire) (map (message_to config me peer) js))
    ≡ map peer_body (map (message_to config me peer) js)
sent-bodies config me peer [] = refl
sent-bodies config me peer (j ∷ js) =
    let message = message_to config me peer j in
    ap (λ (l : List ℕ). l ∷ map post_body (map (spelled_post config.wire) (map (message_to config me peer) js)))
    (post-body config.wire message (tag_length config.key (peer_body (unsigned_to me peer j))))
    ∙ ap (λ (l : List (List ℕ)). peer_body message ∷ l) (sent-bodies config me peer js)

-- of each deed
pub posts-bodies : (config : Config) (me : ℕ) (st : Client) (deed : Deed)
    → map post_body (map (spelled_post config.wire) (posts_of config me st deed)) ≡ bodies_of_posts config me st deed
posts-bodies config me st deeds.Ignores = refl
posts-bodies config me st (deeds.Begins order) = refl
posts-bodies config me st (deeds.Completes done) = refl
posts-bodies config me st (deeds.Breaks notice) = sent-bodies config me (peers.Failure notice.check) (others_up_to me config.clients)
posts-bodies config me st (deeds.Answers j) = sent-bodies config me (probe_answer config.clients st st.notice) (j ∷ [])
posts-bodies config me st (deeds.Hears j known) = refl
posts-bodies config me st (deeds.Ticks m) = sent-bodies config me peers.Probe (probed_up_to config me st m config.clients)
