-- The bodies that a deed makes are those whose tags its messages carry.
use Rattle.std.proofs.Common.{◌≡◌, ℕ, List, [], ◌∷◌, map, refl, ap, ◌∙◌}
use Rattle.faust_types.specs.Versions.{Vector}
use Rattle.faust_types.specs.Spelling.{peer_front}
use Rattle.faust_types.specs.declared.config.Config.{Config}
use Rattle.faust_types.specs.declared.message.Peer.{Peer}
use Rattle.faust_types.specs.declared.message.Peer.TheVariants as peers
use Rattle.faust_types.specs.declared.message.PeerMessage.{PeerMessage}
use Rattle.faust_tags.specs.Bodies.{peer_body, tag_of}
use Rattle.faust_agent.specs.Table.{commit_of, message_to, others_up_to, posts_of, probe_answer, probed_up_to, submit_of}
use Rattle.faust_agent.specs.declared.client.Client.{Client}
use Rattle.faust_agent.specs.declared.deed.Order.{Order}
use Rattle.faust_agent.specs.declared.deed.Deed.{Deed}
use Rattle.faust_agent.specs.declared.deed.Deed.TheVariants as deeds
use Rattle.faust_record.specs.Made.{bodies_of_begin, bodies_of_completion, bodies_of_posts}
use Rattle.faust_record.specs.Laws.{tags_of_commit, tags_of_posts, tags_of_submit}

pub begin_tags : (config : Config) (me : ℕ) (st : Client) (order : Order)
    → map (tag_of config.key) (bodies_of_begin me st order) ≡ tags_of_submit (submit_of config me st order)
begin_tags config me st order = refl

pub completion_tags : (config : Config) (me : ℕ) (next : Vector)
    → map (tag_of config.key) (bodies_of_completion me next) ≡ tags_of_commit (commit_of config me next)
completion_tags config me next = refl

-- the tag is no part of what is tagged
post-tag : (config : Config) (me : ℕ) (peer : Peer) (j : ℕ)
    → tag_of config.key (peer_body (message_to config me peer j)) ≡ (message_to config me peer j).tag
unfolding peer_body peer_front
post-tag config me peer j = refl

posts-tags : (config : Config) (me : ℕ) (peer : Peer) (js : List ℕ)
    → map (tag_of config.key) (map peer_body (map (message_to config me peer) js)) ≡ tags_of_posts (map (message_to config me peer) js)
posts-tags config me peer [] = refl
posts-tags config me peer (j ∷ js) =
    ap (λ (t : List ℕ). t ∷ map (tag_of config.key) (map peer_body (map (message_to config me peer) js))) (post-tag config me peer j)
    ∙ ap (λ (l : List (List ℕ)). (message_to config me peer j).tag ∷ l) (posts-tags config me peer js)

pub post_tags : (config : Config) (me : ℕ) (st : Client) (deed : Deed)
    → map (tag_of config.key) (bodies_of_posts config me st deed) ≡ tags_of_posts (posts_of config me st deed)
post_tags config me st deeds.Ignores = refl
post_tags config me st (deeds.Begins order) = refl
post_tags config me st (deeds.Completes done) = refl
post_tags config me st (deeds.Breaks notice) = posts-tags config me (peers.Failure notice.check) (others_up_to me config.clients)
post_tags config me st (deeds.Answers j) = posts-tags config me (probe_answer config.clients st st.notice) (j ∷ [])
post_tags config me st (deeds.Hears j known) = refl
post_tags config me st (deeds.Ticks moment) = posts-tags config me peers.Probe (probed_up_to config me st moment config.clients)
