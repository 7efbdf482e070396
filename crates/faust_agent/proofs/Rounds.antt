-- One more client in the round of a tick, and the pending operation that a reply completes.
use Rattle.std.proofs.Common.{◌≡◌, ℕ, ◌+◌, ◌-◌, ◌∷◌, ◌++◌, suc, Bool, true, false, cond, Option, Some, List, [], map, IfSome, sym, ap, ◌∙◌, subst, arith}
use Rattle.std.proofs.lemmas.List.{append-nil, map-append}
use Rattle.std.specs.Prelude.{slice_set}
use Rattle.faust_types.specs.Clients.{IsClient}
use Rattle.faust_types.specs.Versions.{clients_of}
use Rattle.faust_types.specs.declared.config.Config.{Config}
use Rattle.faust_types.specs.declared.message.Known.{Known}
use Rattle.faust_types.specs.declared.message.Peer.TheVariants as peers
use Rattle.faust_types.specs.declared.message.PeerMessage.{PeerMessage}
use Rattle.faust_types.specs.declared.operation.Operation.{Operation}
use Rattle.faust_types.specs.declared.outcome.Post.{Post}
use Rattle.faust_ustor.specs.InRange.{IsJudgedFor}
use Rattle.faust_ustor.specs.declared.judgement.Judged.{Judged}
use Rattle.faust_agent.specs.State.{slot_at, version_at}
use Rattle.faust_agent.specs.Table.{is_probe_due, message_to, news_up_to, probed_up_to}
use Rattle.faust_agent.specs.Outcomes.{IsProbing, spelled_post}
use Rattle.faust_agent.specs.InRange.{IsClientOf, IsCompletionOf, IsWaitedFor}
use Rattle.faust_agent.specs.declared.client.Client.{Client}
use Rattle.faust_agent.specs.declared.ticking.Probing.{Probing}
use Rattle.faust_agent.proofs.Kept.{slot-sized}

-- client k + 1 is probed
pub probing-more : (config : Config) (me : ℕ) (st : Client) (m k : ℕ) (probing : Probing) (post : Post) → IsProbing config me st m k probing
    → is_probe_due config me st m (k + 1) ≡ true → post ≡ spelled_post config.wire (message_to config me peers.Probe (k + 1))
    → IsProbing config me st m (k + 1) (record {
      probed = probing.probed ++ (k + 1) ∷ [];
      posts = probing.posts ++ post ∷ [];
      news = slice_set probing.news k m;
    })
probing-more config me st m k probing post so_far due made =
    let step : suc k ≡ k + 1 = omega arith in
    let place : suc k - 1 ≡ k = omega arith in
    let probed : List ℕ = probed_up_to config me st m k in
    let tagged : ℕ → PeerMessage = message_to config me peers.Probe in
    let spelled : PeerMessage → Post = spelled_post config.wire in
    let is_due : is_probe_due config me st m (suc k) ≡ true = ap (λ (j : ℕ). is_probe_due config me st m j) step ∙ due in
    let grown : probed_up_to config me st m (suc k) ≡ probed ++ suc k ∷ [] =
    ap (λ (b : Bool). probed ++ cond b (suc k ∷ []) []) is_due in
    let news : news_up_to config me st m (suc k) ≡ slice_set (news_up_to config me st m k) k m =
    ap (λ (b : Bool). cond b (slice_set (news_up_to config me st m k) (suc k - 1) m) (news_up_to config me st m k)) is_due
    ∙ ap (λ (i : ℕ). slice_set (news_up_to config me st m k) i m) place in
    let last : map spelled (map tagged (probed ++ suc k ∷ [])) ≡ map spelled (map tagged probed) ++ spelled (tagged (suc k)) ∷ [] =
    ap (map spelled) (map-append tagged probed (suc k ∷ [])) ∙ map-append spelled (map tagged probed) (tagged (suc k) ∷ []) in
    let at_step : (j : ℕ) → suc k ≡ j → post ≡ spelled (tagged j) → IsProbing config me st m (suc k) (record {
      probed = probing.probed ++ j ∷ [];
      posts = probing.posts ++ post ∷ [];
      news = slice_set probing.news k m;
    }) = λ j same is. record {
      probed = ap (λ (xs : List ℕ). xs ++ j ∷ []) so_far.probed ∙ ap (λ (i : ℕ). probed ++ i ∷ []) (sym same) ∙ sym grown;
      posts = ap (λ (xs : List Post). xs ++ post ∷ []) so_far.posts
          ∙ ap (λ (x : Post). map spelled (map tagged probed) ++ x ∷ []) (is ∙ ap (λ (i : ℕ). spelled (tagged i)) (sym same))
          ∙ sym last ∙ ap (λ (xs : List ℕ). map spelled (map tagged xs)) (sym grown);
      news = ap (λ (xs : List ℕ). slice_set xs k m) so_far.news ∙ sym news;
    } in
    subst (λ (j : ℕ). IsProbing config me st m j (record {
      probed = probing.probed ++ (k + 1) ∷ [];
      posts = probing.posts ++ post ∷ [];
      news = slice_set probing.news k m;
    })) step (at_step (k + 1) step made)

pub probing-step : (config : Config) (me : ℕ) (st : Client) (m k : ℕ) (before after : Probing) (post : Post)
    → IsProbing config me st m k before
    → is_probe_due config me st m (k + 1) ≡ true → post ≡ spelled_post config.wire (message_to config me peers.Probe (k + 1))
    → after.probed ≡ before.probed ++ (k + 1) ∷ [] → after.posts ≡ before.posts ++ post ∷ [] → after.news ≡ slice_set before.news k m
    → IsProbing config me st m (k + 1) after
probing-step config me st m k before after post so_far due made probed posts news =
    let more = probing-more config me st m k before post so_far due made in
    record { probed = probed ∙ more.probed; posts = posts ∙ more.posts; news = news ∙ more.news }

-- client k + 1 isn't probed
pub probing-same : (config : Config) (me : ℕ) (st : Client) (m k : ℕ) (probing : Probing) → IsProbing config me st m k probing
    → is_probe_due config me st m (k + 1) ≡ false → IsProbing config me st m (k + 1) probing
probing-same config me st m k probing so_far due =
    let step : suc k ≡ k + 1 = omega arith in
    let probed : List ℕ = probed_up_to config me st m k in
    let is_due : is_probe_due config me st m (suc k) ≡ false = ap (λ (j : ℕ). is_probe_due config me st m j) step ∙ due in
    let grown : probed_up_to config me st m (suc k) ≡ probed =
    ap (λ (b : Bool). probed ++ cond b (suc k ∷ []) []) is_due ∙ append-nil probed in
    let news : news_up_to config me st m (suc k) ≡ news_up_to config me st m k =
    ap (λ (b : Bool). cond b (slice_set (news_up_to config me st m k) (suc k - 1) m) (news_up_to config me st m k)) is_due in
    subst (λ (j : ℕ). IsProbing config me st m j probing) step (record {
      probed = so_far.probed ∙ sym grown;
      posts = so_far.posts ∙ ap (λ (xs : List ℕ). map (spelled_post config.wire) (map (message_to config me peers.Probe) xs)) (sym grown);
      news = so_far.news ∙ sym news;
    })

-- the operation that the client waits for is complete
pub completion-of : (config : Config) (me : ℕ) (st : Client) (op : Operation) (judged : Judged) (own : Known) → IsClientOf config me st
    → IsClient config.clients me → st.waiting ≡ Some op → own ≡ slot_at st me → IsJudgedFor (clients_of own.version) op.register judged
    → IsCompletionOf config me st (record { op = op; judged = judged })
completion-of config me st op judged own kept client waits is range =
    let n = config.clients in
    let waited : IsWaitedFor n me (version_at st me) op =
    subst (λ (waiting : Option Operation). IfSome waiting (IsWaitedFor n me (version_at st me))) waits kept.waiting_in_range in
    let sized : clients_of own.version ≡ n =
    ap (λ (known : Known). clients_of known.version) is ∙ slot-sized n st.heard me kept.versions client in
    record {
      was_waiting = waits;
      register_in_range = waited.register_in_range;
      judged_in_range = subst (λ (k : ℕ). IsJudgedFor k op.register judged) sized range;
    }
