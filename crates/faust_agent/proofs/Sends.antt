-- What a client sends is in range, so that it is read as it was sent.
use Rattle.std.proofs.Common.{◌≡◌, ℕ, ◌+◌, ◌-◌, ◌^◌, ◌<◌, ◌≤◌, ◌==◌, is_none, not, suc, zero, Option, Some, None, List, [], ◌∷◌, ◌++◌, map, IfSome, refl, sym, ◌∙◌, subst, arith}
use Rattle.std.specs.Prelude.{nat_le, slice_index}
use Rattle.std.specs.List.{AllByRecursion}
use Rattle.std.proofs.lemmas.Bool.{and_parts, eq-eqb, true≢false}
use Rattle.faust_types.specs.Clients.{IsClient}
use Rattle.faust_types.specs.Ranges.{IsCheck, IsCommitFor, IsPeerFor, IsPeerMessageFor, IsSubmitFor}
use Rattle.faust_types.specs.declared.config.Config.{Config}
use Rattle.faust_types.specs.declared.message.Commit.{Commit}
use Rattle.faust_types.specs.declared.message.Peer.{Peer}
use Rattle.faust_types.specs.declared.message.Peer.TheVariants as peers
use Rattle.faust_types.specs.declared.operation.Notice.{Notice}
use Rattle.faust_tags.proofs.Sizes.{digest-tag}
use Rattle.faust_tags.specs.Bodies.{data_body, peer_body, submit_body}
use Rattle.faust_agent.specs.State.{completed_count}
use Rattle.faust_agent.specs.Deeds.{Sent, commits, submits}
use Rattle.faust_agent.specs.Table.{commit_of, committed_alone, dummy_of, is_dummy_due, is_probe_due, last_after, message_to, others_up_to, posts_of, probe_answer, probed_up_to, released, sent_of, submit_of, unsigned_to}
use Rattle.faust_agent.specs.InRange.{IsBegunFor, IsClientOf, IsDeedFor, IsOther, IsSentFor}
use Rattle.faust_agent.specs.declared.client.Client.{Client}
use Rattle.faust_agent.specs.declared.deed.Deed.{Deed}
use Rattle.faust_agent.specs.declared.deed.Deed.TheVariants as deeds
use Rattle.faust_agent.specs.declared.deed.Order.{Order}
use Rattle.faust_agent.proofs.Kept.{commit-in_range, differs, dummy-begun, either_way, idle-room}
use Rattle.faust_agent.proofs.Slots.{greatest-in_range}

-- what holds of each item of both lists, and of each item that is made of another
all-append : {X : Type 0} (P : X → Type 0) (xs ys : List X) → AllByRecursion P xs → AllByRecursion P ys → AllByRecursion P (xs ++ ys)
all-append P [] ys all more = more
all-append P (x ∷ xs) ys all more = (all.0, all-append P xs ys all.1 more)

all-map : {X Y : Type 0} (P : X → Type 0) (Q : Y → Type 0) (f : X → Y) (xs : List X) → ((x : X) → P x → Q (f x))
    → AllByRecursion P xs → AllByRecursion Q (map f xs)
all-map P Q f [] each all = tt
all-map P Q f (x ∷ xs) each all = (each x all.0, all-map P Q f xs each all.1)

-- SUBMIT
pub submit-in_range : (config : Config) (me : ℕ) (st : Client) (order : Order) → IsClientOf config me st → IsBegunFor config me st order
    → IsSubmitFor config.clients (submit_of config me st order)
submit-in_range config me st order kept begun =
    let t = completed_count me st + 1 in
    let room : completed_count me st + 1 < 2 ^ 40 = idle-room me st begun.idle in
    record {
      register_in_range = begun.order_in_range.register_in_range;
      number = record { from_one = omega arith; below = room };
      value_in_range = begun.order_in_range.value_in_range;
      submit_tag_sized = digest-tag config.key (submit_body me order.kind order.register t);
      data_tag_sized = digest-tag config.key (data_body me t (last_after st.last order.value));
      commit_in_range = kept.held_in_range;
    }

-- a held COMMIT that goes alone
alone-in_range : (config : Config) (held : Option Commit) → IfSome held (IsCommitFor config.clients)
    → IfSome (committed_alone held) (IsSentFor config)
alone-in_range config None range = tt
alone-in_range config (Some commit) range = range

released-in_range : (config : Config) (me : ℕ) (st : Client) → IsClientOf config me st → IfSome (released st) (IsCommitFor config.clients)
released-in_range config me st kept =
    either_way (λ (held : Option Commit). IfSome held (IsCommitFor config.clients)) (is_none st.waiting) st.held None
    (λ none. kept.held_in_range) (λ some. tt)

-- what goes to the server
pub sent-in_range : (config : Config) (me : ℕ) (st : Client) (deed : Deed) → IsClientOf config me st → IsDeedFor config me st deed
    → IfSome (sent_of config me st deed) (IsSentFor config)
sent-in_range config me st deeds.Ignores kept fits = tt
sent-in_range config me st (deeds.Begins order) kept fits = (submit-in_range config me st order kept fits, kept.held_under_wire_2)
sent-in_range config me st (deeds.Completes done) kept fits =
    let judged = fits.judged_in_range in
    either_way (λ (sent : Option Sent). IfSome sent (IsSentFor config)) (config.wire == 1)
    (Some (commits (commit_of config me done.judged.next))) None
    (λ one. commit-in_range config me done.judged.next judged.next_in_range judged.next_made) (λ two. tt)
sent-in_range config me st (deeds.Breaks notice) kept fits = tt
sent-in_range config me st (deeds.Answers j) kept fits = tt
sent-in_range config me st (deeds.Hears j known) kept fits = tt
sent-in_range config me st (deeds.Ticks m) kept fits =
    either_way (λ (sent : Option Sent). IfSome sent (IsSentFor config)) (is_dummy_due config me st m)
    (Some (submits (submit_of config me st (dummy_of st)))) (committed_alone (released st))
    (λ due. (submit-in_range config me st (dummy_of st) kept (dummy-begun config me st kept (and_parts _ _ due).0), kept.held_under_wire_2))
    (λ later. alone-in_range config (released st) (released-in_range config me st kept))

-- a message to another client
pub message-to-in_range : (config : Config) (me : ℕ) (peer : Peer) (j : ℕ) → IsClient config.clients me → IsOther config.clients me j
    → IsPeerFor config.clients peer → IsPeerMessageFor config.clients (message_to config me peer j)
message-to-in_range config me peer j client other range = record {
  from_in_range = client;
  to_in_range = other.in_range;
  differ = λ same. other.differs (sym same);
  peer_in_range = range;
  tag_sized = digest-tag config.key (peer_body (unsigned_to me peer j));
}

-- all other clients, and those that are probed
others-in_range : (n me k : ℕ) → k ≤ n → AllByRecursion (IsOther n me) (others_up_to me k)
others-in_range n me zero within = tt
others-in_range n me (suc k) within =
    let before : AllByRecursion (IsOther n me) (others_up_to me k) = others-in_range n me k (omega arith) in
    all-append (IsOther n me) (others_up_to me k) _ before
    (either_way (AllByRecursion (IsOther n me)) (suc k == me) [] (suc k ∷ []) (λ own. tt)
    (λ other. (
      record {
        in_range = record { from_one = omega arith; to_n = within };
        differs = λ same. true≢false (sym (eq-eqb (suc k) me same) ∙ other);
      },
      tt,
    )))

probed-in_range : (config : Config) (me : ℕ) (st : Client) (m k : ℕ) → k ≤ config.clients
    → AllByRecursion (IsOther config.clients me) (probed_up_to config me st m k)
probed-in_range config me st m zero within = tt
probed-in_range config me st m (suc k) within =
    let n = config.clients in
    let before : AllByRecursion (IsOther n me) (probed_up_to config me st m k) = probed-in_range config me st m k (omega arith) in
    all-append (IsOther n me) (probed_up_to config me st m k) _ before
    (either_way (AllByRecursion (IsOther n me)) (is_probe_due config me st m (suc k)) (suc k ∷ []) []
    (λ due. (
      record {
        in_range = record { from_one = omega arith; to_n = within };
        differs = differs (suc k) me (and_parts _ _ due).0;
      },
      tt,
    )) (λ later. tt))

answer-in_range : (config : Config) (me : ℕ) (st : Client) (notice : Option Notice) → IsClientOf config me st → st.notice ≡ notice
    → IsPeerFor config.clients (probe_answer config.clients st notice)
answer-in_range config me st None kept is = greatest-in_range config.clients st kept.versions
answer-in_range config me st (Some notice) kept is =
    subst (λ (o : Option Notice). IfSome o (λ (x : Notice). IsCheck x.check)) is kept.notice_in_range

-- what goes to other clients
pub posts-in_range : (config : Config) (me : ℕ) (st : Client) (deed : Deed) → IsClient config.clients me → IsClientOf config me st
    → IsDeedFor config me st deed → AllByRecursion (IsPeerMessageFor config.clients) (posts_of config me st deed)
posts-in_range config me st deeds.Ignores client kept fits = tt
posts-in_range config me st (deeds.Begins order) client kept fits = tt
posts-in_range config me st (deeds.Completes done) client kept fits = tt
posts-in_range config me st (deeds.Breaks notice) client kept fits =
    let n = config.clients in
    all-map (IsOther n me) (IsPeerMessageFor n) (message_to config me (peers.Failure notice.check)) (others_up_to me n)
    (λ j other. message-to-in_range config me (peers.Failure notice.check) j client other fits) (others-in_range n me n (omega arith))
posts-in_range config me st (deeds.Answers j) client kept fits =
    let answer = answer-in_range config me st st.notice kept refl in
    (message-to-in_range config me (probe_answer config.clients st st.notice) j client fits answer, tt)
posts-in_range config me st (deeds.Hears j known) client kept fits = tt
posts-in_range config me st (deeds.Ticks m) client kept fits =
    let n = config.clients in
    all-map (IsOther n me) (IsPeerMessageFor n) (message_to config me peers.Probe) (probed_up_to config me st m n)
    (λ j other. message-to-in_range config me peers.Probe j client other tt) (probed-in_range config me st m n (omega arith))
