-- The bodies that a deed makes are those of the ledger's sources.
use Rattle.std.proofs.Common.{◌∙◌, ap, ◌≡◌, ◌⊎◌, ℕ, ◌+◌, Bool, true, false, cond, List, [], ◌∷◌, ◌++◌, Option, Some, map, refl, sym, subst, inl, inr}
use Rattle.faust_types.specs.Versions.{Vector}
use Rattle.faust_types.specs.declared.config.Config.{Config}
use Rattle.faust_types.specs.declared.message.PeerMessage.{PeerMessage}
use Rattle.faust_types.specs.declared.message.Reply.{Reply}
use Rattle.faust_tags.specs.Bodies.{peer_body}
use Rattle.faust_ustor.specs.Passed.{next_of}
use Rattle.faust_agent.specs.Table.{dummy_of, is_dummy_due, last_after, own_digest, posts_of}
use Rattle.faust_agent.specs.State.{completed_count}
use Rattle.faust_agent.specs.Tells.{Tells}
use Rattle.faust_agent.specs.declared.client.Client.{Client}
use Rattle.faust_agent.specs.declared.deed.Completion.{Completion}
use Rattle.faust_agent.specs.declared.deed.Order.{Order}
use Rattle.faust_agent.specs.declared.deed.Deed.{Deed}
use Rattle.faust_agent.specs.declared.deed.Deed.TheVariants as deeds
use Rattle.faust_lists.specs.Names.{Has}
use Rattle.faust_forks.specs.Sources.{IsMade, Source, body_of, of_commit, of_data, of_peer, of_proof, of_submit}
use Rattle.faust_forks.specs.Pasts.{Past}
use Rattle.faust_forks.proofs.Members.{has-left, has-right}
use Rattle.faust_record.specs.Entries.{event_of}
use Rattle.faust_record.specs.Made.{bodies_of, bodies_of_begin, bodies_of_completion}
use Rattle.faust_record.specs.declared.entry.Input.{Input}
use Rattle.faust_runs.specs.ForkViews.{reply_at}
use Rattle.faust_runs.specs.Ledgers.{beginning, completing, past_by, posting, ticking}
use Rattle.faust_runs.proofs.Completions.{IsFinish, is-finish}
use Rattle.faust_runs.proofs.Leading.{IsComing}

pub made-grows : (made more : List Source) (body : List ℕ) → ((source : Source) → Has made source → Has more source)
    → IsMade made body → IsMade more body
made-grows made more body grows h = record { source = h.source; in_made = grows h.source h.in_made; spelled = h.spelled }

-- an item of one of two lists
pub has-either : {X : Type 0} (xs ys : List X) (a : X) → Has (xs ++ ys) a → Has xs a ⊎ Has ys a
has-either [] ys a has = inr has
has-either (x ∷ xs) ys a (inl same) = inl (inl same)
has-either (x ∷ xs) ys a (inr has) = elim (has-either xs ys a has) [ inl left ↦ inl (inr left) | inr right ↦ inr right ]

pub posted-made : (messages : List PeerMessage) (made : List Source) (body : List ℕ) → Has (map peer_body messages) body
    → IsMade (map of_peer messages ++ made) body
posted-made [] made body has = absurd has
posted-made (message ∷ rest) made body (inl same) = record { source = of_peer message; in_made = inl refl; spelled = sym same }
posted-made (message ∷ rest) made body (inr has) =
    made-grows (map of_peer rest ++ made) (of_peer message ∷ (map of_peer rest ++ made)) body (λ source h. inr h)
    (posted-made rest made body has)

pub begun-made : (past : Past) (me : ℕ) (st : Client) (order : Order) (body : List ℕ) → Has (bodies_of_begin me st order) body
    → IsMade (beginning past me st order).made body
begun-made past me st order body (inl same) =
    record { source = of_submit me order.kind order.register (completed_count me st + 1); in_made = inl refl; spelled = sym same }
begun-made past me st order body (inr (inl same)) =
    record {
      source = of_data me (completed_count me st + 1) (last_after st.last order.value);
      in_made = inr (inl refl);
      spelled = sym same;
    }
begun-made past me st order body (inr (inr none)) = absurd none

completed-made : (past : Past) (me : ℕ) (done : Completion) (reply : Reply) (body : List ℕ)
    → Has (bodies_of_completion me (next_of me reply)) body → IsMade (completing past me done.op (Some reply)).made body
completed-made past me done reply body (inl same) =
    record { source = of_commit me (next_of me reply); in_made = inl refl; spelled = sym same }
completed-made past me done reply body (inr (inl same)) =
    record { source = of_proof me (own_digest me (next_of me reply)); in_made = inr (inl refl); spelled = sym same }
completed-made past me done reply body (inr (inr none)) = absurd none

pub finished-made : (config : Config) (past : Past) (me : ℕ) (st : Client) (input : Input) (done : Completion) (reply : Reply)
    (body : List ℕ)
    → IsFinish config past me st input done reply → Has (bodies_of_completion me done.judged.next) body
    → IsMade (completing past me done.op (reply_at config input)).made body
finished-made config past me st input done reply body h has =
    subst (λ (r : Option Reply). IsMade (completing past me done.op r).made body) (sym h.came)
    (completed-made past me done reply body (subst (λ (v : Vector). Has (bodies_of_completion me v) body) h.next_is has))

pub ticked-made : (config : Config) (past : Past) (me : ℕ) (st : Client) (messages : List PeerMessage) (due : Bool) (body : List ℕ)
    → Has (map peer_body messages ++ cond due (bodies_of_begin me st (dummy_of st)) []) body
    → IsMade (ticking (posting past messages) me st due).made body
ticked-made config past me st messages true body has =
    elim (has-either (map peer_body messages) (bodies_of_begin me st (dummy_of st)) body has) [
      | inl posts ↦
          made-grows (posting past messages).made (beginning (posting past messages) me st (dummy_of st)).made body
          (λ source h. inr (inr h)) (posted-made messages past.made body posts)
      | inr begins ↦ begun-made (posting past messages) me st (dummy_of st) body begins
    ]
ticked-made config past me st messages false body has =
    elim (has-either (map peer_body messages) [] body has) [
      | inl posts ↦ posted-made messages past.made body posts
      | inr none ↦ absurd none
    ]

pub deed-made : (config : Config) (past : Past) (me : ℕ) (st : Client) (input : Input) (deed : Deed) (body : List ℕ)
    → IsComing config past me st input → Tells config me st (event_of config me input) deed → Has (bodies_of config me st deed) body
    → IsMade (past_by config past me st (reply_at config input) deed).made body
deed-made config past me st input deeds.Ignores body coming tells has = absurd has
deed-made config past me st input (deeds.Begins order) body coming tells has = begun-made past me st order body has
deed-made config past me st input (deeds.Completes done) body coming tells has =
    finished-made config past me st input done tells.reply body (is-finish config past me st input done coming tells) has
deed-made config past me st input (deeds.Breaks notice) body coming tells has =
    posted-made (posts_of config me st (deeds.Breaks notice)) past.made body has
deed-made config past me st input (deeds.Answers j) body coming tells has =
    posted-made (posts_of config me st (deeds.Answers j)) past.made body has
deed-made config past me st input (deeds.Hears j known) body coming tells has = absurd has
deed-made config past me st input (deeds.Ticks m) body coming tells has =
    ticked-made config past me st (posts_of config me st (deeds.Ticks m)) (is_dummy_due config me st m) body has

-- And the ledger has no other sources.
source-spelled : (source known : Source) (body : List ℕ) → source ≡ known → body_of source ≡ body → body ≡ body_of known
source-spelled source known body same spelled = sym spelled ∙ ap body_of same

begun-sources : (past : Past) (me : ℕ) (st : Client) (order : Order) (body : List ℕ) (source : Source)
    → Has (beginning past me st order).made source → body_of source ≡ body
    → IsMade past.made body ⊎ Has (bodies_of_begin me st order) body
begun-sources past me st order body source (inl same) spelled =
    inr (inl (source-spelled source (of_submit me order.kind order.register (completed_count me st + 1)) body same spelled))
begun-sources past me st order body source (inr (inl same)) spelled =
    inr (inr (inl (source-spelled source (of_data me (completed_count me st + 1) (last_after st.last order.value)) body same spelled)))
begun-sources past me st order body source (inr (inr has)) spelled =
    inl (record { source = source; in_made = has; spelled = spelled })

completed-sources : (past : Past) (me : ℕ) (done : Completion) (reply : Reply) (body : List ℕ) (source : Source)
    → Has (completing past me done.op (Some reply)).made source → body_of source ≡ body
    → IsMade past.made body ⊎ Has (bodies_of_completion me (next_of me reply)) body
completed-sources past me done reply body source (inl same) spelled =
    inr (inl (source-spelled source (of_commit me (next_of me reply)) body same spelled))
completed-sources past me done reply body source (inr (inl same)) spelled =
    inr (inr (inl (source-spelled source (of_proof me (own_digest me (next_of me reply))) body same spelled)))
completed-sources past me done reply body source (inr (inr has)) spelled =
    inl (record { source = source; in_made = has; spelled = spelled })

finished-sources : (config : Config) (past : Past) (me : ℕ) (st : Client) (input : Input) (done : Completion) (reply : Reply)
    (body : List ℕ) → IsFinish config past me st input done reply
    → IsMade (completing past me done.op (reply_at config input)).made body
    → IsMade past.made body ⊎ Has (bodies_of_completion me done.judged.next) body
finished-sources config past me st input done reply body h made =
    let there : IsMade (completing past me done.op (Some reply)).made body =
    subst (λ (r : Option Reply). IsMade (completing past me done.op r).made body) h.came made in
    subst (λ (v : Vector). IsMade past.made body ⊎ Has (bodies_of_completion me v) body) (sym h.next_is)
    (completed-sources past me done reply body there.source there.in_made there.spelled)

posted-has : (messages : List PeerMessage) (source : Source) → Has (map of_peer messages) source
    → Has (map peer_body messages) (body_of source)
posted-has [] source has = absurd has
posted-has (message ∷ rest) source (inl same) = inl (ap body_of same)
posted-has (message ∷ rest) source (inr has) = inr (posted-has rest source has)

pub posted-sources : (messages : List PeerMessage) (made : List Source) (body : List ℕ) → IsMade (map of_peer messages ++ made) body
    → IsMade made body ⊎ Has (map peer_body messages) body
posted-sources messages made body h =
    elim (has-either (map of_peer messages) made h.source h.in_made) [
      | inl posted ↦ inr (subst (λ (b : List ℕ). Has (map peer_body messages) b) h.spelled (posted-has messages h.source posted))
      | inr old ↦ inl (record { source = h.source; in_made = old; spelled = h.spelled })
    ]

ticked-sources : (past : Past) (me : ℕ) (st : Client) (messages : List PeerMessage) (due : Bool) (body : List ℕ)
    → IsMade (ticking (posting past messages) me st due).made body
    → IsMade past.made body ⊎ Has (map peer_body messages ++ cond due (bodies_of_begin me st (dummy_of st)) []) body
ticked-sources past me st messages true body h =
    let begins : List (List ℕ) = bodies_of_begin me st (dummy_of st) in
    elim (begun-sources (posting past messages) me st (dummy_of st) body h.source h.in_made h.spelled) [
      | inl old ↦ elim (posted-sources messages past.made body old) [
        | inl older ↦ inl older
        | inr posted ↦ inr (has-left (map peer_body messages) begins body posted)
      ]
      | inr begun ↦ inr (has-right (map peer_body messages) begins body begun)
    ]
ticked-sources past me st messages false body h =
    elim (posted-sources messages past.made body h) [
      | inl older ↦ inl older
      | inr posted ↦ inr (has-left (map peer_body messages) [] body posted)
    ]

pub deed-sources : (config : Config) (past : Past) (me : ℕ) (st : Client) (input : Input) (deed : Deed) (body : List ℕ)
    → IsComing config past me st input → Tells config me st (event_of config me input) deed
    → IsMade (past_by config past me st (reply_at config input) deed).made body
    → IsMade past.made body ⊎ Has (bodies_of config me st deed) body
deed-sources config past me st input deeds.Ignores body coming tells made = inl made
deed-sources config past me st input (deeds.Begins order) body coming tells made =
    begun-sources past me st order body made.source made.in_made made.spelled
deed-sources config past me st input (deeds.Completes done) body coming tells made =
    finished-sources config past me st input done tells.reply body (is-finish config past me st input done coming tells) made
deed-sources config past me st input (deeds.Breaks notice) body coming tells made =
    posted-sources (posts_of config me st (deeds.Breaks notice)) past.made body made
deed-sources config past me st input (deeds.Answers j) body coming tells made =
    posted-sources (posts_of config me st (deeds.Answers j)) past.made body made
deed-sources config past me st input (deeds.Hears j known) body coming tells made = inl made
deed-sources config past me st input (deeds.Ticks m) body coming tells made =
    ticked-sources past me st (posts_of config me st (deeds.Ticks m)) (is_dummy_due config me st m) body made
