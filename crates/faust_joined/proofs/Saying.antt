-- What clients say to one another keeps within the history, and a message that was made is taken.
use Rattle.std.proofs.Common.{◌≡◌, ◌==◌, ℕ, true, List, [], ◌∷◌, ◌++◌, map, option_to_list, Option, Some, None, IfSome, refl, sym, ap, ◌∙◌, subst, inl, inr, arith, append_assoc}
use Rattle.std.specs.Prelude.{◌&&◌, ◌⊎◌, is_none, if◌then◌else◌}
use Rattle.std.specs.List.{AllByRecursion}
use Rattle.std.proofs.lemmas.Bool.{and_parts, eqb-true}
use Rattle.std.proofs.lemmas.List.{append-nil}
use Rattle.faust_types.specs.Clients.{IsClient}
use Rattle.faust_types.specs.Versions.{Vector}
use Rattle.faust_types.specs.Ranges.{IsPeerFor, IsPeerMessageFor}
use Rattle.faust_types.specs.declared.config.Config.{Config}
use Rattle.faust_types.specs.declared.operation.Kind.{Kind}
use Rattle.faust_types.specs.declared.operation.Notice.{Notice}
use Rattle.faust_types.specs.declared.message.Peer.{Peer}
use Rattle.faust_types.specs.declared.message.Peer.TheVariants as peers
use Rattle.faust_types.specs.declared.message.PeerMessage.{PeerMessage}
use Rattle.faust_types.specs.declared.message.Reply.{Reply}
use Rattle.faust_tags.specs.Bodies.{commit_body, data_body, peer_body, proof_body, submit_body}
use Rattle.faust_tags.proofs.Fields.{peer_content}
use Rattle.faust_tags.proofs.FirstBytes.{commit_no_peer, data_no_peer, proof_no_peer, submit_no_peer}
use Rattle.faust_lists.specs.Names.{Has}
use Rattle.faust_honest.specs.World.{World}
use Rattle.faust_agent.specs.State.{greatest, greatest_up_to, version_at}
use Rattle.faust_agent.specs.Deeds.{Sent}
use Rattle.faust_agent.specs.InRange.{IsClientOf, IsDeedFor}
use Rattle.faust_agent.specs.Table.{after, dummy_of, first_unfit, heeded, heeded_version, is_dummy_due, is_signed, message_to, notice_of, posts_of, probe_answer, probed_up_to, sent_of, told_deed}
use Rattle.faust_agent.specs.declared.client.Client.{Client}
use Rattle.faust_agent.specs.declared.deed.Deed.{Deed}
use Rattle.faust_agent.specs.declared.deed.Deed.TheVariants as deeds
use Rattle.faust_agent.proofs.Kept.{either_way}
use Rattle.faust_agent.proofs.Sends.{posts-in_range}
use Rattle.faust_agent.proofs.Slots.{fits-all, greatest_up_to-client}
use Rattle.faust_record.specs.Made.{bodies_of, bodies_of_begin, made_behind, made_bodies}
use Rattle.faust_record.specs.declared.entry.Entry.{Entry}
use Rattle.faust_joined.specs.Joined.{IsInStep, IsQuiet, IsWithin}
use Rattle.faust_joined.proofs.Completing.{within-comparable}
use Rattle.faust_joined.proofs.Hearing.{heard-in_step}

-- what stands in two lists stands in one of them
pub has-either : {X : Type 0} (xs ys : List X) (a : X) → Has (xs ++ ys) a → Has xs a ⊎ Has ys a
has-either [] ys a has = inr has
has-either (x ∷ xs) ys a (inl same) = inl (inl same)
has-either (x ∷ xs) ys a (inr has) = elim (has-either xs ys a has) [ inl left ↦ inl (inr left) | inr right ↦ inr right ]

-- what one more entry makes
pub made-append : (config : Config) (before xs : List Entry) (e : Entry)
    → made_behind config before (xs ++ e ∷ []) ≡ made_behind config before xs ++ made_bodies config (before ++ xs) e
made-append config before [] e =
    append-nil (made_bodies config before e) ∙ ap (λ (l : List Entry). made_bodies config l e) (sym (append-nil before))
made-append config before (x ∷ xs) e =
    ap (λ (l : List (List ℕ)). made_bodies config before x ++ l) (made-append config (before ++ x ∷ []) xs e)
    ∙ sym (append_assoc (made_bodies config before x) (made_behind config (before ++ x ∷ []) xs)
    (made_bodies config ((before ++ x ∷ []) ++ xs) e))
    ∙ ap (λ (l : List Entry). (made_bodies config before x ++ made_behind config (before ++ x ∷ []) xs) ++ made_bodies config l e)
    (append_assoc before (x ∷ []) xs)

-- other bodies are those of no message between clients
begin-silent : (k : ℕ) (kind : Kind) (register t u : ℕ) (digest : Option (List ℕ)) (message : PeerMessage)
    → Has (submit_body k kind register t ∷ data_body k u digest ∷ []) (peer_body message) → ⊥
begin-silent k kind register t u digest message (inl same) = submit_no_peer k kind register t message (sym same)
begin-silent k kind register t u digest message (inr (inl same)) = data_no_peer k u digest message (sym same)
begin-silent k kind register t u digest message (inr (inr has)) = absurd has

completion-silent : (k : ℕ) (v : Vector) (digest : List ℕ) (message : PeerMessage)
    → Has (commit_body k v ∷ proof_body k digest ∷ []) (peer_body message) → ⊥
completion-silent k v digest message (inl same) = commit_no_peer k v message (sym same)
completion-silent k v digest message (inr (inl same)) = proof_no_peer k digest message (sym same)
completion-silent k v digest message (inr (inr has)) = absurd has

-- messages that are sent
posts-quiet : (n : ℕ) (arrived : List ℕ) (posts : List PeerMessage) (message : PeerMessage) → AllByRecursion (IsPeerMessageFor n) posts
    → AllByRecursion (λ (post : PeerMessage). IsQuiet n arrived post.peer) posts → IsPeerMessageFor n message
    → Has (map peer_body posts) (peer_body message) → IsQuiet n arrived message.peer
posts-quiet n arrived [] message ranges quiet range has = absurd has
posts-quiet n arrived (post ∷ rest) message ranges quiet range (inl same) =
    subst (IsQuiet n arrived) (peer_content n post message ranges.0 range (sym same)) quiet.0
posts-quiet n arrived (post ∷ rest) message ranges quiet range (inr has) =
    posts-quiet n arrived rest message ranges.1 quiet.1 range has

probes-quiet : (config : Config) (me : ℕ) (arrived probed : List ℕ)
    → AllByRecursion (λ (post : PeerMessage). IsQuiet config.clients arrived post.peer) (map (message_to config me peers.Probe) probed)
probes-quiet config me arrived [] = tt
probes-quiet config me arrived (j ∷ rest) = (tt, probes-quiet config me arrived rest)

greatest-within : (config : Config) (k : ℕ) (st : Client) (arrived : List ℕ) → IsClientOf config k st
    → ((j : ℕ) → IsClient config.clients j → IsWithin config.clients arrived (version_at st j))
    → IsWithin config.clients arrived (greatest config.clients st).version
unfolding greatest
greatest-within config k st arrived kept slots =
    slots (greatest_up_to st config.clients) (greatest_up_to-client config.clients st config.clients kept.versions.count (omega arith))

answer-quiet : (config : Config) (k : ℕ) (st : Client) (arrived : List ℕ) → IsClientOf config k st → st.notice ≡ None
    → ((j : ℕ) → IsClient config.clients j → IsWithin config.clients arrived (version_at st j))
    → IsQuiet config.clients arrived (probe_answer config.clients st st.notice)
answer-quiet config k st arrived kept none slots =
    subst (λ (notice : Option Notice). IsQuiet config.clients arrived (probe_answer config.clients st notice)) (sym none)
    (greatest-within config k st arrived kept slots)

-- what a deed makes
pub deed-quiet : (config : Config) (k : ℕ) (st : Client) (arrived : List ℕ) (deed : Deed) (message : PeerMessage)
    → IsClient config.clients k → IsClientOf config k st → IsDeedFor config k st deed → st.notice ≡ None → notice_of deed ≡ None
    → ((j : ℕ) → IsClient config.clients j → IsWithin config.clients arrived (version_at st j))
    → IsPeerMessageFor config.clients message → Has (bodies_of config k st deed) (peer_body message)
    → IsQuiet config.clients arrived message.peer
deed-quiet config k st arrived deeds.Ignores message client kept fits none unbroken slots range has = absurd has
deed-quiet config k st arrived (deeds.Begins order) message client kept fits none unbroken slots range has =
    absurd (begin-silent k order.kind order.register _ _ _ message has)
deed-quiet config k st arrived (deeds.Completes done) message client kept fits none unbroken slots range has =
    absurd (completion-silent k _ _ message has)
deed-quiet config k st arrived (deeds.Breaks notice) message client kept fits none unbroken slots range has = absurd cc
deed-quiet config k st arrived (deeds.Answers j) message client kept fits none unbroken slots range has =
    posts-quiet config.clients arrived (posts_of config k st (deeds.Answers j)) message
    (posts-in_range config k st (deeds.Answers j) client kept fits) (answer-quiet config k st arrived kept none slots, tt) range has
deed-quiet config k st arrived (deeds.Hears j known) message client kept fits none unbroken slots range has = absurd has
deed-quiet config k st arrived (deeds.Ticks m) message client kept fits none unbroken slots range has =
    let begun : List (List ℕ) = if is_dummy_due config k st m then bodies_of_begin k st (dummy_of st) else [] in
    elim (has-either (map peer_body (posts_of config k st (deeds.Ticks m))) begun (peer_body message) has) [
      | inl posted ↦ posts-quiet config.clients arrived (posts_of config k st (deeds.Ticks m)) message
          (posts-in_range config k st (deeds.Ticks m) client kept fits)
          (probes-quiet config k arrived (probed_up_to config k st m config.clients)) range posted
      | inr began ↦ absurd (either_way (λ (l : List (List ℕ)). Has l (peer_body message) → ⊥) (is_dummy_due config k st m)
          (bodies_of_begin k st (dummy_of st)) []
          (λ due h. begin-silent k _ _ _ _ _ message h) (λ later h. h) began)
    ]

-- a message that was made is taken
pub record IsTaken (config : Config) (world : World) (arrived : List ℕ) (committed begun k : ℕ) (st : Client) (queue : List Sent)
    (given : List Reply) (handed : ℕ) (deed : Deed) : Type 0 where
  pub in_step : IsInStep config world arrived committed begun k (after config k st deed)
      (queue ++ option_to_list (sent_of config k st deed)) given handed
  pub unbroken : notice_of deed ≡ None

same-step : (config : Config) (world : World) (arrived : List ℕ) (committed begun k : ℕ) (st : Client) (queue : List Sent)
    (given : List Reply) (handed : ℕ) → IsInStep config world arrived committed begun k st queue given handed
    → IsInStep config world arrived committed begun k st (queue ++ []) given handed
same-step config world arrived committed begun k st queue given handed h =
    subst (λ (q : List Sent). IsInStep config world arrived committed begun k st q given handed) (sym (append-nil queue)) h

pub ignored : (config : Config) (world : World) (arrived : List ℕ) (committed begun k : ℕ) (st : Client) (queue : List Sent)
    (given : List Reply) (handed : ℕ) → IsInStep config world arrived committed begun k st queue given handed
    → IsTaken config world arrived committed begun k st queue given handed deeds.Ignores
ignored config world arrived committed begun k st queue given handed h =
    record { in_step = same-step config world arrived committed begun k st queue given handed h; unbroken = refl }

heeded-taken : (config : Config) (world : World) (arrived : List ℕ) (committed begun k : ℕ) (st : Client) (queue : List Sent)
    (given : List Reply) (handed : ℕ) (message : PeerMessage) (peer : Peer) → message.peer ≡ peer → IsClient config.clients k
    → IsInStep config world arrived committed begun k st queue given handed
    → IsPeerMessageFor config.clients message → message.to ≡ k → IsQuiet config.clients arrived peer
    → IsTaken config world arrived committed begun k st queue given handed (heeded config.clients st message.from peer)
heeded-taken config world arrived committed begun k st queue given handed message peers.Probe says client h range to_me quiet =
    record { in_step = same-step config world arrived committed begun k st queue given handed h; unbroken = refl }
heeded-taken config world arrived committed begun k st queue given handed message (peers.Version known) says client h range to_me quiet =
    let n = config.clients in
    let Taken : Deed → Type 0 = IsTaken config world arrived committed begun k st queue given handed in
    let fits : first_unfit st known.version None n ≡ None =
    fits-all st known.version None n (λ j within. within-comparable n arrived known.version (version_at st j) quiet (h.within j within)) in
    let heard : Taken (deeds.Hears message.from known) = record {
      in_step = same-step config world arrived committed begun k _ queue given handed
          (heard-in_step config world arrived committed begun k st queue given handed message.from known client h (record {
            from_another = record { in_range = range.from_in_range; differs = λ same. range.differ (same ∙ sym to_me) };
            known_in_range = subst (IsPeerFor n) says range.peer_in_range;
          }) quiet);
      unbroken = refl;
    } in
    either_way Taken (is_none st.notice) (heeded_version message.from known (first_unfit st known.version None n)) deeds.Ignores
    (λ none. subst (λ (first : Option ℕ). Taken (heeded_version message.from known first)) (sym fits) heard)
    (λ some. ignored config world arrived committed begun k st queue given handed h)
heeded-taken config world arrived committed begun k st queue given handed message (peers.Failure check) says client h range to_me quiet =
    absurd quiet

pub told-taken : (config : Config) (world : World) (arrived : List ℕ) (committed begun k : ℕ) (st : Client) (queue : List Sent)
    (given : List Reply) (handed : ℕ) (message : Option PeerMessage) → IsClient config.clients k
    → IsInStep config world arrived committed begun k st queue given handed
    → IfSome message (IsPeerMessageFor config.clients)
    → ((m : PeerMessage) → message ≡ Some m → is_signed config m ≡ true → IsQuiet config.clients arrived m.peer)
    → IsTaken config world arrived committed begun k st queue given handed (told_deed config k st message)
told-taken config world arrived committed begun k st queue given handed None client h range quiet =
    ignored config world arrived committed begun k st queue given handed h
told-taken config world arrived committed begun k st queue given handed (Some m) client h range quiet =
    either_way (IsTaken config world arrived committed begun k st queue given handed) ((m.to == k) && is_signed config m)
    (heeded config.clients st m.from m.peer) deeds.Ignores
    (λ right. let parts = and_parts (m.to == k) (is_signed config m) right in
    heeded-taken config world arrived committed begun k st queue given handed m m.peer refl client h range (eqb-true m.to k parts.0)
    (quiet m refl parts.1))
    (λ wrong. ignored config world arrived committed begun k st queue given handed h)
