-- What is seen of an entry is what its deed makes, hashes and leaves.
use Rattle.std.proofs.Common.{◌≡◌, ◌&&◌, ℕ, Bool, true, false, cond, List, [], ◌++◌, map, nat_le, Option, Some, None, is_none, Result, Ok, Err, IfSome, refl, sym, ap, ◌∙◌, subst}
use Rattle.std.proofs.lemmas.List.{append-nil}
use Rattle.std.proofs.lemmas.Bool.{cond-true, cond-false}
use Rattle.faust_types.specs.Clients.{IsClient, IsClientCount}
use Rattle.faust_types.specs.Ranges.{IsReplyFor}
use Rattle.faust_types.specs.Versions.{Vector}
use Rattle.faust_types.specs.declared.config.Config.{Config}
use Rattle.faust_types.specs.declared.operation.Notice.{Notice}
use Rattle.faust_types.specs.declared.operation.Operation.{Operation}
use Rattle.faust_types.specs.declared.message.Known.{Known}
use Rattle.faust_types.specs.declared.message.Reply.{Reply}
use Rattle.faust_types.specs.declared.outcome.Outcome.{Outcome}
use Rattle.faust_ustor.specs.Checks.{judged}
use Rattle.faust_ustor.specs.Hashed.{all_inputs}
use Rattle.faust_ustor.specs.Passed.{next_of}
use Rattle.faust_ustor.specs.declared.judgement.Judged.{Judged}
use Rattle.faust_ustor.proofs.Counts.{next-told}
use Rattle.faust_ustor.proofs.Inputs.{hashed_passed}
use Rattle.faust_ustor.proofs.Passes.{judged-passed}
use Rattle.faust_agent.specs.State.{is_less, version_at}
use Rattle.faust_agent.specs.Deeds.{peer_in, read_of, replied, reply_in, told as was_told, write_of}
use Rattle.faust_agent.specs.Table.{after, answer_of, awaited, begun_by, deed_of, dummy_of, first_unfit, fitted, held_after, heard_by, is_dummy_due, moved_on, notice_of, operation_of, posts_of, received, taken, with_slot}
use Rattle.faust_agent.specs.Outcomes.{outcome_of, spelled_post}
use Rattle.faust_agent.specs.InRange.{IsClientOf, IsDeedFor, IsHeardFor, IsWaitedFor}
use Rattle.faust_agent.specs.Tells.{Tells}
use Rattle.faust_agent.specs.declared.client.Client.{Client}
use Rattle.faust_agent.specs.declared.deed.Deed.{Deed}
use Rattle.faust_agent.specs.declared.deed.Deed.TheVariants as deeds
use Rattle.faust_agent.proofs.Kept.{either_way, slot-other}
use Rattle.faust_agent.proofs.Reasons.{deed-in_range, deed-tells, none-of, reply-in_range}
use Rattle.faust_record.specs.Entries.{IsStep, MayCome, deed_at, event_of, outcome_at, state_at}
use Rattle.faust_record.specs.Made.{bodies_of, bodies_of_begin, bodies_of_completion, bodies_of_posts}
use Rattle.faust_record.specs.declared.entry.Input.{Input}
use Rattle.faust_record.specs.declared.entry.Input.TheVariants as inputs
use Rattle.faust_record.specs.declared.entry.Entry.{Entry}
use Rattle.faust_premises.specs.Premises.{inputs_at, inputs_of_judging, inputs_of_reply}
use Rattle.faust_audit.specs.Watching.{IsMoveFor, bodies_at, bodies_moving, bodies_seen, completion_seen, hashed_at, hashed_breaking, hashed_waiting, post_body, reply_came, reply_seen, seen_at, seen_by, tick_seen, watched_after, watched_of, watched_then}
use Rattle.faust_audit.specs.declared.watched.Move.TheVariants as moves
use Rattle.faust_audit.specs.declared.watched.Seen.{Seen}
use Rattle.faust_audit.proofs.Clients.{event-in_range}
use Rattle.faust_audit.proofs.Completions.{moved-own, next-sized, passed-room, read-own}
use Rattle.faust_audit.proofs.Posts.{posts-bodies}

abbrev seen_of : Config → ℕ → Client → Input → Deed → Seen
seen_of config me st input deed = seen_by me (watched_of me st) input (outcome_of config me st deed) (reply_came config input)

pub record IsSeen (config : Config) (me : ℕ) (st : Client) (input : Input) (deed : Deed) : Type 0 where
  pub bodies : bodies_seen me (watched_of me st) (seen_of config me st input deed).moved (outcome_of config me st deed)
      ≡ bodies_of config me st deed
  pub hashed : (seen_of config me st input deed).hashed
      ++ hashed_breaking config.key me (watched_of me st) (reply_came config input) (outcome_of config me st deed).notice
      ≡ inputs_at config me st input
  pub kept : watched_after (watched_of me st) (seen_of config me st input deed).moved ≡ watched_of me (after config me st deed)
  pub moved_for : IsMoveFor config.clients (seen_of config me st input deed).moved

-- a user begins
write-seen : (config : Config) (me : ℕ) (st : Client) (value : List ℕ)
    → IsSeen config me st (inputs.Write value) (deeds.Begins (write_of me value))
unfolding outcome_of
write-seen config me st value = record { bodies = refl; hashed = refl; kept = refl; moved_for = tt }

read-seen : (config : Config) (me : ℕ) (st : Client) (register : ℕ)
    → IsSeen config me st (inputs.Read register) (deeds.Begins (read_of register false))
unfolding outcome_of
read-seen config me st register = record { bodies = refl; hashed = refl; kept = refl; moved_for = tt }

-- a tick, where a dummy read is due or not
record IsTickSeen (config : Config) (me : ℕ) (st : Client) (m : ℕ) (due : Bool) : Type 0 where
  bodies : map post_body (map (spelled_post config.wire) (posts_of config me st (deeds.Ticks m)))
      ++ bodies_moving me (watched_of me st) (tick_seen (cond due (Some (operation_of me st (dummy_of st))) None)).moved
      ≡ bodies_of_posts config me st (deeds.Ticks m) ++ cond due (bodies_of_begin me st (dummy_of st)) []
  hashed : (tick_seen (cond due (Some (operation_of me st (dummy_of st))) None)).hashed ++ [] ≡ []
  kept : watched_after (watched_of me st) (tick_seen (cond due (Some (operation_of me st (dummy_of st))) None)).moved
      ≡ watched_of me (cond due (begun_by me st (dummy_of st)) (record st { held = held_after st }))
  moved_for : IsMoveFor config.clients (tick_seen (cond due (Some (operation_of me st (dummy_of st))) None)).moved

tick-either : (config : Config) (me : ℕ) (st : Client) (m : ℕ) (due : Bool) → IsTickSeen config me st m due
tick-either config me st m true = record {
  bodies = ap (λ (l : List (List ℕ)). l ++ bodies_of_begin me st (dummy_of st)) (posts-bodies config me st (deeds.Ticks m));
  hashed = refl;
  kept = refl;
  moved_for = tt;
}
tick-either config me st m false = record {
  bodies = ap (λ (l : List (List ℕ)). l ++ []) (posts-bodies config me st (deeds.Ticks m));
  hashed = refl;
  kept = refl;
  moved_for = tt;
}

ticks-seen : (config : Config) (me : ℕ) (st : Client) (m : ℕ) → IsSeen config me st (inputs.Tick m) (deeds.Ticks m)
unfolding outcome_of
ticks-seen config me st m =
    let seen = tick-either config me st m (is_dummy_due config me st m) in
    record { bodies = seen.bodies; hashed = seen.hashed; kept = seen.kept; moved_for = seen.moved_for }

tick-ignored : (config : Config) (me : ℕ) (st : Client) (m : ℕ) → IsSeen config me st (inputs.Tick m) deeds.Ignores
unfolding outcome_of
tick-ignored config me st m = record { bodies = refl; hashed = refl; kept = refl; moved_for = tt }

arrival-seen : (config : Config) (me : ℕ) (st : Client) (message : List ℕ) → IsSeen config me st (inputs.Arrive message) deeds.Ignores
unfolding outcome_of
arrival-seen config me st message = record { bodies = refl; hashed = refl; kept = refl; moved_for = tt }

-- a message of another client
heard-own : (config : Config) (me : ℕ) (st : Client) (j : ℕ) (known : Known) → IsClient config.clients me
    → IsHeardFor config me j known → watched_of me st ≡ watched_of me (heard_by st j known)
heard-own config me st j known client heard =
    either_way (λ (c : Client). watched_of me st ≡ watched_of me c) (is_less (version_at st j) known.version) (with_slot st j known) st
    (λ newer. ap (λ (own : Known). record { own = own.version; last = st.last; waiting = st.waiting })
    (sym (slot-other config.clients st.heard j known me heard.from_another.in_range client (λ e. heard.from_another.differs (sym e)))))
    (λ older. refl)

peer-seen : (config : Config) (me : ℕ) (st : Client) (bytes : List ℕ) (deed : Deed) → IsClient config.clients me
    → IsDeedFor config me st deed → Tells config me st (was_told (peer_in config bytes)) deed → IsSeen config me st (inputs.Peer bytes) deed
unfolding outcome_of
peer-seen config me st bytes deeds.Ignores client range tells = record { bodies = refl; hashed = refl; kept = refl; moved_for = tt }
peer-seen config me st bytes (deeds.Begins order) client range tells = let came = tells.came in absurd (cc)
peer-seen config me st bytes (deeds.Completes done) client range tells = let came = tells.came in absurd (cc)
peer-seen config me st bytes (deeds.Breaks notice) client range tells = record {
  bodies = append-nil _ ∙ posts-bodies config me st (deeds.Breaks notice);
  hashed = refl;
  kept = refl;
  moved_for = tt;
}
peer-seen config me st bytes (deeds.Answers j) client range tells = record {
  bodies = append-nil _ ∙ posts-bodies config me st (deeds.Answers j);
  hashed = refl;
  kept = refl;
  moved_for = tt;
}
peer-seen config me st bytes (deeds.Hears j known) client range tells = record {
  bodies = refl;
  hashed = refl;
  kept = heard-own config me st j known client range;
  moved_for = tt;
}
peer-seen config me st bytes (deeds.Ticks m) client range tells = let came = tells.came in absurd (cc)

-- a reply, or bytes that are none
record IsReplySeen (config : Config) (me : ℕ) (st : Client) (reply : Option Reply) (deed : Deed) : Type 0 where
  bodies : map post_body (map (spelled_post config.wire) (posts_of config me st deed))
      ++ bodies_moving me (watched_of me st) (reply_seen me reply (answer_of deed)).moved ≡ bodies_of config me st deed
  hashed : (reply_seen me reply (answer_of deed)).hashed ++ hashed_breaking config.key me (watched_of me st) reply (notice_of deed)
      ≡ inputs_of_reply config me st reply
  kept : watched_after (watched_of me st) (reply_seen me reply (answer_of deed)).moved ≡ watched_of me (after config me st deed)
  moved_for : IsMoveFor config.clients (reply_seen me reply (answer_of deed)).moved

reply-ignored : (config : Config) (me : ℕ) (st : Client) (reply : Option Reply) → is_none st.notice ≡ false
    → IsReplySeen config me st reply deeds.Ignores
reply-ignored config me st None noticed = record { bodies = refl; hashed = refl; kept = refl; moved_for = tt }
reply-ignored config me st (Some reply) noticed = record {
  bodies = refl;
  hashed = sym (cond-false _ _ _ noticed);
  kept = refl;
  moved_for = tt;
}

waiting-same : (config : Config) (me : ℕ) (st : Client) (reply : Reply) (waiting : Option Operation)
    → hashed_waiting config.key me (watched_of me st) reply waiting ≡ inputs_of_judging config me st reply waiting
waiting-same config me st reply None = refl
waiting-same config me st reply (Some op) = refl

judging-inputs : (config : Config) (me : ℕ) (st : Client) (reply : Reply) → st.notice ≡ None
    → inputs_of_reply config me st (Some reply) ≡ inputs_of_judging config me st reply st.waiting
judging-inputs config me st reply no_notice =
    ap (λ (o : Option Notice). cond (is_none o) (inputs_of_judging config me st reply st.waiting) []) no_notice

reply-breaks : (config : Config) (me : ℕ) (st : Client) (reply : Option Reply) (notice : Notice) → st.notice ≡ None
    → IsReplySeen config me st reply (deeds.Breaks notice)
reply-breaks config me st None notice no_notice = record {
  bodies = append-nil _ ∙ posts-bodies config me st (deeds.Breaks notice);
  hashed = refl;
  kept = refl;
  moved_for = tt;
}
reply-breaks config me st (Some reply) notice no_notice = record {
  bodies = append-nil _ ∙ posts-bodies config me st (deeds.Breaks notice);
  hashed = waiting-same config me st reply st.waiting ∙ sym (judging-inputs config me st reply no_notice);
  kept = refl;
  moved_for = tt;
}

reply-completes : (config : Config) (me : ℕ) (st : Client) (reply : Reply) (op : Operation) (answer : Judged)
    → IsClient config.clients me → IsClientOf config me st → IsReplyFor config.clients reply → st.notice ≡ None
    → st.waiting ≡ Some op → judged config.key me (version_at st me) op reply ≡ Ok answer
    → IsReplySeen config me st (Some reply) (deeds.Completes (record { op = op; judged = answer }))
reply-completes config me st reply op answer client kept range no_notice waits passes =
    let watched = watched_of me st in
    let waited : IsWaitedFor config.clients me (version_at st me) op =
    subst (λ (o : Option Operation). IfSome o (IsWaitedFor config.clients me (version_at st me))) waits kept.waiting_in_range in
    let ok = judged-passed config.key me (version_at st me) op reply answer passes in
    let room = passed-room config.key config.clients me (version_at st me) op reply range client waited.pending ok.passed in
    let seen : Seen = record { moved = moves.Completes (next_of me reply); hashed = all_inputs me reply } in
    let seen_is : completion_seen me reply ≡ seen = cond-true _ _ _ room in
    let next_is : answer.next ≡ next_of me reply =
    ap (λ (j : Judged). j.next) ok.tells ∙ next-told (next_of me reply) reply.read in
    let hashed_is : inputs_of_reply config me st (Some reply) ≡ all_inputs me reply =
    judging-inputs config me st reply no_notice ∙ ap (inputs_of_judging config me st reply) waits
    ∙ hashed_passed config.key me (version_at st me) op reply ok.passed in
    let then_kept : watched_of me (after config me st (deeds.Completes (record { op = op; judged = answer })))
    ≡ record { own = answer.next; last = st.last; waiting = None } =
    read-own config.clients me (moved_on config me st answer.next) op.register answer.heard client waited.register_in_range
    ∙ moved-own config me st answer.next kept.versions.counted client in
    record {
      bodies = ap (λ (s : Seen). bodies_moving me watched s.moved) seen_is ∙ sym (ap (bodies_of_completion me) next_is);
      hashed = ap (λ (s : Seen). s.hashed ++ []) seen_is ∙ append-nil (all_inputs me reply) ∙ sym hashed_is;
      kept = ap (λ (s : Seen). watched_after watched s.moved) seen_is
          ∙ ap (λ (v : Vector). record { own = v; last = st.last; waiting = None }) (sym next_is) ∙ sym then_kept;
      moved_for = subst (λ (s : Seen). IsMoveFor config.clients s.moved) (sym seen_is) (next-sized config.clients me reply range);
    }

-- the row of replies
reply-fitted : (config : Config) (me : ℕ) (st : Client) (reply : Reply) (op : Operation) (answer : Judged) (first : Option ℕ)
    → IsClient config.clients me → IsClientOf config me st → IsReplyFor config.clients reply → st.notice ≡ None
    → st.waiting ≡ Some op → judged config.key me (version_at st me) op reply ≡ Ok answer
    → IsReplySeen config me st (Some reply) (fitted op answer first)
reply-fitted config me st reply op answer None client kept range no_notice waits passes =
    reply-completes config me st reply op answer client kept range no_notice waits passes
reply-fitted config me st reply op answer (Some k) client kept range no_notice waits passes =
    reply-breaks config me st (Some reply) (record { check = 13; place = k }) no_notice

reply-taken : (config : Config) (me : ℕ) (st : Client) (reply : Reply) (op : Operation) (due : Result Judged Notice)
    → IsClient config.clients me → IsClientOf config me st → IsReplyFor config.clients reply → st.notice ≡ None
    → st.waiting ≡ Some op → judged config.key me (version_at st me) op reply ≡ due
    → IsReplySeen config me st (Some reply) (taken config st op due)
reply-taken config me st reply op (Ok answer) client kept range no_notice waits is =
    reply-fitted config me st reply op answer (first_unfit st answer.next answer.heard config.clients) client kept range no_notice waits is
reply-taken config me st reply op (Err notice) client kept range no_notice waits is =
    reply-breaks config me st (Some reply) notice no_notice

reply-awaited : (config : Config) (me : ℕ) (st : Client) (reply : Reply) (waiting : Option Operation) → IsClient config.clients me
    → IsClientOf config me st → IsReplyFor config.clients reply → st.notice ≡ None → st.waiting ≡ waiting
    → IsReplySeen config me st (Some reply) (awaited config me st reply waiting)
reply-awaited config me st reply None client kept range no_notice is =
    reply-breaks config me st (Some reply) (record { check = 2; place = 0 }) no_notice
reply-awaited config me st reply (Some op) client kept range no_notice is =
    reply-taken config me st reply op (judged config.key me (version_at st me) op reply) client kept range no_notice is refl

reply-received : (config : Config) (me : ℕ) (st : Client) (reply : Option Reply) → IsClient config.clients me
    → IsClientOf config me st → IfSome reply (IsReplyFor config.clients) → st.notice ≡ None
    → IsReplySeen config me st reply (received config me st reply)
reply-received config me st None client kept range no_notice =
    reply-breaks config me st None (record { check = 1; place = 0 }) no_notice
reply-received config me st (Some reply) client kept range no_notice =
    reply-awaited config me st reply st.waiting client kept range no_notice refl

reply-either : (config : Config) (me : ℕ) (st : Client) (reply : Option Reply) → IsClient config.clients me
    → IsClientOf config me st → IfSome reply (IsReplyFor config.clients)
    → IsReplySeen config me st reply (deed_of config me st (replied reply))
unfolding deed_of
reply-either config me st reply client kept range =
    either_way (IsReplySeen config me st reply) (is_none st.notice) (received config me st reply) deeds.Ignores
    (λ none. reply-received config me st reply client kept range (none-of st.notice none))
    (λ some. reply-ignored config me st reply some)

reply-as-seen : (config : Config) (me : ℕ) (st : Client) (bytes : List ℕ) (deed : Deed)
    → IsReplySeen config me st (reply_in config bytes) deed → IsSeen config me st (inputs.Reply bytes) deed
unfolding outcome_of
reply-as-seen config me st bytes deed seen =
    record { bodies = seen.bodies; hashed = seen.hashed; kept = seen.kept; moved_for = seen.moved_for }

-- each input that may come
deed-seen : (config : Config) (me : ℕ) (st : Client) (input : Input) → IsClientCount config.clients → IsClient config.clients me
    → IsClientOf config me st → MayCome config me st input → IsSeen config me st input (deed_at config me st input)
unfolding deed_of
deed-seen config me st (inputs.Write value) count client kept may =
    subst (IsSeen config me st (inputs.Write value)) (sym (cond-true _ _ _ may.idle)) (write-seen config me st value)
deed-seen config me st (inputs.Read register) count client kept may =
    subst (IsSeen config me st (inputs.Read register)) (sym (cond-true _ _ _ may.idle)) (read-seen config me st register)
deed-seen config me st (inputs.Reply bytes) count client kept may =
    reply-as-seen config me st bytes (deed_of config me st (replied (reply_in config bytes)))
    (reply-either config me st (reply_in config bytes) client kept (reply-in_range config bytes count may.bytes_each))
deed-seen config me st (inputs.Peer bytes) count client kept may =
    let event = event_of config me (inputs.Peer bytes) in
    let range = event-in_range config me st (inputs.Peer bytes) count client may in
    peer-seen config me st bytes (deed_of config me st event) client (deed-in_range config me st event client kept range)
    (deed-tells config me st event)
deed-seen config me st (inputs.Tick m) count client kept may =
    either_way (IsSeen config me st (inputs.Tick m)) (is_none st.notice && nat_le st.timers.now m) (deeds.Ticks m) deeds.Ignores
    (λ in_order. ticks-seen config me st m) (λ out_of_order. tick-ignored config me st m)
deed-seen config me st (inputs.Arrive message) count client kept may = arrival-seen config me st message

-- each entry that is a step of its client
pub record IsEntrySeen (config : Config) (me : ℕ) (st : Client) (entry : Entry) : Type 0 where
  pub bodies : bodies_at config me (watched_of me st) entry ≡ bodies_of config me st (deed_at config me st entry.input)
  pub hashed : hashed_at config me (watched_of me st) entry ≡ inputs_at config me st entry.input
  pub kept : watched_then config me (watched_of me st) entry ≡ watched_of me (state_at config me st entry.input)
  pub moved_for : IsMoveFor config.clients (seen_at config me (watched_of me st) entry).moved

record IsOutcomeSeen (config : Config) (me : ℕ) (st : Client) (input : Input) (outcome : Outcome) : Type 0 where
  bodies : bodies_seen me (watched_of me st) (seen_by me (watched_of me st) input outcome (reply_came config input)).moved outcome
      ≡ bodies_of config me st (deed_at config me st input)
  hashed : (seen_by me (watched_of me st) input outcome (reply_came config input)).hashed
      ++ hashed_breaking config.key me (watched_of me st) (reply_came config input) outcome.notice ≡ inputs_at config me st input
  kept : watched_after (watched_of me st) (seen_by me (watched_of me st) input outcome (reply_came config input)).moved
      ≡ watched_of me (state_at config me st input)
  moved_for : IsMoveFor config.clients (seen_by me (watched_of me st) input outcome (reply_came config input)).moved

outcome-seen : (config : Config) (me : ℕ) (st : Client) (input : Input) → IsSeen config me st input (deed_at config me st input)
    → IsOutcomeSeen config me st input (outcome_at config me st input)
unfolding outcome_at state_at
outcome-seen config me st input seen =
    record { bodies = seen.bodies; hashed = seen.hashed; kept = seen.kept; moved_for = seen.moved_for }

pub entry-seen : (config : Config) (me : ℕ) (st : Client) (entry : Entry) → IsClientCount config.clients → IsClient config.clients me
    → IsClientOf config me st → IsStep config me st entry → IsEntrySeen config me st entry
entry-seen config me st entry count client kept step =
    let due = outcome-seen config me st entry.input (deed-seen config me st entry.input count client kept step.may_come) in
    let seen : IsOutcomeSeen config me st entry.input entry.outcome =
    subst (IsOutcomeSeen config me st entry.input) (sym step.outcome_is) due in
    record { bodies = seen.bodies; hashed = seen.hashed; kept = seen.kept; moved_for = seen.moved_for }
