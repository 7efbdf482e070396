-- A client in step is handed the reply that is due to it: it completes its operation, and stays in step.
use Rattle.std.proofs.Common.{◌≡◌, ◌-◌, ◌≤◌, ◌<◌, ◌==◌, ℕ, zero, suc, Bool, true, false, List, [], ◌∷◌, ◌++◌, length, length-set, option_to_list, Option, Some, None, IfSome, refl, sym, ap, ◌∙◌, subst, inl, inr, arith}
use Rattle.std.specs.Prelude.{◌&&◌, Ok, is_none, not, if◌then◌else◌, slice_get, slice_set, unwrap_or, replicate}
use Rattle.std.proofs.lemmas.Bool.{and_parts, cases_eq}
use Rattle.std.proofs.lemmas.List.{append-nil}
use Rattle.std.proofs.lemmas.Option.{same_Some}
use Rattle.faust_types.specs.Clients.{IsClient}
use Rattle.faust_types.specs.Versions.{Vector, digest_at, is_comparable, timestamp_at}
use Rattle.faust_types.specs.Ranges.{IsCommitFor}
use Rattle.faust_types.specs.declared.config.Config.{Config}
use Rattle.faust_types.specs.declared.operation.Operation.{Operation}
use Rattle.faust_types.specs.declared.operation.Notice.{Notice}
use Rattle.faust_types.specs.declared.message.Known.{Known}
use Rattle.faust_types.specs.declared.message.Commit.{Commit}
use Rattle.faust_types.specs.declared.message.ReadPart.{ReadPart}
use Rattle.faust_types.specs.declared.message.Reply.{Reply}
use Rattle.faust_hash.proofs.Lists.{is_same_tells}
use Rattle.faust_tags.specs.Bodies.{commit_body, proof_body, tag_of}
use Rattle.faust_ustor.specs.Checks.{is_digest_proven, judged}
use Rattle.faust_ustor.specs.Passed.{next_of, told, told_of}
use Rattle.faust_ustor.specs.declared.judgement.Judged.{Judged}
use Rattle.faust_ustor.proofs.Passes.{judged-from}
use Rattle.faust_lists.specs.Lists.{count, upto, IsTail}
use Rattle.faust_lists.specs.Walks.{IsVersionOf}
use Rattle.faust_lists.proofs.Counts.{count-own}
use Rattle.faust_lists.proofs.Fronts.{count-upto, upto-stable, upto-tail}
use Rattle.faust_lists.proofs.Tails.{tail-cons, tail-linear}
use Rattle.faust_lists.proofs.Versions.{comparable-along}
use Rattle.faust_honest.specs.World.{World}
use Rattle.faust_agent.specs.State.{completed_count, is_less, slot_in, version_at}
use Rattle.faust_agent.specs.Deeds.{Sent, commits, replied}
use Rattle.faust_agent.specs.InRange.{IsCompletionOf, IsDeedFor}
use Rattle.faust_agent.specs.Table.{awaited, commit_held, commit_of, commit_sent, completed_by, deed_of, first_unfit, fitted, is_fitting, moved_on, own_proof, taken, with_news, with_read, with_slot}
use Rattle.faust_agent.specs.declared.client.Client.{Client}
use Rattle.faust_agent.specs.declared.deed.Completion.{Completion}
use Rattle.faust_agent.specs.declared.deed.Deed.{Deed}
use Rattle.faust_agent.specs.declared.deed.Deed.TheVariants as deeds
use Rattle.faust_agent.proofs.Kept.{commit-in_range, differs, either_way, kept-completed, slot-other, slot-same}
use Rattle.faust_agent.proofs.Reasons.{deed-in_range}
use Rattle.faust_agent.proofs.Slots.{fits-all}
use Rattle.faust_joined.specs.Joined.{IsAwaited, IsCommitMade, IsHeldBack, IsInStep, IsReplyTo, IsWaiting, IsWithin, Lead}
use Rattle.faust_joined.proofs.Queues.{lead-commit, lead-le}

-- what a list has at a place stands within it
pub get-inside : {X : Type 0} (xs : List X) (i : ℕ) (x : X) → slice_get xs i ≡ Some x → i < length xs
get-inside {X} [] i x found = absurd cc
get-inside {X} (y ∷ xs) zero x found = omega arith
get-inside {X} (y ∷ xs) (suc i) x found = omega (arith, get-inside xs i x found)

-- the history when the SUBMIT of the operation arrived
pub record IsBehind (k d : ℕ) (arrived before : List ℕ) : Type 0 where
  pub counted : count k before ≡ d
  pub own_front : upto k d arrived ≡ upto k (count k before) before
  pub with_own : IsTail (k ∷ before) arrived

pub behind-then : (k d : ℕ) (arrived before : List ℕ) → d < count k arrived → upto k (suc d) arrived ≡ k ∷ before
    → IsBehind k d arrived before
behind-then k d arrived before lt arrival =
    let tail : IsTail (k ∷ before) arrived = subst (λ (w : List ℕ). IsTail w arrived) arrival (upto-tail k (suc d) arrived) in
    let inside : suc d ≤ count k arrived = omega (arith, lt) in
    let counted : suc (count k before) ≡ suc d =
    sym (count-own k k before refl) ∙ ap (count k) (sym arrival) ∙ count-upto k (suc d) arrived inside in
    let same : count k before ≡ d = omega (arith, counted) in
    record {
      counted = same;
      own_front = upto-stable k d before arrived (tail-cons k before arrived tail) (omega (arith, same))
          ∙ ap (λ (t : ℕ). upto k t before) (sym same);
      with_own = tail;
    }

-- The operation that a due reply completes, and what the client then does.
pub record IsCompleting (config : Config) (world : World) (arrived : List ℕ) (begun k : ℕ) (st : Client) (reply : Reply) : Type 0 where
  pub op : Operation
  pub waits : st.waiting ≡ Some op
  pub awaited : IsAwaited world k (completed_count k st) begun st.held op
  pub has_arrived : completed_count k st < count k arrived
  pub reply_to : IsReplyTo config.clients world arrived k (suc (completed_count k st)) reply
  pub deed : deed_of config k st (replied (Some reply)) ≡ deeds.Completes (record { op = op; judged = told k reply })

some-waits : (world : World) (k d begun : ℕ) (held : Option Commit) (waiting : Option Operation) → d < begun
    → IsWaiting world k d begun held waiting → (op : Operation) × (waiting ≡ Some op) × IsAwaited world k d begun held op
some-waits world k d begun held None more waits = absurd (omega (arith, more, waits))
some-waits world k d begun held (Some op) more waits = (op, refl, waits)

-- the versions that it brings fit
fits-next : (next v : Vector) (heard : Option Known) → is_comparable next v ≡ true
    → IfSome heard (λ (known : Known). is_comparable known.version v ≡ true) → is_fitting next heard v ≡ true
fits-next next v None fits heard = fits
fits-next next v (Some known) fits heard = ap (λ (b : Bool). b && is_comparable known.version v) fits ∙ heard

along : (n : ℕ) (arrived : List ℕ) (v w : Vector) → IsWithin n arrived v → IsWithin n arrived w → is_comparable v w ≡ true
along n arrived v w h i =
    comparable-along n v w h.history i.history h.is_version i.is_version (tail-linear h.history i.history arrived h.within i.within)

pub within-comparable : (n : ℕ) (arrived : List ℕ) (v w : Vector) → IsWithin n arrived v → IsWithin n arrived w
    → is_comparable v w ≡ true
within-comparable n arrived v w h i = along n arrived v w h i

heard-within : (n : ℕ) (arrived : List ℕ) (next : Vector) (read : Option ReadPart)
    → IfSome read (λ (part : ReadPart). IsWithin n arrived part.version.version)
    → IfSome (told_of next read).heard (λ (known : Known). IsWithin n arrived known.version)
heard-within n arrived next None within = tt
heard-within n arrived next (Some part) within = within

heard-fits : (n : ℕ) (arrived : List ℕ) (v : Vector) (heard : Option Known) → IsWithin n arrived v
    → IfSome heard (λ (known : Known). IsWithin n arrived known.version)
    → IfSome heard (λ (known : Known). is_comparable known.version v ≡ true)
heard-fits n arrived v None slot within = tt
heard-fits n arrived v (Some known) slot within = along n arrived known.version v within slot

next-told : (next : Vector) (read : Option ReadPart) → (told_of next read).next ≡ next
next-told next None = refl
next-told next (Some part) = refl

completes-by : (config : Config) (k : ℕ) (st : Client) (reply : Reply) (op : Operation) (answer : Judged) → st.notice ≡ None
    → st.waiting ≡ Some op → judged config.key k (version_at st k) op reply ≡ Ok answer
    → first_unfit st answer.next answer.heard config.clients ≡ None
    → deed_of config k st (replied (Some reply)) ≡ deeds.Completes (record { op = op; judged = answer })
unfolding deed_of
completes-by config k st reply op answer no_notice waits passes fits =
    ap (λ (notice : Option Notice). if is_none notice then awaited config k st reply st.waiting else deeds.Ignores) no_notice
    ∙ ap (awaited config k st reply) waits
    ∙ ap (taken config st op) passes
    ∙ ap (fitted op answer) fits

pub completing : (config : Config) (world : World) (arrived : List ℕ) (committed begun k : ℕ) (st : Client) (queue : List Sent)
    (given : List Reply) (handed : ℕ) (reply : Reply) → world.key ≡ config.key
    → IsInStep config world arrived committed begun k st queue given handed → slice_get given handed ≡ Some reply
    → IsCompleting config world arrived begun k st reply
completing config world arrived committed begun k st queue given handed reply keys h found =
    let n = config.clients in
    let d : ℕ = completed_count k st in
    let lt : d < count k arrived =
    omega (arith, get-inside given handed reply found, h.given_each, h.handed_each) in
    let due = h.due lt in
    let at_d : slice_get given d ≡ Some reply = ap (slice_get given) (sym h.handed_each) ∙ found in
    let same : due.0 ≡ reply = same_Some due.0 reply (sym due.1 ∙ at_d) in
    let reply_to : IsReplyTo n world arrived k (suc d) reply =
    subst (λ (r : Reply). IsReplyTo n world arrived k (suc d) r) same due.2 in
    let more : d < begun =
    omega (arith, lt, lead-le config world arrived k (count k arrived) committed queue begun h.all_committed h.leads) in
    let waits = some-waits world k d begun st.held st.waiting more h.waiting in
    let op : Operation = waits.0 in
    let before : List ℕ = reply_to.before in
    let behind : IsBehind k d arrived before = behind-then k d arrived before lt reply_to.arrived_then in
    let own : IsVersionOf n (version_at st k) (upto k (count k before) before) =
    subst (λ (w : List ℕ). IsVersionOf n (version_at st k) w) behind.own_front h.own in
    let kind : op.kind ≡ world.kind k (suc (count k before)) =
    waits.2.same_kind ∙ ap (λ (x : ℕ). world.kind k (suc x)) (sym behind.counted) in
    let register : op.register ≡ world.register k (suc (count k before)) =
    waits.2.same_register ∙ ap (λ (x : ℕ). world.register k (suc x)) (sym behind.counted) in
    let passes : judged config.key k (version_at st k) op reply ≡ Ok (told k reply) =
    subst (λ (key : List ℕ). judged key k (version_at st k) op reply ≡ Ok (told k reply)) keys
    (judged-from world.key k (version_at st k) op reply (reply_to.accepted.passed (version_at st k) op own kind register)) in
    let next : Vector = next_of k reply in
    let next_within : IsWithin n arrived (told_of next reply.read).next =
    subst (IsWithin n arrived) (sym (next-told next reply.read))
    (record { history = k ∷ before; is_version = reply_to.accepted.next; within = behind.with_own }) in
    let heard = heard-within n arrived next reply.read reply_to.read_within in
    let fits : first_unfit st (told k reply).next (told k reply).heard n ≡ None =
    fits-all st (told k reply).next (told k reply).heard n (λ j client.
    fits-next (told k reply).next (version_at st j) (told k reply).heard
    (along n arrived (told k reply).next (version_at st j) next_within (h.within j client))
    (heard-fits n arrived (version_at st j) (told k reply).heard (h.within j client) heard)) in
    record {
      op = op;
      waits = waits.1;
      awaited = waits.2;
      has_arrived = lt;
      reply_to = reply_to;
      deed = completes-by config k st reply op (told k reply) h.no_notice waits.1 passes fits;
    }

-- a version that a read brings
pub read-kept : {X : Type 0} (F : Client → X) (me : ℕ) (st : Client) (j : ℕ) (heard : Option Known)
    → ((known : Known) → F (with_news (with_slot st j known) j) ≡ F st) → F (with_read me st j heard) ≡ F st
read-kept {X} F me st j None same = refl
read-kept {X} F me st j (Some known) same =
    either_way (λ (c : Client). F c ≡ F st) (not (j == me) && is_less (version_at st j) known.version)
    (with_news (with_slot st j known) j) st (λ newer. same known) (λ older. refl)

read-own : (n me : ℕ) (st : Client) (j : ℕ) (heard : Option Known) → IsClient n me → IsClient n j
    → version_at (with_read me st j heard) me ≡ version_at st me
read-own n me st j None client within = refl
read-own n me st j (Some known) client within =
    either_way (λ (c : Client). version_at c me ≡ version_at st me) (not (j == me) && is_less (version_at st j) known.version)
    (with_news (with_slot st j known) j) st
    (λ newer. ap (λ (x : Known). x.version) (slot-other n st.heard j known me within client
    (λ same. differs j me (and_parts _ _ newer).0 (sym same))))
    (λ older. refl)

pub slot-within : (n : ℕ) (arrived : List ℕ) (st : Client) (j : ℕ) (known : Known) → length st.heard ≡ n → IsClient n j
    → ((i : ℕ) → IsClient n i → IsWithin n arrived (version_at st i)) → IsWithin n arrived known.version
    → (i : ℕ) → IsClient n i → IsWithin n arrived (version_at (with_slot st j known) i)
slot-within n arrived st j known counted client slots within i at = elim (cases_eq i j) [
  | inl same ↦ subst (λ (x : ℕ). IsWithin n arrived (slot_in (slice_set st.heard (j - 1) known) x).version) (sym same)
      (subst (λ (x : Known). IsWithin n arrived x.version) (sym (slot-same n st.heard j known counted client)) within)
  | inr other ↦ subst (λ (x : Known). IsWithin n arrived x.version) (sym (slot-other n st.heard j known i client at other)) (slots i at)
]

read-within : (n : ℕ) (arrived : List ℕ) (me : ℕ) (st : Client) (j : ℕ) (heard : Option Known) → length st.heard ≡ n → IsClient n j
    → ((i : ℕ) → IsClient n i → IsWithin n arrived (version_at st i))
    → IfSome heard (λ (known : Known). IsWithin n arrived known.version)
    → (i : ℕ) → IsClient n i → IsWithin n arrived (version_at (with_read me st j heard) i)
read-within n arrived me st j None counted client slots within i at = slots i at
read-within n arrived me st j (Some known) counted client slots within i at =
    either_way (λ (c : Client). IsWithin n arrived (version_at c i)) (not (j == me) && is_less (version_at st j) known.version)
    (with_news (with_slot st j known) j) st
    (λ newer. slot-within n arrived st j known counted client slots within i at)
    (λ older. slots i at)

-- the COMMIT of the new version
proven-by : (key : List ℕ) (k : ℕ) (digest : Option (List ℕ))
    → is_digest_proven key k digest (Some (tag_of key (proof_body k (unwrap_or digest (replicate 32 0))))) ≡ true
proven-by key k None = refl
proven-by key k (Some d) = (is_same_tells (tag_of key (proof_body k d)) (tag_of key (proof_body k d))).1 refl

commit-made : (config : Config) (world : World) (arrived : List ℕ) (k t : ℕ) (next : Vector) → world.key ≡ config.key
    → t ≤ count k arrived → IsVersionOf config.clients next (upto k t arrived)
    → IsCommitMade config.clients world arrived k t (commit_of config k next)
commit-made config world arrived k t next keys le version = record {
  has_arrived = le;
  is_commit = record {
    version = version;
    commit_right = ap (λ (key : List ℕ). tag_of key (commit_body k next)) (sym keys);
    proof_right = subst (λ (key : List ℕ). is_digest_proven key k (digest_at next k) (Some (own_proof config k next)) ≡ true) (sym keys)
        (proven-by config.key k (digest_at next k));
  };
}

-- it goes to the server, or is held
pub record IsPassedOn (config : Config) (world : World) (arrived : List ℕ) (committed begun k done : ℕ) (queue : List Sent)
    (held : Option Commit) : Type 0 where
  pub all_committed : ℕ
  pub held_back : IsHeldBack config.clients world arrived k done all_committed held
  pub leads : Lead config world arrived k (count k arrived) committed queue begun all_committed

passed-on : (config : Config) (world : World) (arrived : List ℕ) (committed begun k done all : ℕ) (queue : List Sent)
    (c : Commit) (b : Bool)
    → Lead config world arrived k (count k arrived) committed queue begun all → begun ≡ done → done ≡ suc all
    → IsCommitMade config.clients world arrived k done c
    → IsCommitFor config.clients c
    → IsPassedOn config world arrived committed begun k done (queue ++ option_to_list (if b then Some (commits c) else None))
    (if b then None else Some c)
passed-on config world arrived committed begun k done all queue c true leads last next made range = record {
  all_committed = suc all;
  held_back = sym next;
  leads = lead-commit config world arrived k (count k arrived) committed queue begun all c leads (record {
    in_range = range;
    balanced = last ∙ next;
    is_made = subst (λ (t : ℕ). IsCommitMade config.clients world arrived k t c) (sym last) made;
  });
}
passed-on config world arrived committed begun k done all queue c false leads last next made range = record {
  all_committed = all;
  held_back = (sym next, made);
  leads = subst (λ (q : List Sent). Lead config world arrived k (count k arrived) committed q begun all) (sym (append-nil queue)) leads;
}

pub completed-in_step : (config : Config) (world : World) (arrived : List ℕ) (committed begun k : ℕ) (st : Client) (queue : List Sent)
    (given : List Reply) (handed : ℕ) (reply : Reply) → world.key ≡ config.key → IsClient config.clients k
    → (h : IsInStep config world arrived committed begun k st queue given handed)
    → (completes : IsCompleting config world arrived begun k st reply)
    → IsInStep config world arrived committed begun k
    (completed_by config k st (record { op = completes.op; judged = told k reply }))
    (queue ++ option_to_list (commit_sent config k (told k reply).next)) given (suc handed)
completed-in_step config world arrived committed begun k st queue given handed reply keys client h completes =
    let n = config.clients in
    let d : ℕ = completed_count k st in
    let op : Operation = completes.op in
    let done : Completion = record { op = op; judged = told k reply } in
    let next : Vector = (told k reply).next in
    let before : List ℕ = completes.reply_to.before in
    let behind : IsBehind k d arrived before = behind-then k d arrived before completes.has_arrived completes.reply_to.arrived_then in
    let version : IsVersionOf n next (k ∷ before) =
    subst (λ (v : Vector). IsVersionOf n v (k ∷ before)) (sym (next-told (next_of k reply) reply.read)) completes.reply_to.accepted.next in
    let fits : IsCompletionOf config k st done =
    subst (λ (x : Deed). IsDeedFor config k st x) completes.deed
    (deed-in_range config k st (replied (Some reply)) client h.in_range completes.reply_to.in_range) in
    let moved : Client = moved_on config k st next in
    let now : Client = completed_by config k st done in
    let own_slot : version_at moved k ≡ next =
    ap (λ (x : Known). x.version) (slot-same n st.heard k _ h.in_range.versions.counted client) in
    let own_now : version_at now k ≡ next =
    read-own n k moved op.register (told k reply).heard client fits.register_in_range ∙ own_slot in
    let count_now : completed_count k now ≡ suc d =
    ap (λ (v : Vector). timestamp_at v k) own_now ∙ version.timestamps k client ∙ count-own k k before refl
    ∙ ap (λ (x : ℕ). suc x) behind.counted in
    let front : upto k (completed_count k now) arrived ≡ k ∷ before =
    ap (λ (t : ℕ). upto k t arrived) count_now ∙ completes.reply_to.arrived_then in
    let next_within : IsWithin n arrived next = record { history = k ∷ before; is_version = version; within = behind.with_own } in
    let slots : (j : ℕ) → IsClient n j → IsWithin n arrived (version_at moved j) =
    slot-within n arrived (record st { waiting = None; held = commit_held config k st next }) k _ h.in_range.versions.counted client
    h.within next_within in
    let no_held : st.held ≡ None = completes.awaited.none_held in
    let all_is : h.all_committed ≡ d =
    subst (IsHeldBack n world arrived k d h.all_committed) no_held h.held_back in
    let made : IsCommitMade n world arrived k (suc d) (commit_of config k next) =
    commit-made config world arrived k (suc d) next keys (omega (arith, completes.has_arrived))
    (subst (IsVersionOf n next) (sym completes.reply_to.arrived_then) version) in
    let passed : IsPassedOn config world arrived committed begun k (suc d) (queue ++ option_to_list (commit_sent config k next))
    (if config.wire == 1 then None else Some (commit_of config k next)) =
    passed-on config world arrived committed begun k (suc d) h.all_committed queue (commit_of config k next) (config.wire == 1)
    h.leads completes.awaited.is_last (omega (arith, all_is)) made
    (commit-in_range config k next fits.judged_in_range.next_in_range fits.judged_in_range.next_made) in
    let held_is : (if config.wire == 1 then None else Some (commit_of config k next)) ≡ now.held =
    ap (λ (held : Option Commit). if config.wire == 1 then held else Some (commit_of config k next)) (sym no_held)
    ∙ sym (read-kept (λ (c : Client). c.held) k moved op.register (told k reply).heard (λ known. refl)) in
    let waiting_is : now.waiting ≡ None = read-kept (λ (c : Client). c.waiting) k moved op.register (told k reply).heard (λ known. refl) in
    let arrived_le : count k arrived ≤ begun =
    lead-le config world arrived k (count k arrived) committed queue begun h.all_committed h.leads in
    record {
      in_range = kept-completed config k st done h.in_range client fits;
      no_notice = read-kept (λ (c : Client). c.notice) k moved op.register (told k reply).heard (λ known. refl) ∙ h.no_notice;
      has_arrived = omega (arith, count_now, completes.has_arrived);
      own = subst (λ (v : Vector). IsVersionOf n v (upto k (completed_count k now) arrived)) (sym own_now)
          (subst (IsVersionOf n next) (sym front) version);
      within = read-within n arrived k moved op.register (told k reply).heard (length-set st.heard (k - 1) _ ∙ h.in_range.versions.counted)
          fits.register_in_range slots (heard-within n arrived (next_of k reply) reply.read completes.reply_to.read_within);
      waiting = subst (IsWaiting world k (completed_count k now) begun now.held) (sym waiting_is)
          (completes.awaited.is_last ∙ sym count_now);
      last = read-kept (λ (c : Client). c.last) k moved op.register (told k reply).heard (λ known. refl) ∙ h.last;
      all_committed = passed.all_committed;
      held_back = subst (λ (x : ℕ). IsHeldBack n world arrived k x passed.all_committed now.held) (sym count_now)
          (subst (IsHeldBack n world arrived k (suc d) passed.all_committed) held_is passed.held_back);
      leads = passed.leads;
      given_each = h.given_each;
      handed_each = ap (λ (x : ℕ). suc x) h.handed_each ∙ sym count_now;
      due = λ lt. absurd (omega (arith, lt, count_now, arrived_le, completes.awaited.is_last));
    }
