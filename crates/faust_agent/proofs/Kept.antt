-- Each row of the table keeps what every client keeps.
use Rattle.std.proofs.Common.{Result, Ok, Err, ◌≡◌, ℕ, ◌+◌, ◌-◌, ◌^◌, ◌<◌, ◌==◌, ◌&&◌, is_none, suc, zero, Bool, true, false, not, cond, Option, Some, None, List, length, IfSome, IsNone, replicate, nat_lt, refl, sym, ap, ◌∙◌, subst, inl, inr, arith}
use Rattle.std.proofs.lemmas.Bool.{and_parts, cases_eq, ltb-true, true≢false, eq-eqb}
use Rattle.std.proofs.lemmas.List.{get_or-set_other, get_or-replicate, length-set, length-replicate}
use Rattle.std.proofs.lemmas.Grind.{get_or-set_at}
use Rattle.std.specs.Prelude.{slice_set}
use Rattle.faust_types.specs.Clients.{IsClientCount, IsClient}
use Rattle.faust_types.specs.Versions.{Vector, clients_of, is_initial}
use Rattle.faust_types.specs.Messages.{unmade}
use Rattle.faust_types.specs.Ranges.{IsAnnouncedFor, IsCommitFor, IsKnownBy, IsVersionFor}
use Rattle.faust_types.proofs.Messages.{IsKnownBy-unmade, is_initial-initial}
use Rattle.faust_types.specs.declared.config.Config.{Config}
use Rattle.faust_types.specs.declared.message.Known.{Known}
use Rattle.faust_types.specs.declared.message.Commit.{Commit}
use Rattle.faust_types.specs.declared.out_of_memory.OutOfMemory.{OutOfMemory}
use Rattle.faust_types.specs.declared.outcome.Outcome.{Outcome}
use Rattle.faust_tags.proofs.Sizes.{digest-tag}
use Rattle.faust_tags.specs.Bodies.{commit_body, proof_body}
use Rattle.faust_agent.specs.State.{completed_count, first_client, is_idle, is_less, other_register_after, register_after, slot_in, version_at}
use Rattle.faust_agent.specs.Table.{after, begun_by, begun_or_released, commit_held, commit_of, completed_by, dummy_of, heard_by, held_after, is_dummy_due, is_probe_due, moved_on, news_up_to, own_digest, own_tag, raised, ticked_by, timers_after, with_news, with_read, with_slot}
use Rattle.faust_agent.specs.Outcomes.{Does}
use Rattle.faust_agent.specs.InRange.{HoldsEach, IsBegunFor, IsClientOf, IsCompletionOf, IsDeedFor, IsHeardFor, IsOther, IsWaitedFor}
use Rattle.faust_agent.specs.declared.client.Client.{Client}
use Rattle.faust_agent.specs.declared.client.Timers.{Timers}
use Rattle.faust_agent.specs.declared.deed.Order.{Order}
use Rattle.faust_agent.specs.declared.deed.Completion.{Completion}
use Rattle.faust_agent.specs.declared.deed.Deed.{Deed}
use Rattle.faust_agent.specs.declared.deed.Deed.TheVariants as deeds

-- what holds in both cases of a choice
pub either_way : {X : Type 0} (P : X → Type 0) (b : Bool) (x y : X) → (b ≡ true → P x) → (b ≡ false → P y) → P (cond b x y)
either_way P true x y holds fails = holds refl
either_way P false x y holds fails = fails refl

-- a test that two numbers differ
pub differs : (a b : ℕ) → not (a == b) ≡ true → a ≡ b → ⊥
differs a b h e = true≢false (sym h ∙ ap not (eq-eqb a b e))

-- a version that its maker says may be said by any client
pub announced-known : (n maker : ℕ) (known : Known) → IsClient n maker → IsKnownBy n maker known → IsAnnouncedFor n known
announced-known n maker known client known_by = record {
  known_by = record {
    version_in_range = known_by.version_in_range;
    tag_sized = known_by.tag_sized;
    unsigned = known_by.unsigned;
    signed = λ made. refl;
  };
  maker_in_range = λ made. subst (λ (k : ℕ). IsClient n k) (sym (known_by.signed made)) client;
}

-- the own version with its tag
pub announced-own : (config : Config) (me : ℕ) (next : Vector) → IsClient config.clients me → IsVersionFor config.clients next
    → is_initial next ≡ false → IsAnnouncedFor config.clients (record { maker = me; version = next; tag = own_tag config me next })
announced-own config me next client range made = announced-known config.clients me _ client (record {
  version_in_range = range;
  tag_sized = digest-tag config.key (commit_body me next);
  unsigned = λ not_made. absurd (true≢false (sym not_made ∙ made));
  signed = λ is. refl;
})

-- the COMMIT of an own version
pub commit-in_range : (config : Config) (me : ℕ) (next : Vector) → IsVersionFor config.clients next → is_initial next ≡ false
    → IsCommitFor config.clients (commit_of config me next)
commit-in_range config me next range made = record {
  version_in_range = range;
  not_initial = made;
  commit_tag_sized = digest-tag config.key (commit_body me next);
  proof_tag_sized = digest-tag config.key (proof_body me (own_digest me next));
}

-- the number of clients of a version that is held
pub slot-sized : (n : ℕ) (heard : List Known) (k : ℕ) → HoldsEach n heard → IsClient n k → clients_of (slot_in heard k).version ≡ n
slot-sized n heard k holds client = (holds.in_range k client).known_by.version_in_range.count

-- another version in one place
pub slot-same : (n : ℕ) (heard : List Known) (j : ℕ) (known : Known) → length heard ≡ n → IsClient n j
    → slot_in (slice_set heard (j - 1) known) j ≡ known
slot-same n heard j known counted client =
    get_or-set_at heard (j - 1) (j - 1) known (unmade 0) refl (omega (arith, client.from_one, client.to_n, counted))

pub slot-other : (n : ℕ) (heard : List Known) (j : ℕ) (known : Known) (k : ℕ) → IsClient n j → IsClient n k → (k ≡ j → ⊥)
    → slot_in (slice_set heard (j - 1) known) k ≡ slot_in heard k
slot-other n heard j known k client within ne =
    let apart : k - 1 ≡ j - 1 → ⊥ = λ e. ne (omega (arith, client.from_one, within.from_one)) in
    get_or-set_other heard (j - 1) (k - 1) known (unmade 0) apart

pub holds-set : (n : ℕ) (heard : List Known) (j : ℕ) (known : Known) → HoldsEach n heard → IsClient n j → IsAnnouncedFor n known
    → HoldsEach n (slice_set heard (j - 1) known)
holds-set n heard j known holds client range = record {
  count = holds.count;
  counted = length-set heard (j - 1) known ∙ holds.counted;
  in_range = λ k within. elim (cases_eq k j) [
    | inl e ↦ subst (λ (i : ℕ). IsAnnouncedFor n (slot_in (slice_set heard (j - 1) known) i)) (sym e)
        (subst (IsAnnouncedFor n) (sym (slot-same n heard j known holds.counted client)) range)
    | inr ne ↦ subst (IsAnnouncedFor n) (sym (slot-other n heard j known k client within ne)) (holds.in_range k within)
  ];
}

-- another version of another client, and news of it
pub kept-slot : (config : Config) (me : ℕ) (st : Client) (j : ℕ) (known : Known) → IsClientOf config me st → IsClient config.clients me
    → IsOther config.clients me j → IsAnnouncedFor config.clients known → IsClientOf config me (with_slot st j known)
kept-slot config me st j known kept client other range =
    let n = config.clients in
    let same : slot_in st.heard me ≡ slot_in (slice_set st.heard (j - 1) known) me =
    sym (slot-other n st.heard j known me other.in_range client (λ e. other.differs (sym e))) in
    record {
      versions = holds-set n st.heard j known kept.versions other.in_range range;
      news_counted = kept.news_counted;
      next_in_range = kept.next_in_range;
      waiting_in_range = subst (λ (own : Known). IfSome st.waiting (IsWaitedFor n me own.version)) same kept.waiting_in_range;
      notice_in_range = kept.notice_in_range;
      held_in_range = kept.held_in_range;
      held_under_wire_2 = kept.held_under_wire_2;
    }

pub kept-timers : (config : Config) (me : ℕ) (st : Client) (timers : Timers) → IsClientOf config me st
    → length timers.news ≡ config.clients → IsClient config.clients timers.next_dummy → IsClientOf config me (record st { timers = timers })
kept-timers config me st timers kept counted next = record {
  versions = kept.versions;
  news_counted = counted;
  next_in_range = next;
  waiting_in_range = kept.waiting_in_range;
  notice_in_range = kept.notice_in_range;
  held_in_range = kept.held_in_range;
  held_under_wire_2 = kept.held_under_wire_2;
}

pub kept-news : (config : Config) (me : ℕ) (st : Client) (j : ℕ) → IsClientOf config me st → IsClientOf config me (with_news st j)
kept-news config me st j kept =
    kept-timers config me st _ kept (length-set st.timers.news (j - 1) st.timers.now ∙ kept.news_counted) kept.next_in_range

-- an idle client has a next number
pub idle-room : (me : ℕ) (st : Client) → is_idle me st ≡ true → completed_count me st + 1 < 2 ^ 40
idle-room me st idle =
    let free : Bool = is_none st.waiting && is_none st.notice in
    ltb-true (completed_count me st + 1) (2 ^ 40) (and_parts free (nat_lt (completed_count me st + 1) (2 ^ 40)) idle).1

-- Begin
pub kept-begun : (config : Config) (me : ℕ) (st : Client) (order : Order) → IsClientOf config me st → IsClient config.clients me
    → IsBegunFor config me st order → IsClientOf config me (begun_by me st order)
kept-begun config me st order kept client begun =
    let room : completed_count me st + 1 < 2 ^ 40 = idle-room me st begun.idle in
    let sized : clients_of (version_at st me) ≡ config.clients = slot-sized config.clients st.heard me kept.versions client in
    record {
      versions = kept.versions;
      news_counted = kept.news_counted;
      next_in_range = kept.next_in_range;
      waiting_in_range = record {
        pending = record {
          client_in_range = record { from_one = client.from_one; to_n = omega (arith, client.to_n, sized) };
          number = refl;
          below = room;
        };
        register_in_range = begun.order_in_range.register_in_range;
      };
      notice_in_range = kept.notice_in_range;
      held_in_range = tt;
      held_under_wire_2 = λ one. refl;
    }

-- Reply
pub held-in_range : (config : Config) (me : ℕ) (st : Client) (next : Vector) → IsClientOf config me st → IsVersionFor config.clients next
    → is_initial next ≡ false → IfSome (commit_held config me st next) (IsCommitFor config.clients)
held-in_range config me st next kept range made =
    let fits : Option Commit → Type 0 = λ (held : Option Commit). IfSome held (IsCommitFor config.clients) in
    either_way fits (config.wire == 1) st.held (Some (commit_of config me next))
    (λ one. kept.held_in_range) (λ two. commit-in_range config me next range made)

pub held-for_wire : (config : Config) (me : ℕ) (st : Client) (next : Vector) → IsClientOf config me st → config.wire ≡ 1
    → IsNone (commit_held config me st next)
held-for_wire config me st next kept one =
    either_way (λ (held : Option Commit). IsNone held) (config.wire == 1) st.held (Some (commit_of config me next))
    (λ is. kept.held_under_wire_2 one) (λ is_not. absurd (true≢false (sym (eq-eqb config.wire 1 one) ∙ is_not)))

pub kept-moved : (config : Config) (me : ℕ) (st : Client) (next : Vector) → IsClientOf config me st → IsClient config.clients me
    → IsVersionFor config.clients next → is_initial next ≡ false → IsClientOf config me (moved_on config me st next)
kept-moved config me st next kept client range made = record {
  versions = holds-set config.clients st.heard me _ kept.versions client (announced-own config me next client range made);
  news_counted = kept.news_counted;
  next_in_range = kept.next_in_range;
  waiting_in_range = tt;
  notice_in_range = kept.notice_in_range;
  held_in_range = held-in_range config me st next kept range made;
  held_under_wire_2 = held-for_wire config me st next kept;
}

pub kept-read : (config : Config) (me : ℕ) (st : Client) (j : ℕ) (heard : Option Known) → IsClientOf config me st
    → IsClient config.clients me → IsClient config.clients j → IfSome heard (IsKnownBy config.clients j)
    → IsClientOf config me (with_read me st j heard)
kept-read config me st j None kept client within range = kept
kept-read config me st j (Some known) kept client within range =
    either_way (IsClientOf config me) (not (j == me) && is_less (version_at st j) known.version) (with_news (with_slot st j known) j) st
    (λ newer. let other : IsOther config.clients me j = record { in_range = within; differs = differs j me (and_parts _ _ newer).0 } in
    let said = announced-known config.clients j known within range in
    kept-news config me (with_slot st j known) j (kept-slot config me st j known kept client other said))
    (λ older. kept)

pub kept-completed : (config : Config) (me : ℕ) (st : Client) (done : Completion) → IsClientOf config me st → IsClient config.clients me
    → IsCompletionOf config me st done → IsClientOf config me (completed_by config me st done)
kept-completed config me st done kept client completes =
    let judged = completes.judged_in_range in
    let moved = kept-moved config me st done.judged.next kept client judged.next_in_range judged.next_made in
    kept-read config me (moved_on config me st done.judged.next) done.op.register done.judged.heard moved client
    completes.register_in_range judged.heard_known

-- Peer message
pub kept-heard : (config : Config) (me : ℕ) (st : Client) (j : ℕ) (known : Known) → IsClientOf config me st → IsClient config.clients me
    → IsHeardFor config me j known → IsClientOf config me (heard_by st j known)
kept-heard config me st j known kept client heard =
    kept-news config me (raised st j known) j
    (either_way (IsClientOf config me) (is_less (version_at st j) known.version) (with_slot st j known) st
    (λ newer. kept-slot config me st j known kept client heard.from_another heard.known_in_range) (λ older. kept))

-- Tick
pub news-counted : (config : Config) (me : ℕ) (st : Client) (m k : ℕ) → length (news_up_to config me st m k) ≡ length st.timers.news
news-counted config me st m zero = refl
news-counted config me st m (suc k) =
    let before : length (news_up_to config me st m k) ≡ length st.timers.news = news-counted config me st m k in
    either_way (λ (news : List ℕ). length news ≡ length st.timers.news) (is_probe_due config me st m (suc k))
    (slice_set (news_up_to config me st m k) (suc k - 1) m) (news_up_to config me st m k)
    (λ due. length-set (news_up_to config me st m k) (suc k - 1) m ∙ before) (λ not_due. before)

pub register-in_range : (n r : ℕ) → IsClientCount n → IsClient n r → IsClient n (register_after n r)
register-in_range n r count client =
    either_way (IsClient n) (r == n) 1 (r + 1)
    (λ last. record { from_one = omega arith; to_n = omega (arith, count.at_least_two) })
    (λ inner. let ne : r ≡ n → ⊥ = λ e. true≢false (sym (eq-eqb r n e) ∙ inner) in
    record { from_one = omega arith; to_n = omega (arith, client.to_n, ne) })

pub other_register-in_range : (n me r : ℕ) → IsClientCount n → IsClient n me → IsClient n r → IsClient n (other_register_after n me r)
other_register-in_range n me r count client register =
    either_way (IsClient n) (register_after n r == me) (register_after n me) (register_after n r)
    (λ own. register-in_range n me count client) (λ other. register-in_range n r count register)

pub kept-released : (config : Config) (me : ℕ) (st : Client) → IsClientOf config me st
    → IsClientOf config me (record st { held = held_after st })
kept-released config me st kept = record {
  versions = kept.versions;
  news_counted = kept.news_counted;
  next_in_range = kept.next_in_range;
  waiting_in_range = kept.waiting_in_range;
  notice_in_range = kept.notice_in_range;
  held_in_range = either_way (λ (held : Option Commit). IfSome held (IsCommitFor config.clients)) (is_none st.waiting) None st.held
      (λ none. tt) (λ some. kept.held_in_range);
  held_under_wire_2 = λ one. either_way (λ (held : Option Commit). IsNone held) (is_none st.waiting) None st.held
      (λ none. refl) (λ some. kept.held_under_wire_2 one);
}

pub dummy-begun : (config : Config) (me : ℕ) (st : Client) → IsClientOf config me st → is_idle me st ≡ true
    → IsBegunFor config me st (dummy_of st)
dummy-begun config me st kept idle = record {
  idle = idle;
  order_in_range = record { register_in_range = kept.next_in_range; value_in_range = refl };
}

pub kept-ticked : (config : Config) (me : ℕ) (st : Client) (m : ℕ) → IsClientOf config me st → IsClient config.clients me
    → IsClientOf config me (ticked_by config me st m)
kept-ticked config me st m kept client =
    let n = config.clients in
    let due = is_dummy_due config me st m in
    let acted : IsClientOf config me (begun_or_released config me st m) =
    either_way (IsClientOf config me) due (begun_by me st (dummy_of st)) (record st { held = held_after st })
    (λ now. kept-begun config me st (dummy_of st) kept client (dummy-begun config me st kept (and_parts _ _ now).0))
    (λ later. kept-released config me st kept) in
    kept-timers config me (begun_or_released config me st m) (timers_after config me st m) acted
    (news-counted config me st m n ∙ kept.news_counted)
    (either_way (IsClient n) due (other_register_after n me st.timers.next_dummy) st.timers.next_dummy
    (λ now. other_register-in_range n me st.timers.next_dummy kept.versions.count client kept.next_in_range) (λ later. kept.next_in_range))

-- a client does what it can do, and what it holds then is what every client keeps
pub kept-after : (config : Config) (me : ℕ) (st : Client) (deed : Deed) → IsClient config.clients me → IsClientOf config me st
    → IsDeedFor config me st deed → IsClientOf config me (after config me st deed)
kept-after config me st deeds.Ignores client kept fits = kept
kept-after config me st (deeds.Begins order) client kept fits = kept-begun config me st order kept client fits
kept-after config me st (deeds.Completes done) client kept fits = kept-completed config me st done kept client fits
kept-after config me st (deeds.Breaks notice) client kept fits = record {
  versions = kept.versions;
  news_counted = kept.news_counted;
  next_in_range = kept.next_in_range;
  waiting_in_range = kept.waiting_in_range;
  notice_in_range = fits;
  held_in_range = kept.held_in_range;
  held_under_wire_2 = kept.held_under_wire_2;
}
kept-after config me st (deeds.Answers j) client kept fits = kept
kept-after config me st (deeds.Hears j known) client kept fits = kept-heard config me st j known kept client fits
kept-after config me st (deeds.Ticks m) client kept fits = kept-ticked config me st m kept client

-- so what it holds after doing it is
pub does-kept : (config : Config) (me : ℕ) (old new : Client) (deed : Deed) (result : Result Outcome OutOfMemory) (given : Outcome)
    → IsClient config.clients me → IsClientOf config me old → IsDeedFor config me old deed
    → Does result old new (after config me old deed) given → IsClientOf config me new
does-kept config me old new deed (Ok outcome) given client kept fits done =
    subst (IsClientOf config me) (sym done.0) (kept-after config me old deed client kept fits)
does-kept config me old new deed (Err e) given client kept fits done = subst (IsClientOf config me) (sym done) kept

-- the first state
pub holds-first : (n : ℕ) → IsClientCount n → HoldsEach n (replicate n (unmade n))
holds-first n count = record {
  count = count;
  counted = length-replicate n (unmade n);
  in_range = λ k client.
      let same : slot_in (replicate n (unmade n)) k ≡ unmade n =
      get_or-replicate n (k - 1) (unmade n) (unmade 0) (omega (arith, client.from_one, client.to_n)) in
      let first : IsAnnouncedFor n (unmade n) = record {
        known_by = IsKnownBy-unmade n 0 count;
        maker_in_range = λ made. absurd (true≢false (sym (is_initial-initial n count) ∙ made));
      } in
      subst (IsAnnouncedFor n) (sym same) first;
}

pub kept-first : (config : Config) (me : ℕ) → IsClientCount config.clients → IsClient config.clients me
    → IsClientOf config me (first_client config.clients me)
kept-first config me count client = record {
  versions = holds-first config.clients count;
  news_counted = length-replicate config.clients 0;
  next_in_range = register-in_range config.clients me count client;
  waiting_in_range = tt;
  notice_in_range = tt;
  held_in_range = tt;
  held_under_wire_2 = λ one. refl;
}
