-- What a client holds of its own: the own version, the operation that it waits for, and the digest of the value that it
-- wrote last. Most deeds leave them as they are.
use Rattle.std.proofs.Common.{◌≡◌, ℕ, ◌-◌, ◌+◌, ◌^◌, ◌==◌, ◌&&◌, Bool, true, false, not, cond, is_none, nat_lt, List, Option, Some, None, refl, sym, ap, ◌∙◌, subst}
use Rattle.std.proofs.lemmas.Bool.{and_parts, cond-true, cond-false}
use Rattle.std.specs.Prelude.{slice_set}
use Rattle.faust_types.specs.Clients.{IsClient}
use Rattle.faust_types.specs.Versions.{Vector}
use Rattle.faust_types.specs.declared.config.Config.{Config}
use Rattle.faust_types.specs.declared.message.Known.{Known}
use Rattle.faust_types.specs.declared.operation.Operation.{Operation}
use Rattle.faust_agent.specs.State.{completed_count, is_idle, is_less, slot_in, version_at}
use Rattle.faust_agent.specs.Table.{begun_by, completed_by, dummy_of, heard_by, held_after, is_dummy_due, moved_on, own_tag, raised, ticked_by, with_news, with_read, with_slot}
use Rattle.faust_agent.specs.InRange.{IsClientOf, IsOther}
use Rattle.faust_agent.specs.declared.client.Client.{Client}
use Rattle.faust_agent.specs.declared.deed.Completion.{Completion}
use Rattle.faust_agent.proofs.Kept.{differs, either_way, slot-other, slot-same}
use Rattle.faust_agent.proofs.Reasons.{none-of}
use Rattle.faust_forks.specs.Books.{Begun, Done}
use Rattle.faust_runs.specs.Sound.{IsHolding}

pub record IsFrame (me : ℕ) (st now : Client) : Type 0 where
  pub own : version_at now me ≡ version_at st me
  pub waiting : now.waiting ≡ st.waiting
  pub last : now.last ≡ st.last

pub frame-self : (me : ℕ) (st : Client) → IsFrame me st st
frame-self me st = record { own = refl; waiting = refl; last = refl }

pub held-frame : (n : ℕ) (started : List Begun) (book : List Done) (me : ℕ) (st now : Client) → IsFrame me st now
    → IsHolding n started book me (version_at st me) st.waiting st.last
    → IsHolding n started book me (version_at now me) now.waiting now.last
held-frame n started book me st now frame h =
    subst (λ (o : Vector). IsHolding n started book me o now.waiting now.last) (sym frame.own)
    (subst (λ (w : Option Operation). IsHolding n started book me (version_at st me) w now.last) (sym frame.waiting)
    (subst (λ (l : Option (List ℕ)). IsHolding n started book me (version_at st me) st.waiting l) (sym frame.last) h))

-- another version of another client
pub frame-slot : (n me : ℕ) (st : Client) (j : ℕ) (known : Known) → IsClient n me → IsClient n j → (me ≡ j → ⊥)
    → IsFrame me st (with_slot st j known)
frame-slot n me st j known client within other = record {
  own = ap (λ (k : Known). k.version) (slot-other n st.heard j known me within client other);
  waiting = refl;
  last = refl;
}

pub frame-read : (n me : ℕ) (st : Client) (j : ℕ) (heard : Option Known) → IsClient n me → IsClient n j
    → IsFrame me st (with_read me st j heard)
frame-read n me st j None client within = frame-self me st
frame-read n me st j (Some known) client within =
    either_way (IsFrame me st) (not (j == me) && is_less (version_at st j) known.version) (with_news (with_slot st j known) j) st
    (λ newer.
    let other : me ≡ j → ⊥ = λ same. differs j me (and_parts _ _ newer).0 (sym same) in
    let slot : IsFrame me st (with_slot st j known) = frame-slot n me st j known client within other in
    record { own = slot.own; waiting = slot.waiting; last = slot.last })
    (λ older. frame-self me st)

pub frame-heard : (n me : ℕ) (st : Client) (j : ℕ) (known : Known) → IsClient n me → IsOther n me j
    → IsFrame me st (heard_by st j known)
frame-heard n me st j known client other =
    let apart : me ≡ j → ⊥ = λ same. other.differs (sym same) in
    let raises : IsFrame me st (raised st j known) =
    either_way (IsFrame me st) (is_less (version_at st j) known.version) (with_slot st j known) st
    (λ newer. frame-slot n me st j known client other.in_range apart) (λ older. frame-self me st) in
    record { own = raises.own; waiting = raises.waiting; last = raises.last }

-- a tick that begins a dummy read, and one that doesn't
pub frame-dummy : (config : Config) (me : ℕ) (st : Client) (m : ℕ) → is_dummy_due config me st m ≡ true
    → IsFrame me (begun_by me st (dummy_of st)) (ticked_by config me st m)
frame-dummy config me st m due =
    let acted : cond (is_dummy_due config me st m) (begun_by me st (dummy_of st)) (record st { held = held_after st })
    ≡ begun_by me st (dummy_of st) = cond-true _ _ _ due in
    record {
      own = ap (λ (now : Client). version_at now me) acted;
      waiting = ap (λ (now : Client). now.waiting) acted;
      last = ap (λ (now : Client). now.last) acted;
    }

pub frame-ticked : (config : Config) (me : ℕ) (st : Client) (m : ℕ) → is_dummy_due config me st m ≡ false
    → IsFrame me st (ticked_by config me st m)
frame-ticked config me st m due =
    let acted : cond (is_dummy_due config me st m) (begun_by me st (dummy_of st)) (record st { held = held_after st })
    ≡ record st { held = held_after st } = cond-false _ _ _ due in
    record {
      own = ap (λ (now : Client). version_at now me) acted;
      waiting = ap (λ (now : Client). now.waiting) acted;
      last = ap (λ (now : Client). now.last) acted;
    }

-- What a client holds after a completion.
pub record IsMoved (me : ℕ) (st now : Client) (next : Vector) : Type 0 where
  pub own : version_at now me ≡ next
  pub waiting : now.waiting ≡ None
  pub last : now.last ≡ st.last

pub completed-moved : (config : Config) (me : ℕ) (st : Client) (done : Completion) → IsClientOf config me st
    → IsClient config.clients me → IsClient config.clients done.op.register
    → IsMoved me st (completed_by config me st done) done.judged.next
completed-moved config me st done kept client within =
    let n = config.clients in
    let next = done.judged.next in
    let moved = moved_on config me st next in
    let known : Known = record { maker = me; version = next; tag = own_tag config me next } in
    let slot : slot_in (slice_set st.heard (me - 1) known) me ≡ known = slot-same n st.heard me known kept.versions.counted client in
    let read : IsFrame me moved (with_read me moved done.op.register done.judged.heard) =
    frame-read n me moved done.op.register done.judged.heard client within in
    record { own = read.own ∙ ap (λ (k : Known). k.version) slot; waiting = read.waiting; last = read.last }

-- an idle client waits for nothing
pub idle-waiting : (me : ℕ) (st : Client) → is_idle me st ≡ true → st.waiting ≡ None
idle-waiting me st idle =
    let free : Bool = is_none st.waiting && is_none st.notice in
    let both = and_parts free (nat_lt (completed_count me st + 1) (2 ^ 40)) idle in
    none-of st.waiting (and_parts (is_none st.waiting) (is_none st.notice) both.0).0
