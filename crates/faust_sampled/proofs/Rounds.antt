-- The two rounds of a generated script play through: all clients ask all others for their versions, and are answered.
use Rattle.std.proofs.Common.{◌≡◌, ◌+◌, ◌-◌, ◌*◌, ◌<◌, ◌≤◌, ℕ, suc, false, List, [], ◌∷◌, ◌++◌, length, sym, ap, ◌∙◌, subst, inl, inr, arith}
use Rattle.std.specs.Prelude.{nat_eq}
use Rattle.std.proofs.lemmas.Bool.{cases_eq, cond_both, eq-eqb, eqb-true, true≢false}
use Rattle.faust_types.specs.Clients.{IsClient}
use Rattle.faust_types.specs.Ranges.{IsMoment}
use Rattle.faust_types.specs.declared.config.Config.{Config}
use Rattle.faust_types.specs.declared.message.Peer.TheVariants as peers
use Rattle.faust_record.specs.declared.entry.Entry.{Entry}
use Rattle.faust_script.specs.Generated.{each_up_to, from_each, round_of, ticks, to_another, to_each}
use Rattle.faust_script.specs.declared.event.Event.{Event}
use Rattle.faust_script.specs.declared.event.Event.TheVariants as event
use Rattle.faust_liar.specs.Lies.{LiarState}
use Rattle.faust_sim.specs.Mail.{mailed, posts_to}
use Rattle.faust_sampled.proofs.Asking.{AreAsking, asking-next, ticking, ticking-played}
use Rattle.faust_sampled.proofs.Leading.{Leads, leads-append, leads-each, leads-later}
use Rattle.faust_sampled.proofs.Letters.{IsLetter, letter-stays, mailed-quiet}
use Rattle.faust_sampled.proofs.Standing.{IsStanding, holding}
use Rattle.faust_sampled.proofs.Timers.{IsTimed, timed-later}
use Rattle.faust_sampled.proofs.Told.{IsAnswered, hearing, hearing-played, hearing-stands, hearing-timed, probe-answered, probe-elsewhere, version-quiet-entry}

-- Between two rounds: each client sent so many messages to each other one, and holds no moment later than b.
pub record AreEven (config : Config) (b base : ℕ) (entries : List Entry) (liar : LiarState) : Type 0 where
  pub standing : IsStanding config entries liar
  pub timed : (i : ℕ) → IsTimed b (holding config entries i).timers
  pub counted : (i j : ℕ) → IsClient config.clients i → IsClient config.clients j → (i ≡ j → ⊥) → length (mailed i j entries) ≡ base

-- all clients ask
ticks-lead : (config : Config) (b m base : ℕ) (entries : List Entry) (liar : LiarState) → b + config.delta ≤ m → IsMoment m
    → AreEven config b base entries liar
    → Leads config entries liar (ticks config.clients m) (AreAsking config b m base config.clients)
ticks-lead config b m base entries liar late moment even =
    let n = config.clients in
    leads-each config entries liar n (λ i. event.Tick i m ∷ []) (AreAsking config b m base)
    (λ k next now within asking. record {
      next = next ++ ticking config next (suc k) m ∷ [];
      now = now;
      played = ticking-played config next now (suc k) m;
      holds = asking-next config b m base k next now late moment within asking;
    })
    (record {
      standing = even.standing;
      timed = λ i. timed-later b m _ (omega (arith, late)) (even.timed i);
      still = λ i lt. even.timed i;
      asked = λ i j sender receiver apart le. absurd (omega (arith, le, sender.from_one));
      rest = λ i j sender receiver apart lt. even.counted i j sender receiver apart;
    })

-- Behind place p of the pairs of clients, which stand in the order of their senders: those before it were answered.
record AreAnswering (config : Config) (m base p : ℕ) (entries : List Entry) (liar : LiarState) : Type 0 where
  standing : IsStanding config entries liar
  timed : (i : ℕ) → IsTimed m (holding config entries i).timers
  probes : (i j : ℕ) → IsClient config.clients i → IsClient config.clients j → (i ≡ j → ⊥) → IsLetter config entries i j base peers.Probe
  answered : (i j : ℕ) → IsClient config.clients i → IsClient config.clients j → (i ≡ j → ⊥) → i * 64 + j ≤ p
      → IsAnswered config entries j i base
  rest : (i j : ℕ) → IsClient config.clients i → IsClient config.clients j → (i ≡ j → ⊥) → p < i * 64 + j
      → length (mailed j i entries) ≡ base + 1

-- between two places without a pair nothing is to be done
answering-moved : (config : Config) (m base p q : ℕ) (entries : List Entry) (liar : LiarState)
    → ((i j : ℕ) → IsClient config.clients i → IsClient config.clients j → (i ≡ j → ⊥) → i * 64 + j ≤ q → i * 64 + j ≤ p) → p ≤ q
    → AreAnswering config m base p entries liar → AreAnswering config m base q entries liar
answering-moved config m base p q entries liar none le is = record {
  standing = is.standing;
  timed = is.timed;
  probes = is.probes;
  answered = λ i j sender receiver apart below. is.answered i j sender receiver apart (none i j sender receiver apart below);
  rest = λ i j sender receiver apart above. is.rest i j sender receiver apart (omega (arith, le, above));
}

answered-stays : (config : Config) (entries : List Entry) (e : Entry) (j i base : ℕ) → mailed j i (entries ++ e ∷ []) ≡ mailed j i entries
    → IsAnswered config entries j i base → IsAnswered config (entries ++ e ∷ []) j i base
answered-stays config entries e j i base same is = record {
  counted = ap (λ (l : List (List ℕ)). length l) same ∙ is.counted;
  known = is.known;
  version = letter-stays config entries e j i (base + 1) (peers.Version is.known) is.version;
}

-- the PROBE of client i comes to client j
answering-next : (config : Config) (m base i j : ℕ) (entries : List Entry) (liar : LiarState) → config.clients ≤ 32
    → IsClient config.clients i → IsClient config.clients j → (i ≡ j → ⊥) → (p : ℕ) → suc p ≡ i * 64 + j
    → AreAnswering config m base p entries liar
    → AreAnswering config m base (suc p) (entries ++ hearing config entries i j peers.Probe ∷ []) liar
answering-next config m base i j entries liar small sender receiver apart p here is =
    let e : Entry = hearing config entries i j peers.Probe in
    let next : List Entry = entries ++ e ∷ [] in
    let probe : IsLetter config entries i j base peers.Probe = is.probes i j sender receiver apart in
    record {
      standing = hearing-stands config entries liar i j base peers.Probe is.standing receiver probe;
      timed = hearing-timed config entries m i j peers.Probe is.timed;
      probes = λ a b one other differ. letter-stays config entries e a b base peers.Probe (is.probes a b one other differ);
      answered = λ a b one other differ below. elim (cases_eq (a * 64 + b) (suc p)) [
        | inl same ↦
            let rows : a ≡ i = omega (
              arith,
              same,
              here,
              one.from_one,
              one.to_n,
              other.from_one,
              other.to_n,
              sender.from_one,
              sender.to_n,
              receiver.from_one,
              receiver.to_n,
              small,
            ) in
            let columns : b ≡ j = omega (arith, same, here, rows) in
            subst (λ (x : ℕ). IsAnswered config next b x base) (sym rows) (subst (λ (y : ℕ). IsAnswered config next y i base) (sym columns)
            (probe-answered config entries liar i j base base is.standing sender receiver apart probe
            (is.rest i j sender receiver apart (omega (arith, here)))))
        | inr elsewhere ↦
            answered-stays config entries e b a base
            (probe-elsewhere config entries liar i j base b a is.standing receiver probe
            (λ both. elsewhere (omega (arith, both.0, both.1, here))))
            (is.answered a b one other differ (omega (arith, below, elsewhere)))
      ];
      rest = λ a b one other differ above.
          ap (λ (l : List (List ℕ)). length l)
          (probe-elsewhere config entries liar i j base b a is.standing receiver probe
          (λ both. absurd (omega (arith, both.0, both.1, here, above))))
          ∙ is.rest a b one other differ (omega (arith, above));
    }

apart-of : (i j : ℕ) → nat_eq i j ≡ false → i ≡ j → ⊥
apart-of i j differ same = true≢false (sym (eq-eqb i j same) ∙ differ)

-- at a client's own place there is no pair
row-skip : (i j a b p n : ℕ) → i ≡ j → suc p ≡ i * 64 + j → IsClient n a → IsClient n b → (a ≡ b → ⊥) → n ≤ 32 → IsClient n i
    → IsClient n j → a * 64 + b ≤ i * 64 + j → a * 64 + b ≤ p
row-skip i j a b p n same here one other differ small sender receiver below = elim (cases_eq (a * 64 + b) (suc p)) [
  | inl at ↦
      let rows : a ≡ i = omega (
        arith,
        at,
        here,
        one.from_one,
        one.to_n,
        other.from_one,
        other.to_n,
        sender.from_one,
        sender.to_n,
        receiver.from_one,
        receiver.to_n,
        small,
      ) in
      absurd (differ (omega (arith, at, here, rows, same)))
  | inr elsewhere ↦ omega (arith, elsewhere, here, below)
]

-- the PROBEs of one client
row-lead : (config : Config) (m base k i : ℕ) (entries : List Entry) (liar : LiarState) → config.clients ≤ 32
    → IsClient config.clients i → k - 1 ≡ base → AreAnswering config m base (i * 64 + 0) entries liar
    → Leads config entries liar (each_up_to config.clients (λ j. to_another k i j)) (AreAnswering config m base (i * 64 + config.clients))
row-lead config m base k i entries liar small sender at first =
    let n = config.clients in
    leads-each config entries liar n (λ j. to_another k i j) (λ l. AreAnswering config m base (i * 64 + l))
    (λ l next now within is.
    let j : ℕ = suc l in
    let receiver : IsClient n j = record { from_one = omega arith; to_n = within } in
    let p : ℕ = i * 64 + l in
    let more : suc p ≡ i * 64 + j = omega arith in
    cond_both (nat_eq i j) [] (event.Peer i j k ∷ [])
    (λ (events : List Event). Leads config next now events (AreAnswering config m base (i * 64 + j)))
    (λ same. answering-moved config m base p (i * 64 + j) next now
    (λ a b one other differ below. row-skip i j a b p n (eqb-true i j same) more one other differ small sender receiver below)
    (omega (arith, more)) is)
    (λ other. record {
      next = next ++ hearing config next i j peers.Probe ∷ [];
      now = now;
      played = hearing-played config next now i j k base peers.Probe (is.probes i j sender receiver (apart-of i j other)) at;
      holds = subst (λ (q : ℕ). AreAnswering config m base q (next ++ hearing config next i j peers.Probe ∷ []) now) more
          (answering-next config m base i j next now small sender receiver (apart-of i j other) p more is);
    }))
    first

-- all PROBEs
probes-lead : (config : Config) (m base k : ℕ) (entries : List Entry) (liar : LiarState) → config.clients ≤ 32
    → k - 1 ≡ base → AreAnswering config m base (1 * 64) entries liar
    → Leads config entries liar (from_each config.clients k) (AreAnswering config m base ((config.clients + 1) * 64))
probes-lead config m base k entries liar small at first =
    let n = config.clients in
    leads-each config entries liar n (λ i. each_up_to n (λ j. to_another k i j)) (λ i. AreAnswering config m base ((i + 1) * 64))
    (λ i next now within is.
    let sender : IsClient n (suc i) = record { from_one = omega arith; to_n = within } in
    leads-later config next now (each_up_to n (λ j. to_another k (suc i) j)) (AreAnswering config m base (suc i * 64 + n))
    (AreAnswering config m base ((suc i + 1) * 64))
    (row-lead config m base k (suc i) next now small sender at
    (answering-moved config m base ((i + 1) * 64) (suc i * 64 + 0) next now
    (λ a b one other differ below. omega (arith, below)) (omega arith) is))
    (λ later after. answering-moved config m base (suc i * 64 + n) ((suc i + 1) * 64) later after
    (λ a b one other differ below. omega (arith, below, other.from_one, other.to_n, small)) (omega (arith, small))))
    first

-- All were answered.
record AreAnswered (config : Config) (m base : ℕ) (entries : List Entry) (liar : LiarState) : Type 0 where
  standing : IsStanding config entries liar
  timed : (i : ℕ) → IsTimed m (holding config entries i).timers
  answered : (i j : ℕ) → IsClient config.clients i → IsClient config.clients j → (i ≡ j → ⊥) → IsAnswered config entries j i base

-- the VERSION of client j comes to client i
answered-next : (config : Config) (m base i j : ℕ) (entries : List Entry) (liar : LiarState)
    → (receiver : IsClient config.clients i) → (sender : IsClient config.clients j) → (apart : i ≡ j → ⊥)
    → (is : AreAnswered config m base entries liar)
    → AreAnswered config m base
    (entries ++ hearing config entries j i (peers.Version (is.answered i j receiver sender apart).known) ∷ []) liar
answered-next config m base i j entries liar receiver sender apart is =
    let answer = is.answered i j receiver sender apart in
    let e : Entry = hearing config entries j i (peers.Version answer.known) in
    let quiet : e.outcome.to_peers ≡ [] =
    version-quiet-entry config entries liar j i (base + 1) answer.known is.standing receiver answer.version in
    record {
      standing = hearing-stands config entries liar j i (base + 1) (peers.Version answer.known) is.standing receiver answer.version;
      timed = hearing-timed config entries m j i (peers.Version answer.known) is.timed;
      answered = λ a b one other differ.
          answered-stays config entries e b a base (mailed-quiet b a entries e (ap (posts_to a) quiet)) (is.answered a b one other differ);
    }

-- the VERSIONs to one client, and all
column-lead : (config : Config) (m base k i : ℕ) (entries : List Entry) (liar : LiarState)
    → IsClient config.clients i → k - 1 ≡ base + 1 → AreAnswered config m base entries liar
    → Leads config entries liar (each_up_to config.clients (λ j. to_another k j i)) (AreAnswered config m base)
column-lead config m base k i entries liar receiver at first =
    let n = config.clients in
    leads-each config entries liar n (λ j. to_another k j i) (λ l. AreAnswered config m base)
    (λ l next now within is.
    let j : ℕ = suc l in
    let sender : IsClient n j = record { from_one = omega arith; to_n = within } in
    cond_both (nat_eq j i) [] (event.Peer j i k ∷ []) (λ (events : List Event). Leads config next now events (AreAnswered config m base))
    (λ same. is)
    (λ other.
    let apart : i ≡ j → ⊥ = λ same. apart-of j i other (sym same) in
    let answer = is.answered i j receiver sender apart in
    record {
      next = next ++ hearing config next j i (peers.Version answer.known) ∷ [];
      now = now;
      played = hearing-played config next now j i k (base + 1) (peers.Version answer.known) answer.version at;
      holds = answered-next config m base i j next now receiver sender apart is;
    }))
    first

versions-lead : (config : Config) (m base k : ℕ) (entries : List Entry) (liar : LiarState) → k - 1 ≡ base + 1
    → AreAnswered config m base entries liar → Leads config entries liar (to_each config.clients k) (AreAnswered config m base)
versions-lead config m base k entries liar at first =
    let n = config.clients in
    leads-each config entries liar n (λ i. each_up_to n (λ j. to_another k j i)) (λ i. AreAnswered config m base)
    (λ i next now within is. column-lead config m base k (suc i) next now (record { from_one = omega arith; to_n = within }) at is)
    first

-- a round
pub round-leads : (config : Config) (b base r : ℕ) (entries : List Entry) (liar : LiarState) → config.clients ≤ 32
    → b + config.delta ≤ 1000 * r → IsMoment (1000 * r) → 2 * r - 1 - 1 ≡ base → 2 * r - 1 ≡ base + 1
    → AreEven config b base entries liar
    → Leads config entries liar (round_of config.clients r) (AreEven config (1000 * r) (base + 2))
round-leads config b base r entries liar small late moment probe version even =
    let n = config.clients in
    let m : ℕ = 1000 * r in
    leads-append config entries liar (ticks n m) (from_each n (2 * r - 1) ++ to_each n (2 * r)) (AreAsking config b m base n)
    (AreEven config m (base + 2)) (ticks-lead config b m base entries liar late moment even)
    (λ asked_in asked_now asking.
    leads-append config asked_in asked_now (from_each n (2 * r - 1)) (to_each n (2 * r)) (AreAnswering config m base ((n + 1) * 64))
    (AreEven config m (base + 2))
    (probes-lead config m base (2 * r - 1) asked_in asked_now small probe (record {
      standing = asking.standing;
      timed = asking.timed;
      probes = λ i j sender receiver apart. (asking.asked i j sender receiver apart sender.to_n).probe;
      answered = λ i j sender receiver apart below. absurd (omega (arith, below, sender.from_one, receiver.from_one));
      rest = λ i j sender receiver apart above. (asking.asked j i receiver sender (λ same. apart (sym same)) receiver.to_n).counted;
    }))
    (λ told_in told_now answering.
    leads-later config told_in told_now (to_each n (2 * r)) (AreAnswered config m base) (AreEven config m (base + 2))
    (versions-lead config m base (2 * r) told_in told_now version (record {
      standing = answering.standing;
      timed = answering.timed;
      answered = λ i j sender receiver apart.
          answering.answered i j sender receiver apart (omega (arith, sender.to_n, receiver.to_n, small));
    }))
    (λ next now all. record {
      standing = all.standing;
      timed = all.timed;
      counted = λ i j sender receiver apart. (all.answered j i receiver sender (λ same. apart (sym same))).counted;
    })))
