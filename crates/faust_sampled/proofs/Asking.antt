-- A tick at which no client was heard for long: the client asks each other one for its version.
use Rattle.std.proofs.Common.{◌≡◌, ◌+◌, ◌-◌, ◌<◌, ◌≤◌, ◌==◌, ℕ, zero, suc, Bool, true, cond, List, [], ◌∷◌, ◌++◌, length, map, Option, Ok, refl, sym, ap, ◌∙◌, subst, inl, inr, arith}
use Rattle.std.specs.Prelude.{◌&&◌, if◌then◌else◌, is_none, nat_le, not, slice_index}
use Rattle.std.proofs.lemmas.Bool.{cases_eq, cond-true, eq-eqb, le-leb, ne_eqb}
use Rattle.std.proofs.lemmas.List.{append-nil}
use Rattle.faust_types.specs.Clients.{IsClient}
use Rattle.faust_types.specs.Ranges.{IsMoment}
use Rattle.faust_types.specs.declared.config.Config.{Config}
use Rattle.faust_types.specs.declared.message.Peer.TheVariants as peers
use Rattle.faust_types.specs.declared.message.PeerMessage.{PeerMessage}
use Rattle.faust_types.specs.declared.operation.Notice.{Notice}
use Rattle.faust_tags.specs.Bodies.{peer_body}
use Rattle.faust_lists.specs.Names.{Has}
use Rattle.faust_forks.proofs.Members.{has-left, has-right}
use Rattle.faust_agent.specs.Deeds.{ticked}
use Rattle.faust_agent.specs.Outcomes.{spelled_post}
use Rattle.faust_agent.specs.Table.{deed_of, dummy_of, is_dummy_due, is_probe_due, message_to, posts_of, probed_up_to}
use Rattle.faust_agent.specs.declared.client.Client.{Client}
use Rattle.faust_agent.specs.declared.deed.Deed.{Deed}
use Rattle.faust_agent.specs.declared.deed.Deed.TheVariants as deeds
use Rattle.faust_agent.proofs.Kept.{either_way}
use Rattle.faust_agent.proofs.Sends.{message-to-in_range}
use Rattle.faust_record.specs.Entries.{deed_at}
use Rattle.faust_record.specs.Made.{bodies_of, bodies_of_begin, made_bodies}
use Rattle.faust_record.specs.declared.entry.Entry.{Entry}
use Rattle.faust_record.specs.declared.entry.Input.TheVariants as inputs
use Rattle.faust_record.proofs.Own.{kept-append}
use Rattle.faust_script.specs.declared.event.Event.TheVariants as event
use Rattle.faust_liar.specs.Lies.{LiarState}
use Rattle.faust_sim.specs.Mail.{mailed, posts_to}
use Rattle.faust_sim.specs.Play.{event_played, scene_of_push}
use Rattle.faust_sampled.proofs.Leading.{scene_at}
use Rattle.faust_sampled.proofs.Letters.{IsLetter, letter, letter-last, letter-stays, made-by, mailed-one, mailed-other, posts-given}
use Rattle.faust_sampled.proofs.Standing.{IsStanding, acted-ok, acted-standing, entry_of, holding, holding-other, holding-own, no-notice}
use Rattle.faust_sampled.proofs.Timers.{IsTimed, state-timed}

abbrev pub probe_to : Config → ℕ → ℕ → PeerMessage
probe_to config me j = message_to config me peers.Probe j

-- the probes to client j among those to many
abbrev pub probes_to : Config → ℕ → ℕ → List ℕ → List (List ℕ)
probes_to config me j asked = posts_to j (map (spelled_post config.wire) (map (probe_to config me) asked))

probes-append : (config : Config) (me j : ℕ) (xs ys : List ℕ)
    → probes_to config me j (xs ++ ys) ≡ probes_to config me j xs ++ probes_to config me j ys
probes-append config me j [] ys = refl
probes-append config me j (x ∷ xs) ys =
    kept-append (x == j) (letter config me x peers.Probe) (probes_to config me j (xs ++ ys)) (probes_to config me j xs)
    (probes_to config me j ys) (probes-append config me j xs ys)

one-own : (config : Config) (me j x : ℕ) → x ≡ j → probes_to config me j (x ∷ []) ≡ letter config me j peers.Probe ∷ []
one-own config me j x same =
    ap (λ (b : Bool). cond b (letter config me x peers.Probe ∷ []) []) (eq-eqb x j same)
    ∙ ap (λ (k : ℕ). letter config me k peers.Probe ∷ []) same

one-other : (config : Config) (me j x : ℕ) → (x ≡ j → ⊥) → probes_to config me j (x ∷ []) ≡ []
one-other config me j x other = ap (λ (b : Bool). cond b (letter config me x peers.Probe ∷ []) []) (ne_eqb x j other)

-- of clients up to k client j alone is asked by a message to it
pub record IsAskedOnce (config : Config) (me j k : ℕ) (asked : List ℕ) : Type 0 where
  pub behind : j ≤ k → probes_to config me j asked ≡ letter config me j peers.Probe ∷ []
  pub has : j ≤ k → Has asked j
  pub before : k < j → probes_to config me j asked ≡ []

asked-once : (config : Config) (me : ℕ) (st : Client) (m j k : ℕ) → is_probe_due config me st m j ≡ true → 1 ≤ j
    → IsAskedOnce config me j k (probed_up_to config me st m k)
asked-once config me st m j zero due from_one = record {
  behind = λ le. absurd (omega (arith, le, from_one));
  has = λ le. absurd (omega (arith, le, from_one));
  before = λ lt. refl;
}
asked-once config me st m j (suc k) due from_one =
    let front : List ℕ = probed_up_to config me st m k in
    let b : Bool = is_probe_due config me st m (suc k) in
    let more : List ℕ = if b then suc k ∷ [] else [] in
    let is : IsAskedOnce config me j k front = asked-once config me st m j k due from_one in
    elim (cases_eq (suc k) j) [
      | inl same ↦
          let now : b ≡ true = ap (is_probe_due config me st m) same ∙ due in
          let more_is : more ≡ suc k ∷ [] = ap (λ (x : Bool). if x then suc k ∷ [] else []) now in
          record {
            behind = λ le. probes-append config me j front more
                ∙ ap (λ (l : List (List ℕ)). l ++ probes_to config me j more) (is.before (omega (arith, same)))
                ∙ ap (probes_to config me j) more_is ∙ one-own config me j (suc k) same;
            has = λ le. subst (λ (l : List ℕ). Has (front ++ l) j) (sym more_is) (has-right front (suc k ∷ []) j (inl (sym same)));
            before = λ lt. absurd (omega (arith, lt, same));
          }
      | inr other ↦
          let none : probes_to config me j more ≡ [] =
          either_way (λ (l : List ℕ). probes_to config me j l ≡ []) b (suc k ∷ []) []
          (λ due. one-other config me j (suc k) other) (λ later. refl) in
          let whole : probes_to config me j (front ++ more) ≡ probes_to config me j front =
          probes-append config me j front more ∙ ap (λ (l : List (List ℕ)). probes_to config me j front ++ l) none
          ∙ append-nil (probes_to config me j front) in
          record {
            behind = λ le. whole ∙ is.behind (omega (arith, le, other));
            has = λ le. has-left front more j (is.has (omega (arith, le, other)));
            before = λ lt. whole ∙ is.before (omega (arith, lt));
          }
    ]

has-mapped : {X Y : Type 0} (f : X → Y) (xs : List X) (x : X) → Has xs x → Has (map f xs) (f x)
has-mapped {X} {Y} f [] x has = absurd has
has-mapped {X} {Y} f (y ∷ xs) x (inl same) = inl (ap f same)
has-mapped {X} {Y} f (y ∷ xs) x (inr has) = inr (has-mapped f xs x has)

-- The entry of a tick.
abbrev pub ticking : Config → List Entry → ℕ → ℕ → Entry
ticking config entries i m = entry_of config entries i (inputs.Tick m)

pub ticking-played : (config : Config) (entries : List Entry) (liar : LiarState) (i m : ℕ)
    → event_played (scene_at config entries liar) (event.Tick i m) ≡ Ok (scene_at config (entries ++ ticking config entries i m ∷ []) liar)
ticking-played config entries liar i m = ap (scene_of_push liar) (acted-ok config entries i (inputs.Tick m) refl)

pub ticking-stands : (config : Config) (entries : List Entry) (liar : LiarState) (i m : ℕ) → IsStanding config entries liar
    → IsClient config.clients i → IsMoment m → IsStanding config (entries ++ ticking config entries i m ∷ []) liar
ticking-stands config entries liar i m standing client moment =
    acted-standing config entries liar liar i (inputs.Tick m) standing client moment refl
    (λ bytes message never read signed. absurd (cc never)) refl standing.lone

-- its deed
ticking-deed : (config : Config) (entries : List Entry) (liar : LiarState) (i m : ℕ) → IsStanding config entries liar
    → IsClient config.clients i → (holding config entries i).timers.now ≤ m
    → deed_at config i (holding config entries i) (inputs.Tick m) ≡ deeds.Ticks m
unfolding deed_of
ticking-deed config entries liar i m standing client le =
    let st : Client = holding config entries i in
    let ticks : (is_none st.notice && nat_le st.timers.now m) ≡ true =
    ap (λ (o : Option Notice). is_none o && nat_le st.timers.now m) (no-notice config entries liar i standing client)
    ∙ ap (λ (b : Bool). true && b) (le-leb st.timers.now m le) in
    cond-true (is_none st.notice && nat_le st.timers.now m) (deeds.Ticks m) deeds.Ignores ticks

-- Client i has asked client j.
pub record IsAsked (config : Config) (entries : List Entry) (i j base : ℕ) : Type 0 where
  pub counted : length (mailed i j entries) ≡ base + 1
  pub probe : IsLetter config entries i j base peers.Probe

probe-due : (config : Config) (i j b m : ℕ) (st : Client) → (j ≡ i → ⊥) → IsTimed b st.timers → b + config.delta ≤ m
    → is_probe_due config i st m j ≡ true
probe-due config i j b m st other timed late =
    ap (λ (x : Bool). not x && nat_le config.delta (m - slice_index st.timers.news (j - 1))) (ne_eqb j i other)
    ∙ ap (λ (x : Bool). true && x) (le-leb config.delta (m - slice_index st.timers.news (j - 1))
    (omega (arith, late, timed.news_below (j - 1))))

pub ticking-asks : (config : Config) (entries : List Entry) (liar : LiarState) (i j b m base : ℕ) → IsStanding config entries liar
    → IsClient config.clients i → IsClient config.clients j → (i ≡ j → ⊥) → IsTimed b (holding config entries i).timers
    → b + config.delta ≤ m → length (mailed i j entries) ≡ base
    → IsAsked config (entries ++ ticking config entries i m ∷ []) i j base
ticking-asks config entries liar i j b m base standing client within apart timed late counted =
    let n = config.clients in
    let st : Client = holding config entries i in
    let e : Entry = ticking config entries i m in
    let probes : List ℕ = probed_up_to config i st m n in
    let p : PeerMessage = probe_to config i j in
    let deed_is : deed_at config i st (inputs.Tick m) ≡ deeds.Ticks m =
    ticking-deed config entries liar i m standing client (omega (arith, timed.now_below, late)) in
    let once : IsAskedOnce config i j n probes =
    asked-once config i st m j n (probe-due config i j b m st (λ same. apart (sym same)) timed late) within.from_one in
    let posted : posts_to j e.outcome.to_peers ≡ letter config i j peers.Probe ∷ [] =
    ap (posts_to j) (posts-given config i st (inputs.Tick m)
    ∙ ap (λ (d : Deed). map (spelled_post config.wire) (posts_of config i st d)) deed_is)
    ∙ once.behind within.to_n in
    let bodies : made_bodies config entries e ≡ bodies_of config i st (deeds.Ticks m) =
    made-by config entries e ∙ ap (bodies_of config i st) deed_is in
    let has : Has (map peer_body (map (probe_to config i) probes)) (peer_body p) =
    has-mapped peer_body (map (probe_to config i) probes) p (has-mapped (probe_to config i) probes j (once.has within.to_n)) in
    record {
      counted = omega (arith, mailed-one i j entries e (letter config i j peers.Probe) refl posted, counted);
      probe = letter-last config entries e j base peers.Probe counted posted
          (subst (λ (l : List (List ℕ)). Has l (peer_body p)) (sym bodies)
          (has-left (map peer_body (map (probe_to config i) probes))
          (if is_dummy_due config i st m then bodies_of_begin i st (dummy_of st) else []) (peer_body p) has))
          (message-to-in_range config i peers.Probe j client (record { in_range = within; differs = λ same. apart (sym same) }) tt);
    }

-- ---- the ticks of a round

-- Clients up to k were handed the moment m, and asked all others. The others hold no later moment than b.
pub record AreAsking (config : Config) (b m base k : ℕ) (entries : List Entry) (liar : LiarState) : Type 0 where
  pub standing : IsStanding config entries liar
  pub timed : (i : ℕ) → IsTimed m (holding config entries i).timers
  pub still : (i : ℕ) → k < i → IsTimed b (holding config entries i).timers
  pub asked : (i j : ℕ) → IsClient config.clients i → IsClient config.clients j → (i ≡ j → ⊥) → i ≤ k → IsAsked config entries i j base
  pub rest : (i j : ℕ) → IsClient config.clients i → IsClient config.clients j → (i ≡ j → ⊥) → k < i → length (mailed i j entries) ≡ base

asked-stays : (config : Config) (entries : List Entry) (e : Entry) (i j base : ℕ) → (e.client ≡ i → ⊥) → IsAsked config entries i j base
    → IsAsked config (entries ++ e ∷ []) i j base
asked-stays config entries e i j base other is = record {
  counted = ap (λ (l : List (List ℕ)). length l) (mailed-other i j entries e other) ∙ is.counted;
  probe = letter-stays config entries e i j base peers.Probe is.probe;
}

ticks-same : (m other : ℕ) → ticked m ≡ ticked other → other ≡ m
ticks-same m other same = cc

pub asking-next : (config : Config) (b m base k : ℕ) (entries : List Entry) (liar : LiarState) → b + config.delta ≤ m → IsMoment m
    → suc k ≤ config.clients → AreAsking config b m base k entries liar
    → AreAsking config b m base (suc k) (entries ++ ticking config entries (suc k) m ∷ []) liar
asking-next config b m base k entries liar late moment within is =
    let n = config.clients in
    let me : ℕ = suc k in
    let e : Entry = ticking config entries me m in
    let next : List Entry = entries ++ e ∷ [] in
    let client : IsClient n me = record { from_one = omega arith; to_n = within } in
    let Timed : ℕ → Client → Type 0 = λ (x : ℕ) (st : Client). IsTimed x st.timers in
    record {
      standing = ticking-stands config entries liar me m is.standing client moment;
      timed = λ i. elim (cases_eq me i) [
        | inl own ↦ subst (λ (x : ℕ). Timed m (holding config next x)) own
            (subst (Timed m) (sym (holding-own config entries e))
            (state-timed config me (holding config entries me) m (inputs.Tick m)
            (λ other same. let is_m : other ≡ m = ticks-same m other same in omega (arith, is_m)) (is.timed me)))
        | inr other ↦ subst (Timed m) (sym (holding-other config entries e i other)) (is.timed i)
      ];
      still = λ i lt. subst (Timed b) (sym (holding-other config entries e i (λ same. absurd (omega (arith, same, lt)))))
          (is.still i (omega (arith, lt)));
      asked = λ i j sender receiver apart le. elim (cases_eq me i) [
        | inl own ↦ subst (λ (x : ℕ). IsAsked config next x j base) own
            (ticking-asks config entries liar me j b m base is.standing client receiver (λ same. apart (sym own ∙ same))
            (is.still me (omega arith)) late (is.rest me j client receiver (λ same. apart (sym own ∙ same)) (omega arith)))
        | inr other ↦ asked-stays config entries e i j base other (is.asked i j sender receiver apart (omega (arith, le, other)))
      ];
      rest = λ i j sender receiver apart lt.
          ap (λ (l : List (List ℕ)). length l) (mailed-other i j entries e (λ same. absurd (omega (arith, same, lt))))
          ∙ is.rest i j sender receiver apart (omega (arith, lt));
    }
