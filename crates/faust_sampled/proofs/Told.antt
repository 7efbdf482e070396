-- A message from one client to another: it is handed over, and what its receiver does then.
use Rattle.std.proofs.Common.{◌≡◌, ◌+◌, ◌-◌, ◌==◌, ℕ, Bool, true, cond, List, [], ◌∷◌, ◌++◌, length, map, Option, Some, None, Ok, refl, sym, ap, ◌∙◌, subst, inl, inr, arith}
use Rattle.std.specs.Prelude.{◌&&◌, is_none, slice_get}
use Rattle.std.specs.List.{AllByRecursion}
use Rattle.std.proofs.lemmas.Bool.{cases_eq, cond-true, eq-eqb, ne_eqb}
use Rattle.faust_types.specs.Clients.{IsClient}
use Rattle.faust_types.specs.Ranges.{IsPeerMessageFor}
use Rattle.faust_types.specs.declared.config.Config.{Config}
use Rattle.faust_types.specs.declared.message.Known.{Known}
use Rattle.faust_types.specs.declared.message.Peer.{Peer}
use Rattle.faust_types.specs.declared.message.Peer.TheVariants as peers
use Rattle.faust_types.specs.declared.message.PeerMessage.{PeerMessage}
use Rattle.faust_types.specs.declared.operation.Notice.{Notice}
use Rattle.faust_tags.specs.Bodies.{peer_body}
use Rattle.faust_lists.specs.Names.{Has}
use Rattle.faust_agent.specs.State.{greatest}
use Rattle.faust_agent.specs.Deeds.{peer_in, told}
use Rattle.faust_agent.specs.InRange.{IsClientOf, IsOther}
use Rattle.faust_agent.specs.Outcomes.{spelled_post}
use Rattle.faust_agent.specs.Table.{deed_of, first_unfit, heeded, heeded_version, is_signed, message_to, notice_of, posts_of, probe_answer}
use Rattle.faust_agent.specs.declared.client.Client.{Client}
use Rattle.faust_agent.specs.declared.deed.Deed.{Deed}
use Rattle.faust_agent.specs.declared.deed.Deed.TheVariants as deeds
use Rattle.faust_agent.proofs.Kept.{either_way}
use Rattle.faust_agent.proofs.Sends.{posts-in_range}
use Rattle.faust_record.specs.Entries.{deed_at}
use Rattle.faust_record.specs.Made.{bodies_of, made_behind, made_bodies}
use Rattle.faust_record.specs.declared.entry.Entry.{Entry}
use Rattle.faust_record.specs.declared.entry.Input.{Input}
use Rattle.faust_record.specs.declared.entry.Input.TheVariants as inputs
use Rattle.faust_joined.proofs.Acting.{notice-given}
use Rattle.faust_script.specs.declared.event.Event.TheVariants as event
use Rattle.faust_liar.specs.Lies.{LiarState}
use Rattle.faust_sim.specs.Mail.{mailed, posts_to}
use Rattle.faust_sim.specs.Play.{Scene, delivered, event_played, scene_of_push}
use Rattle.faust_sampled.proofs.Leading.{scene_at}
use Rattle.faust_sampled.proofs.Letters.{IsLetter, letter, letter-handed, letter-last, letter-read, letter-signed, made-by, mailed-one, mailed-other, mailed-quiet, posts-given}
use Rattle.faust_sampled.proofs.Standing.{IsStanding, acted-ok, acted-standing, client-kept, entry_of, holding, holding-other, holding-own, last-well, no-notice}
use Rattle.faust_sampled.proofs.Timers.{IsTimed, state-timed}

-- The entry in which what client i said comes to client j.
abbrev pub hearing : Config → List Entry → ℕ → ℕ → Peer → Entry
hearing config entries i j peer = entry_of config entries j (inputs.Peer (letter config i j peer))

-- it is played
pub hearing-played : (config : Config) (entries : List Entry) (liar : LiarState) (i j k place : ℕ) (peer : Peer)
    → IsLetter config entries i j place peer → k - 1 ≡ place
    → event_played (scene_at config entries liar) (event.Peer i j k)
    ≡ Ok (scene_at config (entries ++ hearing config entries i j peer ∷ []) liar)
hearing-played config entries liar i j k place peer letter_is at =
    let scene : Scene = scene_at config entries liar in
    ap (delivered scene j) (ap (slice_get (mailed i j entries)) at ∙ letter_is.there)
    ∙ ap (scene_of_push liar) (acted-ok config entries j (inputs.Peer (letter config i j peer)) refl)

-- it was made, so all stands
same-message : (config : Config) (i j : ℕ) (peer : Peer) (m : PeerMessage) (read : Option PeerMessage)
    → read ≡ Some (message_to config i peer j) → read ≡ Some m → message_to config i peer j ≡ m
same-message config i j peer m read one other = cc

pub hearing-stands : (config : Config) (entries : List Entry) (liar : LiarState) (i j place : ℕ) (peer : Peer)
    → IsStanding config entries liar → IsClient config.clients j → IsLetter config entries i j place peer
    → IsStanding config (entries ++ hearing config entries i j peer ∷ []) liar
hearing-stands config entries liar i j place peer standing client is =
    let bytes : List ℕ = letter config i j peer in
    let in_range = standing.run.config_in_range in
    let read : peer_in config bytes ≡ Some (message_to config i peer j) = letter-read config i j peer in_range.clients_count is.in_range in
    acted-standing config entries liar liar j (inputs.Peer bytes) standing client
    (letter-handed config i j peer in_range.clients_count in_range.wire_known is.in_range) refl
    (λ other m came spelled signed.
    let same : bytes ≡ other = cc in
    let message_is : message_to config i peer j ≡ m =
    same-message config i j peer m (peer_in config bytes) read (ap (peer_in config) same ∙ spelled) in
    subst (λ (x : PeerMessage). Has (made_behind config [] entries) (peer_body x)) message_is is.made)
    refl standing.lone

-- what its receiver does
hearing-deed : (config : Config) (entries : List Entry) (liar : LiarState) (i j place : ℕ) (peer : Peer) → IsStanding config entries liar
    → IsLetter config entries i j place peer
    → deed_at config j (holding config entries j) (inputs.Peer (letter config i j peer))
    ≡ heeded config.clients (holding config entries j) i peer
unfolding deed_of
hearing-deed config entries liar i j place peer standing is =
    let st : Client = holding config entries j in
    let m : PeerMessage = message_to config i peer j in
    let mine : ((j == j) && is_signed config m) ≡ true =
    ap (λ (b : Bool). b && is_signed config m) (eq-eqb j j refl) ∙ ap (λ (b : Bool). true && b) (letter-signed config i j peer) in
    ap (λ (o : Option PeerMessage). deed_of config j st (told o))
    (letter-read config i j peer standing.run.config_in_range.clients_count is.in_range)
    ∙ cond-true ((j == j) && is_signed config m) (heeded config.clients st i peer) deeds.Ignores mine

-- no tick comes
pub hearing-timed : (config : Config) (entries : List Entry) (b i j : ℕ) (peer : Peer)
    → ((k : ℕ) → IsTimed b (holding config entries k).timers)
    → (k : ℕ) → IsTimed b (holding config (entries ++ hearing config entries i j peer ∷ []) k).timers
hearing-timed config entries b i j peer timed k =
    let e : Entry = hearing config entries i j peer in
    elim (cases_eq j k) [
      | inl own ↦ subst (λ (x : ℕ). IsTimed b (holding config (entries ++ e ∷ []) x).timers) own
          (subst (λ (st : Client). IsTimed b st.timers) (sym (holding-own config entries e))
          (state-timed config j (holding config entries j) b e.input (λ m never. absurd (cc never)) (timed j)))
      | inr other ↦ subst (λ (st : Client). IsTimed b st.timers) (sym (holding-other config entries e k other)) (timed k)
    ]

-- ---- a PROBE

-- The answer of client j to client i.
abbrev pub answer_from : Config → List Entry → ℕ → Peer
answer_from config entries j = peers.Version (greatest config.clients (holding config entries j))

probe-deed : (config : Config) (entries : List Entry) (liar : LiarState) (i j place : ℕ) → IsStanding config entries liar
    → IsClient config.clients j → IsLetter config entries i j place peers.Probe
    → posts_of config j (holding config entries j)
    (deed_at config j (holding config entries j) (inputs.Peer (letter config i j peers.Probe)))
    ≡ message_to config j (answer_from config entries j) i ∷ []
probe-deed config entries liar i j place standing client is =
    let st : Client = holding config entries j in
    ap (posts_of config j st) (hearing-deed config entries liar i j place peers.Probe standing is)
    ∙ ap (λ (o : Option Notice). message_to config j (probe_answer config.clients st o) i ∷ [])
    (no-notice config entries liar j standing client)

-- it is answered to its sender, and to no one else
pub probe-posts : (config : Config) (entries : List Entry) (liar : LiarState) (i j place : ℕ) → IsStanding config entries liar
    → IsClient config.clients j → IsLetter config entries i j place peers.Probe
    → (hearing config entries i j peers.Probe).outcome.to_peers
    ≡ spelled_post config.wire (message_to config j (answer_from config entries j) i) ∷ []
probe-posts config entries liar i j place standing client is =
    posts-given config j (holding config entries j) (inputs.Peer (letter config i j peers.Probe))
    ∙ ap (map (spelled_post config.wire)) (probe-deed config entries liar i j place standing client is)

-- Client j has answered client i.
pub record IsAnswered (config : Config) (entries : List Entry) (j i base : ℕ) : Type 0 where
  pub counted : length (mailed j i entries) ≡ base + 2
  pub known : Known
  pub version : IsLetter config entries j i (base + 1) (peers.Version known)

to-own : (config : Config) (j i : ℕ) (peer : Peer)
    → posts_to i (spelled_post config.wire (message_to config j peer i) ∷ []) ≡ letter config j i peer ∷ []
to-own config j i peer = ap (λ (b : Bool). cond b (letter config j i peer ∷ []) []) (eq-eqb i i refl)

to-other : (config : Config) (j i k : ℕ) (peer : Peer) → (i ≡ k → ⊥)
    → posts_to k (spelled_post config.wire (message_to config j peer i) ∷ []) ≡ []
to-other config j i k peer other = ap (λ (b : Bool). cond b (letter config j i peer ∷ []) []) (ne_eqb i k other)

pub probe-answered : (config : Config) (entries : List Entry) (liar : LiarState) (i j place base : ℕ) → IsStanding config entries liar
    → IsClient config.clients i → IsClient config.clients j → (i ≡ j → ⊥) → IsLetter config entries i j place peers.Probe
    → length (mailed j i entries) ≡ base + 1
    → IsAnswered config (entries ++ hearing config entries i j peers.Probe ∷ []) j i base
probe-answered config entries liar i j place base standing sender client apart is counted =
    let n = config.clients in
    let st : Client = holding config entries j in
    let e : Entry = hearing config entries i j peers.Probe in
    let known : Known = greatest n st in
    let answer : Peer = peers.Version known in
    let m : PeerMessage = message_to config j answer i in
    let posted : posts_to i e.outcome.to_peers ≡ letter config j i answer ∷ [] =
    ap (posts_to i) (probe-posts config entries liar i j place standing client is) ∙ to-own config j i answer in
    let kept : IsClientOf config j st = client-kept config entries liar j standing client in
    let other : IsOther n j i = record { in_range = sender; differs = apart } in
    let answers : posts_of config j st (deeds.Answers i) ≡ m ∷ [] =
    ap (λ (o : Option Notice). message_to config j (probe_answer n st o) i ∷ []) (no-notice config entries liar j standing client) in
    let in_range = subst (AllByRecursion (IsPeerMessageFor n)) answers (posts-in_range config j st (deeds.Answers i) client kept other) in
    let bodies : made_bodies config entries e ≡ peer_body m ∷ [] =
    made-by config entries e ∙ ap (bodies_of config j st) (hearing-deed config entries liar i j place peers.Probe standing is)
    ∙ ap (map peer_body) answers in
    record {
      counted = omega (arith, mailed-one j i entries e (letter config j i answer) refl posted, counted);
      known = known;
      version = letter-last config entries e i (base + 1) answer counted posted
          (subst (λ (l : List (List ℕ)). Has l (peer_body m)) (sym bodies) (inl refl)) in_range.0;
    }

-- what others sent is as before
pub probe-elsewhere : (config : Config) (entries : List Entry) (liar : LiarState) (i j place a b : ℕ) → IsStanding config entries liar
    → IsClient config.clients j → IsLetter config entries i j place peers.Probe → ((a ≡ j) × (b ≡ i) → ⊥)
    → mailed a b (entries ++ hearing config entries i j peers.Probe ∷ []) ≡ mailed a b entries
probe-elsewhere config entries liar i j place a b standing client is apart =
    let e : Entry = hearing config entries i j peers.Probe in
    elim (cases_eq j a) [
      | inl own ↦ mailed-quiet a b entries e
          (ap (posts_to b) (probe-posts config entries liar i j place standing client is)
          ∙ to-other config j i b (answer_from config entries j) (λ same. apart (sym own, sym same)))
      | inr other ↦ mailed-other a b entries e other
    ]

-- ---- a VERSION

version-quiet : (config : Config) (me : ℕ) (st : Client) (j : ℕ) (known : Known) (first : Option ℕ)
    → notice_of (heeded_version j known first) ≡ None → posts_of config me st (heeded_version j known first) ≡ []
version-quiet config me st j known None none = refl
version-quiet config me st j known (Some k) none = absurd (cc none)

heeded-quiet : (config : Config) (me : ℕ) (st : Client) (j : ℕ) (known : Known)
    → notice_of (heeded config.clients st j (peers.Version known)) ≡ None
    → posts_of config me st (heeded config.clients st j (peers.Version known)) ≡ []
heeded-quiet config me st j known =
    let first : Option ℕ = first_unfit st known.version None config.clients in
    either_way (λ (d : Deed). notice_of d ≡ None → posts_of config me st d ≡ []) (is_none st.notice)
    (heeded_version j known first) deeds.Ignores
    (λ free none. version-quiet config me st j known first none) (λ failed none. refl)

-- it is heard without a word
pub version-quiet-entry : (config : Config) (entries : List Entry) (liar : LiarState) (i j place : ℕ) (known : Known)
    → IsStanding config entries liar → IsClient config.clients j → IsLetter config entries i j place (peers.Version known)
    → (hearing config entries i j (peers.Version known)).outcome.to_peers ≡ []
version-quiet-entry config entries liar i j place known standing client is =
    let st : Client = holding config entries j in
    let peer : Peer = peers.Version known in
    let input : Input = inputs.Peer (letter config i j peer) in
    let e : Entry = hearing config entries i j peer in
    let deed_is : deed_at config j st input ≡ heeded config.clients st i peer =
    hearing-deed config entries liar i j place peer standing is in
    let none : e.outcome.notice ≡ None =
    (last-well config entries liar e (hearing-stands config entries liar i j place peer standing client is)).no_notice in
    let quiet : posts_of config j st (heeded config.clients st i peer) ≡ [] =
    heeded-quiet config j st i known (sym (notice-given config j st input ∙ ap notice_of deed_is) ∙ none) in
    posts-given config j st input
    ∙ ap (λ (d : Deed). map (spelled_post config.wire) (posts_of config j st d)) deed_is
    ∙ ap (map (spelled_post config.wire)) quiet
