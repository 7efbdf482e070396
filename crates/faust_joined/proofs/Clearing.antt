-- Where no reply departs, each body that a reply has to answer for was made by its client. So no tag in a reply is forged.
use Rattle.std.proofs.Common.{◌≡◌, ◌⊎◌, ◌&&◌, ◌==◌, ◌+◌, ◌≤◌, ℕ, zero, suc, Bool, true, false, not, cond, List, [], ◌∷◌, ◌++◌, length, Option, Some, None, refl, sym, ap, ◌∙◌, subst, inl, inr, arith, append_assoc}
use Rattle.std.specs.Prelude.{slice_get}
use Rattle.std.proofs.lemmas.Bool.{cond-false, false≢true}
use Rattle.std.proofs.lemmas.Option.{same_Some}
use Rattle.faust_types.specs.Clients.{IsClient}
use Rattle.faust_types.specs.declared.config.Config.{Config}
use Rattle.faust_types.specs.declared.message.Commit.{Commit}
use Rattle.faust_types.specs.declared.message.PeerMessage.{PeerMessage}
use Rattle.faust_types.specs.declared.message.Reply.{Reply}
use Rattle.faust_tags.specs.Bodies.{peer_body}
use Rattle.faust_lists.specs.Lists.{count}
use Rattle.faust_lists.specs.Names.{Has}
use Rattle.faust_forks.specs.Pairs.{Pair, checked}
use Rattle.faust_honest.specs.World.{World}
use Rattle.faust_agent.specs.State.{completed_count}
use Rattle.faust_agent.specs.Deeds.{Sent, commits, peer_in, submits}
use Rattle.faust_agent.specs.Table.{is_signed}
use Rattle.faust_agent.specs.declared.client.Client.{Client}
use Rattle.faust_record.specs.Entries.{replay}
use Rattle.faust_record.specs.Made.{made_behind}
use Rattle.faust_record.specs.Operations.{started_among}
use Rattle.faust_record.specs.Runs.{IsRun, entries_of}
use Rattle.faust_record.specs.declared.entry.Input.{Input}
use Rattle.faust_record.specs.declared.entry.Input.TheVariants as inputs
use Rattle.faust_record.specs.declared.entry.Entry.{Entry}
use Rattle.faust_premises.specs.Premises.{checked_pairs, first_forged, first_forged_behind, forged_among, forgery_or, is_among, is_forged, is_right, pairs_of_input, pairs_of_message, pairs_of_reply}
use Rattle.faust_premises.proofs.Forgeries.{has-among}
use Rattle.faust_audit.specs.Departure.{Given, Line, departs, first_departure, first_departure_from, first_line, given_to, line_after, line_of, times_of}
use Rattle.faust_audit.proofs.Following.{line-append}
use Rattle.faust_joined.specs.Joined.{AreAllMade, AreGivenOf, AreOfHistory, IsBodyOf, of_commit, of_data, of_proof, of_submit, IsHeldBack, IsInStep, IsJoined, Lead, rides, world_of}
use Rattle.faust_joined.specs.Promised.{ArePeersMade, AreWithoutPeers}
use Rattle.faust_joined.proofs.Joining.{IsNext, IsNextJoined, next-joined}
use Rattle.faust_joined.proofs.Making.{IsHandedOver, all-made-first, all-made-next, handed-over}
use Rattle.faust_joined.proofs.Queues.{lead-le}
use Rattle.faust_joined.proofs.Running.{first-joined, next-of, none-here}

-- ---- how many COMMITs were taken

lead-taken : (config : Config) (world : World) (arrived : List ℕ) (k a m : ℕ) (queue : List Sent) (b e : ℕ)
    → Lead config world arrived k a m queue b e → m ≤ e
lead-taken config world arrived k a m [] b e lead = omega (arith, lead.1)
lead-taken config world arrived k a m (submits s ∷ rest) b e lead =
    omega (arith, lead-taken config world arrived k (suc a) (m + rides s.commit) rest b e lead.1)
lead-taken config world arrived k a m (commits c ∷ rest) b e lead =
    omega (arith, lead-taken config world arrived k a (suc m) rest b e lead.1)

held-most : (n : ℕ) (world : World) (arrived : List ℕ) (k done committed : ℕ) (held : Option Commit)
    → IsHeldBack n world arrived k done committed held → committed ≤ done
held-most n world arrived k done committed None back = omega (arith, back)
held-most n world arrived k done committed (Some c) back = omega (arith, back.0)

-- no more than operations that completed
taken-done : (config : Config) (world : World) (arrived : List ℕ) (taken begun k : ℕ) (st : Client) (queue : List Sent)
    (given : List Reply) (handed : ℕ) → IsInStep config world arrived taken begun k st queue given handed → taken ≤ handed
taken-done config world arrived taken begun k st queue given handed h =
    omega (
      arith,
      lead-taken config world arrived k (count k arrived) taken queue begun h.all_committed h.leads,
      held-most config.clients world arrived k (completed_count k st) h.all_committed st.held h.held_back,
      h.handed_each,
    )

arrived-begun : (config : Config) (world : World) (arrived : List ℕ) (taken begun k : ℕ) (st : Client) (queue : List Sent)
    (given : List Reply) (handed : ℕ) → IsInStep config world arrived taken begun k st queue given handed → count k arrived ≤ begun
arrived-begun config world arrived taken begun k st queue given handed h =
    lead-le config world arrived k (count k arrived) taken queue begun h.all_committed h.leads

-- ---- a body of the history was made

made-by : (config : Config) (world : World) (front : List Entry) (arrived handled body : List ℕ)
    → ((k : ℕ) → IsClient config.clients k → count k arrived ≤ length (started_among (entries_of k front)))
    → ((k : ℕ) → IsClient config.clients k → count k handled ≤ times_of k (line_of config front).handed)
    → AreAllMade config world arrived front → IsBodyOf config.clients world arrived handled body
    → Has (made_behind config [] front) body
made-by config world front arrived handled body begun done all (of_submit k t client lt is) =
    subst (λ (b : List ℕ). Has (made_behind config [] front) b) (sym is) ((all k client).submitted t (omega (arith, lt, begun k client)))
made-by config world front arrived handled body begun done all (of_data k t client lt is) =
    subst (λ (b : List ℕ). Has (made_behind config [] front) b) (sym is) ((all k client).stored t (omega (arith, lt, begun k client)))
made-by config world front arrived handled body begun done all (of_commit k t version client lt taken of_version is) =
    subst (λ (b : List ℕ). Has (made_behind config [] front) b) (sym is)
    ((all k client).committed t version (omega (arith, taken, done k client)) of_version)
made-by config world front arrived handled body begun done all (of_proof k t digest client lt taken chain is) =
    subst (λ (b : List ℕ). Has (made_behind config [] front) b) (sym is)
    ((all k client).proven t digest (omega (arith, taken, done k client)) chain)

body-made : (config : Config) (world : World) (front : List Entry) (body : List ℕ) → (h : IsJoined config world front)
    → AreAllMade config world h.arrived front → IsBodyOf config.clients world h.arrived h.handled body
    → Has (made_behind config [] front) body
body-made config world front body h all is = made-by config world front h.arrived h.handled body
    (λ k client. arrived-begun config world h.arrived (count k h.handled) (length (started_among (entries_of k front))) k
    (replay config k (entries_of k front)) (h.each k client).queue (given_to k (line_of config front).given)
    (times_of k (line_of config front).handed) (h.each k client).in_step)
    (λ k client. taken-done config world h.arrived (count k h.handled) (length (started_among (entries_of k front))) k
    (replay config k (entries_of k front)) (h.each k client).queue (given_to k (line_of config front).given)
    (times_of k (line_of config front).handed) (h.each k client).in_step)
    all is

-- ---- no pair is forged

-- a pair that is right, and whose body was made, isn't forged
kept-right : (right among : Bool) → (right ≡ true → among ≡ true) → (right && not among) ≡ false
kept-right true true kept = refl
kept-right true false kept = absurd (false≢true (kept refl))
kept-right false among kept = refl

none-among : (key : List ℕ) (made : List (List ℕ)) (pairs : List Pair)
    → ((pair : Pair) → Has pairs pair → is_right key pair ≡ true → Has made pair.body) → forged_among key made pairs ≡ None
none-among key made [] each = refl
none-among key made (pair ∷ rest) each =
    cond-false (is_forged key made pair) (Some pair.body) (forged_among key made rest)
    (kept-right (is_right key pair) (is_among made pair.body) (λ right. has-among made pair.body (each pair (inl refl) right)))
    ∙ none-among key made rest (λ other has right. each other (inr has) right)

-- what a reply that was given has to answer for
got-first : (g : Reply) (rest : List Reply) (s : ℕ) (reply : Reply) → slice_get (g ∷ rest) s ≡ Some reply
    → (g ≡ reply) ⊎ ((q : ℕ) × (slice_get rest q ≡ Some reply))
got-first g rest zero reply found = inl (same_Some g reply found)
got-first g rest (suc q) reply found = inr (q, found)

given-on : (n : ℕ) (world : World) (arrived handled : List ℕ) (b : Bool) (g : Given) (rest : List Reply) (s : ℕ) (reply : Reply)
    → AreOfHistory n world arrived handled (checked g.reply)
    → ((q : ℕ) → slice_get rest q ≡ Some reply → AreOfHistory n world arrived handled (checked reply))
    → slice_get (cond b (g.reply ∷ rest) rest) s ≡ Some reply → AreOfHistory n world arrived handled (checked reply)
given-on n world arrived handled true g rest s reply here later found = elim (got-first g.reply rest s reply found) [
  | inl same ↦ subst (λ (r : Reply). AreOfHistory n world arrived handled (checked r)) same here
  | inr behind ↦ later behind.0 behind.1
]
given-on n world arrived handled false g rest s reply here later found = later s found

given-here : (n : ℕ) (world : World) (arrived handled : List ℕ) (k : ℕ) (given : List Given) (s : ℕ) (reply : Reply)
    → AreGivenOf n world arrived handled given → slice_get (given_to k given) s ≡ Some reply
    → AreOfHistory n world arrived handled (checked reply)
given-here n world arrived handled k [] s reply all found = absurd cc
given-here n world arrived handled k (g ∷ rest) s reply all found =
    given-on n world arrived handled (g.client == k) g (given_to k rest) s reply all.0
    (λ q behind. given-here n world arrived handled k rest q reply all.1 behind) found

peer-clear : (config : Config) (front : List Entry) (bytes : List ℕ) (said : Option PeerMessage) (pair : Pair)
    → ((message : PeerMessage) → said ≡ Some message → is_signed config message ≡ true
    → Has (made_behind config [] front) (peer_body message))
    → Has (pairs_of_message said) pair → is_right config.key pair ≡ true → Has (made_behind config [] front) pair.body
peer-clear config front bytes None pair made has right = absurd has
peer-clear config front bytes (Some message) pair made (inl same) right =
    subst (λ (x : Pair). Has (made_behind config [] front) x.body) (sym same)
    (made message refl (subst (λ (x : Pair). is_right config.key x ≡ true) same right))
peer-clear config front bytes (Some message) pair made (inr none) right = absurd none

pairs-clear : (config : Config) (world : World) (front : List Entry) (e : Entry) (input : Input) → (next : IsNext config world front e)
    → e.input ≡ input → (h : IsJoined config world front) → AreAllMade config world h.arrived front
    → (pair : Pair) → Has (pairs_of_input config input) pair → is_right config.key pair ≡ true → Has (made_behind config [] front) pair.body
pairs-clear config world front e (inputs.Write value) next is h all pair has right = absurd has
pairs-clear config world front e (inputs.Read register) next is h all pair has right = absurd has
pairs-clear config world front e (inputs.Reply bytes) next is h all pair has right =
    let over : IsHandedOver config world front e bytes h.arrived = handed-over config world front e bytes next is h in
    let of_history : AreOfHistory config.clients world h.arrived h.handled (checked over.reply) =
    given-here config.clients world h.arrived h.handled e.client (line_of config front).given
    (times_of e.client (line_of config front).handed)
    over.reply h.given over.is_given in
    body-made config world front pair.body h all
    (of_history pair (subst (λ (o : Option Reply). Has (pairs_of_reply o) pair) over.is_read has))
pairs-clear config world front e (inputs.Peer bytes) next is h all pair has right =
    peer-clear config front bytes (peer_in config bytes) pair
    (λ message spelled signed. next.peer_made bytes message is spelled signed) has right
pairs-clear config world front e (inputs.Tick m) next is h all pair has right = absurd has
pairs-clear config world front e (inputs.Arrive message) next is h all pair has right = absurd has

entry-clear : (config : Config) (world : World) (front : List Entry) (e : Entry) → IsNext config world front e
    → (h : IsJoined config world front) → AreAllMade config world h.arrived front
    → forged_among config.key (made_behind config [] front) (checked_pairs config e) ≡ None
unfolding checked_pairs
entry-clear config world front e next h all =
    none-among config.key (made_behind config [] front) (pairs_of_input config e.input)
    (λ pair has right. pairs-clear config world front e e.input next refl h all pair has right)

-- ---- along a run

clear-from : (config : Config) (all front rest : List Entry) → IsRun config all → front ++ rest ≡ all → ArePeersMade config front rest
    → first_departure_from config (line_of config front) rest ≡ None → (h : IsJoined config (world_of config all) front)
    → AreAllMade config (world_of config all) h.arrived front → first_forged_behind config front rest ≡ None
clear-from config all front [] run whole made none h bodies = refl
clear-from config all front (e ∷ rest) run whole made none h bodies =
    let world : World = world_of config all in
    let stays = none-here (departs config (line_of config front) e) e.number
    (first_departure_from config (line_after config (line_of config front) e) rest) none in
    let next : IsNext config world front e = next-of config all front rest e run whole made.0 stays.0 in
    let grown : IsNextJoined config world front e h.arrived = next-joined config world front e next h in
    let now : IsJoined config world (front ++ e ∷ []) = grown.grown.joined in
    let later : first_forged_behind config (front ++ e ∷ []) rest ≡ None =
    clear-from config all (front ++ e ∷ []) rest run (append_assoc front (e ∷ []) rest ∙ whole) made.1
    (ap (λ (l : Line). first_departure_from config l rest) (line-append config (first_line config.clients) front e) ∙ stays.1) now
    (all-made-next config world front e now.arrived next h grown.grown.goes_on bodies) in
    ap (λ (here : Option (List ℕ)). forgery_or e.number here (first_forged_behind config (front ++ e ∷ []) rest))
    (entry-clear config world front e next h bodies)
    ∙ later

pub none-forged-at-all : (config : Config) (entries : List Entry) → IsRun config entries → ArePeersMade config [] entries
    → first_departure config entries ≡ None → first_forged config entries ≡ None
none-forged-at-all config entries run made none =
    let world : World = world_of config entries in
    let first : IsJoined config world [] = first-joined config world run.config_in_range.clients_count in
    clear-from config entries [] entries run refl made none first (all-made-first config world first.arrived)

-- nothing comes from another client
pub without-made : (config : Config) (before rest : List Entry) → AreWithoutPeers rest → ArePeersMade config before rest
without-made config before [] alone = tt
without-made config before (e ∷ rest) alone = (
  λ bytes message is spelled signed. absurd (alone.0 bytes is),
  without-made config (before ++ e ∷ []) rest alone.1,
)
