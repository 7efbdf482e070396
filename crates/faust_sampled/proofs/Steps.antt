-- An operation, event by event: its client begins it, the SUBMIT arrives, the reply is handed over, the COMMIT arrives.
use Rattle.std.proofs.Common.{◌≡◌, ◌+◌, ◌^◌, ◌<◌, ◌≤◌, ℕ, Bool, true, false, List, [], ◌∷◌, ◌++◌, length, map, option_to_list, Option, Some, None, Result, Ok, refl, sym, ap, ◌∙◌, subst, inl, inr, arith, length-append}
use Rattle.std.specs.Prelude.{◌&&◌, ◌==◌, IsSome, if◌then◌else◌, is_none, nat_le, nat_lt, not, slice_get}
use Rattle.std.proofs.lemmas.Bool.{cases_eq, cond-true, eq-eqb, le-leb, lt-ltb}
use Rattle.std.proofs.lemmas.List.{length-map}
use Rattle.faust_text.specs.Fields.{◌>>=◌}
use Rattle.faust_text.specs.declared.cause.Cause.{Cause}
use Rattle.faust_types.specs.Bytes.{IsValue}
use Rattle.faust_types.specs.Ranges.{IsReplyFor, IsWire}
use Rattle.faust_types.specs.Clients.{IsClient, IsClientCount}
use Rattle.faust_types.specs.declared.config.Config.{Config}
use Rattle.faust_types.specs.declared.message.Commit.{Commit}
use Rattle.faust_types.specs.declared.message.Message.{Message}
use Rattle.faust_types.specs.declared.message.Message.TheVariants as messages
use Rattle.faust_types.specs.declared.message.Reply.{Reply}
use Rattle.faust_types.specs.declared.operation.Notice.{Notice}
use Rattle.faust_types.specs.declared.operation.Operation.{Operation}
use Rattle.faust_hash.proofs.Lists.{is_same_tells}
use Rattle.faust_wire.specs.Grammar.{reply_bytes, spelling}
use Rattle.faust_wire.specs.Reading.{message_of}
use Rattle.faust_wire.proofs.Bytes.{AreBytes-spelling}
use Rattle.faust_wire.proofs.Lengths.{spelling_at_most}
use Rattle.faust_wire.proofs.Messages.{commit-read, submit-read}
use Rattle.faust_lists.specs.Lists.{count}
use Rattle.faust_server.specs.Rows.{State, committed}
use Rattle.faust_honest.specs.World.{World}
use Rattle.faust_honest.specs.Honest.{IsHonest}
use Rattle.faust_honest.proofs.Rides.{committed-well}
use Rattle.faust_agent.specs.State.{completed_count, is_idle}
use Rattle.faust_agent.specs.Deeds.{Sent, commits, submits, asked, ticked, read_of, write_of}
use Rattle.faust_agent.specs.Outcomes.{sent_bytes, spelled_post, spelled_sent}
use Rattle.faust_agent.specs.Table.{answer_of, commit_of, deed_of, posts_of, sent_of}
use Rattle.faust_agent.specs.declared.client.Client.{Client}
use Rattle.faust_agent.specs.declared.deed.Deed.{Deed}
use Rattle.faust_agent.specs.declared.deed.Deed.TheVariants as deeds
use Rattle.faust_agent.specs.declared.deed.Order.{Order}
use Rattle.faust_agent.proofs.Kept.{either_way}
use Rattle.faust_record.specs.Entries.{AreHandedIn, MayCome, arrival_at, deed_at, event_of}
use Rattle.faust_record.specs.Operations.{Started, started_among, started_in}
use Rattle.faust_record.specs.Refusals.{begin_refused, begin_refused_by, is_register, refusal_at}
use Rattle.faust_record.specs.Runs.{arrived_in, arriving, entries_of, next_message, sent_in}
use Rattle.faust_record.specs.declared.entry.Entry.{Entry}
use Rattle.faust_record.specs.declared.entry.Input.{Input}
use Rattle.faust_record.specs.declared.entry.Input.TheVariants as inputs
use Rattle.faust_record.specs.declared.errors.Refusal.TheVariants as refusals
use Rattle.faust_record.proofs.Pushes.{arrived-due}
use Rattle.faust_record.proofs.Runs.{run-arrived}
use Rattle.faust_audit.specs.Departure.{Line, departs_at, given_to, is_due, line_at, line_of, line_told, times_of}
use Rattle.faust_joined.specs.Joined.{IsInStep, IsJoined, IsQueued, IsWaiting, Lead, world_of}
use Rattle.faust_joined.proofs.Acting.{answer-given}
use Rattle.faust_joined.proofs.Arriving.{next-queued, ok-and, served-next}
use Rattle.faust_script.specs.declared.event.Event.TheVariants as event
use Rattle.faust_script.specs.declared.progress.Phase.{Phase}
use Rattle.faust_script.specs.declared.progress.Phase.TheVariants as phases
use Rattle.faust_liar.specs.Lies.{LiarState, arrived, one_taken}
use Rattle.faust_sim.specs.Mail.{mailed, posts_to}
use Rattle.faust_sim.specs.Play.{Scene, arrives, handed, handled_by_liar, scene_of_push}
use Rattle.faust_sampled.proofs.Branch.{IsLone, lone-committed, lone-submitted, lone-taken, next-handed}
use Rattle.faust_sampled.proofs.Leading.{IsPlayed, run_at, scene_at}
use Rattle.faust_sampled.proofs.Letters.{mailed-quiet, posts-given, sent-given}
use Rattle.faust_sampled.proofs.Phases.{IsCounted, IsInPhase, handed_in, on_way_in, pending_in, phase-other, phase-own}
use Rattle.faust_sampled.proofs.Standing.{IsStanding, acted-ok, acted-standing, entry_of, holding, holding-other, holding-own, known-of, last-well, standing-more}
use Rattle.faust_sampled.proofs.Timers.{IsTimed, state-timed}

-- Nothing was said between clients, and no tick came.
pub record IsSilent (config : Config) (entries : List Entry) : Type 0 where
  pub unsaid : (i j : ℕ) → mailed i j entries ≡ []
  pub timed : (i : ℕ) → IsTimed 0 (holding config entries i).timers

-- One more entry, of client i, which comes to a phase; the others stay in theirs.
pub record IsOneMore (config : Config) (entries : List Entry) (i : ℕ) (phase : Phase) (next : List Entry) (now : LiarState) : Type 0 where
  pub standing : IsStanding config next now
  pub own : IsInPhase config next i phase
  pub others : (j : ℕ) (other : Phase) → (i ≡ j → ⊥) → IsInPhase config entries j other → IsInPhase config next j other
  pub silent : IsSilent config next
  pub counted : length next ≡ length entries + 1

-- a silent entry
silent-more : (config : Config) (entries : List Entry) (e : Entry) → IsSilent config entries → e.outcome.to_peers ≡ []
    → ((m : ℕ) → event_of config e.client e.input ≡ ticked m → m ≤ 0) → IsSilent config (entries ++ e ∷ [])
silent-more config entries e silent none below = record {
  unsaid = λ i j. mailed-quiet i j entries e (ap (posts_to j) none) ∙ silent.unsaid i j;
  timed = λ i. elim (cases_eq e.client i) [
    | inl own ↦ subst (λ (k : ℕ). IsTimed 0 (holding config (entries ++ e ∷ []) k).timers) own
        (subst (λ (st : Client). IsTimed 0 st.timers) (sym (holding-own config entries e))
        (state-timed config e.client (holding config entries e.client) 0 e.input below (silent.timed e.client)))
    | inr other ↦ subst (λ (st : Client). IsTimed 0 st.timers) (sym (holding-other config entries e i other)) (silent.timed i)
  ];
}

one-more : (config : Config) (entries : List Entry) (now : LiarState) (e : Entry) (phase next : Phase) (started sent come taken : ℕ)
    → IsStanding config (entries ++ e ∷ []) now → IsSilent config entries → e.outcome.to_peers ≡ []
    → ((m : ℕ) → event_of config e.client e.input ≡ ticked m → m ≤ 0)
    → IsInPhase config entries e.client phase → IsCounted e started sent come taken
    → pending_in phase + started ≡ pending_in next + taken → on_way_in phase + sent ≡ on_way_in next + come
    → IsOneMore config entries e.client next (entries ++ e ∷ []) now
one-more config entries now e phase next started sent come taken standing silent none below own counted pending way = record {
  standing = standing;
  own = phase-own config entries e phase next started sent come taken counted pending way own;
  others = λ j other apart is. phase-other config entries e j other apart is;
  silent = silent-more config entries e silent none below;
  counted = length-append entries (e ∷ []);
}

-- ---- an operation begins

-- a client whose operations are complete waits for none
waits-none : (world : World) (k done begun : ℕ) (held : Option Commit) (waiting : Option Operation)
    → IsWaiting world k done begun held waiting → begun ≡ done → waiting ≡ None
waits-none world k done begun held None is same = refl
waits-none world k done begun held (Some op) is same = absurd (omega (arith, is.is_last, same))

idle-of : (me : ℕ) (st : Client) → st.waiting ≡ None → st.notice ≡ None → completed_count me st + 1 < 2 ^ 40 → is_idle me st ≡ true
idle-of me st waits none below =
    ap (λ (o : Option Operation). is_none o && is_none st.notice && nat_lt (completed_count me st + 1) (2 ^ 40)) waits
    ∙ ap (λ (o : Option Notice). true && is_none o && nat_lt (completed_count me st + 1) (2 ^ 40)) none
    ∙ ap (λ (b : Bool). true && true && b) (lt-ltb (completed_count me st + 1) (2 ^ 40) below)

-- no more operations begin than there are entries
one-started : (o : Option Started) → length (option_to_list o) ≤ 1
one-started None = omega arith
one-started (Some x) = omega arith

started-few : (xs : List Entry) → length (started_among xs) ≤ length xs
started-few [] = omega arith
started-few (x ∷ xs) =
    omega (arith, length-append (option_to_list (started_in x)) (started_among xs), one-started (started_in x), started-few xs)

own-few : (i : ℕ) (xs : List Entry) → length (entries_of i xs) ≤ length xs
own-few i [] = omega arith
own-few i (x ∷ xs) =
    let few : length (entries_of i xs) ≤ length xs = own-few i xs in
    either_way (λ (l : List Entry). length l ≤ length (x ∷ xs)) (x.client == i) (x ∷ entries_of i xs) (entries_of i xs)
    (λ own. omega (arith, few)) (λ other. omega (arith, few))

-- so a client in phase 0 is idle
client-idle : (config : Config) (entries : List Entry) (liar : LiarState) (i : ℕ) → IsStanding config entries liar
    → IsClient config.clients i → length entries ≤ 20000 → IsInPhase config entries i phases.Idle
    → (is_idle i (holding config entries i) ≡ true) × ((holding config entries i).notice ≡ None)
client-idle config entries liar i standing client few phase =
    let st : Client = holding config entries i in
    let joined : IsJoined config (world_of config entries) entries = (known-of config entries liar standing).joined in
    let step = (joined.each i client).in_step in
    let begun : length (started_among (entries_of i entries)) ≡ completed_count i st = omega (arith, phase.begun, step.handed_each) in
    let below : completed_count i st + 1 < 2 ^ 40 =
    omega (arith, begun, started-few (entries_of i entries), own-few i entries, few) in
    let waits : st.waiting ≡ None =
    waits-none (world_of config entries) i (completed_count i st) (length (started_among (entries_of i entries))) st.held st.waiting
    step.waiting begun in
    (idle-of i st waits step.no_notice below, step.no_notice)

begins : (config : Config) (me : ℕ) (st : Client) (order : Order) → is_idle me st ≡ true
    → deed_of config me st (asked order) ≡ deeds.Begins order
unfolding deed_of
begins config me st order idle = ap (λ (b : Bool). if b then deeds.Begins order else deeds.Ignores) idle

begin-more : (config : Config) (entries : List Entry) (liar : LiarState) (i : ℕ) (input : Input) (order : Order)
    → IsStanding config entries liar → IsSilent config entries → IsClient config.clients i → IsInPhase config entries i phases.Idle
    → is_idle i (holding config entries i) ≡ true → MayCome config i (holding config entries i) input
    → event_of config i input ≡ asked order → arriving input ≡ None
    → line_at config (line_of config entries) i input ≡ line_of config entries
    → departs_at config (line_of config entries) i input ≡ false → ((bytes : List ℕ) → input ≡ inputs.Peer bytes → ⊥)
    → handed_in input ≡ 0 → length (option_to_list (started_in (entry_of config entries i input))) ≡ 1
    → IsOneMore config entries i phases.Begun (entries ++ entry_of config entries i input ∷ []) liar
begin-more config entries liar i input order standing silent client phase idle may event_is act line_is stays no_peer none started =
    let st : Client = holding config entries i in
    let e : Entry = entry_of config entries i input in
    let deed_is : deed_at config i st input ≡ deeds.Begins order = ap (deed_of config i st) event_is ∙ begins config i st order idle in
    let sent : length (option_to_list e.outcome.to_server) ≡ 1 =
    ap (λ (o : Option (List ℕ)). length (option_to_list o))
    (sent-given config i st input ∙ ap (λ (d : Deed). spelled_sent config.wire (sent_of config i st d)) deed_is) in
    let quiet : e.outcome.to_peers ≡ [] =
    posts-given config i st input ∙ ap (λ (d : Deed). map (spelled_post config.wire) (posts_of config i st d)) deed_is in
    one-more config entries liar e phases.Idle phases.Begun 1 1 0 0
    (acted-standing config entries liar liar i input standing client may act
    (λ bytes message is read signed. absurd (no_peer bytes is)) stays
    (subst (λ (l : Line). IsLone config l liar) (sym line_is) standing.lone))
    silent quiet (λ m tick. let never : asked order ≡ ticked m = sym event_is ∙ tick in absurd (cc never)) phase
    (record {
      started_is = started;
      sent_is = sent;
      arrived_is = ap (λ (o : Option (List ℕ)). length (option_to_list o)) act;
      handed_is = none;
    }) refl refl

unrefused : (i : ℕ) (st : Client) → st.notice ≡ None → is_idle i st ≡ true → begin_refused i st ≡ None
unrefused i st none idle =
    ap (λ (o : Option Notice). begin_refused_by o (is_idle i st)) none
    ∙ ap (λ (b : Bool). if b then None else Some refusals.Busy) idle

pub write-plays : (config : Config) (entries : List Entry) (liar : LiarState) (i : ℕ) (value : List ℕ) → IsStanding config entries liar
    → IsSilent config entries → IsClient config.clients i → length entries ≤ 20000 → IsInPhase config entries i phases.Idle → IsValue value
    → IsPlayed config entries liar (event.Write i value) (IsOneMore config entries i phases.Begun)
write-plays config entries liar i value standing silent client few phase range =
    let st : Client = holding config entries i in
    let input : Input = inputs.Write value in
    let idle = client-idle config entries liar i standing client few phase in
    let none : refusal_at config i st input ≡ None =
    cond-true (nat_le (length value) 4096) (begin_refused i st) (Some refusals.TooLong) (le-leb (length value) 4096 range.sized)
    ∙ unrefused i st idle.1 idle.0 in
    record {
      next = entries ++ entry_of config entries i input ∷ [];
      now = liar;
      played = ap (scene_of_push liar) (acted-ok config entries i input none);
      holds = begin-more config entries liar i input (write_of i value) standing silent client phase idle.0
          (record { idle = idle.0; value_in_range = range }) refl refl refl refl (λ bytes never. absurd (cc never)) refl refl;
    }

pub read-plays : (config : Config) (entries : List Entry) (liar : LiarState) (i j : ℕ) → IsStanding config entries liar
    → IsSilent config entries → IsClient config.clients i → length entries ≤ 20000 → IsInPhase config entries i phases.Idle
    → IsClient config.clients j → IsPlayed config entries liar (event.Read i j) (IsOneMore config entries i phases.Begun)
read-plays config entries liar i j standing silent client few phase register =
    let n = config.clients in
    let st : Client = holding config entries i in
    let input : Input = inputs.Read j in
    let idle = client-idle config entries liar i standing client few phase in
    let is : is_register n j ≡ true =
    ap (λ (b : Bool). b && nat_le j n) (le-leb 1 j register.from_one) ∙ ap (λ (b : Bool). true && b) (le-leb j n register.to_n) in
    let none : refusal_at config i st input ≡ None =
    cond-true (is_register n j) (begin_refused i st) (Some refusals.NoRegister) is ∙ unrefused i st idle.1 idle.0 in
    record {
      next = entries ++ entry_of config entries i input ∷ [];
      now = liar;
      played = ap (scene_of_push liar) (acted-ok config entries i input none);
      holds = begin-more config entries liar i input (read_of j false) standing silent client phase idle.0
          (record { idle = idle.0; register_in_range = register }) refl refl refl refl (λ bytes never. absurd (cc never)) refl refl;
    }

-- ---- a message arrives

-- how many messages wait
queued-length : (config : Config) (own : List Entry) (queue : List Sent) (more : ℕ) → IsQueued config.wire own queue
    → length (sent_in own) ≡ length (arrived_in own) + more → length queue ≡ more
queued-length config own queue more queued sent =
    omega (
      arith,
      sent,
      queued.counted,
      ap (λ (l : List (List ℕ)). length l) queued.sent_is,
      length-append queued.gone (map (sent_bytes config.wire) queue),
      length-map queue (sent_bytes config.wire),
    )

arrival-due : (config : Config) (entries : List Entry) (i : ℕ) (s : Sent) (rest : List Sent)
    → IsQueued config.wire (entries_of i entries) (s ∷ rest) → next_message i entries ≡ Some (sent_bytes config.wire s)
arrival-due config entries i s rest queued =
    let own : List Entry = entries_of i entries in
    let spell : Sent → List ℕ = sent_bytes config.wire in
    ap (λ (l : List (List ℕ)). slice_get l (length (arrived_in own))) queued.sent_is
    ∙ ap (slice_get (queued.gone ++ map spell (s ∷ rest))) (sym queued.counted)
    ∙ next-queued queued.gone (map spell (s ∷ rest))

arrival-plays : (config : Config) (entries : List Entry) (liar : LiarState) (i : ℕ) (bytes : List ℕ) (message : Message)
    (phase next : Phase) → IsStanding config entries liar → IsSilent config entries → IsClient config.clients i
    → IsInPhase config entries i phase
    → pending_in phase + 0 ≡ pending_in next + 0 → on_way_in phase + 0 ≡ on_way_in next + 1
    → next_message i entries ≡ Some bytes → message_of config.wire config.clients bytes ≡ Some message
    → IsLone config (line_told (line_of config entries) i (Some message)) (arrived liar i bytes)
    → IsPlayed config entries liar (event.Arrive i) (IsOneMore config entries i next)
arrival-plays config entries liar i bytes message phase next standing silent client is pending way due read lone =
    let e : Entry = arrival_at i (length entries) bytes in
    let scene : Scene = scene_at config entries liar in
    record {
      next = entries ++ e ∷ [];
      now = arrived liar i bytes;
      played = ap (arrives scene i) due
          ∙ ap (λ (r : Result Scene Cause). r >>= λ after. Ok (handled_by_liar i bytes after))
          (ap (scene_of_push liar) (arrived-due (run_at config entries) i bytes due));
      holds = one-more config entries (arrived liar i bytes) e phase next 0 0 1 0
          (standing-more config entries liar (arrived liar i bytes) e standing (run-arrived config entries i bytes standing.run client due)
          (λ other said never spelled signed. absurd (cc never)) refl
          (subst (λ (l : Line). IsLone config l (arrived liar i bytes)) (sym (ap (line_told (line_of config entries) i) read)) lone))
          silent refl (λ m never. absurd (cc never)) is
          (record { started_is = refl; sent_is = refl; arrived_is = refl; handed_is = refl }) pending way;
    }

arrive-by : (config : Config) (entries : List Entry) (liar : LiarState) (i : ℕ) (phase next : Phase) (queue : List Sent)
    → config.wire ≡ 1 → IsStanding config entries liar → IsSilent config entries → IsClient config.clients i
    → IsInPhase config entries i phase → pending_in phase + 0 ≡ pending_in next + 0 → on_way_in phase + 0 ≡ on_way_in next + 1
    → (h : IsJoined config (world_of config entries) entries) → IsQueued config.wire (entries_of i entries) queue
    → IsInStep config (world_of config entries) h.arrived (count i h.handled) (length (started_among (entries_of i entries))) i
    (holding config entries i) queue (given_to i (line_of config entries).given) (times_of i (line_of config entries).handed)
    → IsPlayed config entries liar (event.Arrive i) (IsOneMore config entries i next)
arrive-by config entries liar i phase next [] one standing silent client is pending way h queued step =
    absurd (omega (arith, way, queued-length config (entries_of i entries) [] (on_way_in phase) queued is.sent))
arrive-by config entries liar i phase next (submits m ∷ rest) one standing silent client is pending way h queued step =
    let n = config.clients in
    let line : Line = line_of config entries in
    let bytes : List ℕ = sent_bytes config.wire (submits m) in
    let due = step.leads.0 in
    let served = served-next config (world_of config entries) line.server h.arrived h.handled i m h.honest client due in
    let read : message_of config.wire n bytes ≡ Some (messages.Submit m) =
    submit-read config.wire n m standing.run.config_in_range.clients_count due.in_range.0 due.in_range.1 in
    arrival-plays config entries liar i bytes (messages.Submit m) phase next standing silent client is pending way
    (arrival-due config entries i (submits m) rest queued) read
    (lone-submitted config line liar i bytes m served.served standing.lone client h.honest.in_range due.in_range.0 (due.in_range.1 one)
    read served.row)
arrive-by config entries liar i phase next (commits c ∷ rest) one standing silent client is pending way h queued step =
    let n = config.clients in
    let world : World = world_of config entries in
    let line : Line = line_of config entries in
    let bytes : List ℕ = sent_bytes config.wire (commits c) in
    let due = step.leads.0 in
    let taken = ok-and (λ (st : State). IsHonest n world st h.arrived (i ∷ h.handled)) (committed line.server i c)
    (committed-well n world line.server h.arrived h.handled i c h.honest client due.in_range due.balanced due.is_made.is_commit) in
    let read : message_of config.wire n bytes ≡ Some (messages.Commit c) =
    commit-read config.wire n c standing.run.config_in_range.clients_count due.in_range in
    arrival-plays config entries liar i bytes (messages.Commit c) phase next standing silent client is pending way
    (arrival-due config entries i (commits c) rest queued) read
    (lone-committed config line liar i bytes c taken.0 standing.lone client h.honest.in_range read taken.1)

pub arrive-plays : (config : Config) (entries : List Entry) (liar : LiarState) (i : ℕ) (phase next : Phase) → config.wire ≡ 1
    → IsStanding config entries liar → IsSilent config entries → IsClient config.clients i → IsInPhase config entries i phase
    → pending_in phase + 0 ≡ pending_in next + 0 → on_way_in phase + 0 ≡ on_way_in next + 1
    → IsPlayed config entries liar (event.Arrive i) (IsOneMore config entries i next)
arrive-plays config entries liar i phase next one standing silent client is pending way =
    let joined : IsJoined config (world_of config entries) entries = (known-of config entries liar standing).joined in
    let mine = joined.each i client in
    arrive-by config entries liar i phase next mine.queue one standing silent client is pending way joined mine.queued mine.in_step

-- ---- a reply is handed over

-- where all that was sent has arrived, all operations that began have
lead-empty : (config : Config) (world : World) (arrived : List ℕ) (k a m : ℕ) (queue : List Sent) (b e : ℕ) → length queue ≡ 0
    → Lead config world arrived k a m queue b e → a ≡ b
lead-empty config world arrived k a m [] b e none lead = lead.0
lead-empty config world arrived k a m (s ∷ rest) b e none lead = absurd (omega (arith, none))

-- a reply that completes an operation makes its client send a COMMIT, and nothing to others
spelled-length : (wire : ℕ) (sent : Option Sent) → length (option_to_list (spelled_sent wire sent)) ≡ length (option_to_list sent)
spelled-length wire None = refl
spelled-length wire (Some s) = refl

completing-sends : (config : Config) (me : ℕ) (st : Client) (deed : Deed) → config.wire ≡ 1 → IsSome (answer_of deed)
    → (length (option_to_list (sent_of config me st deed)) ≡ 1) × (posts_of config me st deed ≡ [])
completing-sends config me st deeds.Ignores one some = absurd (cc some)
completing-sends config me st (deeds.Begins order) one some = absurd (cc some)
completing-sends config me st (deeds.Completes done) one some = (
  ap (λ (b : Bool). length (option_to_list (if b then Some (commits (commit_of config me done.judged.next)) else None)))
      (eq-eqb config.wire 1 one),
  refl,
)
completing-sends config me st (deeds.Breaks notice) one some = absurd (cc some)
completing-sends config me st (deeds.Answers j) one some = absurd (cc some)
completing-sends config me st (deeds.Hears j known) one some = absurd (cc some)
completing-sends config me st (deeds.Ticks m) one some = absurd (cc some)

reply-by : (config : Config) (entries : List Entry) (liar : LiarState) (i : ℕ) (reply : Reply) → config.wire ≡ 1
    → IsStanding config entries liar → IsSilent config entries → IsClient config.clients i → IsInPhase config entries i phases.Arrived
    → slice_get (given_to i (line_of config entries).given) (times_of i (line_of config entries).handed) ≡ Some reply
    → IsReplyFor config.clients reply
    → IsPlayed config entries liar (event.Reply i) (IsOneMore config entries i phases.Replied)
reply-by config entries liar i reply one standing silent client is found range =
    let n = config.clients in
    let st : Client = holding config entries i in
    let line : Line = line_of config entries in
    let bytes : List ℕ = spelling liar.wire (messages.Reply reply) in
    let input : Input = inputs.Reply bytes in
    let e : Entry = entry_of config entries i input in
    let now : LiarState = one_taken liar i in
    let count_is : IsClientCount n = standing.run.config_in_range.clients_count in
    let may : AreHandedIn bytes = record {
      sized = omega (arith, spelling_at_most liar.wire n (messages.Reply reply) count_is range);
      bytes_each = AreBytes-spelling liar.wire n (messages.Reply reply)
          (subst IsWire (sym standing.lone.wire_is) standing.run.config_in_range.wire_known) count_is range;
    } in
    let stays : departs_at config line i input ≡ false =
    ap (λ (o : Option Reply). not (is_due config.wire bytes o)) found
    ∙ ap not ((is_same_tells bytes (reply_bytes config.wire reply)).1 (ap (λ (w : ℕ). reply_bytes w reply) standing.lone.wire_is)) in
    let after : IsStanding config (entries ++ e ∷ []) now =
    acted-standing config entries liar now i input standing client may refl (λ other said never read signed. absurd (cc never)) stays
    (lone-taken config line liar i standing.lone client) in
    let completes : IsSome e.outcome.answer = (last-well config entries now e after).completes bytes refl in
    let sends = completing-sends config i st (deed_at config i st input) one (subst IsSome (answer-given config i st input) completes) in
    record {
      next = entries ++ e ∷ [];
      now = now;
      played = ap (handed (run_at config entries) i) (next-handed config line liar i reply standing.lone client found)
          ∙ ap (scene_of_push now) (acted-ok config entries i input refl);
      holds = one-more config entries now e phases.Arrived phases.Replied 0 1 0 1 after silent
          (posts-given config i st input ∙ ap (map (spelled_post config.wire)) sends.1) (λ m never. absurd (cc never)) is
          (record {
            started_is = refl;
            sent_is = ap (λ (o : Option (List ℕ)). length (option_to_list o)) (sent-given config i st input)
                ∙ spelled-length config.wire (sent_of config i st (deed_at config i st input)) ∙ sends.0;
            arrived_is = refl;
            handed_is = refl;
          }) refl refl;
    }

pub reply-plays : (config : Config) (entries : List Entry) (liar : LiarState) (i : ℕ) → config.wire ≡ 1 → IsStanding config entries liar
    → IsSilent config entries → IsClient config.clients i → IsInPhase config entries i phases.Arrived
    → IsPlayed config entries liar (event.Reply i) (IsOneMore config entries i phases.Replied)
reply-plays config entries liar i one standing silent client is =
    let world : World = world_of config entries in
    let own : List Entry = entries_of i entries in
    let st : Client = holding config entries i in
    let line : Line = line_of config entries in
    let joined : IsJoined config world entries = (known-of config entries liar standing).joined in
    let mine = joined.each i client in
    let step = mine.in_step in
    let empty : length mine.queue ≡ 0 = queued-length config own mine.queue 0 mine.queued is.sent in
    let all_arrived : count i joined.arrived ≡ length (started_among own) =
    lead-empty config world joined.arrived i (count i joined.arrived) (count i joined.handled) mine.queue (length (started_among own))
    step.all_committed empty step.leads in
    let due = step.due (omega (arith, all_arrived, is.begun, step.handed_each)) in
    reply-by config entries liar i due.0 one standing silent client is
    (ap (slice_get (given_to i line.given)) step.handed_each ∙ due.1) due.2.in_range
