-- What events make of a scene: refusals and their causes, entries, arrivals, and what the liar hands out.
use Rattle.std.proofs.Common.{◌≡◌, ◌-◌, ℕ, List, length, Option, Some, None, Result, Ok, Err, refl, sym, ap, ◌∙◌, subst}
use Rattle.std.specs.Prelude.{IfSome, option_and_then, slice_get}
use Rattle.std.proofs.lemmas.Option.{none-some}
use Rattle.faust_text.specs.Fields.{Fails, ◌>>=◌}
use Rattle.faust_text.specs.declared.cause.Cause.{Cause}
use Rattle.faust_text.specs.declared.cause.Cause.TheVariants as causes
use Rattle.faust_text.specs.declared.error.LineError.{LineError}
use Rattle.faust_text.specs.declared.error.LineError.TheVariants as line_errors
use Rattle.faust_types.specs.declared.config.Config.{Config}
use Rattle.faust_types.specs.declared.message.Commit.{Commit}
use Rattle.faust_types.specs.declared.message.Submit.{Submit}
use Rattle.faust_types.specs.declared.message.Message.TheVariants as messages
use Rattle.faust_agent.specs.Deeds.{Sent, commits, submits}
use Rattle.faust_agent.specs.InRange.{IsSentFor}
use Rattle.faust_agent.specs.Outcomes.{sent_bytes}
use Rattle.faust_record.specs.Entries.{arrival_at}
use Rattle.faust_record.specs.Runs.{Run, next_message}
use Rattle.faust_record.specs.Refusals.{PushRefuses, arrived_at, arrived as arrived_of, push_of, recorded}
use Rattle.faust_record.specs.declared.entry.Entry.{Entry}
use Rattle.faust_record.specs.declared.errors.PushError.{PushError}
use Rattle.faust_record.specs.declared.errors.PushError.TheVariants as pushes
use Rattle.faust_record.specs.declared.run_record.PushInput.{PushInput}
use Rattle.faust_record.specs.declared.run_record.PushInput.TheVariants as given
use Rattle.faust_record.proofs.Fronts.{push_appends, push_keeps}
use Rattle.faust_script.specs.declared.event.Event.{Event}
use Rattle.faust_script.specs.declared.event.Event.TheVariants as event
use Rattle.faust_liar.specs.InRange.{IsArrival, IsBehind as IsBehindSubmit, IsFor}
use Rattle.faust_liar.specs.Lies.{Handed, Hands, LiarState, Refuses, again_due, branched, echoed, edited_due, next_due, routed, session_count}
use Rattle.faust_liar.specs.declared.error.LiarError.{LiarError}
use Rattle.faust_liar.specs.declared.error.LiarError.TheVariants as lies
use Rattle.faust_sim.specs.Kept.{IsMailBefore, IsMailOf, arrival_of, last_arrival}
use Rattle.faust_sim.specs.Play.{Scene, arrives, delivered, event_played, handed, handled_by_liar, lied, pushed, scene_of_push}
use Rattle.faust_sim.specs.Playing.{IsHanded, IsLiarOf, lie_refused, push_refused}
use Rattle.faust_sim.specs.Mail.{mailed}
use Rattle.faust_sim.specs.Sent.{IsBehind, IsSentBy, RidesInOrder}
use Rattle.faust_sim.specs.declared.letters.Place.{Place}
use Rattle.faust_sim.proofs.Places.{last-item}

-- what is refused, with its cause
pub push-refused : (e : PushError) (old new : Run) (due : Result Run PushError) (liar : LiarState) → PushRefuses e old new due
    → Fails (push_refused e) (scene_of_push liar due)
push-refused pushes.TooLong old new due liar refused = ap (scene_of_push liar) refused.1
push-refused pushes.NoRegister old new due liar refused = ap (scene_of_push liar) refused.1
push-refused (pushes.Failed notice) old new due liar refused = ap (scene_of_push liar) refused.1
push-refused pushes.Busy old new due liar refused = ap (scene_of_push liar) refused.1
push-refused pushes.Nothing old new due liar refused = ap (scene_of_push liar) refused.1
push-refused pushes.OutOfMemory old new due liar refused = tt

pub lie-refused : (e : LiarError) (run : Run) (old new : LiarState) (due : Result LiarState LiarError) → Refuses e old new due
    → Fails (lie_refused e) (lied run due)
lie-refused lies.Nothing run old new due refused = ap (lied run) refused.0
lie-refused lies.NoBranch run old new due refused = ap (lied run) refused.0
lie-refused lies.Field run old new due refused = ap (lied run) refused.0
lie-refused lies.OutOfMemory run old new due refused = tt

pub hand-refused : (e : LiarError) (run : Run) (i : ℕ) (liar : LiarState) (due : Result Handed LiarError) → IsHanded (Err e) liar due
    → Fails (lie_refused e) (handed run i due)
hand-refused lies.Nothing run i liar due refused = ap (handed run i) refused
hand-refused lies.NoBranch run i liar due refused = ap (handed run i) refused
hand-refused lies.Field run i liar due refused = ap (handed run i) refused
hand-refused lies.OutOfMemory run i liar due refused = tt

refusal-handed : (e : LiarError) (old new : LiarState) (due : Result Handed LiarError) → Refuses e old new due → IsHanded (Err e) new due
refusal-handed lies.Nothing old new due refused = refused.0
refusal-handed lies.NoBranch old new due refused = refused.0
refusal-handed lies.Field old new due refused = refused.0
refusal-handed lies.OutOfMemory old new due refused = tt

pub hands-handed : (out : Result (List ℕ) LiarError) (old new : LiarState) (due : Result Handed LiarError) → Hands out old new due
    → IsHanded out new due
hands-handed (Ok bytes) old new due hands = hands
hands-handed (Err e) old new due hands = refusal-handed e old new due hands

-- an entry that was put at the end
pub pushed-next : (run now : Run) (liar : LiarState) (i : ℕ) (input : PushInput) → push_of run i input ≡ Ok now
    → pushed (record { run = run; liar = liar }) i input ≡ Ok (record { run = now; liar = liar })
pushed-next run now liar i input taken = ap (scene_of_push liar) taken

pub mail-before : (run now : Run) (i : ℕ) (input : PushInput) (mail : List (List (List Place))) → push_of run i input ≡ Ok now
    → IsMailOf run.config.clients mail run.entries → IsMailBefore now.config.clients mail now.entries
mail-before run now i input mail taken kept =
    let longer = push_appends run now i input taken in
    let same : now.config ≡ run.config = push_keeps run now i input taken in record {
      front = run.entries;
      last = longer.entry;
      whole = longer.is_longer;
      of_front = subst (λ (config : Config). IsMailOf config.clients mail run.entries) (sym same) kept;
    }

-- an arrival: the message that was due stands in the last entry
pub record IsArrivedIn (run now : Run) (i : ℕ) : Type 0 where
  pub message : List ℕ
  pub due : next_message i run.entries ≡ Some message
  pub longer : now ≡ recorded run (arrival_at i (length run.entries) message)

arrived-parts : (run now : Run) (i : ℕ) (due : Option (List ℕ)) → next_message i run.entries ≡ due → arrived_at run i due ≡ Ok now
    → IsArrivedIn run now i
arrived-parts run now i None is taken = absurd (cc)
arrived-parts run now i (Some message) is taken =
    let same : recorded run (arrival_at i (length run.entries) message) ≡ now = cc in
    record { message = message; due = is; longer = sym same }

pub push-arrived : (run now : Run) (i : ℕ) → push_of run i given.Arrive ≡ Ok now → IsArrivedIn run now i
unfolding arrived_of
push-arrived run now i taken = arrived-parts run now i (next_message i run.entries) refl taken

scene-parts : (liar : LiarState) (next : Scene) (due : Result Run PushError) → scene_of_push liar due ≡ Ok next
    → (due ≡ Ok next.run) × (next.liar ≡ liar)
scene-parts liar next (Ok run) is =
    let same : record { run = run; liar = liar } ≡ next = cc in
    (ap (λ (scene : Scene). Ok scene.run) same, ap (λ (scene : Scene). scene.liar) (sym same))
scene-parts liar next (Err e) is = absurd (cc)

pub scene-pushed : (scene next : Scene) (i : ℕ) (input : PushInput) → pushed scene i input ≡ Ok next
    → (push_of scene.run i input ≡ Ok next.run) × (next.liar ≡ scene.liar)
scene-pushed scene next i input is = scene-parts scene.liar next (push_of scene.run i input) is

last-arrived : (run now : Run) (i : ℕ) (arrival : IsArrivedIn run now i) → last_arrival now.entries ≡ Some arrival.message
last-arrived run now i arrival =
    let entry : Entry = arrival_at i (length run.entries) arrival.message in
    ap (λ (r : Run). last_arrival r.entries) arrival.longer
    ∙ ap (λ (o : Option Entry). option_and_then arrival_of o) (last-item run.entries entry)

pub message-arrived : (scene next : Scene) (i : ℕ) (bytes : List ℕ) → pushed scene i given.Arrive ≡ Ok next
    → Some bytes ≡ last_arrival next.run.entries → next_message i scene.run.entries ≡ Some bytes
message-arrived scene next i bytes taken last =
    let arrival = push-arrived scene.run next.run i (scene-pushed scene next i given.Arrive taken).0 in
    let same : Some bytes ≡ Some arrival.message = last ∙ last-arrived scene.run next.run i arrival in
    arrival.due ∙ sym same

pub no-arrival : (scene next : Scene) (i : ℕ) → pushed scene i given.Arrive ≡ Ok next → None ≡ last_arrival next.run.entries → ⊥
no-arrival scene next i taken last =
    let arrival = push-arrived scene.run next.run i (scene-pushed scene next i given.Arrive taken).0 in
    none-some arrival.message (last ∙ last-arrived scene.run next.run i arrival)

pub arrival-next : (scene next : Scene) (i : ℕ) (message : List ℕ) → next_message i scene.run.entries ≡ Some message
    → pushed scene i given.Arrive ≡ Ok next
    → arrives scene i (next_message i scene.run.entries) ≡ Ok (handled_by_liar i message next)
arrival-next scene next i message due taken =
    ap (arrives scene i) due
    ∙ ap (λ (r : Result Scene Cause). r >>= λ after. Ok (handled_by_liar i message after)) taken

fails-then : (e : LineError) (due : Result Scene Cause) (f : Scene → Result Scene Cause) → Fails e due → Fails e (due >>= f)
fails-then (line_errors.Refused cause) due f fails = ap (λ (r : Result Scene Cause). r >>= f) fails
fails-then line_errors.OutOfMemory due f fails = tt

arrival-none : (scene : Scene) (i : ℕ) → next_message i scene.run.entries ≡ None → pushed scene i given.Arrive ≡ Err causes.Nothing
unfolding arrived_of
arrival-none scene i none = ap (λ (o : Option (List ℕ)). scene_of_push scene.liar (arrived_at scene.run i o)) none

pub arrival-refused : (e : LineError) (scene : Scene) (i : ℕ) (due : Option (List ℕ)) → next_message i scene.run.entries ≡ due
    → Fails e (pushed scene i given.Arrive) → Fails e (arrives scene i due)
arrival-refused e scene i None is fails = subst (Fails e) (arrival-none scene i is) fails
arrival-refused e scene i (Some message) is fails =
    fails-then e (pushed scene i given.Arrive) (λ next. Ok (handled_by_liar i message next)) fails

-- what arrives is what the liar asks for
behind-submit : (i : ℕ) (submit : Submit) (commit : Option Commit) → IfSome commit (IsBehind i submit.t) → IsBehindSubmit i submit commit
behind-submit i submit None behind = tt
behind-submit i submit (Some commit) behind = behind

sent-arrival : (config : Config) (i : ℕ) (bytes : List ℕ) (sent : Sent) → IsSentFor config sent → RidesInOrder i sent
    → bytes ≡ sent_bytes config.wire sent → IsArrival config.wire config.clients i bytes
sent-arrival config i bytes (submits submit) range rides spelled = record {
  message = messages.Submit submit;
  spelled = record { in_range = range.0; for_wire = range.1; spelled = spelled };
  for_server = (range.0, behind-submit i submit submit.commit rides);
}
sent-arrival config i bytes (commits commit) range rides spelled = record {
  message = messages.Commit commit;
  spelled = record { in_range = range; for_wire = tt; spelled = spelled };
  for_server = range;
}

pub arrival-in_range : (config : Config) (i : ℕ) (bytes : List ℕ) → IsSentBy config i bytes → IsArrival config.wire config.clients i bytes
arrival-in_range config i bytes by = sent-arrival config i bytes by.sent by.in_range by.rides_in_order by.spelled

pub arrival-fits : (config : Config) (liar : LiarState) (i : ℕ) (bytes : List ℕ) → IsLiarOf config liar → IsSentBy config i bytes
    → IsArrival liar.wire (session_count liar) i bytes
arrival-fits config liar i bytes fits by =
    subst (λ (wire : ℕ). IsArrival wire (session_count liar) i bytes) (sym fits.wire_is)
    (subst (λ (n : ℕ). IsArrival config.wire n i bytes) (sym fits.counted) (arrival-in_range config i bytes by))

-- the liar stays one for the config
pub liar-stays : (config : Config) (old new : LiarState) → IsLiarOf config old → IsFor old.wire (session_count old) new
    → IsLiarOf config new
liar-stays config old new fits frame =
    record { wire_is = frame.same_wire ∙ fits.wire_is; counted = frame.same_count ∙ fits.counted }

-- a scene keeps its config
lied-keeps : (run : Run) (due : Result LiarState LiarError) (next : Scene) → lied run due ≡ Ok next → next.run.config ≡ run.config
lied-keeps run (Ok liar) next is =
    let same : record { run = run; liar = liar } ≡ next = cc in
    ap (λ (scene : Scene). scene.run.config) (sym same)
lied-keeps run (Err e) next is = absurd (cc)

pushed-keeps : (scene next : Scene) (i : ℕ) (input : PushInput) → pushed scene i input ≡ Ok next
    → next.run.config ≡ scene.run.config
pushed-keeps scene next i input is = push_keeps scene.run next.run i input (scene-pushed scene next i input is).0

handed-keeps : (run : Run) (i : ℕ) (due : Result Handed LiarError) (next : Scene) → handed run i due ≡ Ok next
    → next.run.config ≡ run.config
handed-keeps run i (Ok out) next is = pushed-keeps (record { run = run; liar = out.state }) next i (given.Reply out.bytes) is
handed-keeps run i (Err e) next is = absurd (cc)

delivered-keeps : (scene next : Scene) (j : ℕ) (due : Option (List ℕ)) → delivered scene j due ≡ Ok next
    → next.run.config ≡ scene.run.config
delivered-keeps scene next j None is = absurd (cc)
delivered-keeps scene next j (Some bytes) is = pushed-keeps scene next j (given.Peer bytes) is

handled-keeps : (before : Result Scene Cause) (config : Config) (i : ℕ) (message : List ℕ) (next : Scene)
    → ((scene : Scene) → before ≡ Ok scene → scene.run.config ≡ config)
    → (before >>= λ after. Ok (handled_by_liar i message after)) ≡ Ok next → next.run.config ≡ config
handled-keeps (Ok scene) config i message next keeps is =
    let same : handled_by_liar i message scene ≡ next = cc in
    ap (λ (s : Scene). s.run.config) (sym same) ∙ keeps scene refl
handled-keeps (Err cause) config i message next keeps is = absurd (cc)

arrives-keeps : (scene next : Scene) (i : ℕ) (due : Option (List ℕ)) → arrives scene i due ≡ Ok next
    → next.run.config ≡ scene.run.config
arrives-keeps scene next i None is = absurd (cc)
arrives-keeps scene next i (Some message) is =
    handled-keeps (pushed scene i given.Arrive) scene.run.config i message next
    (λ after taken. pushed-keeps scene after i given.Arrive taken) is

pub event-keeps : (scene next : Scene) (e : Event) → event_played scene e ≡ Ok next → next.run.config ≡ scene.run.config
event-keeps scene next (event.Write i value) is = pushed-keeps scene next i (given.Write value) is
event-keeps scene next (event.Read i j) is = pushed-keeps scene next i (given.Read j) is
event-keeps scene next (event.Arrive i) is = arrives-keeps scene next i (next_message i scene.run.entries) is
event-keeps scene next (event.Reply i) is = handed-keeps scene.run i (next_due scene.liar i) next is
event-keeps scene next (event.Tick i m) is = pushed-keeps scene next i (given.Tick m) is
event-keeps scene next (event.Peer i j k) is = delivered-keeps scene next j (slice_get (mailed i j scene.run.entries) (k - 1)) is
event-keeps scene next (event.Post j bytes) is = pushed-keeps scene next j (given.Peer bytes) is
event-keeps scene next (event.Branch a b) is = lied-keeps scene.run (branched scene.liar a b) next is
event-keeps scene next (event.Route i b) is = lied-keeps scene.run (routed scene.liar i b) next is
event-keeps scene next (event.Echo i k b) is = lied-keeps scene.run (echoed scene.liar i k b) next is
event-keeps scene next (event.Again i k) is = handed-keeps scene.run i (again_due scene.liar i k) next is
event-keeps scene next (event.Edited i edit) is = handed-keeps scene.run i (edited_due scene.liar i edit None) next is
event-keeps scene next (event.Forged i edit) is =
    handed-keeps scene.run i (edited_due scene.liar i edit (Some scene.run.config.key)) next is
event-keeps scene next (event.Raw i bytes) is = pushed-keeps scene next i (given.Reply bytes) is
