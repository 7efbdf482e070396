-- Where incomparable versions meet, the entry gives a notice.
use Rattle.std.proofs.Common.{◌≡◌, ℕ, ◌==◌, ◌&&◌, true, false, List, ◌∷◌, ◌++◌, Option, Some, None, Result, Ok, Err, is_none, refl, sym, ap, ◌∙◌, subst}
use Rattle.std.proofs.lemmas.Bool.{and_from, cond-true, eq-eqb, true≢false}
use Rattle.faust_types.specs.Clients.{IsClient}
use Rattle.faust_types.specs.Ranges.{IsVersionFor}
use Rattle.faust_types.specs.Versions.{Vector, is_comparable}
use Rattle.faust_types.specs.declared.config.Config.{Config}
use Rattle.faust_types.specs.declared.message.Known.{Known}
use Rattle.faust_types.specs.declared.message.Peer.{Peer}
use Rattle.faust_types.specs.declared.message.Peer.TheVariants as peers
use Rattle.faust_types.specs.declared.message.PeerMessage.{PeerMessage}
use Rattle.faust_types.specs.declared.message.ReadPart.{ReadPart}
use Rattle.faust_types.specs.declared.message.Reply.{Reply}
use Rattle.faust_types.specs.declared.operation.Notice.{Notice}
use Rattle.faust_types.specs.declared.operation.Operation.{Operation}
use Rattle.faust_types.specs.declared.outcome.Outcome.{Outcome}
use Rattle.faust_ustor.specs.Checks.{begun, judged}
use Rattle.faust_ustor.specs.Passed.{next_of, told_of}
use Rattle.faust_ustor.specs.declared.judgement.Judged.{Judged}
use Rattle.faust_agent.specs.State.{slot_at, version_at}
use Rattle.faust_agent.specs.Deeds.{Event, replied}
use Rattle.faust_agent.specs.Deeds as events
use Rattle.faust_agent.specs.Table.{awaited, completed_by, deed_of, first_unfit, fitted, heeded, heeded_version, is_signed, notice_of, taken}
use Rattle.faust_agent.specs.Outcomes.{outcome_of}
use Rattle.faust_agent.specs.InRange.{IsCompletionOf, IsDeedFor}
use Rattle.faust_agent.specs.Tells.{Tells, TellsCompletion}
use Rattle.faust_agent.specs.declared.client.Client.{Client}
use Rattle.faust_agent.specs.declared.deed.Completion.{Completion}
use Rattle.faust_agent.specs.declared.deed.Deed.{Deed}
use Rattle.faust_agent.specs.declared.deed.Deed.TheVariants as deeds
use Rattle.faust_agent.proofs.Reasons.{deed-in_range, deed-tells}
use Rattle.faust_agent.proofs.Slots.{fits-below}
use Rattle.faust_lists.specs.Lists.{AreAlong, IsTail}
use Rattle.faust_lists.proofs.Tails.{along-below}
use Rattle.faust_forks.specs.Forks.{IsBooked}
use Rattle.faust_forks.specs.Pairs.{known_pairs, read_pairs, tuple_pairs}
use Rattle.faust_forks.specs.Pasts.{Past, history_at}
use Rattle.faust_forks.proofs.Booked.{booked-more, known-booked, own-booked}
use Rattle.faust_forks.proofs.Made.{AreMade-left}
use Rattle.faust_forks.proofs.Ordered.{booked-below, booked-comparable}
use Rattle.faust_record.specs.Entries.{deed_at, event_of, outcome_at}
use Rattle.faust_record.specs.Runs.{IsRun}
use Rattle.faust_record.specs.declared.entry.Entry.{Entry}
use Rattle.faust_record.specs.declared.entry.Input.{Input}
use Rattle.faust_premises.specs.Premises.{IsClean, hashed_inputs}
use Rattle.faust_runs.specs.ForkViews.{reply_at}
use Rattle.faust_runs.specs.Ledgers.{client_after, completing, hashing, ledger_of}
use Rattle.faust_runs.proofs.Completions.{completing-leads, is-finish}
use Rattle.faust_runs.proofs.Frames.{IsMoved, completed-moved}
use Rattle.faust_runs.proofs.Leading.{IsComing, LeadsTo}
use Rattle.faust_runs.proofs.Ledgers.{is-played}
use Rattle.faust_runs.proofs.Splits.{up-to}
use Rattle.faust_runs.proofs.Stepping.{is-coming}
use Rattle.faust_held.specs.Given.{AreHeld}
use Rattle.faust_held.specs.Held.{GivesNotice, HadNoNotice, IsApartFromHeld}
use Rattle.faust_held.proofs.Finishing.{in-order}
use Rattle.faust_held.proofs.Holding.{fitting-came, fitting-next}
use Rattle.faust_held.proofs.Stepping.{run-kept}

-- A client without a notice that gets a reply completes its operation, or breaks a check.
pub data Answering (deed : Deed) : Type 0 where
  breaks : (notice : Notice) → deed ≡ deeds.Breaks notice → Answering deed
  completes : (done : Completion) → deed ≡ deeds.Completes done → Answering deed

fitted-answers : (op : Operation) (answer : Judged) (first : Option ℕ) → Answering (fitted op answer first)
fitted-answers op answer None = completes _ refl
fitted-answers op answer (Some k) = breaks _ refl

taken-answers : (config : Config) (st : Client) (op : Operation) (due : Result Judged Notice) → Answering (taken config st op due)
taken-answers config st op (Ok answer) = fitted-answers op answer (first_unfit st answer.next answer.heard config.clients)
taken-answers config st op (Err notice) = breaks notice refl

awaited-answers : (config : Config) (me : ℕ) (st : Client) (reply : Reply) (waiting : Option Operation)
    → Answering (awaited config me st reply waiting)
awaited-answers config me st reply None = breaks _ refl
awaited-answers config me st reply (Some op) = taken-answers config st op (judged config.key me (version_at st me) op reply)

reply-deed : (config : Config) (me : ℕ) (st : Client) (reply : Reply) → st.notice ≡ None
    → deed_of config me st (replied (Some reply)) ≡ awaited config me st reply st.waiting
unfolding deed_of
reply-deed config me st reply quiet = cond-true _ _ _ (ap is_none quiet)

reply-answers : (config : Config) (me : ℕ) (st : Client) (event : Event) (reply : Reply) → event ≡ replied (Some reply)
    → st.notice ≡ None → Answering (deed_of config me st event)
reply-answers config me st event reply came quiet =
    subst Answering (ap (deed_of config me st) (sym came))
    (subst Answering (sym (reply-deed config me st reply quiet)) (awaited-answers config me st reply st.waiting))

-- where it completes the operation, all that came is comparable with all that it held: the version of the reply,
version-fits : (config : Config) (past : Past) (me : ℕ) (st : Client) (input : Input) (done : Completion) (k : ℕ)
    → IsComing config past me st input → (tells : TellsCompletion config me st (event_of config me input) done)
    → IsCompletionOf config me st done → AreHeld config.clients past.book past.made me st.heard → IsClient config.clients k
    → is_comparable tells.reply.version.version (version_at st k) ≡ true
version-fits config past me st input done k coming tells fits old of_k =
    let n = config.clients in
    let reply = tells.reply in
    let next = done.judged.next in
    let later = completing past me done.op (reply_at config input) in
    let now = completed_by config me st done in
    let h = is-finish config past me st input done coming tells in
    let leads : LeadsTo config past later me now = completing-leads config past me st input done coming tells fits in
    let order = in-order config past me st input done reply coming h in
    let moved : IsMoved me st now next = completed-moved config me st done coming.kept coming.client fits.register_in_range in
    let next_booked : IsBooked later.book me next = subst (IsBooked later.book me) moved.own
    (own-booked n later.book me (version_at now me) coming.count leads.held.owned) in
    let range = h.accepted.reply_in_range.version_known in
    let base : Known = reply.version in
    let base_booked : IsBooked later.book reply.c base.version =
    booked-more past.book later.book reply.c base.version leads.grows.done_kept
    (known-booked n past config.key reply.c base coming.ground range h.accepted.passed.known_right
    (AreMade-left config.key past.made (known_pairs reply.c base)
    (tuple_pairs reply.proofs (read_pairs reply.read) (begun reply) reply.pending) h.accepted.unforged)) in
    let slot = slot_at st k in
    let slot_booked : IsBooked later.book slot.maker slot.version =
    booked-more past.book later.book slot.maker slot.version leads.grows.done_kept (old.booked k of_k) in
    let slot_range : IsVersionFor n slot.version = (coming.kept.versions.in_range k of_k).known_by.version_in_range in
    let next_range : IsVersionFor n next = fits.judged_in_range.next_in_range in
    let tail : IsTail (history_at later.book reply.c base.version) (history_at later.book me next) =
    (booked-below n later reply.c me base.version next leads.ground range.version_in_range next_range base_booked next_booked).0
    order.next_above in
    let along : AreAlong (history_at later.book me next) (history_at later.book slot.maker slot.version) =
    (booked-comparable n later me slot.maker next slot.version leads.ground next_range slot_range next_booked slot_booked).0
    (fitting-next next done.judged.heard slot.version (tells.all_fit k of_k)) in
    (booked-comparable n later reply.c slot.maker base.version slot.version leads.ground range.version_in_range slot_range base_booked
    slot_booked).1
    (along-below (history_at later.book reply.c base.version) (history_at later.book me next)
    (history_at later.book slot.maker slot.version) tail along)

-- that which comes with a read,
part-fits : (config : Config) (past : Past) (me : ℕ) (st : Client) (input : Input) (done : Completion) (part : ReadPart) (k : ℕ)
    → IsComing config past me st input → (tells : TellsCompletion config me st (event_of config me input) done)
    → tells.reply.read ≡ Some part → IsClient config.clients k → is_comparable part.version.version (version_at st k) ≡ true
part-fits config past me st input done part k coming tells is of_k =
    let h = is-finish config past me st input done coming tells in
    let came : done.judged.heard ≡ Some part.version =
    ap (λ (j : Judged). j.heard) h.tells ∙ ap (λ (r : Option ReadPart). (told_of (next_of me tells.reply) r).heard) is in
    fitting-came done.judged.next done.judged.heard (version_at st k) part.version came (tells.all_fit k of_k)

-- and the next version
same-operation : (waiting : Option Operation) (a b : Operation) → waiting ≡ Some a → waiting ≡ Some b → a ≡ b
same-operation waiting a b h i = cc

same-answer : (due : Result Judged Notice) (a b : Judged) → due ≡ Ok a → due ≡ Ok b → a ≡ b
same-answer due a b h i = cc

next-fits : (config : Config) (me : ℕ) (st : Client) (event : Event) (done : Completion) (op : Operation) (answer : Judged) (k : ℕ)
    → (tells : TellsCompletion config me st event done) → st.waiting ≡ Some op
    → judged config.key me (version_at st me) op tells.reply ≡ Ok answer → IsClient config.clients k
    → is_comparable answer.next (version_at st k) ≡ true
next-fits config me st event done op answer k tells waits is of_k =
    let own = version_at st me in
    let same_op : op ≡ done.op = same-operation st.waiting op done.op waits tells.waited in
    let due : judged config.key me own done.op tells.reply ≡ Ok answer =
    ap (λ (o : Operation). judged config.key me own o tells.reply) (sym same_op) ∙ is in
    let same : done.judged ≡ answer =
    same-answer (judged config.key me own done.op tells.reply) done.judged answer tells.passed_checks due in
    subst (λ (j : Judged). is_comparable j.next (version_at st k) ≡ true) same
    (fitting-next done.judged.next done.judged.heard (version_at st k) (tells.all_fit k of_k))

-- A version of a message: it fits, or a check breaks.
message-deed : (config : Config) (me : ℕ) (st : Client) (message : PeerMessage) (known : Known) → st.notice ≡ None
    → message.to ≡ me → is_signed config message ≡ true → message.peer ≡ peers.Version known
    → deed_of config me st (events.told (Some message))
    ≡ heeded_version message.from known (first_unfit st known.version None config.clients)
unfolding deed_of
message-deed config me st message known quiet to_me signed says =
    let n = config.clients in
    cond-true ((message.to == me) && is_signed config message) (heeded n st message.from message.peer) deeds.Ignores
    (and_from (message.to == me) (is_signed config message) (eq-eqb message.to me to_me) signed)
    ∙ ap (λ (peer : Peer). heeded n st message.from peer) says
    ∙ cond-true (is_none st.notice) (heeded_version message.from known (first_unfit st known.version None n)) deeds.Ignores
    (ap is_none quiet)

pub outcome-notice : (config : Config) (me : ℕ) (st : Client) (input : Input) (outcome : Outcome)
    → outcome ≡ outcome_at config me st input → outcome.notice ≡ notice_of (deed_at config me st input)
unfolding outcome_at outcome_of
outcome-notice config me st input outcome is = ap (λ (o : Outcome). o.notice) is

comparable-apart : (v w : Vector) → is_comparable v w ≡ true → is_comparable v w ≡ false → ⊥
comparable-apart v w h i = true≢false (sym h ∙ i)

-- What is known of an entry of a clean run whose client had no notice before it.
record IsMet (config : Config) (before : List Entry) (entry : Entry) (past : Past) : Type 0 where
  coming : IsComing config past entry.client (client_after config entry.client before) entry.input
  held : AreHeld config.clients past.book past.made entry.client (client_after config entry.client before).heard
  notice : entry.outcome.notice
      ≡ notice_of (deed_at config entry.client (client_after config entry.client before) entry.input)
  fits : IsDeedFor config entry.client (client_after config entry.client before)
      (deed_at config entry.client (client_after config entry.client before) entry.input)

abbrev past_at : Config → List Entry → Entry → Past
past_at config front entry = hashing (ledger_of config front) (hashed_inputs config front entry)

met : (config : Config) (front rest : List Entry) (entry : Entry) → IsRun config (front ++ (entry ∷ rest))
    → IsClean config (front ++ (entry ∷ rest)) → IsMet config front entry (past_at config front entry)
met config front rest entry run clean =
    let entries : List Entry = front ++ (entry ∷ rest) in
    let count = run.config_in_range.clients_count in
    let me = entry.client in
    let st = client_after config me front in
    let past : Past = ledger_of config front in
    let played = is-played config entries front rest entry run clean refl in
    let there = up-to config entries front (entry ∷ rest) run clean refl in
    let kept = run-kept config front there.run there.clean in
    let coming = is-coming config front entry past count kept.sound played in
    record {
      coming = coming;
      held = kept.held.held me played.client;
      notice = outcome-notice config me st entry.input entry.outcome played.step.outcome_is;
      fits = deed-in_range config me st (event_of config me entry.input) played.client coming.kept coming.event;
    }

same-reply : (a b : Reply) → replied (Some a) ≡ replied (Some b) → a ≡ b
same-reply a b h = cc

-- a reply that brings a version which is apart breaks a check
reply-meets : (config : Config) (front : List Entry) (entry : Entry) (past : Past) (reply : Reply) → IsMet config front entry past
    → HadNoNotice config front entry → event_of config entry.client entry.input ≡ replied (Some reply)
    → ((done : Completion) → (tells : TellsCompletion config entry.client (client_after config entry.client front)
    (event_of config entry.client entry.input) done)
    → IsCompletionOf config entry.client (client_after config entry.client front) done → reply ≡ tells.reply → ⊥)
    → GivesNotice entry
reply-meets config front entry past reply h quiet came no_completion =
    let me = entry.client in
    let st = client_after config me front in
    let event = event_of config me entry.input in
    let deed : Deed = deed_at config me st entry.input in
    elim (reply-answers config me st event reply came quiet) [
      | breaks notice is ↦ record { notice = notice; is_given = h.notice ∙ ap notice_of is }
      | completes done is ↦
          let tells : Tells config me st event (deeds.Completes done) =
          subst (Tells config me st event) is (deed-tells config me st event) in
          let fits : IsDeedFor config me st (deeds.Completes done) = subst (IsDeedFor config me st) is h.fits in
          absurd (no_completion done tells fits (same-reply reply tells.reply (sym came ∙ tells.came)))
    ]

pub version-meets : (config : Config) (front rest : List Entry) (entry : Entry) (reply : Reply) → IsRun config (front ++ (entry ∷ rest))
    → IsClean config (front ++ (entry ∷ rest)) → HadNoNotice config front entry
    → event_of config entry.client entry.input ≡ replied (Some reply)
    → IsApartFromHeld config front entry reply.version.version → GivesNotice entry
version-meets config front rest entry reply run clean quiet came apart =
    let me = entry.client in
    let st = client_after config me front in
    let past = past_at config front entry in
    let h = met config front rest entry run clean in
    reply-meets config front entry past reply h quiet came
    (λ done tells fits same. comparable-apart reply.version.version (version_at st apart.k)
    (subst (λ (r : Reply). is_comparable r.version.version (version_at st apart.k) ≡ true) (sym same)
    (version-fits config past me st entry.input done apart.k h.coming tells fits h.held apart.client)) apart.apart)

pub part-meets : (config : Config) (front rest : List Entry) (entry : Entry) (reply : Reply) (part : ReadPart)
    → IsRun config (front ++ (entry ∷ rest)) → IsClean config (front ++ (entry ∷ rest)) → HadNoNotice config front entry
    → event_of config entry.client entry.input ≡ replied (Some reply) → reply.read ≡ Some part
    → IsApartFromHeld config front entry part.version.version → GivesNotice entry
part-meets config front rest entry reply part run clean quiet came is apart =
    let me = entry.client in
    let st = client_after config me front in
    let past = past_at config front entry in
    let h = met config front rest entry run clean in
    reply-meets config front entry past reply h quiet came
    (λ done tells fits same. comparable-apart part.version.version (version_at st apart.k)
    (part-fits config past me st entry.input done part apart.k h.coming tells
    (ap (λ (r : Reply). r.read) (sym same) ∙ is) apart.client) apart.apart)

pub next-meets : (config : Config) (front rest : List Entry) (entry : Entry) (reply : Reply) (op : Operation) (answer : Judged)
    → IsRun config (front ++ (entry ∷ rest)) → IsClean config (front ++ (entry ∷ rest)) → HadNoNotice config front entry
    → event_of config entry.client entry.input ≡ replied (Some reply)
    → (client_after config entry.client front).waiting ≡ Some op
    → judged config.key entry.client (version_at (client_after config entry.client front) entry.client) op reply ≡ Ok answer
    → IsApartFromHeld config front entry answer.next → GivesNotice entry
next-meets config front rest entry reply op answer run clean quiet came waits is apart =
    let me = entry.client in
    let st = client_after config me front in
    let past = past_at config front entry in
    let h = met config front rest entry run clean in
    reply-meets config front entry past reply h quiet came
    (λ done tells fits same. comparable-apart answer.next (version_at st apart.k)
    (next-fits config me st (event_of config me entry.input) done op answer apart.k tells waits
    (ap (judged config.key me (version_at st me) op) (sym same) ∙ is) apart.client) apart.apart)

unfit-meets : (config : Config) (me : ℕ) (st : Client) (entry : Entry) (message : PeerMessage) (known : Known) (first : Option ℕ) (k : ℕ)
    → entry.outcome.notice ≡ notice_of (heeded_version message.from known first)
    → first_unfit st known.version None config.clients ≡ first → IsClient config.clients k
    → is_comparable known.version (version_at st k) ≡ false → GivesNotice entry
unfit-meets config me st entry message known None k notice none of_k apart =
    absurd (comparable-apart known.version (version_at st k) (fits-below st known.version None config.clients none k of_k) apart)
unfit-meets config me st entry message known (Some j) k notice some of_k apart = record { notice = _; is_given = notice }

pub message-meets : (config : Config) (front rest : List Entry) (entry : Entry) (message : PeerMessage) (known : Known)
    → IsRun config (front ++ (entry ∷ rest)) → IsClean config (front ++ (entry ∷ rest)) → HadNoNotice config front entry
    → event_of config entry.client entry.input ≡ events.told (Some message) → message.to ≡ entry.client
    → is_signed config message ≡ true → message.peer ≡ peers.Version known
    → IsApartFromHeld config front entry known.version → GivesNotice entry
message-meets config front rest entry message known run clean quiet came to_me signed says apart =
    let me = entry.client in
    let st = client_after config me front in
    let h = met config front rest entry run clean in
    let first = first_unfit st known.version None config.clients in
    let is : deed_at config me st entry.input ≡ heeded_version message.from known first =
    ap (deed_of config me st) came ∙ message-deed config me st message known quiet to_me signed says in
    unfit-meets config me st entry message known first apart.k (h.notice ∙ ap notice_of is) refl apart.client apart.apart
