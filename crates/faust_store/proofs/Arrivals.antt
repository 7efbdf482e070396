-- The entries of a run one by one: each is in range, and a message that arrives is one that was sent, so it is bytes of
-- a message's length.
use Rattle.std.proofs.Common.{◌≡◌, ◌+◌, ◌≤◌, ℕ, suc, zero, Option, Some, None, List, [], ◌∷◌, ◌++◌, length, option_to_list, refl, sym, ◌∙◌, subst, arith, append_assoc}
use Rattle.std.specs.Prelude.{IfSome, slice_get}
use Rattle.std.specs.List.{AllByRecursion}
use Rattle.std.proofs.lemmas.List.{append-nil}
use Rattle.faust_types.specs.Clients.{IsClient}
use Rattle.faust_types.specs.Ranges.{IsConfig}
use Rattle.faust_types.specs.declared.config.Config.{Config}
use Rattle.faust_types.specs.declared.outcome.Outcome.{Outcome}
use Rattle.faust_types.specs.declared.message.Message.TheVariants as messages
use Rattle.faust_wire.specs.Grammar.{spelling}
use Rattle.faust_wire.proofs.Bytes.{AreBytes-spelling}
use Rattle.faust_wire.proofs.Lengths.{spelling_at_most}
use Rattle.faust_agent.specs.State.{first_client}
use Rattle.faust_agent.specs.Deeds.{Sent, commits, submits}
use Rattle.faust_agent.specs.Table.{deed_of, sent_of}
use Rattle.faust_agent.specs.InRange.{IsClientOf, IsDeedFor, IsSentFor}
use Rattle.faust_agent.specs.Outcomes.{outcome_of, sent_bytes, spelled_sent}
use Rattle.faust_agent.specs.Tells.{IsEventFor}
use Rattle.faust_agent.specs.declared.client.Client.{Client}
use Rattle.faust_agent.specs.declared.deed.Deed.{Deed}
use Rattle.faust_agent.proofs.Kept.{kept-after, kept-first}
use Rattle.faust_agent.proofs.Reasons.{deed-in_range, peer-in_range, reply-in_range}
use Rattle.faust_agent.proofs.Sends.{sent-in_range}
use Rattle.faust_record.specs.Entries.{AreHandedIn, IsStep, MayCome, Obeys, event_of, outcome_at, replay, replayed, state_at}
use Rattle.faust_record.specs.Runs.{AreFed, AreNumbered, AreOfClients, IsFed, IsRun, arrived_in, entries_of, next_message, sent_in}
use Rattle.faust_record.specs.declared.entry.Input.{Input}
use Rattle.faust_record.specs.declared.entry.Input.TheVariants as inputs
use Rattle.faust_record.specs.declared.entry.Entry.{Entry}
use Rattle.faust_record.proofs.Own.{entries_of-own}
use Rattle.faust_record.proofs.Runs.{run-front}

-- What clients send, spelled.
sent-handed_in : (config : Config) (sent : Sent) → IsConfig config → IsSentFor config sent → AreHandedIn (sent_bytes config.wire sent)
sent-handed_in config (submits submit) range fits =
    let short : length (spelling config.wire (messages.Submit submit)) ≤ 8977 =
    spelling_at_most config.wire config.clients (messages.Submit submit) range.clients_count fits.0 in
    record {
      sized = omega (arith, short);
      bytes_each =
          AreBytes-spelling config.wire config.clients (messages.Submit submit) range.wire_known range.clients_count fits.0;
    }
sent-handed_in config (commits commit) range fits =
    let short : length (spelling config.wire (messages.Commit commit)) ≤ 8977 =
    spelling_at_most config.wire config.clients (messages.Commit commit) range.clients_count fits in
    record {
      sized = omega (arith, short);
      bytes_each =
          AreBytes-spelling config.wire config.clients (messages.Commit commit) range.wire_known range.clients_count fits;
    }

spelled-handed_in : (config : Config) (sent : Option Sent) → IsConfig config → IfSome sent (IsSentFor config)
    → AllByRecursion AreHandedIn (option_to_list (spelled_sent config.wire sent))
spelled-handed_in config None range fits = tt
spelled-handed_in config (Some sent) range fits = (sent-handed_in config sent range fits, tt)

-- What may come, as an event of the client's table.
event-in_range : (config : Config) (me : ℕ) (st : Client) (input : Input) → IsConfig config → IsClient config.clients me
    → MayCome config me st input → IsEventFor config.clients (event_of config me input)
event-in_range config me st (inputs.Write value) range client may =
    record { register_in_range = client; value_in_range = may.value_in_range }
event-in_range config me st (inputs.Read register) range client may =
    record { register_in_range = may.register_in_range; value_in_range = refl }
event-in_range config me st (inputs.Reply bytes) range client may = reply-in_range config bytes range.clients_count may.bytes_each
event-in_range config me st (inputs.Peer bytes) range client may = peer-in_range config bytes range.clients_count may.bytes_each
event-in_range config me st (inputs.Tick moment) range client may = tt
event-in_range config me st (inputs.Arrive message) range client may = tt

-- A step sends what is in range, and leaves the client in range.
record IsSending (config : Config) (me : ℕ) (st : Client) (entry : Entry) : Type 0 where
  sent : AllByRecursion AreHandedIn (option_to_list entry.outcome.to_server)
  kept : IsClientOf config me (state_at config me st entry.input)

deed-sends : (config : Config) (me : ℕ) (st : Client) (deed : Deed) (outcome : Outcome) → IsConfig config → IsClientOf config me st
    → IsDeedFor config me st deed → outcome ≡ outcome_of config me st deed
    → AllByRecursion AreHandedIn (option_to_list outcome.to_server)
unfolding outcome_of
deed-sends config me st deed outcome range kept fits is =
    subst (λ (o : Outcome). AllByRecursion AreHandedIn (option_to_list o.to_server)) (sym is)
    (spelled-handed_in config (sent_of config me st deed) range (sent-in_range config me st deed kept fits))

step-sends : (config : Config) (me : ℕ) (st : Client) (entry : Entry) → IsConfig config → IsClient config.clients me
    → IsClientOf config me st → IsStep config me st entry → IsSending config me st entry
unfolding outcome_at state_at
step-sends config me st entry range client kept step =
    let deed : Deed = deed_of config me st (event_of config me entry.input) in
    let fits : IsDeedFor config me st deed =
    deed-in_range config me st (event_of config me entry.input) client kept
    (event-in_range config me st entry.input range client step.may_come) in
    record {
      sent = deed-sends config me st deed entry.outcome range kept fits step.outcome_is;
      kept = kept-after config me st deed client kept fits;
    }

all-append : {X : Type 0} (P : X → Type 0) (xs ys : List X) → AllByRecursion P xs → AllByRecursion P ys → AllByRecursion P (xs ++ ys)
all-append P [] ys all more = more
all-append P (x ∷ xs) ys all more = (all.0, all-append P xs ys all.1 more)

all-at : {X : Type 0} (P : X → Type 0) (xs : List X) (k : ℕ) (x : X) → AllByRecursion P xs → slice_get xs k ≡ Some x → P x
all-at P [] k x all found = absurd (cc)
all-at P (y ∷ xs) zero x all found = let same : y ≡ x = cc in subst P same all.0
all-at P (y ∷ xs) (suc k) x all found = all-at P xs k x all.1 found

obeys-sends : (config : Config) (me : ℕ) (st : Client) (own : List Entry) → IsConfig config → IsClient config.clients me
    → IsClientOf config me st → Obeys config me st own → AllByRecursion AreHandedIn (sent_in own)
obeys-sends config me st [] range client kept obeys = tt
obeys-sends config me st (entry ∷ rest) range client kept obeys =
    let sends = step-sends config me st entry range client kept obeys.0 in
    all-append AreHandedIn (option_to_list entry.outcome.to_server) (sent_in rest) sends.sent
    (obeys-sends config me (state_at config me st entry.input) rest range client sends.kept obeys.1)

pub due-handed_in : (config : Config) (entries : List Entry) (i : ℕ) (message : List ℕ) → IsRun config entries → IsClient config.clients i
    → next_message i entries ≡ Some message → AreHandedIn message
due-handed_in config entries i message run client due =
    all-at AreHandedIn (sent_in (entries_of i entries)) (length (arrived_in (entries_of i entries))) message
    (obeys-sends config i (first_client config.clients i) (entries_of i entries) run.config_in_range client
    (kept-first config i run.config_in_range.clients_count client) (run.obeyed i client)) due

-- One entry of a run.
fed-at : (before front rest : List Entry) (e : Entry) → AreFed before (front ++ e ∷ rest) → IsFed (before ++ front) e
fed-at before [] rest e fed = subst (λ (l : List Entry). IsFed l e) (sym (append-nil before)) fed.0
fed-at before (x ∷ front) rest e fed =
    subst (λ (l : List Entry). IsFed l e) (append_assoc before (x ∷ []) front) (fed-at (before ++ x ∷ []) front rest e fed.1)

clients-at : (n : ℕ) (front rest : List Entry) (e : Entry) → AreOfClients n (front ++ e ∷ rest) → IsClient n e.client
clients-at n [] rest e are = are.0
clients-at n (x ∷ front) rest e are = clients-at n front rest e are.1

numbered-at : (q : ℕ) (front rest : List Entry) (e : Entry) → AreNumbered q (front ++ e ∷ rest) → e.number ≡ q + length front
numbered-at q [] rest e are = are.0 ∙ omega arith
numbered-at q (x ∷ front) rest e are = numbered-at (suc q) front rest e are.1 ∙ omega arith

obeys-at : (config : Config) (me : ℕ) (st : Client) (xs : List Entry) (e : Entry) → Obeys config me st (xs ++ e ∷ [])
    → IsStep config me (replayed config me st xs) e
obeys-at config me st [] e obeys = obeys.0
obeys-at config me st (x ∷ xs) e obeys = obeys-at config me (state_at config me st x.input) xs e obeys.1

-- What is said of the entry behind a front of a run.
pub record IsEntryBehind (config : Config) (front : List Entry) (e : Entry) : Type 0 where
  pub front_is_run : IsRun config front
  pub number_is : e.number ≡ length front
  pub of_client : IsClient config.clients e.client
  pub may_come : MayCome config e.client (replay config e.client (entries_of e.client front)) e.input
  pub is_fed : IsFed front e

pub entry_behind : (config : Config) (front rest : List Entry) (e : Entry) → IsRun config (front ++ e ∷ rest) → IsEntryBehind config front e
entry_behind config front rest e run =
    let client = clients-at config.clients front rest e run.of_clients in
    let short = run-front config (front ++ e ∷ []) rest (subst (IsRun config) (sym (append_assoc front (e ∷ []) rest)) run) in
    let own = subst (λ (l : List Entry). Obeys config e.client (first_client config.clients e.client) l)
    (entries_of-own e.client front e refl)
    (short.obeyed e.client client) in
    record {
      front_is_run = run-front config front (e ∷ rest) run;
      number_is = numbered-at 0 front rest e run.numbered ∙ omega arith;
      of_client = client;
      may_come = (obeys-at config e.client (first_client config.clients e.client) (entries_of e.client front) e own).may_come;
      is_fed = fed-at [] front rest e run.fed;
    }
