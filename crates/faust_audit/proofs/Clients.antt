-- What each client of a run holds is in range, and each entry is a step of its client.
use Rattle.std.proofs.Common.{ℕ, List, [], ◌∷◌, ◌++◌, refl, sym, subst, append_assoc}
use Rattle.faust_types.specs.Clients.{IsClient, IsClientCount}
use Rattle.faust_types.specs.declared.config.Config.{Config}
use Rattle.faust_agent.specs.State.{first_client}
use Rattle.faust_agent.specs.InRange.{IsClientOf}
use Rattle.faust_agent.specs.Tells.{IsEventFor}
use Rattle.faust_agent.specs.declared.client.Client.{Client}
use Rattle.faust_agent.proofs.Kept.{kept-first}
use Rattle.faust_agent.proofs.Reasons.{kept-event, peer-in_range, reply-in_range}
use Rattle.faust_record.specs.Entries.{IsStep, MayCome, Obeys, event_of, replay, replayed, state_at}
use Rattle.faust_record.specs.Runs.{AreOfClients, IsRun, entries_of}
use Rattle.faust_record.specs.declared.entry.Input.{Input}
use Rattle.faust_record.specs.declared.entry.Input.TheVariants as inputs
use Rattle.faust_record.specs.declared.entry.Entry.{Entry}
use Rattle.faust_record.proofs.Own.{entries_of-own}
use Rattle.faust_record.proofs.Runs.{run-front}

-- what may come is an event in range
pub event-in_range : (config : Config) (me : ℕ) (st : Client) (input : Input) → IsClientCount config.clients → IsClient config.clients me
    → MayCome config me st input → IsEventFor config.clients (event_of config me input)
event-in_range config me st (inputs.Write value) count client may =
    record { register_in_range = client; value_in_range = may.value_in_range }
event-in_range config me st (inputs.Read register) count client may = record {
  register_in_range = may.register_in_range;
  value_in_range = refl;
}
event-in_range config me st (inputs.Reply bytes) count client may = reply-in_range config bytes count may.bytes_each
event-in_range config me st (inputs.Peer bytes) count client may = peer-in_range config bytes count may.bytes_each
event-in_range config me st (inputs.Tick moment) count client may = tt
event-in_range config me st (inputs.Arrive message) count client may = tt

state-in_range : (config : Config) (me : ℕ) (st : Client) (input : Input) → IsClientCount config.clients → IsClient config.clients me
    → IsClientOf config me st → MayCome config me st input → IsClientOf config me (state_at config me st input)
unfolding state_at
state-in_range config me st input count client kept may =
    kept-event config me st (event_of config me input) client kept (event-in_range config me st input count client may)

replayed-in_range : (config : Config) (me : ℕ) (st : Client) (own : List Entry) → IsClientCount config.clients
    → IsClient config.clients me → IsClientOf config me st → Obeys config me st own → IsClientOf config me (replayed config me st own)
replayed-in_range config me st [] count client kept obeys = kept
replayed-in_range config me st (e ∷ own) count client kept obeys =
    replayed-in_range config me (state_at config me st e.input) own count client
    (state-in_range config me st e.input count client kept obeys.0.may_come) obeys.1

pub client-in_range : (config : Config) (entries : List Entry) (i : ℕ) → IsRun config entries → IsClient config.clients i
    → IsClientOf config i (replay config i (entries_of i entries))
client-in_range config entries i run client =
    let count = run.config_in_range.clients_count in
    replayed-in_range config i (first_client config.clients i) (entries_of i entries) count client (kept-first config i count client)
    (run.obeyed i client)

-- the first entries of a run, and the one behind them
pub front-of : (config : Config) (before rest : List Entry) (e : Entry) → IsRun config (before ++ e ∷ rest) → IsRun config before
front-of config before rest e run = run-front config before (e ∷ rest) run

clients-at : (n : ℕ) (before rest : List Entry) (e : Entry) → AreOfClients n (before ++ e ∷ rest) → IsClient n e.client
clients-at n [] rest e all = all.0
clients-at n (x ∷ before) rest e all = clients-at n before rest e all.1

pub client-at : (config : Config) (before rest : List Entry) (e : Entry) → IsRun config (before ++ e ∷ rest)
    → IsClient config.clients e.client
client-at config before rest e run = clients-at config.clients before rest e run.of_clients

obeys-last : (config : Config) (i : ℕ) (st : Client) (own : List Entry) (e : Entry) → Obeys config i st (own ++ e ∷ [])
    → IsStep config i (replayed config i st own) e
obeys-last config i st [] e all = all.0
obeys-last config i st (x ∷ own) e all = obeys-last config i (state_at config i st x.input) own e all.1

pub step-at : (config : Config) (before rest : List Entry) (e : Entry) → IsRun config (before ++ e ∷ rest)
    → IsStep config e.client (replay config e.client (entries_of e.client before)) e
step-at config before rest e run =
    let whole : IsRun config ((before ++ e ∷ []) ++ rest) = subst (IsRun config) (sym (append_assoc before (e ∷ []) rest)) run in
    let up_to : IsRun config (before ++ e ∷ []) = run-front config (before ++ e ∷ []) rest whole in
    let own = subst (λ (l : List Entry). Obeys config e.client (first_client config.clients e.client) l)
    (entries_of-own e.client before e refl) (up_to.obeyed e.client (client-at config before rest e run)) in
    obeys-last config e.client (first_client config.clients e.client) (entries_of e.client before) e own
