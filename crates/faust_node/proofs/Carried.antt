-- What the entries of a journal send is carried by a link: no message is empty, and none has more than 16,384 bytes.
use Rattle.std.proofs.Common.{◌≡◌, ℕ, zero, suc, List, [], ◌∷◌, map, Option, Some, None, IfSome, slice_get, refl, sym, subst, arith}
use Rattle.std.specs.List.{AllByRecursion}
use Rattle.faust_types.specs.Clients.{IsClient, IsClientCount}
use Rattle.faust_types.specs.Ranges.{IsCommitFor, IsPeerMessageFor, IsSubmitFor}
use Rattle.faust_types.specs.declared.config.Config.{Config}
use Rattle.faust_types.specs.declared.message.Commit.{Commit}
use Rattle.faust_types.specs.declared.message.PeerMessage.{PeerMessage}
use Rattle.faust_types.specs.declared.message.Submit.{Submit}
use Rattle.faust_types.specs.declared.outcome.Outcome.{Outcome}
use Rattle.faust_wire.specs.Grammar.{commit_bytes, peer_bytes, submit_bytes}
use Rattle.faust_wire.proofs.Lengths.{length-commit, length-content-le, length-peer, submit_at_most}
use Rattle.faust_agent.specs.State.{first_client}
use Rattle.faust_agent.specs.Deeds.{Sent, commits, submits}
use Rattle.faust_agent.specs.Table.{deed_of, posts_of, sent_of}
use Rattle.faust_agent.specs.Outcomes.{outcome_of, spelled_post, spelled_sent}
use Rattle.faust_agent.specs.InRange.{IsClientOf, IsDeedFor, IsSentFor}
use Rattle.faust_agent.specs.Tells.{IsEventFor}
use Rattle.faust_agent.specs.declared.client.Client.{Client}
use Rattle.faust_agent.specs.declared.deed.Deed.{Deed}
use Rattle.faust_agent.proofs.Kept.{kept-first}
use Rattle.faust_agent.proofs.Reasons.{deed-in_range, kept-event, peer-in_range, reply-in_range}
use Rattle.faust_agent.proofs.Sends.{posts-in_range, sent-in_range}
use Rattle.faust_link.specs.Frames.{IsFrame}
use Rattle.faust_record.specs.Entries.{IsStep, MayCome, Obeys, event_of, outcome_at, state_at}
use Rattle.faust_record.specs.Journals.{IsJournal, Log}
use Rattle.faust_record.specs.declared.entry.Entry.{Entry}
use Rattle.faust_record.specs.declared.entry.Input.{Input}
use Rattle.faust_record.specs.declared.entry.Input.TheVariants as inputs
use Rattle.faust_node.specs.Sending.{AreCarried, IsCarried}

-- a SUBMIT, a COMMIT and a message between clients have at least one byte and few enough
submit-carried : (wire n : ℕ) (m : Submit) → IsClientCount n → IsSubmitFor n m → IsFrame (submit_bytes wire m)
unfolding submit_bytes
submit-carried wire n m count range =
    let few = submit_at_most wire n m count range in
    record { some = omega arith; few = omega (arith, few) }

commit-carried : (wire n : ℕ) (m : Commit) → IsClientCount n → IsCommitFor n m → IsFrame (commit_bytes wire m)
unfolding commit_bytes
commit-carried wire n m count range =
    let few = length-commit wire n m range in
    record { some = omega arith; few = omega (arith, few, count.at_most_32) }

peer-carried : (wire n : ℕ) (m : PeerMessage) → IsClientCount n → IsPeerMessageFor n m → IsFrame (peer_bytes wire m)
peer-carried wire n m count range =
    let long = length-peer wire n m range in
    let content = length-content-le n m.peer range.peer_in_range in
    record { some = omega (arith, long); few = omega (arith, long, content, count.at_most_32) }

sent-carried : (config : Config) (sent : Option Sent) → IsClientCount config.clients → IfSome sent (IsSentFor config)
    → IfSome (spelled_sent config.wire sent) IsFrame
sent-carried config None count range = tt
sent-carried config (Some (submits submit)) count range = submit-carried config.wire config.clients submit count range.0
sent-carried config (Some (commits commit)) count range = commit-carried config.wire config.clients commit count range

posts-carried : (wire n : ℕ) (messages : List PeerMessage) → IsClientCount n → AllByRecursion (IsPeerMessageFor n) messages
    → AreCarried (map (spelled_post wire) messages)
posts-carried wire n [] count range = tt
posts-carried wire n (m ∷ rest) count range = (peer-carried wire n m count range.0, posts-carried wire n rest count range.1)

-- what a deed gives
deed-carried : (config : Config) (me : ℕ) (st : Client) (deed : Deed) → IsClientCount config.clients → IsClient config.clients me
    → IsClientOf config me st → IsDeedFor config me st deed
    → IfSome (spelled_sent config.wire (sent_of config me st deed)) IsFrame
    × AreCarried (map (spelled_post config.wire) (posts_of config me st deed))
deed-carried config me st deed count client kept fits = (
  sent-carried config (sent_of config me st deed) count (sent-in_range config me st deed kept fits),
  posts-carried config.wire config.clients (posts_of config me st deed) count (posts-in_range config me st deed client kept fits),
)

outcome-carried : (config : Config) (me : ℕ) (st : Client) (deed : Deed) → IsClientCount config.clients → IsClient config.clients me
    → IsClientOf config me st → IsDeedFor config me st deed
    → IfSome (outcome_of config me st deed).to_server IsFrame × AreCarried (outcome_of config me st deed).to_peers
unfolding outcome_of
outcome-carried config me st deed count client kept fits = deed-carried config me st deed count client kept fits

-- what may come is an event in range
event-in_range : (config : Config) (me : ℕ) (st : Client) (input : Input) → IsClientCount config.clients → IsClient config.clients me
    → MayCome config me st input → IsEventFor config.clients (event_of config me input)
event-in_range config me st (inputs.Write value) count client may =
    record { register_in_range = client; value_in_range = may.value_in_range }
event-in_range config me st (inputs.Read register) count client may =
    record { register_in_range = may.register_in_range; value_in_range = refl }
event-in_range config me st (inputs.Reply bytes) count client may = reply-in_range config bytes count may.bytes_each
event-in_range config me st (inputs.Peer bytes) count client may = peer-in_range config bytes count may.bytes_each
event-in_range config me st (inputs.Tick moment) count client may = tt
event-in_range config me st (inputs.Arrive message) count client may = tt

state-in_range : (config : Config) (me : ℕ) (st : Client) (input : Input) → IsClientCount config.clients → IsClient config.clients me
    → IsClientOf config me st → MayCome config me st input → IsClientOf config me (state_at config me st input)
unfolding state_at
state-in_range config me st input count client kept may =
    kept-event config me st (event_of config me input) client kept (event-in_range config me st input count client may)

at-carried : (config : Config) (me : ℕ) (st : Client) (input : Input) → IsClientCount config.clients → IsClient config.clients me
    → IsClientOf config me st → MayCome config me st input
    → IfSome (outcome_at config me st input).to_server IsFrame × AreCarried (outcome_at config me st input).to_peers
unfolding outcome_at
at-carried config me st input count client kept may =
    let event = event_of config me input in
    outcome-carried config me st (deed_of config me st event) count client kept
    (deed-in_range config me st event client kept (event-in_range config me st input count client may))

step-carried : (config : Config) (me : ℕ) (st : Client) (entry : Entry) → IsClientCount config.clients → IsClient config.clients me
    → IsClientOf config me st → IsStep config me st entry → IsCarried entry
step-carried config me st entry count client kept step =
    let there = at-carried config me st entry.input count client kept step.may_come in
    let outcome : Outcome = outcome_at config me st entry.input in
    let here : IfSome entry.outcome.to_server IsFrame × AreCarried entry.outcome.to_peers =
    subst (λ (o : Outcome). IfSome o.to_server IsFrame × AreCarried o.to_peers) (sym step.outcome_is) there in
    record { to_server = here.0; to_peers = here.1 }

along-carried : (config : Config) (me : ℕ) (st : Client) (entries : List Entry) (k : ℕ) (entry : Entry) → IsClientCount config.clients
    → IsClient config.clients me → IsClientOf config me st → Obeys config me st entries → slice_get entries k ≡ Some entry
    → IsCarried entry
along-carried config me st [] k entry count client kept obeys is = absurd (cc)
along-carried config me st (x ∷ xs) zero entry count client kept obeys is =
    let same : x ≡ entry = cc in
    subst IsCarried same (step-carried config me st x count client kept obeys.0)
along-carried config me st (x ∷ xs) (suc k) entry count client kept obeys is =
    along-carried config me (state_at config me st x.input) xs k entry count client
    (state-in_range config me st x.input count client kept obeys.0.may_come) obeys.1 is

pub carried-at : (log : Log) (k : ℕ) (entry : Entry) → IsJournal log → slice_get log.entries k ≡ Some entry → IsCarried entry
carried-at log k entry journal is =
    let count = journal.config_in_range.clients_count in
    along-carried log.config log.me (first_client log.config.clients log.me) log.entries k entry count journal.me_in_range
    (kept-first log.config log.me count journal.me_in_range) journal.obeyed is

pub carried-if : (log : Log) (k : ℕ) (found : Option Entry) → IsJournal log → found ≡ slice_get log.entries k → IfSome found IsCarried
carried-if log k None journal is = tt
carried-if log k (Some entry) journal is = carried-at log k entry journal (sym is)
