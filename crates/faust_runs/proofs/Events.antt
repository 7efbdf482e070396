-- What an input is at its client: it is in range, and what its event tells of it.
use Rattle.std.proofs.Common.{◌≡◌, ℕ, Bool, cond, is_none, List, [], ◌∷◌, Option, Some, None, IfSome, refl, sym, ap, ◌∙◌, subst, inl}
use Rattle.faust_types.specs.Clients.{IsClient, IsClientCount}
use Rattle.faust_types.specs.declared.config.Config.{Config}
use Rattle.faust_types.specs.declared.operation.Kind.TheVariants.{Write, Read}
use Rattle.faust_types.specs.declared.operation.Operation.{Operation}
use Rattle.faust_types.specs.declared.message.Reply.{Reply}
use Rattle.faust_hash.specs.Chain.{value_input}
use Rattle.faust_ustor.specs.Hashed.{hashed}
use Rattle.faust_agent.specs.State.{version_at}
use Rattle.faust_agent.specs.Deeds.{asked, replied, reply_in, write_of}
use Rattle.faust_agent.specs.Tells.{IsEventFor}
use Rattle.faust_agent.specs.declared.client.Client.{Client}
use Rattle.faust_agent.specs.declared.deed.Order.{Order}
use Rattle.faust_agent.proofs.Reasons.{peer-in_range, reply-in_range}
use Rattle.faust_lists.specs.Names.{Has}
use Rattle.faust_forks.specs.Pairs.{checked}
use Rattle.faust_record.specs.Entries.{MayCome, event_of}
use Rattle.faust_record.specs.declared.entry.Input.{Input}
use Rattle.faust_record.specs.declared.entry.Input.TheVariants as inputs
use Rattle.faust_premises.specs.Premises.{inputs_at, inputs_of_judging, inputs_of_reply, pairs_of_input, pairs_of_reply}
use Rattle.faust_runs.specs.ForkViews.{reply_at}

pub event-in_range : (config : Config) (me : ℕ) (st : Client) (input : Input) → IsClientCount config.clients → IsClient config.clients me
    → MayCome config me st input → IsEventFor config.clients (event_of config me input)
event-in_range config me st (inputs.Write value) count client may =
    record { register_in_range = client; value_in_range = may.value_in_range }
event-in_range config me st (inputs.Read register) count client may =
    record { register_in_range = may.register_in_range; value_in_range = refl }
event-in_range config me st (inputs.Reply bytes) count client may = reply-in_range config bytes count may.bytes_each
event-in_range config me st (inputs.Peer bytes) count client may = peer-in_range config bytes count may.bytes_each
event-in_range config me st (inputs.Tick moment) count client may = tt
event-in_range config me st (inputs.Arrive message) count client may = tt

-- an event of one kind is none of another one
asked-replied : (order : Order) (reply : Option Reply) → asked order ≡ replied reply → ⊥
asked-replied order reply h = cc

asked-not_replied : (order : Order) (reply : Option Reply) → replied reply ≡ asked order → ⊥
asked-not_replied order reply h = cc

asked-same : (a b : Order) → asked a ≡ asked b → a ≡ b
asked-same a b h = cc

replied-same : (a b : Option Reply) → replied a ≡ replied b → a ≡ b
replied-same a b h = cc

-- What a user's order owes: its value is hashed, and a write is of the own register.
pub record IsOrdered (me : ℕ) (hashed : List (List ℕ)) (order : Order) : Type 0 where
  pub hashes : IfSome order.value (λ value. Has hashed (value_input value))
  pub own : order.kind ≡ Write → order.register ≡ me

-- among more that is hashed
value-among : (hashed more : List (List ℕ)) (value : Option (List ℕ)) → ((x : List ℕ) → Has hashed x → Has more x)
    → IfSome value (λ v. Has hashed (value_input v)) → IfSome value (λ v. Has more (value_input v))
value-among hashed more None grows h = tt
value-among hashed more (Some value) grows h = grows (value_input value) h

pub ordered-among : (me : ℕ) (hashed more : List (List ℕ)) (order : Order) → ((x : List ℕ) → Has hashed x → Has more x)
    → IsOrdered me hashed order → IsOrdered me more order
ordered-among me hashed more order grows h =
    record { hashes = value-among hashed more order.value grows h.hashes; own = h.own }

read-write : Read ≡ Write → ⊥
read-write h = cc

pub read-ordered : (me : ℕ) (hashed : List (List ℕ)) (order : Order) → order.value ≡ None → order.kind ≡ Read → IsOrdered me hashed order
read-ordered me hashed order none reads = record {
  hashes = subst (λ (value : Option (List ℕ)). IfSome value (λ v. Has hashed (value_input v))) (sym none) tt;
  own = λ writes. absurd (read-write (sym reads ∙ writes));
}

pub asked-ordered : (config : Config) (me : ℕ) (st : Client) (input : Input) (order : Order) → event_of config me input ≡ asked order
    → IsOrdered me (inputs_at config me st input) order
asked-ordered config me st (inputs.Write value) order came =
    subst (IsOrdered me (value_input value ∷ [])) (asked-same (write_of me value) order came)
    (record { hashes = inl refl; own = λ writes. refl })
asked-ordered config me st (inputs.Read register) order came =
    subst (IsOrdered me []) (asked-same _ order came) (read-ordered me [] _ refl refl)
asked-ordered config me st (inputs.Reply bytes) order came = absurd (asked-not_replied order (reply_in config bytes) came)
asked-ordered config me st (inputs.Peer bytes) order came = absurd (cc)
asked-ordered config me st (inputs.Tick moment) order came = absurd (cc)
asked-ordered config me st (inputs.Arrive message) order came = absurd (cc)

-- What an input is that comes as a REPLY.
pub record IsReplied (config : Config) (me : ℕ) (st : Client) (input : Input) (reply : Reply) : Type 0 where
  pub came : reply_at config input ≡ Some reply
  pub pairs : pairs_of_input config input ≡ checked reply
  pub inputs : inputs_at config me st input ≡ inputs_of_reply config me st (Some reply)

pub replied-parts : (config : Config) (me : ℕ) (st : Client) (input : Input) (reply : Reply)
    → event_of config me input ≡ replied (Some reply) → IsReplied config me st input reply
replied-parts config me st (inputs.Write value) reply came = absurd (asked-replied (write_of me value) (Some reply) came)
replied-parts config me st (inputs.Read register) reply came = absurd (cc)
replied-parts config me st (inputs.Reply bytes) reply came =
    let is : reply_in config bytes ≡ Some reply = replied-same (reply_in config bytes) (Some reply) came in
    record { came = is; pairs = ap pairs_of_reply is; inputs = ap (inputs_of_reply config me st) is }
replied-parts config me st (inputs.Peer bytes) reply came = absurd (cc)
replied-parts config me st (inputs.Tick moment) reply came = absurd (cc)
replied-parts config me st (inputs.Arrive message) reply came = absurd (cc)

-- a reply that is judged
pub judged-inputs : (config : Config) (me : ℕ) (st : Client) (reply : Reply) (op : Operation) → st.notice ≡ None → st.waiting ≡ Some op
    → inputs_of_reply config me st (Some reply) ≡ hashed config.key me (version_at st me) op reply
judged-inputs config me st reply op quiet waits =
    ap (λ (b : Bool). cond b (inputs_of_judging config me st reply st.waiting) []) (ap is_none quiet)
    ∙ ap (inputs_of_judging config me st reply) waits
