-- The ledger of a record: what its entries leave behind, entry by entry. No promise rests on this file but the one that
-- ledgers are sound; it serves the laws.
use Rattle.std.specs.Prelude.{ℕ, suc, Bool, true, false, List, [], ◌∷◌, ◌++◌, Option, Some, None, map}
use Rattle.faust_types.specs.declared.config.Config.{Config}
use Rattle.faust_types.specs.declared.operation.Operation.{Operation}
use Rattle.faust_types.specs.declared.message.PeerMessage.{PeerMessage}
use Rattle.faust_types.specs.declared.message.Reply.{Reply}
use Rattle.faust_ustor.specs.Passed.{next_of}
use Rattle.faust_agent.specs.Table.{dummy_of, is_dummy_due, last_after, operation_of, own_digest, posts_of}
use Rattle.faust_agent.specs.declared.client.Client.{Client}
use Rattle.faust_agent.specs.declared.deed.Order.{Order}
use Rattle.faust_agent.specs.declared.deed.Deed.{Deed}
use Rattle.faust_agent.specs.declared.deed.Deed.TheVariants as deeds
use Rattle.faust_forks.specs.Sources.{of_peer}
use Rattle.faust_forks.specs.Pasts.{Past, begun_in, completed_in, first_past, hashed_in}
use Rattle.faust_record.specs.Entries.{deed_at, replay}
use Rattle.faust_record.specs.Runs.{entries_of}
use Rattle.faust_record.specs.declared.entry.Entry.{Entry}
use Rattle.faust_premises.specs.Premises.{hashed_inputs}
use Rattle.faust_runs.specs.ForkViews.{reply_at}

-- What client i holds after entries.
abbrev pub client_after : Config → ℕ → List Entry → Client
client_after config i before = replay config i (entries_of i before)

-- More is hashed; an entry passes; messages go to other clients.
abbrev pub hashing : Past → List (List ℕ) → Past
hashing past inputs = hashed_in past (past.hashed ++ inputs) past.entry

abbrev pub passing : Past → Past
passing past = hashed_in past past.hashed (suc past.entry)

abbrev pub posting : Past → List PeerMessage → Past
posting past messages = record past { made = map of_peer messages ++ past.made }

-- An operation begins, and completes by a reply.
abbrev pub beginning : Past → ℕ → Client → Order → Past
beginning past me st order = begun_in past me (operation_of me st order) order.value (last_after st.last order.value)

abbrev pub completing : Past → ℕ → Operation → Option Reply → Past
completing past me op None = passing past
completing past me op (Some reply) = completed_in past me op reply (own_digest me (next_of me reply))

-- A tick begins a dummy read, or not.
abbrev pub ticking : Past → ℕ → Client → Bool → Past
ticking past me st true = beginning past me st (dummy_of st)
ticking past me st false = passing past

-- What a deed of client me that holds st leaves, where this REPLY came, if one did.
abbrev pub past_by : Config → Past → ℕ → Client → Option Reply → Deed → Past
past_by config past me st reply deeds.Ignores = passing past
past_by config past me st reply (deeds.Begins order) = beginning past me st order
past_by config past me st reply (deeds.Completes done) = completing past me done.op reply
past_by config past me st reply (deeds.Breaks notice) = passing (posting past (posts_of config me st (deeds.Breaks notice)))
past_by config past me st reply (deeds.Answers j) = passing (posting past (posts_of config me st (deeds.Answers j)))
past_by config past me st reply (deeds.Hears j known) = passing past
past_by config past me st reply (deeds.Ticks moment) =
    ticking (posting past (posts_of config me st (deeds.Ticks moment))) me st (is_dummy_due config me st moment)

-- What an entry behind others leaves.
unfoldable pub past_with : Config → Past → List Entry → Entry → Past
past_with config past before entry =
    let me = entry.client in
    let st = client_after config me before in
    past_by config (hashing past (hashed_inputs config before entry)) me st (reply_at config entry.input) (deed_at config me st entry.input)

abbrev pub past_behind : Config → Past → List Entry → List Entry → Past
past_behind config past before [] = past
past_behind config past before (entry ∷ rest) = past_behind config (past_with config past before entry) (before ++ entry ∷ []) rest

-- The ledger of a record.
abbrev pub ledger_of : Config → List Entry → Past
ledger_of config entries = past_behind config first_past [] entries
