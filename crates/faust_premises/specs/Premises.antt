-- The two premises under which promises on runs are stated: no tag of the run is forged, and no two inputs that its
-- clients hashed have one digest. Those promises rest on this file.
use Rattle.std.specs.Prelude.{◌≡◌, ◌&&◌, ◌||◌, ℕ, cond, Bool, false, not, List, [], ◌∷◌, ◌++◌, Option, None, Some, is_none}
use Rattle.faust_types.specs.declared.config.Config.{Config}
use Rattle.faust_types.specs.declared.operation.Operation.{Operation}
use Rattle.faust_types.specs.declared.message.PeerMessage.{PeerMessage}
use Rattle.faust_types.specs.declared.message.Reply.{Reply}
use Rattle.faust_hash.specs.Chain.{input_digest, value_input}
use Rattle.faust_hash.specs.Tag.{is_same}
use Rattle.faust_tags.specs.Bodies.{tag_of}
use Rattle.faust_ustor.specs.Hashed.{hashed}
use Rattle.faust_agent.specs.State.{version_at}
use Rattle.faust_agent.specs.Deeds.{peer_in, reply_in}
use Rattle.faust_agent.specs.declared.client.Client.{Client}
use Rattle.faust_record.specs.Entries.{replay}
use Rattle.faust_record.specs.Made.{made_behind}
use Rattle.faust_record.specs.Runs.{Run, entries_of}
use Rattle.faust_record.specs.declared.entry.Input.{Input}
use Rattle.faust_record.specs.declared.entry.Input.TheVariants as inputs
use Rattle.faust_record.specs.declared.entry.Entry.{Entry}
use Rattle.faust_forks.specs.Pairs.{Pair, checked, peer_pair}

-- The checked pairs of an entry: bytes that came as a reply and are a REPLY have those of the reply, bytes that came
-- from another client and are a message between clients have the one of the message, and nothing else has any.
abbrev pub pairs_of_reply : Option Reply → List Pair
pairs_of_reply None = []
pairs_of_reply (Some reply) = checked reply

abbrev pub pairs_of_message : Option PeerMessage → List Pair
pairs_of_message None = []
pairs_of_message (Some message) = peer_pair message ∷ []

abbrev pub pairs_of_input : Config → Input → List Pair
pairs_of_input config (inputs.Write value) = []
pairs_of_input config (inputs.Read register) = []
pairs_of_input config (inputs.Reply bytes) = pairs_of_reply (reply_in config bytes)
pairs_of_input config (inputs.Peer bytes) = pairs_of_message (peer_in config bytes)
pairs_of_input config (inputs.Tick moment) = []
pairs_of_input config (inputs.Arrive message) = []

unfoldable pub checked_pairs : Config → Entry → List Pair
checked_pairs config entry = pairs_of_input config entry.input

-- A pair is right where its tag is that of its body under the key. It is forged where it is right and nobody made its
-- body.
abbrev pub is_right : List ℕ → Pair → Bool
is_right key pair = is_same pair.tag (tag_of key pair.body)

abbrev pub is_among : List (List ℕ) → List ℕ → Bool
is_among [] body = false
is_among (made ∷ rest) body = is_same made body || is_among rest body

abbrev pub is_forged : List ℕ → List (List ℕ) → Pair → Bool
is_forged key made pair = is_right key pair && not (is_among made pair.body)

-- The body of the first forged pair, if there is one.
abbrev pub forged_among : List ℕ → List (List ℕ) → List Pair → Option (List ℕ)
forged_among key made [] = None
forged_among key made (pair ∷ rest) = cond (is_forged key made pair) (Some pair.body) (forged_among key made rest)

-- A forgery: the number of the entry that has it, and the body.
pub record Forgery : Type 0 where
  pub entry : ℕ
  pub body : List ℕ

-- The forgery of an entry, or else one of those behind it.
abbrev pub forgery_or : ℕ → Option (List ℕ) → Option Forgery → Option Forgery
forgery_or number None later = later
forgery_or number (Some body) later = Some (record { entry = number; body = body })

-- The first forgery in entries behind others: an entry may rest on the bodies that the entries before it made.
abbrev pub first_forged_behind : Config → List Entry → List Entry → Option Forgery
first_forged_behind config before [] = None
first_forged_behind config before (entry ∷ rest) =
    forgery_or entry.number (forged_among config.key (made_behind config [] before) (checked_pairs config entry))
    (first_forged_behind config (before ++ entry ∷ []) rest)

abbrev pub first_forged : Config → List Entry → Option Forgery
first_forged config entries = first_forged_behind config [] entries

-- What a client that holds st hashes at an input, besides the bodies of tags: the value that is written, and in
-- judging a reply what its checks hash. A reply is judged where the bytes are a REPLY, the client has no notice, and
-- an operation is pending.
abbrev pub inputs_of_judging : Config → ℕ → Client → Reply → Option Operation → List (List ℕ)
inputs_of_judging config me st reply None = []
inputs_of_judging config me st reply (Some op) = hashed config.key me (version_at st me) op reply

abbrev pub inputs_of_reply : Config → ℕ → Client → Option Reply → List (List ℕ)
inputs_of_reply config me st None = []
inputs_of_reply config me st (Some reply) = cond (is_none st.notice) (inputs_of_judging config me st reply st.waiting) []

abbrev pub inputs_at : Config → ℕ → Client → Input → List (List ℕ)
inputs_at config me st (inputs.Write value) = value_input value ∷ []
inputs_at config me st (inputs.Read register) = []
inputs_at config me st (inputs.Reply bytes) = inputs_of_reply config me st (reply_in config bytes)
inputs_at config me st (inputs.Peer bytes) = []
inputs_at config me st (inputs.Tick moment) = []
inputs_at config me st (inputs.Arrive message) = []

-- What an entry behind others hashes: its client holds what its entries among them leave.
unfoldable pub hashed_inputs : Config → List Entry → Entry → List (List ℕ)
hashed_inputs config before entry =
    inputs_at config entry.client (replay config entry.client (entries_of entry.client before)) entry.input

-- What entries behind others hash, in order.
abbrev pub hashed_behind : Config → List Entry → List Entry → List (List ℕ)
hashed_behind config before [] = []
hashed_behind config before (entry ∷ rest) =
    hashed_inputs config before entry ++ hashed_behind config (before ++ entry ∷ []) rest

abbrev pub hashed_in_run : Config → List Entry → List (List ℕ)
hashed_in_run config entries = hashed_behind config [] entries

-- Two inputs collide where they differ and have one digest.
abbrev pub is_colliding : List ℕ → List ℕ → Bool
is_colliding first second = is_same (input_digest first) (input_digest second) && not (is_same first second)

-- The first of these inputs that collides with another one, if any.
abbrev pub first_partner : List (List ℕ) → List ℕ → Option (List ℕ)
first_partner [] second = None
first_partner (first ∷ rest) second = cond (is_colliding first second) (Some first) (first_partner rest second)

-- Two inputs that collide, in the order in which they were hashed.
pub record Collision : Type 0 where
  pub first : List ℕ
  pub second : List ℕ

abbrev pub collision_or : Option (List ℕ) → List ℕ → Option Collision → Option Collision
collision_or None second later = later
collision_or (Some first) second later = Some (record { first = first; second = second })

-- The first of the inputs behind others that collides with an earlier one, with the first such partner.
abbrev pub first_collision_behind : List (List ℕ) → List (List ℕ) → Option Collision
first_collision_behind before [] = None
first_collision_behind before (input ∷ rest) =
    collision_or (first_partner before input) input (first_collision_behind (before ++ input ∷ []) rest)

abbrev pub first_collision : Config → List Entry → Option Collision
first_collision config entries = first_collision_behind [] (hashed_in_run config entries)

-- Entries are clean where no tag is forged and no inputs collide.
pub record IsClean (config : Config) (entries : List Entry) : Type 0 where
  pub no_forgery : first_forged config entries ≡ None
  pub no_collision : first_collision config entries ≡ None

-- What is found of a run: a forgery goes before a collision.
pub data Verdict : Type 0 where
  clean : Verdict
  forged : ℕ → List ℕ → Verdict
  collision : List ℕ → List ℕ → Verdict

abbrev pub verdict_on_collision : Option Collision → Verdict
verdict_on_collision None = clean
verdict_on_collision (Some found) = collision found.first found.second

abbrev pub verdict_of : Option Forgery → Option Collision → Verdict
verdict_of None found = verdict_on_collision found
verdict_of (Some forgery) found = forged forgery.entry forgery.body

abbrev pub premises_of : Run → Verdict
premises_of run = verdict_of (first_forged run.config run.entries) (first_collision run.config run.entries)
