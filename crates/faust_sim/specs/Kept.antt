-- How the code finds a message between clients: by the entry that sent it, and its place among what that entry sent.
-- It helps proofs.
use Rattle.std.specs.Prelude.{◌≡◌, ◌==◌, ◌-◌, ℕ, suc, cond, List, [], ◌∷◌, ◌++◌, length, Option, option_and_then, option_map, slice_get, slice_index_or, slice_set}
use Rattle.std.specs.List.{AllByRecursion}
use Rattle.faust_types.specs.Clients.{IsClient}
use Rattle.faust_types.specs.declared.outcome.Post.{Post}
use Rattle.faust_record.specs.Runs.{arriving}
use Rattle.faust_record.specs.declared.entry.Entry.{Entry}
use Rattle.faust_sim.specs.declared.letters.Place.{Place}

abbrev pub place_at : ℕ → ℕ → Place
place_at entry index = record { entry = entry; index = index }

-- The places of the messages to client j among what an entry sent, from an index on; and of those from client i to
-- client j among all entries from number q on.
abbrev pub places_to : ℕ → ℕ → ℕ → List Post → List Place
places_to j entry index [] = []
places_to j entry index (post ∷ rest) =
    cond (post.to == j) (place_at entry index ∷ places_to j entry (suc index) rest) (places_to j entry (suc index) rest)

abbrev pub places_of : ℕ → ℕ → ℕ → List Entry → List Place
places_of i j q [] = []
places_of i j q (entry ∷ rest) = cond (entry.client == i) (places_to j q 0 entry.outcome.to_peers) [] ++ places_of i j (suc q) rest

-- The message at a place.
abbrev pub post_at : ℕ → Entry → Option Post
post_at index entry = slice_get entry.outcome.to_peers index

abbrev pub letter_at : List Entry → Place → Option (List ℕ)
letter_at entries place = option_map (λ (post : Post). post.bytes) (option_and_then (post_at place.index) (slice_get entries place.entry))

-- The lists of one client, one for each receiver; and those after an entry that sent posts.
abbrev pub list_for : List (List Place) → ℕ → List Place
list_for lists j = slice_index_or lists (j - 1) []

abbrev pub with_place : List (List Place) → ℕ → Place → List (List Place)
with_place lists j place = slice_set lists (j - 1) (list_for lists j ++ place ∷ [])

abbrev pub noted_from : List (List Place) → ℕ → ℕ → List Post → List (List Place)
noted_from lists entry index [] = lists
noted_from lists entry index (post ∷ rest) = noted_from (with_place lists post.to (place_at entry index)) entry (suc index) rest

-- The message that arrives in the last entry.
abbrev pub arrival_of : Entry → Option (List ℕ)
arrival_of entry = arriving entry.input

abbrev pub last_arrival : List Entry → Option (List ℕ)
last_arrival entries = option_and_then arrival_of (slice_get entries (length entries - 1))

-- All messages are to clients of n.
abbrev pub AreToClients : ℕ → List Post → Type 0
AreToClients n posts = AllByRecursion (λ (post : Post). IsClient n post.to) posts

-- These are the lists of all clients after entries.
abbrev pub lists_of : List (List (List Place)) → ℕ → List (List Place)
lists_of mail i = slice_index_or mail (i - 1) []

pub record AreListed (n i : ℕ) (lists : List (List Place)) (entries : List Entry) : Type 0 where
  pub counted : length lists ≡ n
  pub each : (j : ℕ) → IsClient n j → list_for lists j ≡ places_of i j 0 entries

pub record IsMailOf (n : ℕ) (mail : List (List (List Place))) (entries : List Entry) : Type 0 where
  pub counted : length mail ≡ n
  pub each : (i : ℕ) → IsClient n i → AreListed n i (lists_of mail i) entries

-- These are the lists before the last entry.
pub record IsMailBefore (n : ℕ) (mail : List (List (List Place))) (entries : List Entry) : Type 0 where
  pub front : List Entry
  pub last : Entry
  pub whole : entries ≡ front ++ last ∷ []
  pub of_front : IsMailOf n mail front
