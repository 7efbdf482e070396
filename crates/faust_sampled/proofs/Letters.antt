-- What clients say to one another, entry by entry, and what each entry makes.
use Rattle.std.proofs.Common.{◌≡◌, ◌+◌, ℕ, zero, suc, true, List, [], ◌∷◌, ◌++◌, length, map, Option, Some, refl, sym, ap, ◌∙◌, subst, inl, inr, arith, append_assoc, length-append}
use Rattle.std.specs.Prelude.{slice_get}
use Rattle.std.proofs.lemmas.Bool.{cases_eq}
use Rattle.std.proofs.lemmas.List.{append-nil}
use Rattle.faust_types.specs.Clients.{IsClientCount}
use Rattle.faust_types.specs.Ranges.{IsPeerMessageFor, IsWire}
use Rattle.faust_types.specs.Spelling.{peer_front}
use Rattle.faust_types.specs.declared.config.Config.{Config}
use Rattle.faust_types.specs.declared.message.Message.{Message}
use Rattle.faust_types.specs.declared.message.Message.TheVariants as messages
use Rattle.faust_types.specs.declared.message.Peer.{Peer}
use Rattle.faust_types.specs.declared.message.PeerMessage.{PeerMessage}
use Rattle.faust_hash.proofs.Lists.{is_same_tells}
use Rattle.faust_tags.specs.Bodies.{peer_body, tag_of}
use Rattle.faust_wire.specs.Grammar.{peer_bytes}
use Rattle.faust_wire.proofs.Bytes.{AreBytes-spelling}
use Rattle.faust_wire.proofs.Lengths.{spelling_at_most}
use Rattle.faust_wire.proofs.Messages.{peer-read}
use Rattle.faust_lists.specs.Names.{Has}
use Rattle.faust_forks.proofs.Members.{has-left, has-right}
use Rattle.faust_agent.specs.Deeds.{as_peer, peer_in}
use Rattle.faust_agent.specs.Outcomes.{outcome_of, spelled_post, spelled_sent}
use Rattle.faust_agent.specs.Table.{is_signed, message_to, posts_of, sent_of}
use Rattle.faust_agent.specs.declared.client.Client.{Client}
use Rattle.faust_record.specs.Entries.{AreHandedIn, deed_at, outcome_at, replay}
use Rattle.faust_record.specs.Made.{bodies_of, made_behind, made_bodies}
use Rattle.faust_record.specs.Runs.{entries_of}
use Rattle.faust_record.specs.declared.entry.Entry.{Entry}
use Rattle.faust_record.specs.declared.entry.Input.{Input}
use Rattle.faust_record.proofs.Own.{entries_of-other, entries_of-own}
use Rattle.faust_joined.proofs.Saying.{made-append}
use Rattle.faust_sim.specs.Mail.{mailed, mailed_in, posts_to}

-- what an entry gives is what its client's deed gives
pub sent-given : (config : Config) (k : ℕ) (st : Client) (input : Input)
    → (outcome_at config k st input).to_server ≡ spelled_sent config.wire (sent_of config k st (deed_at config k st input))
unfolding outcome_at outcome_of
sent-given config k st input = refl

pub posts-given : (config : Config) (k : ℕ) (st : Client) (input : Input)
    → (outcome_at config k st input).to_peers ≡ map (spelled_post config.wire) (posts_of config k st (deed_at config k st input))
unfolding outcome_at outcome_of
posts-given config k st input = refl

-- one more entry
mailed_in-append : (j : ℕ) (xs ys : List Entry) → mailed_in j (xs ++ ys) ≡ mailed_in j xs ++ mailed_in j ys
mailed_in-append j [] ys = refl
mailed_in-append j (x ∷ xs) ys =
    ap (λ (l : List (List ℕ)). posts_to j x.outcome.to_peers ++ l) (mailed_in-append j xs ys)
    ∙ sym (append_assoc (posts_to j x.outcome.to_peers) (mailed_in j xs) (mailed_in j ys))

pub mailed-own : (i j : ℕ) (entries : List Entry) (e : Entry) → e.client ≡ i
    → mailed i j (entries ++ e ∷ []) ≡ mailed i j entries ++ posts_to j e.outcome.to_peers
mailed-own i j entries e own =
    ap (mailed_in j) (entries_of-own i entries e own) ∙ mailed_in-append j (entries_of i entries) (e ∷ [])
    ∙ ap (λ (l : List (List ℕ)). mailed i j entries ++ l) (append-nil (posts_to j e.outcome.to_peers))

pub mailed-other : (i j : ℕ) (entries : List Entry) (e : Entry) → (e.client ≡ i → ⊥)
    → mailed i j (entries ++ e ∷ []) ≡ mailed i j entries
mailed-other i j entries e other = ap (mailed_in j) (entries_of-other i entries e other)

pub mailed-quiet : (i j : ℕ) (entries : List Entry) (e : Entry) → posts_to j e.outcome.to_peers ≡ []
    → mailed i j (entries ++ e ∷ []) ≡ mailed i j entries
mailed-quiet i j entries e none = elim (cases_eq e.client i) [
  | inl own ↦ mailed-own i j entries e own ∙ ap (λ (l : List (List ℕ)). mailed i j entries ++ l) none ∙ append-nil (mailed i j entries)
  | inr other ↦ mailed-other i j entries e other
]

-- what is found stays there, and what is new stands behind it
pub get-front : {X : Type 0} (xs ys : List X) (q : ℕ) (x : X) → slice_get xs q ≡ Some x → slice_get (xs ++ ys) q ≡ Some x
get-front {X} [] ys q x found = absurd cc
get-front {X} (z ∷ xs) ys zero x found = found
get-front {X} (z ∷ xs) ys (suc q) x found = get-front xs ys q x found

pub get-last : {X : Type 0} (xs : List X) (x : X) → slice_get (xs ++ x ∷ []) (length xs) ≡ Some x
get-last {X} [] x = refl
get-last {X} (z ∷ xs) x = get-last xs x

-- The bytes of a message from client i to client j.
abbrev pub letter : Config → ℕ → ℕ → Peer → List ℕ
letter config i j peer = peer_bytes config.wire (message_to config i peer j)

-- It stands at a place of what i sent to j, and i made its body.
pub record IsLetter (config : Config) (entries : List Entry) (i j k : ℕ) (peer : Peer) : Type 0 where
  pub there : slice_get (mailed i j entries) k ≡ Some (letter config i j peer)
  pub made : Has (made_behind config [] entries) (peer_body (message_to config i peer j))
  pub in_range : IsPeerMessageFor config.clients (message_to config i peer j)

-- one more entry leaves it there
mailed-more : (i j : ℕ) (entries : List Entry) (e : Entry) (k : ℕ) (bytes : List ℕ) → slice_get (mailed i j entries) k ≡ Some bytes
    → slice_get (mailed i j (entries ++ e ∷ [])) k ≡ Some bytes
mailed-more i j entries e k bytes found = elim (cases_eq e.client i) [
  | inl own ↦ ap (λ (l : List (List ℕ)). slice_get l k) (mailed-own i j entries e own)
      ∙ get-front (mailed i j entries) (posts_to j e.outcome.to_peers) k bytes found
  | inr other ↦ ap (λ (l : List (List ℕ)). slice_get l k) (mailed-other i j entries e other) ∙ found
]

pub letter-stays : (config : Config) (entries : List Entry) (e : Entry) (i j k : ℕ) (peer : Peer) → IsLetter config entries i j k peer
    → IsLetter config (entries ++ e ∷ []) i j k peer
letter-stays config entries e i j k peer is =
    let body : List ℕ = peer_body (message_to config i peer j) in
    record {
      there = mailed-more i j entries e k (letter config i j peer) is.there;
      made = subst (λ (l : List (List ℕ)). Has l body) (sym (made-append config [] entries e))
          (has-left (made_behind config [] entries) (made_bodies config entries e) body is.made);
      in_range = is.in_range;
    }

-- an entry that sends one message to client j puts it behind the others
pub letter-last : (config : Config) (entries : List Entry) (e : Entry) (j k : ℕ) (peer : Peer)
    → length (mailed e.client j entries) ≡ k
    → posts_to j e.outcome.to_peers ≡ letter config e.client j peer ∷ []
    → Has (made_bodies config entries e) (peer_body (message_to config e.client peer j))
    → IsPeerMessageFor config.clients (message_to config e.client peer j)
    → IsLetter config (entries ++ e ∷ []) e.client j k peer
letter-last config entries e j k peer counted posted made range =
    let i : ℕ = e.client in
    let body : List ℕ = peer_body (message_to config i peer j) in
    let longer : mailed i j (entries ++ e ∷ []) ≡ mailed i j entries ++ letter config i j peer ∷ [] =
    mailed-own i j entries e refl ∙ ap (λ (l : List (List ℕ)). mailed i j entries ++ l) posted in
    record {
      there = ap (λ (l : List (List ℕ)). slice_get l k) longer
          ∙ ap (slice_get (mailed i j entries ++ letter config i j peer ∷ [])) (sym counted)
          ∙ get-last (mailed i j entries) (letter config i j peer);
      made = subst (λ (l : List (List ℕ)). Has l body) (sym (made-append config [] entries e))
          (has-right (made_behind config [] entries) (made_bodies config entries e) body made);
      in_range = range;
    }

pub mailed-one : (i j : ℕ) (entries : List Entry) (e : Entry) (bytes : List ℕ) → e.client ≡ i → posts_to j e.outcome.to_peers ≡ bytes ∷ []
    → length (mailed i j (entries ++ e ∷ [])) ≡ length (mailed i j entries) + 1
mailed-one i j entries e bytes own posted =
    ap (λ (l : List (List ℕ)). length l) (mailed-own i j entries e own ∙ ap (λ (l : List (List ℕ)). mailed i j entries ++ l) posted)
    ∙ length-append (mailed i j entries) (bytes ∷ [])

-- a message that was sent is read as it was sent, and its tag is right
pub letter-read : (config : Config) (i j : ℕ) (peer : Peer) → IsClientCount config.clients
    → IsPeerMessageFor config.clients (message_to config i peer j)
    → peer_in config (letter config i j peer) ≡ Some (message_to config i peer j)
letter-read config i j peer count range =
    ap (λ (m : Option Message). as_peer m) (peer-read config.wire config.clients (message_to config i peer j) count range)

pub letter-signed : (config : Config) (i j : ℕ) (peer : Peer) → is_signed config (message_to config i peer j) ≡ true
unfolding peer_body peer_front
letter-signed config i j peer =
    let tag : List ℕ = tag_of config.key (peer_body (message_to config i peer j)) in
    (is_same_tells tag tag).1 refl

pub letter-handed : (config : Config) (i j : ℕ) (peer : Peer) → IsClientCount config.clients → IsWire config.wire
    → IsPeerMessageFor config.clients (message_to config i peer j) → AreHandedIn (letter config i j peer)
letter-handed config i j peer count wire range =
    let m : PeerMessage = message_to config i peer j in
    record {
      sized = omega (arith, spelling_at_most config.wire config.clients (messages.Peer m) count range);
      bytes_each = AreBytes-spelling config.wire config.clients (messages.Peer m) wire count range;
    }

-- what an entry makes, by its deed
pub made-by : (config : Config) (entries : List Entry) (e : Entry)
    → made_bodies config entries e ≡ bodies_of config e.client (replay config e.client (entries_of e.client entries))
    (deed_at config e.client (replay config e.client (entries_of e.client entries)) e.input)
unfolding made_bodies
made-by config entries e = refl
