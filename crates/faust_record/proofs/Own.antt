-- The entries of one client among those of all, and what the client holds after them.
use Rattle.std.proofs.Common.{◌≡◌, ◌==◌, ℕ, ◌+◌, Bool, true, false, cond, List, [], ◌∷◌, ◌++◌, length, option_to_list, refl, sym, ap, ◌∙◌, append_assoc}
use Rattle.std.proofs.lemmas.List.{append-nil}
use Rattle.std.proofs.lemmas.Bool.{eq-eqb, ne_eqb}
use Rattle.faust_types.specs.declared.config.Config.{Config}
use Rattle.faust_agent.specs.State.{first_client}
use Rattle.faust_agent.specs.declared.client.Client.{Client}
use Rattle.faust_record.specs.Entries.{Obeys, member_after, replay, replayed, state_at}
use Rattle.faust_record.specs.Acting.{member_at}
use Rattle.faust_record.specs.Runs.{arrived_in, arriving, entries_of, sent_in}
use Rattle.faust_record.specs.declared.entry.Entry.{Entry}

-- an item that is kept or left out in front of two lists
pub kept-append : {X : Type 0} (b : Bool) (x : X) (all front back : List X) → all ≡ front ++ back
    → cond b (x ∷ all) all ≡ cond b (x ∷ front) front ++ back
kept-append {X} true x all front back same = ap (λ (l : List X). x ∷ l) same
kept-append {X} false x all front back same = same

pub entries_of-append : (i : ℕ) (xs ys : List Entry) → entries_of i (xs ++ ys) ≡ entries_of i xs ++ entries_of i ys
entries_of-append i [] ys = refl
entries_of-append i (x ∷ xs) ys =
    kept-append (x.client == i) x (entries_of i (xs ++ ys)) (entries_of i xs) (entries_of i ys) (entries_of-append i xs ys)

-- one more entry, of the client or of another one
pub entries_of-own : (i : ℕ) (xs : List Entry) (e : Entry) → e.client ≡ i → entries_of i (xs ++ e ∷ []) ≡ entries_of i xs ++ e ∷ []
entries_of-own i xs e own =
    entries_of-append i xs (e ∷ []) ∙ ap (λ (b : Bool). entries_of i xs ++ cond b (e ∷ []) []) (eq-eqb e.client i own)

pub entries_of-other : (i : ℕ) (xs : List Entry) (e : Entry) → (e.client ≡ i → ⊥) → entries_of i (xs ++ e ∷ []) ≡ entries_of i xs
entries_of-other i xs e other =
    entries_of-append i xs (e ∷ []) ∙ ap (λ (b : Bool). entries_of i xs ++ cond b (e ∷ []) []) (ne_eqb e.client i other)
    ∙ append-nil (entries_of i xs)

pub replayed-append : (config : Config) (me : ℕ) (st : Client) (xs ys : List Entry)
    → replayed config me st (xs ++ ys) ≡ replayed config me (replayed config me st xs) ys
replayed-append config me st [] ys = refl
replayed-append config me st (x ∷ xs) ys = replayed-append config me (state_at config me st x.input) xs ys

-- the client after one more entry
pub member_after-append : (config : Config) (i : ℕ) (own : List Entry) (e : Entry)
    → member_after config i (own ++ e ∷ []) ≡ member_at (member_after config i own) e.input
member_after-append config i own e =
    ap (λ (st : Client). record { config = config; me = i; client = st })
    (replayed-append config i (first_client config.clients i) own (e ∷ []))

pub obeys-append : (config : Config) (me : ℕ) (st : Client) (xs ys : List Entry) → Obeys config me st xs
    → Obeys config me (replayed config me st xs) ys → Obeys config me st (xs ++ ys)
obeys-append config me st [] ys front back = back
obeys-append config me st (x ∷ xs) ys front back =
    (front.0, obeys-append config me (state_at config me st x.input) xs ys front.1 back)

pub obeys-front : (config : Config) (me : ℕ) (st : Client) (xs ys : List Entry) → Obeys config me st (xs ++ ys) → Obeys config me st xs
obeys-front config me st [] ys all = tt
obeys-front config me st (x ∷ xs) ys all = (all.0, obeys-front config me (state_at config me st x.input) xs ys all.1)

pub sent_in-append : (xs ys : List Entry) → sent_in (xs ++ ys) ≡ sent_in xs ++ sent_in ys
sent_in-append [] ys = refl
sent_in-append (x ∷ xs) ys =
    ap (λ (l : List (List ℕ)). option_to_list x.outcome.to_server ++ l) (sent_in-append xs ys)
    ∙ sym (append_assoc (option_to_list x.outcome.to_server) (sent_in xs) (sent_in ys))

pub arrived_in-append : (xs ys : List Entry) → arrived_in (xs ++ ys) ≡ arrived_in xs ++ arrived_in ys
arrived_in-append [] ys = refl
arrived_in-append (x ∷ xs) ys =
    ap (λ (l : List (List ℕ)). option_to_list (arriving x.input) ++ l) (arrived_in-append xs ys)
    ∙ sym (append_assoc (option_to_list (arriving x.input)) (arrived_in xs) (arrived_in ys))
