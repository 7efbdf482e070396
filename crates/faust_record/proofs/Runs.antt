-- Runs with one more entry, and the fronts of runs.
use Rattle.std.proofs.Common.{◌≡◌, ◌+◌, ℕ, suc, List, [], ◌∷◌, ◌++◌, length, Option, Some, None, IfSome, refl, sym, ap, ◌∙◌, subst, inl, inr, arith, append_assoc}
use Rattle.std.proofs.lemmas.List.{append-nil}
use Rattle.std.proofs.lemmas.Bool.{cases_eq}
use Rattle.std.proofs.lemmas.Option.{MatchOption-from_none}
use Rattle.faust_types.specs.Clients.{IsClient}
use Rattle.faust_types.specs.Ranges.{IsConfig}
use Rattle.faust_types.specs.declared.config.Config.{Config}
use Rattle.faust_agent.specs.State.{first_client}
use Rattle.faust_record.specs.Entries.{IsStep, MayCome, Obeys, arrival_at, entry_at, replay}
use Rattle.faust_record.specs.Runs.{AreFed, AreNumbered, AreOfClients, IsFed, IsRun, arriving, entries_of, next_message}
use Rattle.faust_record.specs.declared.entry.Input.{Input}
use Rattle.faust_record.specs.declared.entry.Entry.{Entry}
use Rattle.faust_record.proofs.Own.{entries_of-append, entries_of-other, entries_of-own, obeys-append, obeys-front}
use Rattle.faust_record.proofs.Inputs.{outcome-arrival}

pub numbered-append : (q : ℕ) (xs : List Entry) (e : Entry) → AreNumbered q xs → e.number ≡ q + length xs → AreNumbered q (xs ++ e ∷ [])
numbered-append q [] e front here = (omega (arith, here), tt)
numbered-append q (x ∷ xs) e front here =
    let next : e.number ≡ suc q + length xs = omega (arith, here) in
    (front.0, numbered-append (suc q) xs e front.1 next)

numbered-front : (q : ℕ) (xs ys : List Entry) → AreNumbered q (xs ++ ys) → AreNumbered q xs
numbered-front q [] ys all = tt
numbered-front q (x ∷ xs) ys all = (all.0, numbered-front (suc q) xs ys all.1)

pub clients-append : (n : ℕ) (xs : List Entry) (e : Entry) → AreOfClients n xs → IsClient n e.client → AreOfClients n (xs ++ e ∷ [])
clients-append n [] e front here = (here, tt)
clients-append n (x ∷ xs) e front here = (front.0, clients-append n xs e front.1 here)

clients-front : (n : ℕ) (xs ys : List Entry) → AreOfClients n (xs ++ ys) → AreOfClients n xs
clients-front n [] ys all = tt
clients-front n (x ∷ xs) ys all = (all.0, clients-front n xs ys all.1)

pub fed-append : (before xs : List Entry) (e : Entry) → AreFed before xs → IsFed (before ++ xs) e → AreFed before (xs ++ e ∷ [])
fed-append before [] e front here = (subst (λ (l : List Entry). IsFed l e) (append-nil before) here, tt)
fed-append before (x ∷ xs) e front here = (
  front.0,
  fed-append (before ++ x ∷ []) xs e front.1
      (subst (λ (l : List Entry). IsFed l e) (sym (append_assoc before (x ∷ []) xs)) here),
)

fed-front : (before xs ys : List Entry) → AreFed before (xs ++ ys) → AreFed before xs
fed-front before [] ys all = tt
fed-front before (x ∷ xs) ys all = (all.0, fed-front (before ++ x ∷ []) xs ys all.1)

-- each client obeys its table with one more entry
obeyed-append : (config : Config) (xs : List Entry) (e : Entry) → IsRun config xs
    → IsStep config e.client (replay config e.client (entries_of e.client xs)) e
    → (i : ℕ) → IsClient config.clients i → Obeys config i (first_client config.clients i) (entries_of i (xs ++ e ∷ []))
obeyed-append config xs e run step i within =
    let obeys : List Entry → Type 0 = λ (l : List Entry). Obeys config i (first_client config.clients i) l in
    elim (cases_eq e.client i) [
      | inl own ↦
          let here : IsStep config i (replay config i (entries_of i xs)) e =
          subst (λ (k : ℕ). IsStep config k (replay config k (entries_of k xs)) e) own step in
          subst obeys (sym (entries_of-own i xs e own))
          (obeys-append config i (first_client config.clients i) (entries_of i xs) (e ∷ []) (run.obeyed i within) (here, tt))
      | inr other ↦ subst obeys (sym (entries_of-other i xs e other)) (run.obeyed i within)
    ]

pub run-append : (config : Config) (xs : List Entry) (e : Entry) → IsRun config xs → e.number ≡ length xs
    → IsClient config.clients e.client
    → IsStep config e.client (replay config e.client (entries_of e.client xs)) e → IsFed xs e → IsRun config (xs ++ e ∷ [])
run-append config xs e run number client step fed = record {
  config_in_range = run.config_in_range;
  numbered = numbered-append 0 xs e run.numbered (omega (arith, number));
  of_clients = clients-append config.clients xs e run.of_clients client;
  obeyed = obeyed-append config xs e run step;
  fed = fed-append [] xs e run.fed fed;
}

-- an input that may come
pub run-acted : (config : Config) (xs : List Entry) (i : ℕ) (input : Input) → IsRun config xs → IsClient config.clients i
    → MayCome config i (replay config i (entries_of i xs)) input → arriving input ≡ None
    → IsRun config (xs ++ entry_at config i (replay config i (entries_of i xs)) (length xs) input ∷ [])
run-acted config xs i input run client may own =
    run-append config xs (entry_at config i (replay config i (entries_of i xs)) (length xs) input) run refl client
    (record { may_come = may; outcome_is = refl })
    (MatchOption-from_none (arriving input) (λ (message : List ℕ). next_message i xs ≡ Some message) own)

-- the message that is due
pub run-arrived : (config : Config) (xs : List Entry) (i : ℕ) (message : List ℕ) → IsRun config xs → IsClient config.clients i
    → next_message i xs ≡ Some message → IsRun config (xs ++ arrival_at i (length xs) message ∷ [])
run-arrived config xs i message run client due =
    run-append config xs (arrival_at i (length xs) message) run refl client
    (record { may_come = tt; outcome_is = outcome-arrival config i (replay config i (entries_of i xs)) message }) due

pub run-first : (config : Config) → IsConfig config → IsRun config []
run-first config range = record {
  config_in_range = range;
  numbered = tt;
  of_clients = tt;
  obeyed = λ i within. tt;
  fed = tt;
}

-- every front of a run is a run
pub run-front : (config : Config) (xs ys : List Entry) → IsRun config (xs ++ ys) → IsRun config xs
run-front config xs ys run = record {
  config_in_range = run.config_in_range;
  numbered = numbered-front 0 xs ys run.numbered;
  of_clients = clients-front config.clients xs ys run.of_clients;
  obeyed = λ i within. obeys-front config i (first_client config.clients i) (entries_of i xs) (entries_of i ys)
      (subst (λ (l : List Entry). Obeys config i (first_client config.clients i) l) (entries_of-append i xs ys) (run.obeyed i within));
  fed = fed-front [] xs ys run.fed;
}
