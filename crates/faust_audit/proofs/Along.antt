-- The entries of a run one after the other.
use Rattle.std.proofs.Common.{◌≡◌, ◌+◌, ◌-◌, ◌<◌, ℕ, zero, suc, List, [], ◌∷◌, ◌++◌, length, get_or, drop, take, Option, Some, None, IfSome, refl, sym, ap, ◌∙◌, subst, arith, slice_set}
use Rattle.std.specs.List.{slice_get}
use Rattle.std.proofs.lemmas.List.{drop_more, take-append-drop, take_more}
use Rattle.faust_types.specs.Clients.{IsClient}
use Rattle.faust_types.specs.Versions.{clients_of}
use Rattle.faust_types.specs.declared.config.Config.{Config}
use Rattle.faust_types.specs.declared.message.Reply.{Reply}
use Rattle.faust_agent.specs.State.{first_client}
use Rattle.faust_forks.specs.Pairs.{Pair}
use Rattle.faust_record.specs.Entries.{replay, state_at}
use Rattle.faust_record.specs.Made.{made_behind, made_bodies}
use Rattle.faust_record.specs.Runs.{IsRun, entries_of}
use Rattle.faust_record.specs.declared.entry.Entry.{Entry}
use Rattle.faust_record.proofs.Own.{entries_of-other, entries_of-own, replayed-append}
use Rattle.faust_record.proofs.Runs.{run-front}
use Rattle.faust_premises.specs.Premises.{Forgery, checked_pairs, first_forged_behind, forged_among, forgery_or, hashed_in_run, pairs_of_input}
use Rattle.faust_audit.specs.Tables.{HoldsBodies, HoldsInputs}
use Rattle.faust_audit.specs.Watching.{IsCameFor, bodies_seen, hashed_breaking, reply_came, seen_by, watched_after, watched_in, watched_of, watched_then}
use Rattle.faust_audit.specs.Passing.{IsPassAt, forged_at}
use Rattle.faust_audit.specs.declared.pass.Pass.{Pass}
use Rattle.faust_audit.specs.declared.watched.Watched.{Watched}
use Rattle.faust_audit.proofs.Clients.{client-in_range}
use Rattle.faust_audit.proofs.PassLaws.{entry-of, pass-next, watched-in_range}

-- entry q, with those before it and those behind it
pub record IsEntryAt (xs : List Entry) (q : ℕ) (e : Entry) : Type 0 where
  pub within : q < length xs
  pub here : (d : Entry) → get_or xs q d ≡ e
  pub front : take (q + 1) xs ≡ take q xs ++ e ∷ []
  pub back : drop q xs ≡ e ∷ drop (q + 1) xs
  pub whole : xs ≡ take q xs ++ e ∷ drop (q + 1) xs

record IsFound (xs : List Entry) (q : ℕ) (e : Entry) : Type 0 where
  within : q < length xs
  here : (d : Entry) → get_or xs q d ≡ e

found-at : (xs : List Entry) (q : ℕ) (e : Entry) → slice_get xs q ≡ Some e → IsFound xs q e
found-at [] q e is = absurd (cc)
found-at (x ∷ xs) zero e is = record { within = omega arith; here = λ d. cc }
found-at (x ∷ xs) (suc q) e is =
    let later = found-at xs q e is in
    record { within = omega (arith, later.within); here = later.here }

pub entry-at : (xs : List Entry) (q : ℕ) (e : Entry) → slice_get xs q ≡ Some e → IsEntryAt xs q e
entry-at xs q e is =
    let found = found-at xs q e is in
    let back : drop q xs ≡ e ∷ drop (q + 1) xs =
    drop_more xs q e found.within ∙ ap (λ (z : Entry). z ∷ drop (q + 1) xs) (found.here e) in
    record {
      within = found.within;
      here = found.here;
      front = take_more xs q e found.within ∙ ap (λ (z : Entry). take q xs ++ z ∷ []) (found.here e);
      back = back;
      whole = sym (take-append-drop q xs) ∙ ap (λ (l : List Entry). take q xs ++ l) back;
    }

-- there is none only behind the last one
pub none-at : (xs : List Entry) (q : ℕ) → slice_get xs q ≡ None → q < length xs → ⊥
none-at [] q none within = omega (arith, within)
none-at (x ∷ xs) zero none within = cc
none-at (x ∷ xs) (suc q) none within = none-at xs q none (omega (arith, within))

pub run-at : (config : Config) (xs : List Entry) (q : ℕ) (e : Entry) → IsRun config xs → IsEntryAt xs q e
    → IsRun config (take q xs ++ e ∷ drop (q + 1) xs)
run-at config xs q e run at = subst (IsRun config) at.whole run

pub run-taken : (config : Config) (xs : List Entry) (q : ℕ) → IsRun config xs → IsRun config (take q xs)
run-taken config xs q run = run-front config (take q xs) (drop q xs) (subst (IsRun config) (sym (take-append-drop q xs)) run)

-- the first forgery, where entry q has none, and where it has one
pub forged-next : (config : Config) (xs : List Entry) (q : ℕ) (e : Entry) (due : Option Forgery) → IsEntryAt xs q e
    → forged_at config (take q xs) e ≡ None → first_forged_behind config (take q xs) (drop q xs) ≡ due
    → first_forged_behind config (take (q + 1) xs) (drop (q + 1) xs) ≡ due
forged-next config xs q e due at none is =
    ap (λ (l : List Entry). first_forged_behind config l (drop (q + 1) xs)) at.front
    ∙ sym (ap (λ (here : Option (List ℕ)). forgery_or e.number here
    (first_forged_behind config (take q xs ++ e ∷ []) (drop (q + 1) xs))) none)
    ∙ sym (ap (first_forged_behind config (take q xs)) at.back) ∙ is

pub forged-found : (config : Config) (xs : List Entry) (q : ℕ) (e : Entry) (body : List ℕ) (due : Option Forgery) → IsEntryAt xs q e
    → forged_at config (take q xs) e ≡ Some body → first_forged_behind config (take q xs) (drop q xs) ≡ due
    → Some (record { entry = e.number; body = body }) ≡ due
forged-found config xs q e body due at found is =
    sym (ap (λ (here : Option (List ℕ)). forgery_or e.number here
    (first_forged_behind config (take q xs ++ e ∷ []) (drop (q + 1) xs))) found)
    ∙ sym (ap (first_forged_behind config (take q xs)) at.back) ∙ is

-- the checked pairs of an entry, as they come from its message
pub step-forged : (config : Config) (before : List Entry) (e : Entry) (key : List ℕ) (pairs : List Pair) (found : Option (List ℕ))
    → key ≡ config.key → pairs ≡ pairs_of_input config e.input → found ≡ forged_among key (made_behind config [] before) pairs
    → forged_at config before e ≡ found
unfolding checked_pairs
step-forged config before e key pairs found key_is pairs_are is =
    sym (ap (λ (l : List Pair). forged_among config.key (made_behind config [] before) l) pairs_are)
    ∙ sym (ap (λ (k : List ℕ). forged_among k (made_behind config [] before) pairs) key_is) ∙ sym is

-- the pass behind an entry, as the code has it
pub step-next : (config : Config) (before rest : List Entry) (e : Entry) (old now : Pass) (w w_now : Watched) (reply : Option Reply)
    (key : List ℕ)
    → IsRun config (before ++ e ∷ rest) → IsPassAt config old before → w ≡ watched_in old.watched.items e.client
    → reply ≡ reply_came config e.input → key ≡ config.key
    → w_now ≡ watched_after w (seen_by e.client w e.input e.outcome reply).moved
    → ((made : List (List ℕ)) → HoldsBodies old.collected.made made
    → HoldsBodies now.collected.made (made ++ bodies_seen e.client w (seen_by e.client w e.input e.outcome reply).moved e.outcome))
    → ((all : List (List ℕ)) → HoldsInputs old.collected.inputs all
    → HoldsInputs now.collected.inputs ((all ++ (seen_by e.client w e.input e.outcome reply).hashed)
    ++ hashed_breaking key e.client w reply e.outcome.notice))
    → now.watched.items ≡ slice_set old.watched.items (e.client - 1) w_now → IsPassAt config now (before ++ e ∷ [])
step-next config before rest e old now w w_now reply key run at w_is reply_is key_is now_is made inputs set =
    pass-next config before rest e old now w run at w_is
    (subst (λ (r : Option Reply). HoldsBodies now.collected.made (made_behind config [] before
    ++ bodies_seen e.client w (seen_by e.client w e.input e.outcome r).moved e.outcome)) reply_is
    (made (made_behind config [] before) at.made))
    (subst (λ (k : List ℕ). HoldsInputs now.collected.inputs
    ((hashed_in_run config before ++ (seen_by e.client w e.input e.outcome (reply_came config e.input)).hashed)
    ++ hashed_breaking k e.client w (reply_came config e.input) e.outcome.notice)) key_is
    (subst (λ (r : Option Reply). HoldsInputs now.collected.inputs
    ((hashed_in_run config before ++ (seen_by e.client w e.input e.outcome r).hashed)
    ++ hashed_breaking key e.client w r e.outcome.notice)) reply_is
    (inputs (hashed_in_run config before) at.inputs)))
    (set ∙ ap (slice_set old.watched.items (e.client - 1)) (now_is
    ∙ ap (λ (r : Option Reply). watched_after w (seen_by e.client w e.input e.outcome r).moved) reply_is))

-- what is kept of one client
pub came-as : (n m : ℕ) (reply : Option Reply) → n ≡ m → IfSome reply (IsCameFor n) → IfSome reply (IsCameFor m)
came-as n m reply same came = subst (λ (k : ℕ). IfSome reply (IsCameFor k)) same came

pub watched-sized : (config : Config) (xs : List Entry) (q i : ℕ) (watched : Watched) → IsRun config xs → IsClient config.clients i
    → watched ≡ watched_of i (replay config i (entries_of i (take q xs))) → clients_of watched.own ≡ config.clients
watched-sized config xs q i watched run client is =
    let kept = client-in_range config (take q xs) i (run-taken config xs q run) client in
    ap (λ (w : Watched). clients_of w.own) is
    ∙ (watched-in_range config i (replay config i (entries_of i (take q xs))) client kept).counted

pub own-next : (config : Config) (before rest : List Entry) (e : Entry) (i : ℕ) (watched : Watched) → IsRun config (before ++ e ∷ rest)
    → e.client ≡ i → watched ≡ watched_of i (replay config i (entries_of i before))
    → watched_then config i watched e ≡ watched_of i (replay config i (entries_of i (before ++ e ∷ [])))
own-next config before rest e i watched run own is =
    let is_own : watched ≡ watched_of e.client (replay config e.client (entries_of e.client before)) =
    subst (λ (k : ℕ). watched ≡ watched_of k (replay config k (entries_of k before))) (sym own) is in
    let after : replay config e.client (entries_of e.client (before ++ e ∷ []))
    ≡ state_at config e.client (replay config e.client (entries_of e.client before)) e.input =
    ap (replay config e.client) (entries_of-own e.client before e refl)
    ∙ replayed-append config e.client (first_client config.clients e.client) (entries_of e.client before) (e ∷ []) in
    let kept : watched_then config e.client watched e
    ≡ watched_of e.client (replay config e.client (entries_of e.client (before ++ e ∷ []))) =
    (entry-of config before rest e watched run is_own).kept ∙ ap (watched_of e.client) (sym after) in
    subst (λ (k : ℕ). watched_then config k watched e ≡ watched_of k (replay config k (entries_of k (before ++ e ∷ [])))) own kept

pub other-next : (config : Config) (before : List Entry) (e : Entry) (i : ℕ) (watched : Watched) → (e.client ≡ i → ⊥)
    → watched ≡ watched_of i (replay config i (entries_of i before))
    → watched ≡ watched_of i (replay config i (entries_of i (before ++ e ∷ [])))
other-next config before e i watched other is =
    is ∙ ap (λ (l : List Entry). watched_of i (replay config i l)) (sym (entries_of-other i before e other))

-- the bodies that entry q makes
pub made-at : (config : Config) (xs : List Entry) (q : ℕ) (e : Entry) (watched : Watched) (reply : Option Reply) → IsRun config xs
    → IsEntryAt xs q e → watched ≡ watched_of e.client (replay config e.client (entries_of e.client (take q xs)))
    → reply ≡ reply_came config e.input
    → bodies_seen e.client watched (seen_by e.client watched e.input e.outcome reply).moved e.outcome ≡ made_bodies config (take q xs) e
made-at config xs q e watched reply run at is reply_is =
    ap (λ (r : Option Reply). bodies_seen e.client watched (seen_by e.client watched e.input e.outcome r).moved e.outcome) reply_is
    ∙ (entry-of config (take q xs) (drop (q + 1) xs) e watched (run-at config xs q e run at) is).bodies
