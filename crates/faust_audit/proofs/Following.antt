-- What the code keeps along a run is what the honest server behind the entries so far leaves due.
use Rattle.std.proofs.Common.{◌≡◌, ◌+◌, ◌-◌, ◌<◌, ◌≤◌, ◌==◌, ℕ, zero, suc, Bool, true, false, cond, List, [], ◌∷◌, ◌++◌, length, map, take, drop, get_or, Option, Some, None, refl, sym, ap, ◌∙◌, subst, inl, inr, arith, length-append}
use Rattle.std.specs.Prelude.{Result, Ok, Err, not, replicate, slice_get, slice_set, if◌then◌else◌}
use Rattle.std.proofs.lemmas.List.{append-nil, drop-append-le, drop-drop, drop_all, get_or-replicate, length-drop, length-map, length-replicate, map-append}
use Rattle.std.proofs.lemmas.Bool.{cases_eq, eq-eqb, ne_eqb, false≢true}
use Rattle.faust_types.specs.Clients.{IsClient}
use Rattle.faust_types.specs.declared.config.Config.{Config}
use Rattle.faust_types.specs.declared.message.Message.{Message}
use Rattle.faust_types.specs.declared.message.Message.TheVariants as messages
use Rattle.faust_types.specs.declared.message.Reply.{Reply}
use Rattle.faust_wire.specs.Grammar.{reply_bytes}
use Rattle.faust_wire.specs.Reading.{message_of}
use Rattle.faust_server.specs.Rows.{State, Served, committed, submitted}
use Rattle.faust_server.specs.declared.refusal.OutOfTurn.{OutOfTurn}
use Rattle.faust_record.specs.Runs.{AreOfClients, IsRun}
use Rattle.faust_record.specs.declared.entry.Input.{Input}
use Rattle.faust_record.specs.declared.entry.Input.TheVariants as inputs
use Rattle.faust_record.specs.declared.entry.Entry.{Entry}
use Rattle.faust_record.proofs.Agents.{set-other, set-own}
use Rattle.faust_record.proofs.Fed.{IsAt, at-place}
use Rattle.faust_record.proofs.Own.{kept-append}
use Rattle.faust_audit.specs.Departure.{Given, Line, departs, departs_at, first_departure, first_departure_from, first_line, given_to, is_due, line_after, line_at, line_from, line_of, line_served, line_settled, line_told, times_of}
use Rattle.faust_audit.specs.Owing.{Debt, IsDebtFor, IsDebtOf, IsFollowed, debt_after, debt_at, debt_handed, debt_served, debt_settled, debt_told, due_to, first_debt, is_next, misses, misses_at, next_due}

-- one more entry
pub line-append : (config : Config) (line : Line) (xs : List Entry) (e : Entry)
    → line_from config line (xs ++ e ∷ []) ≡ line_after config (line_from config line xs) e
line-append config line [] e = refl
line-append config line (x ∷ xs) e = line-append config (line_after config line x) xs e

-- one more reply that was given, and one more that was handed
given-append : (i : ℕ) (xs ys : List Given) → given_to i (xs ++ ys) ≡ given_to i xs ++ given_to i ys
given-append i [] ys = refl
given-append i (x ∷ xs) ys =
    kept-append (x.client == i) x.reply (given_to i (xs ++ ys)) (given_to i xs) (given_to i ys) (given-append i xs ys)

pub given-own : (i j : ℕ) (xs : List Given) (reply : Reply) → i ≡ j
    → given_to j (xs ++ (record { client = i; reply = reply }) ∷ []) ≡ given_to j xs ++ reply ∷ []
given-own i j xs reply own =
    given-append j xs ((record { client = i; reply = reply }) ∷ [])
    ∙ ap (λ (b : Bool). given_to j xs ++ cond b (reply ∷ []) []) (eq-eqb i j own)

pub given-other : (i j : ℕ) (xs : List Given) (reply : Reply) → (i ≡ j → ⊥)
    → given_to j (xs ++ (record { client = i; reply = reply }) ∷ []) ≡ given_to j xs
given-other i j xs reply other =
    given-append j xs ((record { client = i; reply = reply }) ∷ [])
    ∙ ap (λ (b : Bool). given_to j xs ++ cond b (reply ∷ []) []) (ne_eqb i j other)
    ∙ append-nil (given_to j xs)

counted-more : (b : Bool) (more now : ℕ) → more ≡ now → cond b (suc more) more ≡ cond b (suc now) now
counted-more b more now same = ap (λ (k : ℕ). cond b (suc k) k) same

moved-out : (b : Bool) (k : ℕ) → cond b (suc (suc k)) (suc k) ≡ suc (cond b (suc k) k)
moved-out true k = refl
moved-out false k = refl

pub times-own : (i j : ℕ) (xs : List ℕ) → i ≡ j → times_of j (xs ++ i ∷ []) ≡ suc (times_of j xs)
times-own i j [] own = ap (λ (b : Bool). cond b 1 0) (eq-eqb i j own)
times-own i j (x ∷ xs) own =
    counted-more (x == j) (times_of j (xs ++ i ∷ [])) (suc (times_of j xs)) (times-own i j xs own) ∙ moved-out (x == j) (times_of j xs)

pub times-other : (i j : ℕ) (xs : List ℕ) → (i ≡ j → ⊥) → times_of j (xs ++ i ∷ []) ≡ times_of j xs
times-other i j [] other = ap (λ (b : Bool). cond b 1 0) (ne_eqb i j other)
times-other i j (x ∷ xs) other = counted-more (x == j) (times_of j (xs ++ i ∷ [])) (times_of j xs) (times-other i j xs other)

-- what is due next
next-due : (wire : ℕ) (bytes : List ℕ) (given : List Reply) (k : ℕ)
    → is_next bytes (slice_get (drop k (map (reply_bytes wire) given)) 0) ≡ is_due wire bytes (slice_get given k)
next-due wire bytes [] zero = refl
next-due wire bytes [] (suc k) = refl
next-due wire bytes (x ∷ xs) zero = refl
next-due wire bytes (x ∷ xs) (suc k) = next-due wire bytes xs k

due-there : (bytes : List ℕ) (due : List (List ℕ)) → is_next bytes (slice_get due 0) ≡ true → 0 < length due
due-there bytes [] next = absurd (false≢true next)
due-there bytes (x ∷ xs) next = omega arith

not-not : (b : Bool) → not b ≡ false → b ≡ true
not-not true h = refl
not-not false h = sym h

-- an entry misses what is due exactly where it departs
misses-at : (config : Config) (line : Line) (debt : Debt) (i : ℕ) (input : Input) → IsClient config.clients i
    → IsDebtOf config line debt → misses_at debt i input ≡ departs_at config line i input
misses-at config line debt i (inputs.Write value) client kept = refl
misses-at config line debt i (inputs.Read register) client kept = refl
misses-at config line debt i (inputs.Reply bytes) client kept =
    ap (λ (due : List (List ℕ)). not (is_next bytes (slice_get due 0))) (kept.left i client)
    ∙ ap not (next-due config.wire bytes (given_to i line.given) (times_of i line.handed))
misses-at config line debt i (inputs.Peer bytes) client kept = refl
misses-at config line debt i (inputs.Tick moment) client kept = refl
misses-at config line debt i (inputs.Arrive message) client kept = refl

-- a reply that is due is handed to client i
handed-due : (config : Config) (line : Line) (debt : Debt) (i : ℕ) (bytes : List ℕ) → IsClient config.clients i
    → IsDebtOf config line debt → is_next bytes (next_due debt i) ≡ true
    → times_of i line.handed < length (given_to i line.given)
handed-due config line debt i bytes client kept next =
    let spelled = map (reply_bytes config.wire) (given_to i line.given) in
    let there : 0 < length (due_to debt i) = due-there bytes (due_to debt i) next in
    let left : length (due_to debt i) ≡ length spelled - times_of i line.handed =
    ap (λ (l : List (List ℕ)). length l) (kept.left i client) ∙ length-drop (times_of i line.handed) spelled in
    omega (arith, there, left, length-map (given_to i line.given) (reply_bytes config.wire))

handed-within : (config : Config) (line : Line) (debt : Debt) (i : ℕ) (bytes : List ℕ) → IsClient config.clients i
    → IsDebtOf config line debt → is_next bytes (next_due debt i) ≡ true
    → (j : ℕ) → IsClient config.clients j → times_of j (line.handed ++ i ∷ []) ≤ length (given_to j line.given)
handed-within config line debt i bytes client kept next j within =
    elim (cases_eq i j) [
      | inl own ↦
          let due : times_of j line.handed < length (given_to j line.given) =
          subst (λ (k : ℕ). times_of k line.handed < length (given_to k line.given)) own
          (handed-due config line debt i bytes client kept next) in
          omega (arith, due, times-own i j line.handed own)
      | inr other ↦ omega (arith, kept.within j within, times-other i j line.handed other)
    ]

handed-left : (config : Config) (line : Line) (debt : Debt) (i : ℕ) → IsClient config.clients i
    → IsDebtOf config line debt → (j : ℕ) → IsClient config.clients j
    → due_to (debt_handed debt i) j ≡ drop (times_of j (line.handed ++ i ∷ [])) (map (reply_bytes config.wire) (given_to j line.given))
handed-left config line debt i client kept j within =
    let spelled : List (List ℕ) = map (reply_bytes config.wire) (given_to j line.given) in
    elim (cases_eq i j) [
      | inl own ↦
          let k : ℕ = times_of j line.handed in
          let one_more : k + 1 ≡ times_of j (line.handed ++ i ∷ []) = omega (arith, times-own i j line.handed own) in
          let own_place : IsClient config.clients i
          → get_or (slice_set debt.due (i - 1) (drop 1 (due_to debt i))) (j - 1) [] ≡ drop 1 (due_to debt i) =
          λ c. subst (λ (m : ℕ). get_or (slice_set debt.due (i - 1) (drop 1 (due_to debt i))) (m - 1) [] ≡ drop 1 (due_to debt i)) own
          (set-own debt.due i (drop 1 (due_to debt i)) [] config.clients kept.counted.paired c) in
          own_place client ∙ ap (λ (m : ℕ). drop 1 (due_to debt m)) own ∙ ap (λ (l : List (List ℕ)). drop 1 l) (kept.left j within)
          ∙ drop-drop 1 k spelled ∙ ap (λ (m : ℕ). drop m spelled) one_more
      | inr other ↦
          set-other debt.due i j (drop 1 (due_to debt i)) [] config.clients client within other ∙ kept.left j within
          ∙ ap (λ (m : ℕ). drop m spelled) (sym (times-other i j line.handed other))
    ]

handed-kept : (config : Config) (line : Line) (debt : Debt) (i : ℕ) (bytes : List ℕ) → IsClient config.clients i
    → IsDebtOf config line debt → is_next bytes (next_due debt i) ≡ true → IsDebtFor config.clients (debt_handed debt i)
    → IsDebtOf config (record line { handed = line.handed ++ i ∷ [] }) (debt_handed debt i)
handed-kept config line debt i bytes client kept next counted = record {
  counted = counted;
  same_server = kept.same_server;
  within = handed-within config line debt i bytes client kept next;
  left = handed-left config line debt i client kept;
}

-- a reply is given to client i
given-within : (config : Config) (line : Line) (debt : Debt) (i : ℕ) (reply : Reply) → IsDebtOf config line debt
    → (j : ℕ) → IsClient config.clients j
    → times_of j line.handed ≤ length (given_to j (line.given ++ (record { client = i; reply = reply }) ∷ []))
given-within config line debt i reply kept j within =
    elim (cases_eq i j) [
      | inl own ↦
          let longer : length (given_to j (line.given ++ (record { client = i; reply = reply }) ∷ []))
          ≡ length (given_to j line.given) + 1 =
          ap (λ (l : List Reply). length l) (given-own i j line.given reply own) ∙ length-append (given_to j line.given) (reply ∷ []) in
          omega (arith, longer, kept.within j within)
      | inr other ↦
          let same : length (given_to j (line.given ++ (record { client = i; reply = reply }) ∷ [])) ≡ length (given_to j line.given) =
          ap (λ (l : List Reply). length l) (given-other i j line.given reply other) in
          omega (arith, same, kept.within j within)
    ]

given-left : (config : Config) (line : Line) (debt : Debt) (i : ℕ) (reply : Reply) → IsClient config.clients i
    → IsDebtOf config line debt → (j : ℕ) → IsClient config.clients j
    → get_or (slice_set debt.due (i - 1) (due_to debt i ++ reply_bytes config.wire reply ∷ [])) (j - 1) []
    ≡ drop (times_of j line.handed) (map (reply_bytes config.wire) (given_to j (line.given ++ (record { client = i; reply = reply }) ∷ [])))
given-left config line debt i reply client kept j within =
    let spell : Reply → List ℕ = reply_bytes config.wire in
    let due : List (List ℕ) = due_to debt i ++ spell reply ∷ [] in
    let k : ℕ = times_of j line.handed in
    let spelled : List (List ℕ) = map spell (given_to j line.given) in
    elim (cases_eq i j) [
      | inl own ↦
          let own_place : get_or (slice_set debt.due (i - 1) due) (j - 1) [] ≡ due =
          subst (λ (m : ℕ). get_or (slice_set debt.due (i - 1) due) (m - 1) [] ≡ due) own
          (set-own debt.due i due [] config.clients kept.counted.paired client) in
          let inside : k ≤ length spelled = omega (arith, kept.within j within, length-map (given_to j line.given) spell) in
          own_place ∙ ap (λ (m : ℕ). due_to debt m ++ spell reply ∷ []) own
          ∙ ap (λ (l : List (List ℕ)). l ++ spell reply ∷ []) (kept.left j within)
          ∙ sym (drop-append-le k spelled (spell reply ∷ []) inside)
          ∙ ap (λ (l : List (List ℕ)). drop k l) (sym (map-append spell (given_to j line.given) (reply ∷ [])))
          ∙ ap (λ (l : List Reply). drop k (map spell l)) (sym (given-own i j line.given reply own))
      | inr other ↦
          set-other debt.due i j due [] config.clients client within other ∙ kept.left j within
          ∙ ap (λ (l : List Reply). drop k (map spell l)) (sym (given-other i j line.given reply other))
    ]

served-kept : (config : Config) (line : Line) (debt : Debt) (i : ℕ) (served : Result Served OutOfTurn) → IsClient config.clients i
    → IsDebtOf config line debt → IsDebtFor config.clients (debt_served config.wire debt i served)
    → IsDebtOf config (line_served line i served) (debt_served config.wire debt i served)
served-kept config line debt i (Ok served) client kept counted = record {
  counted = counted;
  same_server = refl;
  within = given-within config line debt i served.reply kept;
  left = given-left config line debt i served.reply client kept;
}
served-kept config line debt i (Err refused) client kept counted = kept

settled-kept : (config : Config) (line : Line) (debt : Debt) (settled : Result State OutOfTurn) → IsDebtOf config line debt
    → IsDebtFor config.clients (debt_settled debt settled) → IsDebtOf config (line_settled line settled) (debt_settled debt settled)
settled-kept config line debt (Ok state) kept counted = record {
  counted = counted;
  same_server = refl;
  within = kept.within;
  left = kept.left;
}
settled-kept config line debt (Err refused) kept counted = kept

told-kept : (config : Config) (line : Line) (debt : Debt) (i : ℕ) (message : Option Message) → IsClient config.clients i
    → IsDebtOf config line debt → IsDebtFor config.clients (debt_told config.wire debt i message)
    → IsDebtOf config (line_told line i message) (debt_told config.wire debt i message)
told-kept config line debt i None client kept counted = kept
told-kept config line debt i (Some (messages.Submit m)) client kept counted =
    let server : State → Type 0 = λ s. IsDebtOf config (line_served line i (submitted s i m))
    (debt_served config.wire debt i (submitted debt.server i m)) in
    subst server kept.same_server (served-kept config line debt i (submitted debt.server i m) client kept counted)
told-kept config line debt i (Some (messages.Reply m)) client kept counted = kept
told-kept config line debt i (Some (messages.Commit m)) client kept counted =
    let server : State → Type 0 = λ s. IsDebtOf config (line_settled line (committed s i m))
    (debt_settled debt (committed debt.server i m)) in
    subst server kept.same_server (settled-kept config line debt (committed debt.server i m) kept counted)
told-kept config line debt i (Some (messages.Peer m)) client kept counted = kept
told-kept config line debt i (Some (messages.Hello from)) client kept counted = kept

-- one more entry that doesn't depart
at-kept : (config : Config) (line : Line) (debt : Debt) (i : ℕ) (input : Input) → IsClient config.clients i
    → IsDebtOf config line debt → misses_at debt i input ≡ false → IsDebtFor config.clients (debt_at config debt i input)
    → IsDebtOf config (line_at config line i input) (debt_at config debt i input)
at-kept config line debt i (inputs.Write value) client kept due counted = kept
at-kept config line debt i (inputs.Read register) client kept due counted = kept
at-kept config line debt i (inputs.Reply bytes) client kept due counted =
    handed-kept config line debt i bytes client kept (not-not (is_next bytes (next_due debt i)) due) counted
at-kept config line debt i (inputs.Peer bytes) client kept due counted = kept
at-kept config line debt i (inputs.Tick moment) client kept due counted = kept
at-kept config line debt i (inputs.Arrive message) client kept due counted =
    told-kept config line debt i (message_of config.wire config.clients message) client kept counted

-- before the first entry
first-paired : (n i : ℕ) → IsClient n i → get_or {A = List (List ℕ)} (replicate n []) (i - 1) [] ≡ []
first-paired n i client = get_or-replicate n (i - 1) [] [] (omega (arith, client.from_one, client.to_n))

pub followed-first : (config : Config) (all : List Entry) → IsFollowed config (take 0 all) (drop 0 all) all (first_debt config.clients)
followed-first config all = record {
  kept = record {
    counted = record { served = length-replicate config.clients _; paired = length-replicate config.clients _ };
    same_server = refl;
    within = λ i client. omega arith;
    left = λ i client. first-paired config.clients i client;
  };
  undecided = refl;
}

-- the next entry departs, or is followed
first-here : (config : Config) (line : Line) (e : Entry) (rest : List Entry) (b : Bool) → departs config line e ≡ b
    → first_departure_from config line (e ∷ rest) ≡ if b then Some e.number else first_departure_from config (line_after config line e) rest
first-here config line e rest b is =
    ap (λ (t : Bool). if t then Some e.number else first_departure_from config (line_after config line e) rest) is

pub followed-departs : (config : Config) (all : List Entry) (q : ℕ) (e : Entry) (debt : Debt) → IsAt all q e
    → IsClient config.clients e.client → IsFollowed config (take q all) (drop q all) all debt → misses debt e ≡ true
    → Some e.number ≡ first_departure config all
followed-departs config all q e debt at client followed missed =
    let line : Line = line_of config (take q all) in
    let departs_here : departs config line e ≡ true =
    sym (misses-at config line debt e.client e.input client followed.kept) ∙ missed in
    sym (first-here config line e (drop (q + 1) all) true departs_here)
    ∙ ap (λ (l : List Entry). first_departure_from config line l) (sym at.here)
    ∙ followed.undecided

pub followed-next : (config : Config) (all : List Entry) (q : ℕ) (e : Entry) (debt : Debt) → IsAt all q e
    → IsClient config.clients e.client → IsFollowed config (take q all) (drop q all) all debt → misses debt e ≡ false
    → IsDebtFor config.clients (debt_after config debt e)
    → IsFollowed config (take (q + 1) all) (drop (q + 1) all) all (debt_after config debt e)
followed-next config all q e debt at client followed due counted =
    let line : Line = line_of config (take q all) in
    let stays : departs config line e ≡ false =
    sym (misses-at config line debt e.client e.input client followed.kept) ∙ due in
    let line_is : line_of config (take (q + 1) all) ≡ line_after config line e =
    ap (line_of config) at.more ∙ line-append config (first_line config.clients) (take q all) e in
    let kept : IsDebtOf config (line_after config line e) (debt_after config debt e) =
    at-kept config line debt e.client e.input client followed.kept due counted in
    record {
      kept = subst (λ (l : Line). IsDebtOf config l (debt_after config debt e)) (sym line_is) kept;
      undecided = ap (λ (l : Line). first_departure_from config l (drop (q + 1) all)) line_is
          ∙ sym (first-here config line e (drop (q + 1) all) false stays)
          ∙ ap (λ (l : List Entry). first_departure_from config line l) (sym at.here)
          ∙ followed.undecided;
    }

-- behind the last entry
pub followed-last : (config : Config) (all : List Entry) (q : ℕ) (debt : Debt) → length all ≤ q
    → IsFollowed config (take q all) (drop q all) all debt → None ≡ first_departure config all
followed-last config all q debt beyond followed =
    sym (ap (λ (l : List Entry). first_departure_from config (line_of config (take q all)) l) (drop_all q all beyond))
    ∙ followed.undecided

-- entry q is that at its place, and of a client of the run
pub at-read : (all : List Entry) (q : ℕ) (e : Entry) → q < length all → ((d : Entry) → e ≡ get_or all q d) → IsAt all q e
at-read all q e inside read = at-place all q e e inside (read e)

client-at : (n : ℕ) (all : List Entry) (q : ℕ) (d : Entry) → AreOfClients n all → q < length all → IsClient n (get_or all q d).client
client-at n (x ∷ xs) zero d of_clients inside = of_clients.0
client-at n (x ∷ xs) (suc q) d of_clients inside = client-at n xs q d of_clients.1 (omega (arith, inside))
client-at n [] q d of_clients inside = absurd (omega (arith, inside))

pub client-read : (config read : Config) (all : List Entry) (q : ℕ) (e : Entry) → config ≡ read → IsRun read all → q < length all
    → ((d : Entry) → e ≡ get_or all q d) → IsClient config.clients e.client
client-read config read all q e same run inside is =
    subst (λ (c : Config). IsClient c.clients e.client) (sym same)
    (subst (λ (x : Entry). IsClient read.clients x.client) (sym (is e)) (client-at read.clients all q e run.of_clients inside))
