-- The history that is read off entries is that of the ledger.
use Rattle.std.proofs.Common.{◌≡◌, ◌==◌, ◌&&◌, ◌-◌, ◌+◌, ◌≤◌, ℕ, zero, suc, Bool, true, false, cond, List, [], ◌∷◌, ◌++◌, length, Option, Some, None, option_map, option_to_list, refl, sym, ap, ◌∙◌, subst, inl, inr, arith, append_assoc}
use Rattle.std.proofs.Math.Path.{fun_ext}
use Rattle.std.specs.Prelude.{slice_get}
use Rattle.std.proofs.lemmas.Bool.{cases_eq, eq-eqb, eqb-true, ne_eqb, and_parts, and_from}
use Rattle.std.proofs.lemmas.List.{append-nil}
use Rattle.std.proofs.lemmas.Option.{slice_get_within}
use Rattle.faust_types.specs.Clients.{IsClientCount}
use Rattle.faust_types.specs.declared.config.Config.{Config}
use Rattle.faust_types.specs.declared.operation.Answer.{Answer}
use Rattle.faust_types.specs.declared.operation.OpName.{OpName}
use Rattle.faust_types.specs.declared.message.Reply.{Reply}
use Rattle.faust_ustor.specs.Passed.{told}
use Rattle.faust_ustor.specs.declared.judgement.Judged.{Judged}
use Rattle.faust_agent.specs.State.{completed_count, is_idle, version_at}
use Rattle.faust_agent.specs.Table.{operation_of}
use Rattle.faust_agent.specs.declared.client.Client.{Client}
use Rattle.faust_agent.specs.declared.deed.Completion.{Completion}
use Rattle.faust_agent.specs.declared.deed.Order.{Order}
use Rattle.faust_forks.specs.Books.{Began, Begun, Done, find, find_begun, or_else}
use Rattle.faust_forks.specs.Books as books
use Rattle.faust_forks.specs.Pasts.{Past, begun_at, done_at, first_past}
use Rattle.faust_names.specs.Histories.{History, named}
use Rattle.faust_names.specs.Histories as histories
use Rattle.faust_names.specs.ForkViews.{history_of, seen}
use Rattle.faust_record.specs.Operations.{Started, completion_named, finished_among, finished_in, first_finished, is_named, operation_named, order_in, started_among, started_in}
use Rattle.faust_record.specs.Operations as entered
use Rattle.faust_record.specs.Runs.{entries_of}
use Rattle.faust_record.specs.declared.entry.Entry.{Entry}
use Rattle.faust_record.proofs.Own.{entries_of-other, entries_of-own}
use Rattle.faust_premises.specs.Premises.{hashed_inputs}
use Rattle.faust_runs.specs.Histories.{began_in, begun_as, completed_in, finished_as, history_read}
use Rattle.faust_runs.specs.Ledgers.{client_after, hashing, past_with}
use Rattle.faust_runs.specs.Sound.{AreProper, Holds, IsHolding, IsSoundLedger}
use Rattle.faust_runs.proofs.Options.{eqb-sym, same-test}
use Rattle.faust_runs.proofs.Frames.{idle-waiting}
use Rattle.faust_runs.proofs.Stepping.{IsPlayed, step-leads}
use Rattle.faust_runs.proofs.Changes.{Closes, Opens, answer_to, closes, closes_none, entry-closes, entry-opens, opens, opens_none}

-- one more item at the end of a list
eqb-suc : (a b : ℕ) → (a == b) ≡ (suc a == suc b)
eqb-suc a b = same-test (a == b) (suc a == suc b) (λ h. eq-eqb (suc a) (suc b) (ap suc (eqb-true a b h)))
    (λ h. eq-eqb a b (omega (arith, eqb-true (suc a) (suc b) h)))

pub get-snoc : {X : Type 0} (l : List X) (x : X) (i : ℕ)
    → slice_get (l ++ x ∷ []) i ≡ or_else (slice_get l i) (cond (i == length l) (Some x) None)
get-snoc [] x zero = refl
get-snoc {X} [] x (suc i) =
    let never : (suc i == 0) ≡ false = ne_eqb (suc i) 0 (λ h. omega (arith, h)) in
    ap (λ (b : Bool). cond b (Some x) None) (sym never)
get-snoc (y ∷ l) x zero = refl
get-snoc {X} (y ∷ l) x (suc i) =
    get-snoc l x i ∙ ap (λ (b : Bool). or_else (slice_get l i) (cond b (Some x) None)) (eqb-suc i (length l))

get-past : {X : Type 0} (l : List X) (i : ℕ) → slice_get l i ≡ None → length l ≤ i
get-past [] i h = omega arith
get-past (x ∷ l) zero h = absurd (cc)
get-past (x ∷ l) (suc i) h = omega (arith, get-past l i h)

-- what may be added is the same in both
cond-same : {X : Type 0} (a b : Bool) (x y : X) → a ≡ b → (a ≡ true → x ≡ y) → cond a (Some x) None ≡ cond b (Some y) None
cond-same {X} true b x y same equal = ap (λ (z : X). Some z) (equal refl) ∙ ap (λ (c : Bool). cond c (Some y) None) same
cond-same {X} false b x y same equal = ap (λ (c : Bool). cond c (Some y) None) same

-- operations that began
begun_as-or : (a : OpName) (o : Option Started) (b : Bool) (x : Started) (y : Begun) → begun_as a (Some x) ≡ Some y
    → begun_as a (or_else o (cond b (Some x) None)) ≡ or_else (begun_as a o) (cond b (Some y) None)
begun_as-or a None true x y is = is
begun_as-or a None false x y is = refl
begun_as-or a (Some z) b x y is = refl

begun_as-none : (a : OpName) (o : Option Started) → begun_as a o ≡ None → o ≡ None
begun_as-none a None h = refl
begun_as-none a (Some x) h = absurd (cc)

-- What a started operation is, found by its name.
record IsStarted (o : Option Started) : Type 0 where
  started : Started
  is : o ≡ Some started

begun_as-some : (a : OpName) (o : Option Started) (begun : Begun) → begun_as a o ≡ Some begun → IsStarted o
begun_as-some a None begun h = absurd (cc)
begun_as-some a (Some x) begun h = record { started = x; is = refl }

started_among-append : (xs ys : List Entry) → started_among (xs ++ ys) ≡ started_among xs ++ started_among ys
started_among-append [] ys = refl
started_among-append (x ∷ xs) ys =
    ap (λ (l : List Started). option_to_list (started_in x) ++ l) (started_among-append xs ys)
    ∙ sym (append_assoc (option_to_list (started_in x)) (started_among xs) (started_among ys))

started-own : (before : List Entry) (entry : Entry)
    → started_among (entries_of entry.client (before ++ entry ∷ []))
    ≡ started_among (entries_of entry.client before) ++ option_to_list (started_in entry)
started-own before entry =
    ap started_among (entries_of-own entry.client before entry refl)
    ∙ started_among-append (entries_of entry.client before) (entry ∷ [])
    ∙ ap (λ (l : List Started). started_among (entries_of entry.client before) ++ l) (append-nil (option_to_list (started_in entry)))

-- operations that completed
finished_as-or : (o : Option entered.Finished) (b : Bool) (x : entered.Finished) (y : histories.Finished)
    → finished_as (Some x) ≡ Some y
    → finished_as (or_else o (cond b (Some x) None)) ≡ or_else (finished_as o) (cond b (Some y) None)
finished_as-or None true x y is = is
finished_as-or None false x y is = refl
finished_as-or (Some z) b x y is = refl

seen-or : (o : Option Done) (b : Bool) (x : Done) (y : histories.Finished) → seen (Some x) ≡ Some y
    → seen (or_else o (cond b (Some x) None)) ≡ or_else (seen o) (cond b (Some y) None)
seen-or None true x y is = is
seen-or None false x y is = refl
seen-or (Some z) b x y is = refl

or_else-cond : {X : Type 0} (b : Bool) (x : X) (o : Option X) → cond b (Some x) o ≡ or_else (cond b (Some x) None) o
or_else-cond true x o = refl
or_else-cond false x o = refl

pub or_else-along : {X : Type 0} (a b c : Option X) → or_else (or_else a b) c ≡ or_else a (or_else b c)
or_else-along None b c = refl
or_else-along (Some x) b c = refl

first-snoc : (a : OpName) (l : List entered.Finished) (x : entered.Finished)
    → first_finished a (l ++ x ∷ []) ≡ or_else (first_finished a l) (cond (is_named a x.answer.op.name) (Some x) None)
first-snoc a [] x = refl
first-snoc a (y ∷ l) x =
    let here : Bool = is_named a y.answer.op.name in
    let last : Option entered.Finished = cond (is_named a x.answer.op.name) (Some x) None in
    ap (λ (o : Option entered.Finished). cond here (Some y) o) (first-snoc a l x)
    ∙ or_else-cond here y (or_else (first_finished a l) last)
    ∙ sym (or_else-along (cond here (Some y) None) (first_finished a l) last)
    ∙ ap (λ (o : Option entered.Finished). or_else o last) (sym (or_else-cond here y (first_finished a l)))

finished_among-append : (xs ys : List Entry) → finished_among (xs ++ ys) ≡ finished_among xs ++ finished_among ys
finished_among-append [] ys = refl
finished_among-append (x ∷ xs) ys =
    ap (λ (l : List entered.Finished). option_to_list (finished_in x) ++ l) (finished_among-append xs ys)
    ∙ sym (append_assoc (option_to_list (finished_in x)) (finished_among xs) (finished_among ys))

finished-own : (before : List Entry) (entry : Entry)
    → finished_among (entries_of entry.client (before ++ entry ∷ []))
    ≡ finished_among (entries_of entry.client before) ++ option_to_list (finished_in entry)
finished-own before entry =
    ap finished_among (entries_of-own entry.client before entry refl)
    ∙ finished_among-append (entries_of entry.client before) (entry ∷ [])
    ∙ ap (λ (l : List entered.Finished). finished_among (entries_of entry.client before) ++ l)
    (append-nil (option_to_list (finished_in entry)))

-- The ledger has what is read off the entries.
pub record IsReading (entries : List Entry) (past : Past) : Type 0 where
  pub began : (k t : ℕ) → 1 ≤ t → begun_as (named k t) (operation_named entries (named k t)) ≡ find_begun past.started k t
  pub completed : (a : OpName) → completed_in entries a ≡ seen (find past.book a.client a.t)

pub reading-first : IsReading [] first_past
reading-first = record { began = λ k t one. refl; completed = λ a. refl }

-- an idle client began as many operations as it completed
started-counted : (n : ℕ) (past : Past) (me : ℕ) (st : Client) (l : List Started)
    → ((t : ℕ) → 1 ≤ t → begun_as (named me t) (slice_get l (t - 1)) ≡ find_begun past.started me t)
    → Holds n past me st → is_idle me st ≡ true → length l ≡ completed_count me st
started-counted n past me st l reads holds idle =
    let c : ℕ = completed_count me st in
    let held : IsHolding n past.started past.book me (version_at st me) None st.last =
    subst (λ w. IsHolding n past.started past.book me (version_at st me) w st.last) (idle-waiting me st idle) holds in
    let above : slice_get l ((c + 1) - 1) ≡ None =
    begun_as-none (named me (c + 1)) (slice_get l ((c + 1) - 1)) (reads (c + 1) (omega arith) ∙ held.fresh (c + 1) (omega arith)) in
    let most : length l ≤ (c + 1) - 1 = get-past l ((c + 1) - 1) above in
    elim (cases_eq c 0) [
      | inl none ↦ omega (arith, most, none)
      | inr some ↦
          let last = held.written.begun_to c (omega (arith, some)) (omega arith) in
          let there : IsStarted (slice_get l (c - 1)) =
          begun_as-some (named me c) (slice_get l (c - 1)) last.begun (reads c (omega (arith, some)) ∙ last.found) in
          omega (arith, most, some, slice_get_within l (c - 1) there.started there.is)
    ]

-- where an operation begins
opened-own : (past : Past) (me t : ℕ) (st : Client) (order : Order) (number : ℕ) (l : List Started) → 1 ≤ t
    → length l ≡ completed_count me st → number ≡ past.entry
    → begun_as (named me t) (slice_get l (t - 1)) ≡ find_begun past.started me t
    → begun_as (named me t) (slice_get (l ++ record { order = order; number = number } ∷ []) (t - 1))
    ≡ find_begun (begun_at past me (operation_of me st order) order.value ∷ past.started) me t
opened-own past me t st order number l one counted numbered reads =
    let a = named me t in
    let x : Started = record { order = order; number = number } in
    let added : Begun = begun_at past me (operation_of me st order) order.value in
    let as_read : Begun = record {
      client = me;
      number = t;
      kind = order.kind;
      register = order.register;
      value = order.value;
      entry = number;
    } in
    let test : ((t - 1) == length l) ≡ books.is_named added.client added.number me t =
    same-test ((t - 1) == length l) (books.is_named added.client added.number me t)
    (λ h. and_from (me == me) ((completed_count me st + 1) == t) (eq-eqb me me refl)
    (eq-eqb (completed_count me st + 1) t (omega (arith, eqb-true (t - 1) (length l) h, counted, one))))
    (λ h. eq-eqb (t - 1) (length l)
    (omega (arith, eqb-true (completed_count me st + 1) t (and_parts (me == me) ((completed_count me st + 1) == t) h).1, counted, one))) in
    let same : ((t - 1) == length l) ≡ true → as_read ≡ added = λ h.
    let at : t ≡ completed_count me st + 1 = omega (arith, eqb-true (t - 1) (length l) h, counted, one) in
    ap (λ (s : ℕ). record as_read { number = s }) at ∙ ap (λ (e : ℕ). record added { entry = e }) numbered in
    ap (begun_as a) (get-snoc l x (t - 1))
    ∙ begun_as-or a (slice_get l (t - 1)) ((t - 1) == length l) x as_read refl
    ∙ ap (λ (o : Option Begun). or_else o (cond ((t - 1) == length l) (Some as_read) None)) reads
    ∙ ap (λ (o : Option Begun). or_else (find_begun past.started me t) o)
    (cond-same ((t - 1) == length l) (books.is_named added.client added.number me t) as_read added test same)

began-own : (n : ℕ) (past later : Past) (me t : ℕ) (st : Client) (entry : Entry) (l : List Started) → 1 ≤ t
    → ((s : ℕ) → 1 ≤ s → begun_as (named me s) (slice_get l (s - 1)) ≡ find_begun past.started me s)
    → Holds n past me st → entry.number ≡ past.entry → entry.client ≡ me → Opens past later me st entry
    → begun_as (named me t) (slice_get (l ++ option_to_list (started_in entry)) (t - 1)) ≡ find_begun later.started me t
began-own n past later me t st entry l one reads holds numbered own (opens_none none same) =
    let as_started = option_map (λ (order : Order). record { order = order; number = entry.number }) in
    let nothing : started_in entry ≡ None =
    ap (λ (k : ℕ). as_started (order_in k entry.input entry.outcome)) own ∙ ap as_started none in
    ap (λ (o : Option Started). begun_as (named me t) (slice_get (l ++ option_to_list o) (t - 1))) nothing
    ∙ ap (λ (z : List Started). begun_as (named me t) (slice_get z (t - 1))) (append-nil l)
    ∙ reads t one
    ∙ ap (λ (z : List Begun). find_begun z me t) (sym same)
began-own n past later me t st entry l one reads holds numbered own (opens order is grown idle) =
    let as_started = option_map (λ (order : Order). record { order = order; number = entry.number }) in
    let begins : started_in entry ≡ Some (record { order = order; number = entry.number }) =
    ap (λ (k : ℕ). as_started (order_in k entry.input entry.outcome)) own ∙ ap as_started is in
    ap (λ (o : Option Started). begun_as (named me t) (slice_get (l ++ option_to_list o) (t - 1))) begins
    ∙ opened-own past me t st order entry.number l one (started-counted n past me st l reads holds idle) numbered (reads t one)
    ∙ ap (λ (z : List Begun). find_begun z me t) (sym grown)

-- where one completes
closed-own : (config : Config) (past : Past) (me : ℕ) (done : Completion) (reply : Reply) (number : ℕ) (a : OpName)
    (l : List entered.Finished) → number ≡ past.entry → done.op.name.client ≡ me → done.judged ≡ told me reply
    → finished_as (first_finished a l) ≡ seen (find past.book a.client a.t)
    → finished_as (first_finished a (l ++ record { answer = answer_to done; number = number } ∷ []))
    ≡ seen (find (done_at past me done.op reply ∷ past.book) a.client a.t)
closed-own config past me done reply number a l numbered own tells reads =
    let x : entered.Finished = record { answer = answer_to done; number = number } in
    let added : Done = done_at past me done.op reply in
    let as_read : histories.Finished = record { entry = number; value = done.judged.value; asof = done.judged.asof } in
    let as_done : histories.Finished = record { entry = past.entry; value = (told me reply).value; asof = (told me reply).asof } in
    let test : is_named a done.op.name ≡ books.is_named me done.op.name.t a.client a.t =
    ap (λ (k : ℕ). (a.client == k) && (a.t == done.op.name.t)) own
    ∙ ap (λ (b : Bool). b && (a.t == done.op.name.t)) (eqb-sym a.client me)
    ∙ ap (λ (b : Bool). (me == a.client) && b) (eqb-sym a.t done.op.name.t) in
    let same : as_read ≡ as_done =
    ap (λ (e : ℕ). record as_read { entry = e }) numbered
    ∙ ap (λ (j : Judged). record { entry = past.entry; value = j.value; asof = j.asof }) tells in
    ap finished_as (first-snoc a l x)
    ∙ finished_as-or (first_finished a l) (is_named a done.op.name) x as_read refl
    ∙ ap (λ (o : Option histories.Finished). or_else o (cond (is_named a done.op.name) (Some as_read) None)) reads
    ∙ ap (λ (o : Option histories.Finished). or_else (seen (find past.book a.client a.t)) o)
    (cond-same (is_named a done.op.name) (books.is_named me done.op.name.t a.client a.t) as_read as_done test (λ h. same))
    ∙ sym (seen-or (find past.book a.client a.t) (books.is_named me done.op.name.t a.client a.t) added as_done refl)

completed-own : (config : Config) (past more later : Past) (me : ℕ) (st : Client) (entry : Entry) (a : OpName) (l : List entered.Finished)
    → finished_as (first_finished a l) ≡ seen (find past.book a.client a.t) → entry.number ≡ past.entry
    → Closes config past more later me st entry
    → finished_as (first_finished a (l ++ option_to_list (finished_in entry))) ≡ seen (find later.book a.client a.t)
completed-own config past more later me st entry a l reads numbered (closes_none none same) =
    let as_finished = option_map (λ (answer : Answer). record { answer = answer; number = entry.number }) in
    ap (λ (o : Option entered.Finished). finished_as (first_finished a (l ++ option_to_list o))) (ap as_finished none)
    ∙ ap (λ (z : List entered.Finished). finished_as (first_finished a z)) (append-nil l)
    ∙ reads
    ∙ ap (λ (z : List Done). seen (find z a.client a.t)) (sym same)
completed-own config past more later me st entry a l reads numbered (closes done reply is finish grown) =
    let as_finished = option_map (λ (answer : Answer). record { answer = answer; number = entry.number }) in
    ap (λ (o : Option entered.Finished). finished_as (first_finished a (l ++ option_to_list o))) (ap as_finished is)
    ∙ closed-own config past me done reply entry.number a l numbered finish.held.pending.own_name finish.tells reads
    ∙ ap (λ (z : List Done). seen (find z a.client a.t)) (sym grown)

-- one more entry
reading-began : (config : Config) (before : List Entry) (entry : Entry) (past : Past) → IsClientCount config.clients
    → IsSoundLedger config before past → IsPlayed config before entry → IsReading before past
    → (k t : ℕ) → 1 ≤ t
    → begun_as (named k t) (operation_named (before ++ entry ∷ []) (named k t))
    ≡ find_begun (past_with config past before entry).started k t
reading-began config before entry past count sound played reading k t one =
    let me = entry.client in
    let st = client_after config me before in
    let later : Past = past_with config past before entry in
    elim (cases_eq me k) [
      | inl own ↦
          subst (λ (i : ℕ). begun_as (named i t) (operation_named (before ++ entry ∷ []) (named i t)) ≡ find_begun later.started i t) own
          (ap (λ (l : List Started). begun_as (named me t) (slice_get l (t - 1))) (started-own before entry)
          ∙ began-own config.clients past later me t st entry (started_among (entries_of me before)) one
          (λ s some. reading.began me s some) (sound.held me played.client) (played.number ∙ sym sound.counted) refl
          (entry-opens config before entry past played))
      | inr other ↦
          ap (λ (l : List Entry). begun_as (named k t) (slice_get (started_among l) (t - 1))) (entries_of-other k before entry other)
          ∙ reading.began k t one
          ∙ sym ((step-leads config before entry past count sound played).begun_of_others k t (λ same. other (sym same)))
    ]

reading-completed : (config : Config) (before : List Entry) (entry : Entry) (past : Past) → IsClientCount config.clients
    → IsSoundLedger config before past → IsPlayed config before entry → IsReading before past
    → (a : OpName) → completed_in (before ++ entry ∷ []) a ≡ seen (find (past_with config past before entry).book a.client a.t)
reading-completed config before entry past count sound played reading a =
    let me = entry.client in
    let st = client_after config me before in
    let more = hashing past (hashed_inputs config before entry) in
    let later : Past = past_with config past before entry in
    elim (cases_eq me a.client) [
      | inl own ↦
          ap (λ (i : ℕ). finished_as (first_finished a (finished_among (entries_of i (before ++ entry ∷ []))))) (sym own)
          ∙ ap (λ (l : List entered.Finished). finished_as (first_finished a l)) (finished-own before entry)
          ∙ completed-own config past more later me st entry a (finished_among (entries_of me before))
          (ap (λ (i : ℕ). finished_as (first_finished a (finished_among (entries_of i before)))) own ∙ reading.completed a)
          (played.number ∙ sym sound.counted) (entry-closes config before entry past count sound played)
      | inr other ↦
          ap (λ (l : List Entry). finished_as (first_finished a (finished_among l))) (entries_of-other a.client before entry other)
          ∙ reading.completed a
          ∙ ap seen (sym ((step-leads config before entry past count sound played).done_of_others a.client a.t (λ same. other (sym same))))
    ]

pub reading-step : (config : Config) (before : List Entry) (entry : Entry) (past : Past) → IsClientCount config.clients
    → IsSoundLedger config before past → IsPlayed config before entry → IsReading before past
    → IsReading (before ++ entry ∷ []) (past_with config past before entry)
reading-step config before entry past count sound played reading = record {
  began = reading-began config before entry past count sound played reading;
  completed = reading-completed config before entry past count sound played reading;
}

-- the histories are one
found-none : (started : List Begun) (k t : ℕ) (found : Option Begun) → find_begun started k t ≡ found → AreProper started → t ≡ 0
    → found ≡ None
found-none started k t None is proper none = refl
found-none started k t (Some begun) is proper none = absurd (omega (arith, none, (proper k t begun is).from_one))

began-at : (entries : List Entry) (past : Past) → IsReading entries past → AreProper past.started
    → (a : OpName) → began_in entries a ≡ find_begun past.started a.client a.t
began-at entries past reading proper a =
    let as_read : Option Begun = begun_as a (operation_named entries a) in
    elim (cases_eq a.t 0) [
      | inl none ↦
          ap (λ (b : Bool). cond b None as_read) (eq-eqb a.t 0 none)
          ∙ sym (found-none past.started a.client a.t (find_begun past.started a.client a.t) refl proper none)
      | inr some ↦
          ap (λ (b : Bool). cond b None as_read) (ne_eqb a.t 0 some) ∙ reading.began a.client a.t (omega (arith, some))
    ]

pub history-same : (entries : List Entry) (past : Past) → IsReading entries past → AreProper past.started
    → history_read entries ≡ history_of past.started past.book
history-same entries past reading proper =
    let began : history_of past.started past.book ≡ record (history_of past.started past.book) { began = λ a. began_in entries a } =
    ap (λ (f : OpName → Option Begun). record (history_of past.started past.book) { began = f })
    (fun_ext (λ a. sym (began-at entries past reading proper a))) in
    let completed : record (history_of past.started past.book) { began = λ a. began_in entries a } ≡ history_read entries =
    ap (λ (f : OpName → Option histories.Finished). record (history_read entries) { completed = f })
    (fun_ext (λ a. sym (reading.completed a))) in
    sym (began ∙ completed)
