-- Refused lines and their causes.
use Rattle.std.proofs.Common.{◌≡◌, ◌≢◌, ℕ, ◌+◌, ◌≤◌, suc, Bool, true, false, cond, leb, List, [], ◌∷◌, ◌++◌, length, take, drop, Option, Some, None, Result, Ok, Err, refl, sym, ap, ◌∙◌, ◌↔◌, ◌⊎◌, inl, inr, arith}
use Rattle.std.specs.Prelude.{◌==◌, nat_le}
use Rattle.std.specs.Fmt.{decimal}
use Rattle.std.specs.Str.{bytes_eq}
use Rattle.std.proofs.lemmas.Bool.{and_from, both_ways, cond-false, cond-true, false_from_ne_true, le-leb, leb-false, leb-true, lt-leb}
use Rattle.std.proofs.lemmas.List.{length-take-le, take-append-drop}
use Rattle.std.proofs.lemmas.Slice.Eq.{bytes_eq-Decides}
use Rattle.faust_types.specs.Clients.{IsClient}
use Rattle.faust_types.specs.declared.operation.Kind.{Kind}
use Rattle.faust_types.specs.declared.operation.Kind.TheVariants as kinds
use Rattle.faust_types.specs.declared.operation.Notice.{Notice}
use Rattle.faust_text.specs.declared.cause.Cause.{Cause}
use Rattle.faust_text.specs.declared.cause.Cause.TheVariants as causes
use Rattle.faust_text.specs.Fields.{Field, Given, AllGiven, any_number, kind, field_at, fields_at, next_field, ◌>>=◌}
use Rattle.faust_text.specs.Heads.{head_at}
use Rattle.faust_text.specs.Lines.{TextLine, lines_of}
use Rattle.faust_text.specs.Spelled.{IsFirstFault}
use Rattle.faust_text.specs.Tokens.{tokens_of}
use Rattle.faust_text.proofs.Choices.{chosen}
use Rattle.faust_text.proofs.FieldLaws.{bind_ok, bind_err, field_faults, field_spells, fields_fault, ok_same}
use Rattle.faust_text.proofs.HeadLaws.{head_faults}
use Rattle.faust_text.proofs.WholeLines.{whole_line-fault}
use Rattle.faust_agent.specs.State.{is_idle}
use Rattle.faust_record.specs.Entries.{entry_at as entry_of}
use Rattle.faust_record.specs.Refusals.{acted, arrived, arrived_at, begin_refused, begin_refused_by, is_register, push_of, recorded_unless}
use Rattle.faust_record.specs.Runs.{Run, next_message}
use Rattle.faust_record.specs.declared.entry.Entry.{Entry}
use Rattle.faust_record.specs.declared.entry.Input.TheVariants as comes
use Rattle.faust_record.specs.declared.errors.Refusal.TheVariants as refusals
use Rattle.faust_record.specs.declared.run_record.PushInput.TheVariants as inputs
use Rattle.faust_store.specs.declared.entry_line.EntryLine.{EntryLine}
use Rattle.faust_store.specs.declared.entry_line.EntryLine.TheVariants as said
use Rattle.faust_store.specs.declared.error.StoreError.{StoreError}
use Rattle.faust_store.specs.declared.error.StoreError.TheVariants as errors
use Rattle.faust_store.specs.declared.stage.Stage.{Stage}
use Rattle.faust_store.specs.declared.stage.Stage.TheVariants as stages
use Rattle.faust_store.specs.declared.word.EntryWord.{EntryWord}
use Rattle.faust_store.specs.declared.word.EntryWord.TheVariants as words
use Rattle.faust_store.specs.Forms.{begin_form, begun_by, bytes_form, client, client_form, end_number, entry_at, line_at, line_by, line_named, tick_form}
use Rattle.faust_store.specs.InRange.{IsLineFor}
use Rattle.faust_store.specs.Reading.{Reads, Refusal, after_head, and_then_lines, arriving_as, ended_or, entry_taken, finished, framed, is_number_of, lines_from, numbered, pushed, read, record_form, stage_at, start, taken, text_at}
use Rattle.faust_store.specs.Refusals.{CantArrive, CantBegin, CantTake, IsAnswer, IsBeginFault, IsEntryFault, IsFaultThen, IsItemFault, IsKindFault, IsLineFault, IsNamedFault, IsNotEnded, IsRefused, IsRefusedEntry, IsRefusedThere, IsTextFault, IsWordFault, client_in, reached}
use Rattle.faust_store.specs.Words.{entry_word}
use Rattle.faust_store.proofs.LineSteps.{end_found, end_only, none_or_some}
use Rattle.faust_store.proofs.Ranges.{entry_in_range}
use Rattle.faust_store.proofs.RecordLaws.{record_only}
use Rattle.faust_store.proofs.Spelling.{entry_found, entry_only}

-- What is made of what a reading gives is refused as the reading is.
made_err : {A B : Type 0} (r : Result A Cause) (make : A → B) (cause : Cause)
    → (let f : A → Result B Cause = λ given. Ok (make given) in (r >>= f) ≡ Err cause) ↔ (r ≡ Err cause)
made_err (Ok x) make cause = (λ found. absurd (cc), λ is. absurd (cc))
made_err (Err e) make cause = (λ found. cc, λ is. cc)

faulty : {B : Type 0} (fields : List Field) (make : AllGiven fields → B) (tokens : List (List ℕ)) (cause : Cause)
    → (let f : AllGiven fields → Result B Cause = λ given. Ok (make given) in (fields_at fields tokens >>= f) ≡ Err cause)
    ↔ IsFirstFault fields tokens cause
faulty fields make tokens cause =
    let there = made_err (fields_at fields tokens) make cause in
    let law = fields_fault fields tokens cause in
    (λ found. law.0 (there.0 found), λ is. there.1 (law.1 is))

-- A field, and what is behind it.
abbrev and_token : {A : Type 0} → List (List ℕ) → A → Result (A × List (List ℕ)) Cause
and_token tokens x = Ok (x, tokens)

then_fault : {X : Type 0} (field : Field) (f : (Given field × List (List ℕ)) → Result X Cause) (Behind : Given field → List (List ℕ)
    → Type 0) (cause : Cause)
    → ((given : Given field) (tokens : List (List ℕ)) → (f (given, tokens) ≡ Err cause) ↔ Behind given tokens)
    → (tokens : List (List ℕ)) → ((next_field field tokens >>= f) ≡ Err cause) ↔ IsFaultThen field Behind tokens cause
then_fault field f Behind cause law [] = (λ found. cc, λ is. ap Err (sym is))
then_fault {X} field f Behind cause law (token ∷ tokens) = (
  λ found. elim (bind_err (next_field field (token ∷ tokens)) f cause found) [
    | inl there ↦ inl ((field_faults field token cause).0 ((made_err (field_at field token) (λ g. (g, tokens)) cause).0 there))
    | inr behind ↦
        let own = bind_ok (field_at field token) (λ g. Ok (g, tokens)) behind.0 behind.1 in
        let same : (own.0, tokens) ≡ behind.0 = ok_same (own.0, tokens) behind.0 own.2 in
        inr (own.0, (field_spells field token own.0).0 own.1, (law own.0 tokens).0 (ap f same ∙ behind.2))
  ],
  λ is.
      let out : (next_field field (token ∷ tokens) >>= f) ≡ Err cause = elim is [
        | inl there ↦ ap (λ (r : Result (Given field) Cause). (r >>= (λ g. Ok (g, tokens))) >>= f)
            ((field_faults field token cause).1 there)
        | inr behind ↦ ap (λ (r : Result (Given field) Cause). (r >>= (λ g. Ok (g, tokens))) >>= f)
            ((field_spells field token behind.0).1 behind.1)
            ∙ (law behind.0 tokens).1 behind.2
      ] in out,
)

-- The tokens of an entry.
begun-fault : (n i : ℕ) (k : Kind) (tokens : List (List ℕ)) (cause : Cause)
    → (begun_by n i k tokens ≡ Err cause) ↔ IsFirstFault (begin_form n k) tokens cause
unfolding begun_by
begun-fault n i kinds.Write tokens cause = faulty (begin_form n kinds.Write) (λ given. said.Comes i (inputs.Write given.0)) tokens cause
begun-fault n i kinds.Read tokens cause = faulty (begin_form n kinds.Read) (λ given. said.Comes i (inputs.Read given.0)) tokens cause

abbrev kind_behind : ℕ → ℕ → (Kind × List (List ℕ)) → Result EntryLine Cause
kind_behind n i k = begun_by n i k.0 k.1

abbrev begun_behind : ℕ → (ℕ × List (List ℕ)) → Result EntryLine Cause
begun_behind n i = next_field kind i.1 >>= kind_behind n i.0

begin-fault : (n : ℕ) (tokens : List (List ℕ)) (cause : Cause) → ((next_field (client n) tokens >>= begun_behind n) ≡ Err cause)
    ↔ IsBeginFault n tokens cause
begin-fault n tokens cause =
    then_fault (client n) (begun_behind n) (λ i behind. IsKindFault n behind cause) cause
    (λ i behind. then_fault kind (kind_behind n i) (λ k rest. IsFirstFault (begin_form n k) rest cause) cause
    (λ k rest. begun-fault n i k rest cause) behind) tokens

arrival_alone : (alone : Bool) (n : ℕ) (tokens : List (List ℕ)) (cause : Cause)
    → (cond alone (fields_at (client_form n) tokens >>= (λ given. Ok (said.Comes given.0 inputs.Arrive)))
    (fields_at (bytes_form n) tokens >>= (λ given. Ok (said.Arrives given.0 given.1.0))) ≡ Err cause)
    ↔ IsFirstFault (cond alone (client_form n) (bytes_form n)) tokens cause
arrival_alone true n tokens cause = faulty (client_form n) (λ given. said.Comes given.0 inputs.Arrive) tokens cause
arrival_alone false n tokens cause = faulty (bytes_form n) (λ given. said.Arrives given.0 given.1.0) tokens cause

worded-fault : (version n : ℕ) (word : EntryWord) (tokens : List (List ℕ)) (cause : Cause)
    → (line_by version n word tokens ≡ Err cause) ↔ IsNamedFault version n (Some word) tokens cause
unfolding line_by
worded-fault version n words.Begin tokens cause = begin-fault n tokens cause
worded-fault version n words.Arrive tokens cause = arrival_alone (version == 1) n tokens cause
worded-fault version n words.Reply tokens cause = faulty (bytes_form n) (λ given. said.Comes given.0 (inputs.Reply given.1.0)) tokens cause
worded-fault version n words.Peer tokens cause = faulty (bytes_form n) (λ given. said.Comes given.0 (inputs.Peer given.1.0)) tokens cause
worded-fault version n words.Tick tokens cause = faulty (tick_form n) (λ given. said.Comes given.0 (inputs.Tick given.1.0)) tokens cause

named-fault : (version n : ℕ) (word : Option EntryWord) (tokens : List (List ℕ)) (cause : Cause)
    → (line_named version n word tokens ≡ Err cause) ↔ IsNamedFault version n word tokens cause
named-fault version n None tokens cause = (λ found. cc, λ is. ap Err (sym is))
named-fault version n (Some word) tokens cause = worded-fault version n word tokens cause

word-fault : (version n : ℕ) (tokens : List (List ℕ)) (cause : Cause)
    → (line_at version n tokens ≡ Err cause) ↔ IsWordFault version n tokens cause
unfolding line_at
word-fault version n [] cause = (λ found. cc, λ is. ap Err (sym is))
word-fault version n (token ∷ tokens) cause = named-fault version n (entry_word token) tokens cause

abbrev with_number : List ℕ → EntryLine → List ℕ × EntryLine
with_number q line = (q, line)

abbrev as_numbered : List ℕ → EntryLine → Result (List ℕ × EntryLine) Cause
as_numbered q line = Ok (with_number q line)

abbrev line_behind : ℕ → ℕ → (List ℕ × List (List ℕ)) → Result (List ℕ × EntryLine) Cause
line_behind version n q = line_at version n q.1 >>= as_numbered q.0

numbered-fault : (version n : ℕ) (q : List ℕ) (tokens : List (List ℕ)) (cause : Cause)
    → ((line_at version n tokens >>= as_numbered q) ≡ Err cause) ↔ IsWordFault version n tokens cause
numbered-fault version n q tokens cause =
    let there = made_err (line_at version n tokens) (with_number q) cause in
    let law = word-fault version n tokens cause in
    (λ found. law.0 (there.0 found), λ is. there.1 (law.1 is))

entry-fault : (version n : ℕ) (tokens : List (List ℕ)) (cause : Cause)
    → (entry_at version n tokens ≡ Err cause) ↔ IsEntryFault version n tokens cause
unfolding entry_at
entry-fault version n tokens cause =
    then_fault any_number (line_behind version n) (λ q behind. IsWordFault version n behind cause) cause
    (λ q behind. numbered-fault version n q behind cause) tokens

-- Playing.
abbrev beginning : Run → Entry → Option Notice → Bool → Result Run Cause
beginning run entry notice idle = pushed (recorded_unless run entry (begin_refused_by notice idle))

cant_begin : (run : Run) (entry : Entry) (notice : Option Notice) (idle : Bool) (cause : Cause)
    → (beginning run entry notice idle ≡ Err cause)
    ↔ (((cause ≡ causes.Failed) × ((x : Notice) × (notice ≡ Some x))) ⊎ ((cause ≡ causes.Busy) × ((notice ≡ None) × (idle ≡ false))))
cant_begin run entry (Some notice) idle cause = (
  λ found. inl (cc, (notice, refl)),
  λ is.
      let out : beginning run entry (Some notice) idle ≡ Err cause = elim is [
        | inl failed ↦ ap Err (sym failed.0)
        | inr busy ↦ absurd (let e = busy.1.0 in cc)
      ] in out,
)
cant_begin run entry None true cause = (
  λ found. absurd (cc),
  λ is.
      let out : beginning run entry None true ≡ Err cause = elim is [
        | inl failed ↦ absurd (let e = failed.1.1 in cc)
        | inr busy ↦ absurd (let e = busy.1.1 in cc)
      ] in out,
)
cant_begin run entry None false cause = (
  λ found. inr (cc, (refl, refl)),
  λ is.
      let out : beginning run entry None false ≡ Err cause = elim is [
        | inl failed ↦ absurd (let e = failed.1.1 in cc)
        | inr busy ↦ ap Err (sym busy.0)
      ] in out,
)

cant_write : (run : Run) (i : ℕ) (value : List ℕ) (cause : Cause) → length value ≤ 4096
    → (pushed (push_of run i (inputs.Write value)) ≡ Err cause) ↔ CantBegin run i cause
unfolding acted
cant_write run i value cause short =
    let st = client_in run i in
    let entry = entry_of run.config i st (length run.entries) (comes.Write value) in
    let fits = cond-true (nat_le (length value) 4096) (begin_refused i st) (Some refusals.TooLong) (le-leb _ _ short) in
    let law = cant_begin run entry st.notice (is_idle i st) cause in
    let same : pushed (push_of run i (inputs.Write value)) ≡ beginning run entry st.notice (is_idle i st) =
    ap (λ r. pushed (recorded_unless run entry r)) fits in
    (λ found. law.0 (sym same ∙ found), λ is. same ∙ law.1 is)

cant_read : (run : Run) (i register : ℕ) (cause : Cause) → IsClient run.config.clients register
    → (pushed (push_of run i (inputs.Read register)) ≡ Err cause) ↔ CantBegin run i cause
unfolding acted
cant_read run i register cause client =
    let st = client_in run i in
    let entry = entry_of run.config i st (length run.entries) (comes.Read register) in
    let known = and_from (nat_le 1 register) (nat_le register run.config.clients) (le-leb 1 register client.from_one)
    (le-leb register run.config.clients client.to_n) in
    let fits = cond-true (is_register run.config.clients register) (begin_refused i st) (Some refusals.NoRegister) known in
    let law = cant_begin run entry st.notice (is_idle i st) cause in
    let same : pushed (push_of run i (inputs.Read register)) ≡ beginning run entry st.notice (is_idle i st) =
    ap (λ r. pushed (recorded_unless run entry r)) fits in
    (λ found. law.0 (sym same ∙ found), λ is. same ∙ law.1 is)

cant_arrive_at : (run : Run) (i : ℕ) (due : Option (List ℕ)) (cause : Cause)
    → (pushed (arrived_at run i due) ≡ Err cause) ↔ ((cause ≡ causes.Nothing) × (due ≡ None))
cant_arrive_at run i None cause = (λ found. (cc, refl), λ is. ap Err (sym is.0))
cant_arrive_at run i (Some message) cause = (λ found. absurd (cc), λ is. absurd (let e = is.1 in cc))

cant_arrive : (run : Run) (i : ℕ) (cause : Cause) → (pushed (push_of run i inputs.Arrive) ≡ Err cause) ↔ CantArrive run i cause
unfolding arrived
cant_arrive run i cause = cant_arrive_at run i (next_message i run.entries) cause

abbrev as_message : Run → ℕ → List ℕ → Option (List ℕ) → Result Run Cause
as_message run i message due = pushed (arrived_at run i due) >>= framed message due

some_bytes : (x y : List ℕ) → (let left : Option (List ℕ) = Some x in left ≡ Some y) → x ≡ y
some_bytes x y same = cc

cant_arrive_as : (run : Run) (i : ℕ) (message : List ℕ) (due : Option (List ℕ)) (cause : Cause)
    → (as_message run i message due ≡ Err cause)
    ↔ (((cause ≡ causes.Nothing) × (due ≡ None)) ⊎ ((cause ≡ causes.Frame) × ((sent : List ℕ) × (due ≡ Some sent) × (sent ≢ message))))
cant_arrive_as run i message None cause = (
  λ found. inl (cc, refl),
  λ is.
      let out : as_message run i message None ≡ Err cause = elim is [
        | inl nothing ↦ ap Err (sym nothing.0)
        | inr frame ↦ absurd (let e = frame.1.1 in cc)
      ] in out,
)
cant_arrive_as run i message (Some due) cause =
    let next : Result Run Cause = pushed (arrived_at run i (Some due)) in (
      λ found. elim (chosen (bytes_eq due message) next (Err causes.Frame) (Err cause) found) [
        | inl same ↦ absurd (let e = same.1 in cc)
        | inr other ↦ inr (
          let e = other.1 in cc,
          (due, refl, λ same. both_ways (bytes_eq due message) other.0 ((bytes_eq-Decides due message).1 same)),
        )
      ],
      λ is.
          let out : as_message run i message (Some due) ≡ Err cause = elim is [
            | inl nothing ↦ absurd (let e = nothing.1 in cc)
            | inr frame ↦
                let sent_is : due ≡ frame.1.0 = some_bytes due frame.1.0 frame.1.1 in
                cond-false (bytes_eq due message) next (Err causes.Frame)
                (false_from_ne_true (bytes_eq due message) (λ same. frame.1.2 (sym sent_is ∙ (bytes_eq-Decides due message).0 same)))
                ∙ ap Err (sym frame.0)
          ] in out,
    )

cant_come_as : (run : Run) (i : ℕ) (message : List ℕ) (cause : Cause)
    → (arriving_as run i message ≡ Err cause) ↔ CantTake run (said.Arrives i message) cause
unfolding arrived
cant_come_as run i message cause = cant_arrive_as run i message (next_message i run.entries) cause

never : (run : Run) (entry : Entry) (cause : Cause) → (pushed (recorded_unless run entry None) ≡ Err cause) ↔ ⊥
never run entry cause = (λ found. absurd (cc), λ is. absurd is)

cant_take : (run : Run) (line : EntryLine) (cause : Cause) → IsLineFor run.config.clients line
    → (taken run line ≡ Err cause) ↔ CantTake run line cause
unfolding taken acted
cant_take run (said.Comes i (inputs.Write value)) cause fits = cant_write run i value cause fits.1.sized
cant_take run (said.Comes i (inputs.Read register)) cause fits = cant_read run i register cause fits.1
cant_take run (said.Comes i (inputs.Reply bytes)) cause fits =
    never run (entry_of run.config i (client_in run i) (length run.entries) (comes.Reply bytes)) cause
cant_take run (said.Comes i (inputs.Peer bytes)) cause fits =
    never run (entry_of run.config i (client_in run i) (length run.entries) (comes.Peer bytes)) cause
cant_take run (said.Comes i (inputs.Tick moment)) cause fits =
    never run (entry_of run.config i (client_in run i) (length run.entries) (comes.Tick moment)) cause
cant_take run (said.Comes i inputs.Arrive) cause fits = cant_arrive run i cause
cant_take run (said.Arrives i message) cause fits = cant_come_as run i message cause

-- A line behind the head.
abbrev takes : ℕ → Run → EntryLine → Result Stage Cause
takes version run line = taken run line >>= λ next. Ok (stages.Entries version next)

refused_entry : (version : ℕ) (run : Run) (tokens : List (List ℕ)) (cause : Cause) (given : List ℕ × EntryLine)
    → entry_at version run.config.clients tokens ≡ Ok given → numbered version run given.0 given.1 ≡ Err cause
    → IsRefusedEntry version run tokens cause
refused_entry version run tokens cause given found is =
    let count = decimal (length run.entries) in
    let e = entry_only version run.config.clients tokens given found in
    let fits = entry_in_range version run.config.clients tokens given found in
    let there = made_err (taken run given.1) (λ (next : Run). stages.Entries version next) cause in
    record {
      token = given.0;
      behind = e.behind;
      line = given.1;
      tokens_are = e.tokens_are;
      is_number = e.digits;
      spelled = e.spelled;
      why = elim (chosen (is_number_of (length run.entries) given.0) (takes version run given.1) (Err causes.Order) (Err cause) is) [
        | inl due ↦ inr ((bytes_eq-Decides given.0 count).0 due.0, (cant_take run given.1 cause fits).0 (there.0 due.1))
        | inr other ↦ inl (
          let e = other.1 in cc,
          λ same. both_ways (bytes_eq given.0 count) other.0 ((bytes_eq-Decides given.0 count).1 same),
        )
      ];
    }

entry_refused : (version : ℕ) (run : Run) (tokens : List (List ℕ)) (cause : Cause) → IsRefusedEntry version run tokens cause
    → (entry_at version run.config.clients tokens >>= (λ given. numbered version run given.0 given.1)) ≡ Err cause
entry_refused version run tokens cause is =
    let n = run.config.clients in
    let count = decimal (length run.entries) in
    let found : entry_at version n tokens ≡ Ok (is.token, is.line) =
    ap (entry_at version n) is.tokens_are ∙ entry_found version n is.line is.token is.behind is.is_number.0 is.spelled in
    let fits = entry_in_range version n tokens (is.token, is.line) found in
    let there = made_err (taken run is.line) (λ (next : Run). stages.Entries version next) cause in
    let test = is_number_of (length run.entries) is.token in
    let out : numbered version run is.token is.line ≡ Err cause = elim is.why [
      | inl order ↦ cond-false test (takes version run is.line) (Err causes.Order)
          (false_from_ne_true test (λ same. order.1 ((bytes_eq-Decides is.token count).0 same))) ∙ ap Err (sym order.0)
      | inr play ↦ cond-true test (takes version run is.line) (Err causes.Order) ((bytes_eq-Decides is.token count).1 play.0)
          ∙ there.1 ((cant_take run is.line cause fits).1 play.1)
    ] in
    ap (λ r. r >>= (λ given. numbered version run given.0 given.1)) found ∙ out

item_refused : (version : ℕ) (run : Run) (tokens : List (List ℕ)) (cause : Cause) (end : Option (List ℕ)) → end_number tokens ≡ end
    → ended_or end run (entry_taken version run tokens) ≡ Err cause → IsItemFault version run tokens cause
item_refused version run tokens cause (Some token) some is =
    let count = decimal (length run.entries) in
    elim (chosen (is_number_of (length run.entries) token) (Ok (stages.Ended run)) (Err causes.Order) (Err cause) is) [
      | inl due ↦ absurd (let e = due.1 in cc)
      | inr other ↦ inl (
        let e = other.1 in cc,
        (
          token,
          end_only tokens token some,
          λ same. both_ways (bytes_eq token count) other.0 ((bytes_eq-Decides token count).1 same),
        ),
      )
    ]
item_refused version run tokens cause None none is =
    let entry : Result Stage Cause = entry_at version run.config.clients tokens >>= (λ given. numbered version run given.0 given.1) in
    inr (
      λ token spelled. (let e = sym none ∙ end_found tokens token spelled in absurd (cc)),
      elim (chosen (leb 20000 (length run.entries)) (Err causes.Events) entry (Err cause) is) [
        | inl full ↦ inl (let e = full.1 in cc, leb-true _ _ full.0)
        | inr room ↦ inr (
          leb-false _ _ room.0,
          elim (bind_err (entry_at version run.config.clients tokens) (λ given. numbered version run given.0 given.1) cause room.1) [
            | inl there ↦ inl ((entry-fault version run.config.clients tokens cause).0 there)
            | inr given ↦ inr (refused_entry version run tokens cause given.0 given.1 given.2)
          ],
        )
      ],
    )

no_end : (tokens : List (List ℕ)) → ((token : List ℕ) → end_number tokens ≡ Some token → ⊥) → end_number tokens ≡ None
no_end tokens none = elim (none_or_some (end_number tokens)) [
  | inl is ↦ is
  | inr some ↦ absurd (none some.0 some.1)
]

item-fault : (version : ℕ) (run : Run) (tokens : List (List ℕ)) (cause : Cause)
    → (ended_or (end_number tokens) run (entry_taken version run tokens) ≡ Err cause) ↔ IsItemFault version run tokens cause
item-fault version run tokens cause = (
  λ found. item_refused version run tokens cause (end_number tokens) refl found,
  λ is.
      let otherwise = entry_taken version run tokens in
      let entry : Result Stage Cause = entry_at version run.config.clients tokens >>= (λ given. numbered version run given.0 given.1) in
      let full_test = leb 20000 (length run.entries) in
      let out : ended_or (end_number tokens) run otherwise ≡ Err cause = elim is [
        | inl wrong ↦
            let token = wrong.1.0 in
            let test = is_number_of (length run.entries) token in
            ap (λ o. ended_or o run otherwise) (end_found tokens token wrong.1.1)
            ∙ (cond-false test (Ok (stages.Ended run)) (Err causes.Order)
            (false_from_ne_true test (λ same. wrong.1.2 ((bytes_eq-Decides token (decimal (length run.entries))).0 same)))
            ∙ ap Err (sym wrong.0))
        | inr other ↦
            let behind : otherwise ≡ Err cause = elim other.1 [
              | inl full ↦ cond-true full_test (Err causes.Events) entry (le-leb _ _ full.1) ∙ ap Err (sym full.0)
              | inr room ↦
                  let refused : entry ≡ Err cause = elim room.1 [
                    | inl fault ↦ ap (λ r. r >>= (λ given. numbered version run given.0 given.1))
                        ((entry-fault version run.config.clients tokens cause).1 fault)
                    | inr spelled ↦ entry_refused version run tokens cause spelled
                  ] in
                  cond-false full_test (Err causes.Events) entry (lt-leb _ _ room.0) ∙ refused
            ] in
            ap (λ o. ended_or o run otherwise) (no_end tokens (λ token some. other.0 token (end_only tokens token some))) ∙ behind
      ] in out,
)

text-fault : (stage : Stage) (text : List ℕ) (cause : Cause) → (text_at stage text ≡ Err cause) ↔ IsTextFault stage text cause
unfolding text_at
text-fault (stages.Head head) text cause =
    let there = made_err (head_at record_form head (tokens_of text)) after_head cause in
    let law = head_faults record_form head (tokens_of text) cause in
    (λ found. law.0 (there.0 found), λ is. there.1 (law.1 is))
text-fault (stages.Entries version run) text cause = item-fault version run (tokens_of text) cause
text-fault (stages.Ended run) text cause = (λ found. cc, λ is. ap Err (sym is))

-- A line.
line-fault : (stage : Stage) (line : TextLine) (cause : Cause) → (stage_at stage line ≡ Err cause) ↔ IsLineFault stage line cause
unfolding stage_at
line-fault stage line cause = whole_line-fault line (text_at stage) cause (IsTextFault stage line.bytes cause)
    (text-fault stage line.bytes cause)

-- Lines that are read, and what comes behind them.
pub lines_from-behind : (front more : List TextLine) (stage last : Stage) (number : ℕ) → reached stage front ≡ Ok last
    → lines_from stage number (front ++ more) ≡ lines_from last (number + length front) more
unfolding lines_from reached
lines_from-behind [] more stage last number found = ap (λ st. lines_from st number more) (ok_same stage last found)
    ∙ ap (λ q. lines_from last q more) (omega arith)
lines_from-behind (line ∷ front) more stage last number found =
    let next = bind_ok (stage_at stage line) (λ st. reached st front) last found in
    ap (and_then_lines number (λ st. lines_from st (number + 1) (front ++ more))) next.1
    ∙ (lines_from-behind front more next.0 last (number + 1) next.2 ∙ ap (λ q. lines_from last q more) (omega arith))

-- A refusal of lines, taken apart: how many are read, and why the next isn't.
record Found (stage : Stage) (number : ℕ) (lines : List TextLine) (refusal : Refusal) : Type 0 where
  before : ℕ
  line_is : refusal.line ≡ number + before
  within : before ≤ length lines
  last : Stage
  read_before : reached stage (take before lines) ≡ Ok last
  why : IsRefusedThere last (drop before lines) refusal.cause

abbrev refusal_of : Refusal → Result Run Refusal → Refusal
refusal_of x (Ok run) = x
refusal_of x (Err refusal) = refusal

refusal_same : (x y : Refusal) → (let left : Result Run Refusal = Err x in left ≡ Err y) → x ≡ y
refusal_same x y same = ap (λ (r : Result Run Refusal). refusal_of x r) same

ended-fault : (stage : Stage) (number : ℕ) (refusal : Refusal) → finished stage number ≡ Err refusal
    → (refusal.line ≡ number) × (refusal.cause ≡ causes.CutOff) × IsNotEnded stage
ended-fault (stages.Head head) number refusal found = let same =
    refusal_same (record { line = number; cause = causes.CutOff }) refusal found in
    (sym (ap (λ r. r.line) same), sym (ap (λ r. r.cause) same), tt)
ended-fault (stages.Entries version run) number refusal found = let same =
    refusal_same (record { line = number; cause = causes.CutOff }) refusal found in
    (sym (ap (λ r. r.line) same), sym (ap (λ r. r.cause) same), tt)
ended-fault (stages.Ended run) number refusal found = absurd (cc)

not_ended : (stage : Stage) (number : ℕ) → IsNotEnded stage → finished stage number ≡ Err (record { line = number; cause = causes.CutOff })
not_ended (stages.Head head) number is = refl
not_ended (stages.Entries version run) number is = refl
not_ended (stages.Ended run) number is = absurd is

refused_after : (number : ℕ) (lines : List TextLine) (r : Result Stage Cause) (refusal : Refusal)
    → and_then_lines number (λ next. lines_from next (number + 1) lines) r ≡ Err refusal
    → ((next : Stage) × (r ≡ Ok next) × (lines_from next (number + 1) lines ≡ Err refusal))
    ⊎ ((refusal.line ≡ number) × (r ≡ Err refusal.cause))
refused_after number lines (Ok next) refusal found = inl (next, refl, found)
refused_after number lines (Err cause) refusal found = let same = refusal_same (record { line = number; cause = cause }) refusal found in
    inr (sym (ap (λ r. r.line) same), ap (λ r. Err r.cause) same)

refused_lines : (lines : List TextLine) (stage : Stage) (number : ℕ) (refusal : Refusal) → lines_from stage number lines ≡ Err refusal
    → Found stage number lines refusal
unfolding lines_from reached
refused_lines [] stage number refusal found =
    let ended = ended-fault stage number refusal found in
    record {
      before = 0;
      line_is = omega (arith, ended.0);
      within = omega arith;
      last = stage;
      read_before = refl;
      why = (ended.1, ended.2);
    }
refused_lines (line ∷ lines) stage number refusal found =
    elim (refused_after number lines (stage_at stage line) refusal found) [
      | inl next ↦
          let more = refused_lines lines next.0 (number + 1) refusal next.2 in
          record {
            before = suc more.before;
            line_is = omega (arith, more.line_is);
            within = omega (arith, more.within);
            last = more.last;
            read_before = ap (λ r. r >>= (λ st. reached st (take more.before lines))) next.1 ∙ more.read_before;
            why = more.why;
          }
      | inr here ↦ record {
        before = 0;
        line_is = omega (arith, here.0);
        within = omega arith;
        last = stage;
        read_before = refl;
        why = (line-fault stage line refusal.cause).0 here.1;
      }
    ]

pub refused_there : (lines : List TextLine) (stage : Stage) (number : ℕ) (cause : Cause) → IsRefusedThere stage lines cause
    → lines_from stage number lines ≡ Err (record { line = number; cause = cause })
unfolding lines_from
refused_there [] stage number cause why = not_ended stage number why.1 ∙ ap (λ c. Err (record { line = number; cause = c })) (sym why.0)
refused_there (line ∷ lines) stage number cause why =
    ap (and_then_lines number (λ st. lines_from st (number + 1) lines)) ((line-fault stage line cause).1 why)

-- The refused line of an input, and no other.
pub refusals_are : (input : List ℕ) (refusal : Refusal) → (read input ≡ Err refusal) ↔ IsRefused input refusal
unfolding read
refusals_are input refusal = (
  λ found.
      let is = refused_lines (lines_of input) start 1 refusal found in
      record {
        before = is.before;
        line_is = omega (arith, is.line_is);
        within = is.within;
        stage = is.last;
        read_before = is.read_before;
        why = is.why;
      },
  λ is.
      let lines = lines_of input in
      let front = take is.before lines in
      let behind = drop is.before lines in
      let count : length front ≡ is.before = length-take-le is.before lines is.within in
      let line : 1 + length front ≡ refusal.line = omega (arith, count, is.line_is) in
      ap (lines_from start 1) (sym (take-append-drop is.before lines))
      ∙ (lines_from-behind front behind start is.stage 1 is.read_before
      ∙ (refused_there behind is.stage (1 + length front) refusal.cause is.why
      ∙ ap (λ q. Err (record { line = q; cause = refusal.cause })) line)),
)

-- What reading answers, in these words.
pub answered : (input : List ℕ) (result : Result Run StoreError) → Reads result (read input) → IsAnswer input result
answered input (Ok run) is = record_only input run is
answered input (Err (errors.BadRecord line cause)) is = (refusals_are input (record { line = line; cause = cause })).0 is
answered input (Err errors.OutOfMemory) is = tt
