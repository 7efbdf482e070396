-- What lines say is in range: of an entry for the run that takes it, of a head for the run that begins.
use Rattle.std.proofs.Common.{◌≡◌, ℕ, ◌≤◌, zero, suc, List, [], ◌∷◌, Option, Some, None, Result, Ok, refl, sym, ◌∙◌, subst, inl, inr, arith}
use Rattle.std.specs.Prelude.{◌==◌}
use Rattle.std.proofs.lemmas.Bool.{cases_Bool, cond-true, cond-false}
use Rattle.faust_types.specs.Clients.{IsClient}
use Rattle.faust_types.specs.Ranges.{IsConfig, IsWire}
use Rattle.faust_types.specs.Bytes.{AreBytes}
use Rattle.faust_types.specs.declared.config.Config.{Config}
use Rattle.faust_types.specs.declared.operation.Kind.{Kind}
use Rattle.faust_types.specs.declared.operation.Kind.TheVariants as kinds
use Rattle.faust_text.specs.declared.cause.Cause.{Cause}
use Rattle.faust_text.specs.declared.head.Formats.{Formats}
use Rattle.faust_text.specs.declared.head.Head.{Head}
use Rattle.faust_text.specs.declared.head.Head.TheVariants as heads
use Rattle.faust_text.specs.declared.head.HeadStep.{HeadStep}
use Rattle.faust_text.specs.declared.head.HeadStep.TheVariants.{Next, Whole}
use Rattle.faust_text.specs.Fields.{Field, Given, AllGiven, kind, any_number, field_at, fields_at, next_field, ◌>>=◌}
use Rattle.faust_text.specs.Heads.{after_title, due_form, head_at}
use Rattle.faust_text.specs.Spelled.{AreInRange, IsInRange}
use Rattle.faust_text.proofs.FieldLaws.{bind_ok, field_spells, fields_in_range, fields_spell, ok_same}
use Rattle.faust_text.proofs.HeadLaws.{head_step-only, with_line}
use Rattle.faust_record.specs.declared.run_record.PushInput.TheVariants as inputs
use Rattle.faust_store.specs.declared.entry_line.EntryLine.{EntryLine}
use Rattle.faust_store.specs.declared.entry_line.EntryLine.TheVariants as lines
use Rattle.faust_store.specs.declared.word.EntryWord.{EntryWord}
use Rattle.faust_store.specs.declared.word.EntryWord.TheVariants as words
use Rattle.faust_store.specs.Forms.{arrival_by, begin_form, begun_by, bytes_form, client, client_form, entry_at, line_at, line_by, line_named, tick_form}
use Rattle.faust_store.specs.InRange.{AreFormats, IsHead, IsLineFor}
use Rattle.faust_store.specs.Reading.{record_form}
use Rattle.faust_store.specs.Texts.{IsTextVersion}
use Rattle.faust_store.specs.Words.{entry_word}

as_client : {n i : ℕ} → (1 ≤ i) × (i ≤ n) → IsClient n i
as_client r = record { from_one = r.0; to_n = r.1 }

-- What fields make, where their ranges give it; and what one field gives.
made_in_range : {X : Type 0} (fields : List Field) (make : AllGiven fields → X) (tokens : List (List ℕ)) (x : X) (P : X → Type 0)
    → ((given : AllGiven fields) → AreInRange fields given → P (make given))
    → (let f : AllGiven fields → Result X Cause = λ g. Ok (make g) in (fields_at fields tokens >>= f) ≡ Ok x)
    → P x
made_in_range fields make tokens x P each found =
    let given = bind_ok (fields_at fields tokens) (λ g. Ok (make g)) x found in
    let spelled = (fields_spell fields tokens given.0).0 given.1 in
    subst P (ok_same (make given.0) x given.2) (each given.0 (fields_in_range fields given.0 tokens spelled))

next_in_range : (field : Field) (tokens : List (List ℕ)) (x : Given field × List (List ℕ)) → next_field field tokens ≡ Ok x
    → IsInRange field x.0
next_in_range field [] x found = absurd (cc)
next_in_range field (token ∷ tokens) x found =
    let given = bind_ok (field_at field token) (λ g. Ok (g, tokens)) x found in
    let spelled = (field_spells field token given.0).0 given.1 in
    let range = fields_in_range (field ∷ []) (given.0, tt) (token ∷ []) (spelled, tt) in
    subst (λ (y : Given field × List (List ℕ)). IsInRange field y.0) (ok_same (given.0, tokens) x given.2) range.0

begun_in_range : (n i : ℕ) (k : Kind) (tokens : List (List ℕ)) (line : EntryLine) → IsClient n i → begun_by n i k tokens ≡ Ok line
    → IsLineFor n line
unfolding begun_by
begun_in_range n i kinds.Write tokens line own found =
    made_in_range (begin_form n kinds.Write) (λ given. lines.Comes i (inputs.Write given.0)) tokens line (IsLineFor n)
    (λ given range. (own, range.0)) found
begun_in_range n i kinds.Read tokens line own found =
    made_in_range (begin_form n kinds.Read) (λ given. lines.Comes i (inputs.Read given.0)) tokens line (IsLineFor n)
    (λ given range. (own, as_client range.0)) found

arrival_in_range : (version n : ℕ) (tokens : List (List ℕ)) (line : EntryLine) → arrival_by version n tokens ≡ Ok line → IsLineFor n line
arrival_in_range version n tokens line found =
    let alone : Result EntryLine Cause = fields_at (client_form n) tokens >>= (λ given. Ok (lines.Comes given.0 inputs.Arrive)) in
    let with_message : Result EntryLine Cause = fields_at (bytes_form n) tokens >>= (λ given. Ok (lines.Arrives given.0 given.1.0)) in
    elim (cases_Bool (version == 1)) [
      | inl one ↦ made_in_range (client_form n) (λ given. lines.Comes given.0 inputs.Arrive) tokens line (IsLineFor n)
          (λ given range. (as_client range.0, tt)) (sym (cond-true (version == 1) alone with_message one) ∙ found)
      | inr two ↦ made_in_range (bytes_form n) (λ given. lines.Arrives given.0 given.1.0) tokens line (IsLineFor n)
          (λ given range. as_client range.0) (sym (cond-false (version == 1) alone with_message two) ∙ found)
    ]

worded_in_range : (version n : ℕ) (word : EntryWord) (tokens : List (List ℕ)) (line : EntryLine)
    → line_by version n word tokens ≡ Ok line → IsLineFor n line
unfolding line_by
worded_in_range version n words.Begin tokens line found =
    let i = bind_ok (next_field (client n) tokens) (λ i. next_field kind i.1 >>= (λ k. begun_by n i.0 k.0 k.1)) line found in
    let k = bind_ok (next_field kind i.0.1) (λ k. begun_by n i.0.0 k.0 k.1) line i.2 in
    begun_in_range n i.0.0 k.0.0 k.0.1 line (as_client (next_in_range (client n) tokens i.0 i.1)) k.2
worded_in_range version n words.Arrive tokens line found = arrival_in_range version n tokens line found
worded_in_range version n words.Reply tokens line found =
    made_in_range (bytes_form n) (λ given. lines.Comes given.0 (inputs.Reply given.1.0)) tokens line (IsLineFor n)
    (λ given range. (as_client range.0, record { sized = range.1.0.0; bytes_each = range.1.0.1 })) found
worded_in_range version n words.Peer tokens line found =
    made_in_range (bytes_form n) (λ given. lines.Comes given.0 (inputs.Peer given.1.0)) tokens line (IsLineFor n)
    (λ given range. (as_client range.0, record { sized = range.1.0.0; bytes_each = range.1.0.1 })) found
worded_in_range version n words.Tick tokens line found =
    made_in_range (tick_form n) (λ given. lines.Comes given.0 (inputs.Tick given.1.0)) tokens line (IsLineFor n)
    (λ given range. (as_client range.0, omega (arith, range.1.0.1))) found

named_in_range : (version n : ℕ) (word : Option EntryWord) (tokens : List (List ℕ)) (line : EntryLine)
    → line_named version n word tokens ≡ Ok line → IsLineFor n line
named_in_range version n None tokens line found = absurd (cc)
named_in_range version n (Some word) tokens line found = worded_in_range version n word tokens line found

line_in_range : (version n : ℕ) (tokens : List (List ℕ)) (line : EntryLine) → line_at version n tokens ≡ Ok line → IsLineFor n line
unfolding line_at
line_in_range version n [] line found = absurd (cc)
line_in_range version n (token ∷ tokens) line found = named_in_range version n (entry_word token) tokens line found

-- What an entry's line says is in range.
pub entry_in_range : (version n : ℕ) (tokens : List (List ℕ)) (given : List ℕ × EntryLine) → entry_at version n tokens ≡ Ok given
    → IsLineFor n given.1
unfolding entry_at
entry_in_range version n tokens given found =
    let q = bind_ok (next_field any_number tokens) (λ q. line_at version n q.1 >>= (λ line. Ok (q.0, line))) given found in
    let line = bind_ok (line_at version n q.0.1) (λ line. Ok (q.0.0, line)) given q.2 in
    subst (λ (g : List ℕ × EntryLine). IsLineFor n g.1) (ok_same (q.0.0, line.0) given line.2)
    (line_in_range version n q.0.1 line.0 line.1)

-- What a step of a head leaves.
pub record IsWhole (version : ℕ) (config : Config) : Type 0 where
  pub config_in_range : IsConfig config
  pub key_bytes : AreBytes config.key
  pub version_known : IsTextVersion version config.wire

abbrev pub IsStep : HeadStep → Type 0
IsStep (Next head) = IsHead head
IsStep (Whole version config) = IsWhole version config

title_kept : (place : ℕ) → IsStep (Next (after_title place))
title_kept zero = inl (refl, refl)
title_kept (suc place) = tt

wire_kept : (formats : Formats) → AreFormats formats → IsWire formats.wire
wire_kept formats (inl one) = record { from_one = omega (arith, one.1); to_two = omega (arith, one.1) }
wire_kept formats (inr two) = two.1

version_kept : (formats : Formats) → AreFormats formats → IsTextVersion formats.text formats.wire
version_kept formats (inl one) = inl one
version_kept formats (inr two) = inr two.0

line_kept : (head : Head) (given : AllGiven (due_form record_form head)) → IsHead head → AreInRange (due_form record_form head) given
    → IsStep (with_line record_form head given)
line_kept heads.Title given kept range = title_kept given.1.0
line_kept heads.Wire given kept range = inr (refl, record { from_one = range.1.0.0; to_two = range.1.0.1 })
line_kept (heads.Clients formats) given kept range = (kept, record { at_least_two = range.1.0.0; at_most_32 = range.1.0.1 })
line_kept (heads.Key formats n) given kept range = (kept.0, kept.1, record { sized = range.1.0.0; bytes_each = range.1.0.1 })
line_kept (heads.Delta formats n bytes) given kept range =
    (kept.0, kept.1, kept.2, record { from_one = range.1.0.0; below = omega (arith, range.1.0.1) })
line_kept (heads.Dummy formats n bytes delta) given kept range = record {
  config_in_range = record {
    clients_count = kept.1;
    key_sized = kept.2.sized;
    delta_span = kept.3;
    dummy_span = record { from_one = range.1.0.0; below = omega (arith, range.1.0.1) };
    wire_known = wire_kept formats kept.0;
  };
  key_bytes = kept.2.bytes_each;
  version_known = version_kept formats kept.0;
}

-- A line of a head leaves it in range, and a whole head is a config in range.
pub head_kept : (head : Head) (tokens : List (List ℕ)) (step : HeadStep) → IsHead head → head_at record_form head tokens ≡ Ok step
    → IsStep step
head_kept head tokens step kept found =
    let read = head_step-only record_form head tokens step found in
    subst IsStep read.next_is
    (line_kept head read.given kept (fields_in_range (due_form record_form head) read.given tokens read.spelled))

pub head_goes_on : (head next : Head) (tokens : List (List ℕ)) → IsHead head → head_at record_form head tokens ≡ Ok (Next next)
    → IsHead next
head_goes_on head next tokens kept found = head_kept head tokens (Next next) kept found

pub config_kept : (head : Head) (version : ℕ) (config : Config) (tokens : List (List ℕ)) → IsHead head
    → head_at record_form head tokens ≡ Ok (Whole version config) → IsConfig config
config_kept head version config tokens kept found =
    let whole : IsWhole version config = head_kept head tokens (Whole version config) kept found in
    whole.config_in_range
