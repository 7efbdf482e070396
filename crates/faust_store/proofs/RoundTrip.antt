-- What is printed of a run is its record, and so is read as this run again.
use Rattle.std.proofs.Common.{◌≡◌, ℕ, ◌^◌, ◌+◌, ◌-◌, ◌<◌, ◌≤◌, suc, Bool, true, false, cond, List, [], ◌∷◌, ◌++◌, length, Ok, refl, sym, subst, ◌⊎◌, inl, inr, arith, lit≤, append_assoc, length-append}
use Rattle.std.specs.Prelude.{codes, ◌==◌, IfSome}
use Rattle.std.specs.Fmt.{decimal}
use Rattle.std.specs.List.{AllByRecursion}
use Rattle.std.proofs.lemmas.Option.{IfSome_then}
use Rattle.hex.specs.Hex.{encode_lower, lower_digits}
use Rattle.hex.proofs.HexLemmas.{length-encode_with}
use Rattle.faust_types.specs.Bytes.{AreBytes}
use Rattle.faust_types.specs.Clients.{IsClient}
use Rattle.faust_types.specs.Ranges.{IsConfig}
use Rattle.faust_types.specs.declared.config.Config.{Config}
use Rattle.faust_text.specs.declared.head.Title.TheVariants as titles
use Rattle.faust_text.specs.Heads.{CanBeHead, head_lines, head_text, named_number, wire_lines}
use Rattle.faust_text.specs.Lines.{IsWithout}
use Rattle.faust_text.specs.Spelled.{SpellsFields}
use Rattle.faust_text.specs.Tokens.{joined, tokens_of}
use Rattle.faust_text.specs.Values.{bytes_text}
use Rattle.faust_text.proofs.HeadPrints.{printed_heads_are, printed_heads_lines}
use Rattle.faust_text.proofs.LineLaws.{ended_text-only}
use Rattle.faust_text.proofs.NumberLaws.{is_number-decimal}
use Rattle.faust_agent.specs.declared.client.Client.{Client}
use Rattle.faust_record.specs.Entries.{AreHandedIn, MayCome, replay}
use Rattle.faust_record.specs.Runs.{IsRun, Run, arriving, entries_of}
use Rattle.faust_record.specs.declared.entry.Input.{Input}
use Rattle.faust_record.specs.declared.entry.Input.TheVariants as inputs
use Rattle.faust_record.specs.declared.entry.Entry.{Entry}
use Rattle.faust_store.specs.declared.word.EntryWord.TheVariants as words
use Rattle.faust_store.specs.Reading.{read, record_form}
use Rattle.faust_store.specs.Records.{AreEntryLines, IsEndLine, IsLineText, IsRecordText, SpellsArrival, SpellsEntry, SpellsInput, end_form}
use Rattle.faust_store.specs.Texts.{IsTextVersion, end_line, entry_line, entry_lines, input_tokens, record_text}
use Rattle.faust_store.specs.Words.{word_text}
use Rattle.faust_store.proofs.Arrivals.{IsEntryBehind, due-handed_in, entry_behind}
use Rattle.faust_store.proofs.RecordLaws.{record_found}
use Rattle.faust_store.proofs.Tokens.{AreTokens, IsMiddle, as_last, joined_line, joined_short, last_bytes, last_value, middle_number, middle_word, number_spelled, tokens_again, value_spelled}

-- What is printed of an input spells it, and its tokens can be joined.
record IsPrinted (version n i : ℕ) (input : Input) (tokens : List (List ℕ)) : Type 0 where
  spelled : SpellsInput version n i input tokens
  joinable : AreTokens tokens
  few : length tokens ≤ 4

record IsPrintedArrival (alone : Bool) (n i : ℕ) (message : List ℕ) (tokens : List (List ℕ)) : Type 0 where
  spelled : SpellsArrival alone n i message tokens
  joinable : AreTokens tokens
  few : length tokens ≤ 4

small : (n i : ℕ) → n ≤ 32 → IsClient n i → i < 2 ^ 64
small n i most client = omega (arith, client.to_n)

arrival_printed : (alone : Bool) (n i : ℕ) (message : List ℕ) → n ≤ 32 → IsClient n i → AreHandedIn message
    → IsPrintedArrival alone n i message (word_text words.Arrive ∷ decimal i ∷ cond alone [] (bytes_text message ∷ []))
arrival_printed true n i message most client are =
    let fits = small n i most client in
    record {
      spelled = (refl, (number_spelled 1 n i client.from_one client.to_n fits, tt));
      joinable = (middle_word (word_text words.Arrive) refl refl (lit≤ tt), as_last (decimal i) (middle_number i fits));
      few = lit≤ tt;
    }
arrival_printed false n i message most client are =
    let fits = small n i most client in
    record {
      spelled = (refl, (number_spelled 1 n i client.from_one client.to_n fits, ((refl, are.sized, are.bytes_each), tt)));
      joinable = (middle_word (word_text words.Arrive) refl refl (lit≤ tt), (middle_number i fits, last_bytes message are));
      few = lit≤ tt;
    }

input_printed : (version : ℕ) (config : Config) (i : ℕ) (st : Client) (input : Input) → config.clients ≤ 32
    → IsClient config.clients i → MayCome config i st input → IfSome (arriving input) AreHandedIn
    → IsPrinted version config.clients i input (input_tokens version i input)
input_printed version config i st (inputs.Write value) most client may handed =
    let fits = small config.clients i most client in
    record {
      spelled = (
        refl,
        (
          number_spelled 1 config.clients i client.from_one client.to_n fits,
          (refl, (value_spelled value may.value_in_range, tt)),
        ),
      );
      joinable = (
        middle_word (word_text words.Begin) refl refl (lit≤ tt),
        (
          middle_number i fits,
          (middle_word (codes "write") refl refl (lit≤ tt), last_value value may.value_in_range),
        ),
      );
      few = lit≤ tt;
    }
input_printed version config i st (inputs.Read register) most client may handed =
    let fits = small config.clients i most client in
    let range = may.register_in_range in
    let register_fits = small config.clients register most range in
    record {
      spelled = (
        refl,
        (
          number_spelled 1 config.clients i client.from_one client.to_n fits,
          (refl, (number_spelled 1 config.clients register range.from_one range.to_n register_fits, tt)),
        ),
      );
      joinable = (
        middle_word (word_text words.Begin) refl refl (lit≤ tt),
        (
          middle_number i fits,
          (middle_word (codes "read") refl refl (lit≤ tt), as_last (decimal register) (middle_number register register_fits)),
        ),
      );
      few = lit≤ tt;
    }
input_printed version config i st (inputs.Reply bytes) most client may handed =
    let fits = small config.clients i most client in
    record {
      spelled = (refl, (number_spelled 1 config.clients i client.from_one client.to_n fits, ((refl, may.sized, may.bytes_each), tt)));
      joinable = (middle_word (word_text words.Reply) refl refl (lit≤ tt), (middle_number i fits, last_bytes bytes may));
      few = lit≤ tt;
    }
input_printed version config i st (inputs.Peer bytes) most client may handed =
    let fits = small config.clients i most client in
    record {
      spelled = (refl, (number_spelled 1 config.clients i client.from_one client.to_n fits, ((refl, may.sized, may.bytes_each), tt)));
      joinable = (middle_word (word_text words.Peer) refl refl (lit≤ tt), (middle_number i fits, last_bytes bytes may));
      few = lit≤ tt;
    }
input_printed version config i st (inputs.Tick moment) most client may handed =
    let fits = small config.clients i most client in
    let moment_fits : moment < 2 ^ 64 = omega (arith, may) in
    record {
      spelled = (
        refl,
        (
          number_spelled 1 config.clients i client.from_one client.to_n fits,
          (number_spelled 0 (2 ^ 40 - 1) moment (omega arith) (omega (arith, may)) moment_fits, tt),
        ),
      );
      joinable = (
        middle_word (word_text words.Tick) refl refl (lit≤ tt),
        (
          middle_number i fits,
          as_last (decimal moment) (middle_number moment moment_fits),
        ),
      );
      few = lit≤ tt;
    }
input_printed version config i st (inputs.Arrive message) most client may handed =
    let p = arrival_printed (version == 1) config.clients i message most client handed in
    record { spelled = p.spelled; joinable = p.joinable; few = p.few }

-- The line of an entry.
number_first : (token : List ℕ) (tokens : List (List ℕ)) → IsMiddle token → AreTokens tokens → AreTokens (token ∷ tokens)
number_first token [] first are = absurd are
number_first token (next ∷ tokens) first are = (first, are)

record IsPrintedLine (version n : ℕ) (e : Entry) : Type 0 where
  spelled : SpellsEntry version n e (tokens_of (entry_line version e))
  line_text : IsLineText (entry_line version e)

line_printed : (version : ℕ) (config : Config) (front : List Entry) (e : Entry) → IsConfig config → length front < 20000
    → IsEntryBehind config front e → IsPrintedLine version config.clients e
line_printed version config front e range room at =
    let handed = IfSome_then (arriving e.input) at.is_fed
    (λ message due. due-handed_in config front e.client message at.front_is_run at.of_client due) in
    let st = replay config e.client (entries_of e.client front) in
    let p = input_printed version config e.client st e.input range.clients_count.at_most_32 at.of_client at.may_come handed in
    let behind = input_tokens version e.client e.input in
    let tokens = decimal e.number ∷ behind in
    let number_fits : e.number < 2 ^ 64 = omega (arith, at.number_is) in
    let are = number_first (decimal e.number) behind (middle_number e.number number_fits) p.joinable in
    let short = joined_short tokens are in
    record {
      spelled = subst (λ (ts : List (List ℕ)). SpellsEntry version config.clients e ts) (sym (tokens_again tokens are)) (refl, p.spelled);
      line_text = record { one_line = joined_line tokens are; not_too_long = omega (arith, short, p.few) };
    }

record ArePrinted (version n : ℕ) (entries : List Entry) : Type 0 where
  spelled : AreEntryLines version n entries (entry_lines version entries)
  line_texts : AllByRecursion IsLineText (entry_lines version entries)

entries_printed : (version : ℕ) (config : Config) (front rest : List Entry) → IsRun config (front ++ rest)
    → length (front ++ rest) ≤ 20000 → ArePrinted version config.clients rest
entries_printed version config front [] run few = record { spelled = tt; line_texts = tt }
entries_printed version config front (e ∷ rest) run few =
    let joined_again : (front ++ e ∷ []) ++ rest ≡ front ++ (e ∷ rest) = append_assoc front (e ∷ []) rest in
    let size = length-append front (e ∷ rest) in
    let line = line_printed version config front e run.config_in_range (omega arith) (entry_behind config front rest e run) in
    let more = entries_printed version config (front ++ e ∷ []) rest
    (subst (λ (es : List Entry). IsRun config es) (sym joined_again) run)
    (subst (λ (es : List Entry). length es ≤ 20000) (sym joined_again) few) in
    record { spelled = (line.spelled, more.spelled); line_texts = (line.line_text, more.line_texts) }

-- The last line.
end_tokens : (count : ℕ) → count ≤ 20000 → AreTokens (codes "end" ∷ decimal count ∷ [])
end_tokens count few =
    (middle_word (codes "end") refl refl (lit≤ tt), as_last (decimal count) (middle_number count (omega arith)))

end_printed : (count : ℕ) → count ≤ 20000 → IsEndLine count (end_line count)
end_printed count few =
    let fits : count < 2 ^ 64 = omega arith in
    subst (λ (ts : List (List ℕ)). SpellsFields end_form (tt, (decimal count, tt)) ts)
    (sym (tokens_again (codes "end" ∷ decimal count ∷ []) (end_tokens count few)))
    (refl, ((is_number-decimal count fits, refl), tt))

end_text_line : (count : ℕ) → count ≤ 20000 → IsLineText (end_line count)
end_text_line count few =
    let tokens = codes "end" ∷ decimal count ∷ [] in
    let are = end_tokens count few in
    let short = joined_short tokens are in
    record { one_line = joined_line tokens are; not_too_long = omega (arith, short) }

-- The lines of the head.
abbrev FitsLine : List ℕ → Type 0
FitsLine text = length text ≤ 40000

two_short : (a b : List ℕ) (m : ℕ) → length a ≤ 20 → length b ≤ m → length (joined (a ∷ b ∷ [])) ≤ 21 + m
two_short a b m first second =
    let size : length (a ++ (32 ∷ b)) ≡ length a + suc (length b) = length-append a (32 ∷ b) in
    omega (arith, size, first, second)

named_short : (name : List ℕ) (x : ℕ) → length name ≤ 20 → x < 2 ^ 64 → FitsLine (named_number name x)
named_short name x short fits =
    let line = two_short name (decimal x) 20 short (middle_number x fits).short in
    omega (arith, line)

wires_short : (alone : Bool) (wire : ℕ) → wire ≤ 2 → AllByRecursion FitsLine (cond alone [] (named_number (codes "wire") wire ∷ []))
wires_short true wire few = tt
wires_short false wire few = (named_short (codes "wire") wire (lit≤ tt) (omega (arith, few)), tt)

title_short : (alone : Bool) → FitsLine (joined (codes "faust-record" ∷ cond alone (codes "1") (codes "2") ∷ []))
title_short true = lit≤ tt
title_short false = lit≤ tt

all_fit_append : (xs ys : List (List ℕ)) → AllByRecursion FitsLine xs → AllByRecursion FitsLine ys → AllByRecursion FitsLine (xs ++ ys)
all_fit_append [] ys left right = right
all_fit_append (x ∷ xs) ys left right = (left.0, all_fit_append xs ys left.1 right)

head_short : (version : ℕ) (config : Config) → IsConfig config → AllByRecursion FitsLine (head_lines titles.Record version config)
head_short version config range =
    let key_size = length-encode_with lower_digits config.key in
    let key = two_short (codes "key") (encode_lower config.key) 256 (lit≤ tt) (omega (arith, key_size, range.key_sized.sized)) in
    let behind : AllByRecursion FitsLine (named_number (codes "clients") config.clients
    ∷ joined (codes "key" ∷ encode_lower config.key ∷ []) ∷ named_number (codes "delta") config.delta
    ∷ named_number (codes "dummy") config.dummy ∷ []) = (
      named_short (codes "clients") config.clients (lit≤ tt) (omega (arith, range.clients_count.at_most_32)),
      (
        omega (arith, key),
        (
          named_short (codes "delta") config.delta (lit≤ tt) (omega (arith, range.delta_span.below)),
          (named_short (codes "dummy") config.dummy (lit≤ tt) (omega (arith, range.dummy_span.below)), tt),
        ),
      ),
    ) in (
      title_short (version == 1),
      all_fit_append (wire_lines version config.wire) _
          (wires_short (version == 1) config.wire range.wire_known.to_two) behind,
    )

line_texts : (texts : List (List ℕ)) → AllByRecursion (IsWithout 10) texts → AllByRecursion FitsLine texts → AllByRecursion IsLineText texts
line_texts [] none fit = tt
line_texts (text ∷ texts) none fit = (record { one_line = none.0; not_too_long = fit.0 }, line_texts texts none.1 fit.1)

texts_append : (xs ys : List (List ℕ)) → AllByRecursion IsLineText xs → AllByRecursion IsLineText ys → AllByRecursion IsLineText (xs ++ ys)
texts_append [] ys left right = right
texts_append (x ∷ xs) ys left right = (left.0, texts_append xs ys left.1 right)

format_known : (version wire : ℕ) → IsTextVersion version wire → ((version ≡ 1) × (wire ≡ 1)) ⊎ ((version ≡ 2) × (2 ≤ 2))
format_known version wire (inl one) = inl one
format_known version wire (inr two) = inr (two, omega arith)

-- The whole text.
pub printed_is_record : (run : Run) (version : ℕ) → IsRun run.config run.entries → AreBytes run.config.key → length run.entries ≤ 20000
    → IsTextVersion version run.config.wire → IsRecordText version run (record_text run version)
unfolding record_text
printed_is_record run version is_run key few known =
    let config = run.config in
    let head = head_lines titles.Record version config in
    let can : CanBeHead record_form version config = record {
      in_range = is_run.config_in_range;
      key_bytes = key;
      few_clients = is_run.config_in_range.clients_count.at_most_32;
      format_known = format_known version config.wire known;
    } in
    let feeds = (ended_text-only (head_text titles.Record version config) head (printed_heads_lines record_form version config can)).1 in
    let entries = entries_printed version config [] run.entries is_run few in
    let count = length run.entries in
    record {
      head = head;
      lines = entry_lines version run.entries;
      last = end_line count;
      line_texts = texts_append head (entry_lines version run.entries ++ end_line count ∷ [])
          (line_texts head feeds (head_short version config is_run.config_in_range))
          (texts_append (entry_lines version run.entries) (end_line count ∷ []) entries.line_texts (end_text_line count few, tt));
      input_is = refl;
      head_spelled = printed_heads_are record_form version config can;
      entries_spelled = entries.spelled;
      last_spelled = end_printed count few;
      is_run = is_run;
      few_entries = few;
    }

-- What is printed of a run is read as this run again.
pub printed_read : (run : Run) (version : ℕ) → IsRun run.config run.entries → AreBytes run.config.key → length run.entries ≤ 20000
    → IsTextVersion version run.config.wire → read (record_text run version) ≡ Ok run
printed_read run version is_run key few known =
    record_found version (record_text run version) run (printed_is_record run version is_run key few known)
