-- The head of a text: its first lines, which spell a config. Every promise on heads rests on these.
use Rattle.std.specs.Prelude.{◌≡◌, ℕ, ◌^◌, ◌-◌, ◌≤◌, ◌⊎◌, ◌==◌, zero, suc, nat_le, cond, List, [], ◌∷◌, ◌++◌, codes, Result, Ok, Err}
use Rattle.std.specs.Fmt.{decimal}
use Rattle.hex.specs.Hex.{encode_lower}
use Rattle.faust_types.specs.Bytes.{AreBytes}
use Rattle.faust_types.specs.Ranges.{IsConfig}
use Rattle.faust_types.specs.declared.config.Config.{Config}
use Rattle.faust_text.specs.declared.cause.Cause.{Cause}
use Rattle.faust_text.specs.declared.cause.Cause.TheVariants as causes
use Rattle.faust_text.specs.declared.head.Title.{Title}
use Rattle.faust_text.specs.declared.head.Title.TheVariants as titles
use Rattle.faust_text.specs.declared.head.HeadForm.{HeadForm}
use Rattle.faust_text.specs.declared.head.Formats.{Formats}
use Rattle.faust_text.specs.declared.head.Head.{Head}
use Rattle.faust_text.specs.declared.head.Head.TheVariants as heads
use Rattle.faust_text.specs.declared.head.HeadStep.{HeadStep}
use Rattle.faust_text.specs.declared.head.HeadStep.TheVariants.{Next, Whole}
use Rattle.faust_text.specs.Fields.{Field, word, one_of, number, key, fields_at, ◌>>=◌}
use Rattle.faust_text.specs.Spelled.{SpellsFields}
use Rattle.faust_text.specs.Tokens.{joined, tokens_of}
use Rattle.faust_text.specs.Lines.{ended_text}

abbrev pub title_word : Title → List ℕ
title_word titles.Script = codes "faust"
title_word titles.Record = codes "faust-record"

abbrev pub format_words : ℕ → List (List ℕ)
format_words formats = codes "1" ∷ cond (nat_le 2 formats) (codes "2" ∷ []) []

-- The lines of a head, in their order; a line of the wire stands under format 2 alone.
abbrev pub title_form : HeadForm → List Field
title_form form = word (title_word form.title) ∷ one_of (format_words form.formats) ∷ []

abbrev pub wire_form : List Field
wire_form = word (codes "wire") ∷ number 1 2 ∷ []

abbrev pub clients_form : HeadForm → List Field
clients_form form = word (codes "clients") ∷ number 2 form.clients ∷ []

abbrev pub key_form : List Field
key_form = word (codes "key") ∷ key ∷ []

abbrev pub delta_form : List Field
delta_form = word (codes "delta") ∷ number 1 (2 ^ 40 - 1) ∷ []

abbrev pub dummy_form : List Field
dummy_form = word (codes "dummy") ∷ number 1 (2 ^ 40 - 1) ∷ []

-- The lines of format 1 have no wire, and mean wire 1.
abbrev pub SpellsWire : ℕ → ℕ → List (List ℕ) → Type 0
SpellsWire format wire [] = (format ≡ 1) × (wire ≡ 1)
SpellsWire format wire (line ∷ []) = (format ≡ 2) × SpellsFields wire_form (tt, (wire, tt)) (tokens_of line)
SpellsWire format wire (line ∷ more ∷ lines) = ⊥

-- These lines are a head in a format, and spell a config.
pub record AreHeadLines (form : HeadForm) (format : ℕ) (config : Config) (lines : List (List ℕ)) : Type 0 where
  pub title : List ℕ
  pub wires : List (List ℕ)
  pub clients : List ℕ
  pub key_line : List ℕ
  pub delta : List ℕ
  pub dummy : List ℕ
  pub lines_are : lines ≡ title ∷ (wires ++ (clients ∷ key_line ∷ delta ∷ dummy ∷ []))
  pub title_spelled : SpellsFields (title_form form) (tt, (format - 1, tt)) (tokens_of title)
  pub wire_spelled : SpellsWire format config.wire wires
  pub clients_spelled : SpellsFields (clients_form form) (tt, (config.clients, tt)) (tokens_of clients)
  pub key_spelled : SpellsFields key_form (tt, (config.key, tt)) (tokens_of key_line)
  pub delta_spelled : SpellsFields delta_form (tt, (config.delta, tt)) (tokens_of delta)
  pub dummy_spelled : SpellsFields dummy_form (tt, (config.dummy, tt)) (tokens_of dummy)

-- The same line by line: the form of the line that is due.
abbrev pub due_form : HeadForm → Head → List Field
due_form form heads.Title = title_form form
due_form form heads.Wire = wire_form
due_form form (heads.Clients formats) = clients_form form
due_form form (heads.Key formats clients) = key_form
due_form form (heads.Delta formats clients bytes) = delta_form
due_form form (heads.Dummy formats clients bytes delta) = dummy_form

abbrev pub after_title : ℕ → Head
after_title zero = heads.Clients (record { text = 1; wire = 1 })
after_title (suc place) = heads.Wire

abbrev pub config_of : Formats → ℕ → List ℕ → ℕ → ℕ → Config
config_of formats clients bytes delta dummy = record { clients = clients; key = bytes; delta = delta; dummy = dummy; wire = formats.wire }

-- What the tokens of that line add to what was read of a head, or why they are refused.
unfoldable pub head_at : HeadForm → Head → List (List ℕ) → Result HeadStep Cause
head_at form heads.Title tokens = fields_at (title_form form) tokens >>= λ given. Ok (Next (after_title given.1.0))
head_at form heads.Wire tokens = fields_at wire_form tokens >>= λ given. Ok (Next (heads.Clients (record { text = 2; wire = given.1.0 })))
head_at form (heads.Clients formats) tokens = fields_at (clients_form form) tokens >>= λ given. Ok (Next (heads.Key formats given.1.0))
head_at form (heads.Key formats clients) tokens = fields_at key_form tokens >>= λ given. Ok (Next (heads.Delta formats clients given.1.0))
head_at form (heads.Delta formats clients bytes) tokens =
    fields_at delta_form tokens >>= λ given. Ok (Next (heads.Dummy formats clients bytes given.1.0))
head_at form (heads.Dummy formats clients bytes delta) tokens = fields_at dummy_form tokens
    >>= λ given. Ok (Whole formats.text (config_of formats clients bytes delta given.1.0))

-- What lines add to a head: behind a whole head there is no further line.
abbrev pub step_at : HeadForm → HeadStep → List (List ℕ) → Result HeadStep Cause
step_at form (Next head) tokens = head_at form head tokens
step_at form (Whole format config) tokens = Err causes.Word

abbrev pub head_read : HeadForm → HeadStep → List (List ℕ) → Result HeadStep Cause
head_read form step [] = Ok step
head_read form step (line ∷ lines) = step_at form step (tokens_of line) >>= λ next. head_read form next lines

-- A config that a head of this form spells in a format.
pub record CanBeHead (form : HeadForm) (format : ℕ) (config : Config) : Type 0 where
  pub in_range : IsConfig config
  pub key_bytes : AreBytes config.key
  pub few_clients : config.clients ≤ form.clients
  pub format_known : ((format ≡ 1) × (config.wire ≡ 1)) ⊎ ((format ≡ 2) × (2 ≤ form.formats))

-- How a head is printed.
abbrev pub named_number : List ℕ → ℕ → List ℕ
named_number name x = joined (name ∷ decimal x ∷ [])

abbrev pub title_line : Title → ℕ → List ℕ
title_line title format = joined (title_word title ∷ cond (format == 1) (codes "1") (codes "2") ∷ [])

abbrev pub wire_lines : ℕ → ℕ → List (List ℕ)
wire_lines format wire = cond (format == 1) [] (named_number (codes "wire") wire ∷ [])

abbrev pub head_lines : Title → ℕ → Config → List (List ℕ)
head_lines title format config = title_line title format
    ∷ (wire_lines format config.wire ++ (named_number (codes "clients") config.clients
    ∷ joined (codes "key" ∷ encode_lower config.key ∷ [])
    ∷ named_number (codes "delta") config.delta
    ∷ named_number (codes "dummy") config.dummy ∷ []))

abbrev pub head_text : Title → ℕ → Config → List ℕ
head_text title format config = ended_text (head_lines title format config)
