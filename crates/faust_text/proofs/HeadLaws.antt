-- Heads and the lines that spell them.
use Rattle.std.proofs.Common.{◌≡◌, ℕ, ◌-◌, ◌≤◌, zero, suc, Bool, true, false, cond, leb, List, [], ◌∷◌, ◌++◌, Result, Ok, Err, refl, sym, ap, ◌∙◌, subst, ◌↔◌, arith}
use Rattle.std.specs.Prelude.{codes}
use Rattle.faust_types.specs.declared.config.Config.{Config}
use Rattle.faust_types.specs.Ranges.{IsConfig}
use Rattle.faust_text.specs.declared.cause.Cause.{Cause}
use Rattle.faust_text.specs.declared.head.HeadForm.{HeadForm}
use Rattle.faust_text.specs.declared.head.Formats.{Formats}
use Rattle.faust_text.specs.declared.head.Head.{Head}
use Rattle.faust_text.specs.declared.head.Head.TheVariants as heads
use Rattle.faust_text.specs.declared.head.HeadStep.{HeadStep}
use Rattle.faust_text.specs.declared.head.HeadStep.TheVariants.{Next, Whole}
use Rattle.faust_text.specs.Fields.{AllGiven, fields_at, ◌>>=◌}
use Rattle.faust_text.specs.Heads.{AreHeadLines, SpellsWire, after_title, clients_form, config_of, delta_form, due_form, dummy_form, format_words, head_at, head_read, key_form, title_form, wire_form}
use Rattle.faust_text.specs.Spelled.{IsFirstFault, IsWordAt, SpellsFields}
use Rattle.faust_text.specs.Tokens.{tokens_of}
use Rattle.faust_text.proofs.FieldLaws.{bind_ok, fields_fault, fields_in_range, fields_spell, ok_same}

-- What a line adds to a head, by what its fields give.
abbrev pub with_line : (form : HeadForm) (head : Head) → AllGiven (due_form form head) → HeadStep
with_line form heads.Title given = Next (after_title given.1.0)
with_line form heads.Wire given = Next (heads.Clients (record { text = 2; wire = given.1.0 }))
with_line form (heads.Clients formats) given = Next (heads.Key formats given.1.0)
with_line form (heads.Key formats clients) given = Next (heads.Delta formats clients given.1.0)
with_line form (heads.Delta formats clients bytes) given = Next (heads.Dummy formats clients bytes given.1.0)
with_line form (heads.Dummy formats clients bytes delta) given = Whole formats.text (config_of formats clients bytes delta given.1.0)

head_by_line : (form : HeadForm) (head : Head) (tokens : List (List ℕ))
    → head_at form head tokens ≡ (fields_at (due_form form head) tokens >>= (λ g. Ok (with_line form head g)))
unfolding head_at
head_by_line form heads.Title tokens = refl
head_by_line form heads.Wire tokens = refl
head_by_line form (heads.Clients formats) tokens = refl
head_by_line form (heads.Key formats clients) tokens = refl
head_by_line form (heads.Delta formats clients bytes) tokens = refl
head_by_line form (heads.Dummy formats clients bytes delta) tokens = refl

-- One line of a head: what its tokens spell is read, and nothing else.
pub head_step : (form : HeadForm) (head : Head) (tokens : List (List ℕ)) (given : AllGiven (due_form form head))
    → SpellsFields (due_form form head) given tokens
    → head_at form head tokens ≡ Ok (with_line form head given)
head_step form head tokens given spelled =
    head_by_line form head tokens ∙ ap (λ r. r >>= (λ g. Ok (with_line form head g)))
    ((fields_spell (due_form form head) tokens given).1 spelled)

pub record ReadLine (form : HeadForm) (head : Head) (tokens : List (List ℕ)) (next : HeadStep) : Type 0 where
  pub given : AllGiven (due_form form head)
  pub spelled : SpellsFields (due_form form head) given tokens
  pub next_is : with_line form head given ≡ next

pub head_step-only : (form : HeadForm) (head : Head) (tokens : List (List ℕ)) (next : HeadStep)
    → head_at form head tokens ≡ Ok next
    → ReadLine form head tokens next
head_step-only form head tokens next found =
    let step = bind_ok (fields_at (due_form form head) tokens) (λ g. Ok (with_line form head g)) next
    (sym (head_by_line form head tokens) ∙ found) in
    record {
      given = step.0;
      spelled = (fields_spell (due_form form head) tokens step.0).0 step.1;
      next_is = ok_same (with_line form head step.0) next step.2;
    }

given_err : {A B : Type 0} (r : Result A Cause) (f : A → B) (cause : Cause)
    → (let g : A → Result B Cause = λ x. Ok (f x) in (r >>= g) ≡ Err cause)
    → r ≡ Err cause
given_err (Ok x) f cause found = absurd (cc)
given_err (Err e) f cause found = cc

-- A line of a head is refused for the first of its tokens that may not stand there.
pub head_faults : (form : HeadForm) (head : Head) (tokens : List (List ℕ)) (cause : Cause)
    → (head_at form head tokens ≡ Err cause) ↔ IsFirstFault (due_form form head) tokens cause
head_faults form head tokens cause = (
  λ found. (fields_fault (due_form form head) tokens cause).0
      (given_err (fields_at (due_form form head) tokens) (with_line form head) cause (sym (head_by_line form head tokens) ∙ found)),
  λ is. head_by_line form head tokens ∙ ap (λ r. r >>= (λ g. Ok (with_line form head g)))
      ((fields_fault (due_form form head) tokens cause).1 is),
)

-- Lines that make a head whole, the first of them taken apart.
record FirstLine (form : HeadForm) (head : Head) (lines : List (List ℕ)) (format : ℕ) (config : Config) : Type 0 where
  line : List ℕ
  behind : List (List ℕ)
  lines_are : lines ≡ line ∷ behind
  given : AllGiven (due_form form head)
  spelled : SpellsFields (due_form form head) given (tokens_of line)
  rest : head_read form (with_line form head given) behind ≡ Ok (Whole format config)

first_line : (form : HeadForm) (head : Head) (lines : List (List ℕ)) (format : ℕ) (config : Config)
    → head_read form (Next head) lines ≡ Ok (Whole format config)
    → FirstLine form head lines format config
first_line form head [] format config found = absurd (let e = ok_same (Next head) (Whole format config) found in cc)
first_line form head (line ∷ behind) format config found =
    let step = bind_ok (head_at form head (tokens_of line)) (λ next. head_read form next behind) (Whole format config) found in
    let read = head_step-only form head (tokens_of line) step.0 step.1 in
    record {
      line = line;
      behind = behind;
      lines_are = refl;
      given = read.given;
      spelled = read.spelled;
      rest = ap (λ next. head_read form next behind) read.next_is ∙ step.2;
    }

pub nothing_behind : (form : HeadForm) (made_format : ℕ) (made : Config) (lines : List (List ℕ)) (format : ℕ) (config : Config)
    → head_read form (Whole made_format made) lines ≡ Ok (Whole format config)
    → (lines ≡ []) × (Whole made_format made ≡ Whole format config)
nothing_behind form made_format made [] format config found = (refl, ok_same (Whole made_format made) (Whole format config) found)
nothing_behind form made_format made (line ∷ lines) format config found = absurd (cc)

abbrev format_of : HeadStep → ℕ
format_of (Next head) = 0
format_of (Whole format config) = format

abbrev config_in : Config → HeadStep → Config
config_in default (Next head) = default
config_in default (Whole format config) = config

-- The four lines behind the formats.
record FourLines (form : HeadForm) (formats : Formats) (lines : List (List ℕ)) (format : ℕ) (config : Config) : Type 0 where
  clients : List ℕ
  key_line : List ℕ
  delta : List ℕ
  dummy : List ℕ
  lines_are : lines ≡ clients ∷ key_line ∷ delta ∷ dummy ∷ []
  format_is : formats.text ≡ format
  wire_is : formats.wire ≡ config.wire
  clients_spelled : SpellsFields (clients_form form) (tt, (config.clients, tt)) (tokens_of clients)
  key_spelled : SpellsFields key_form (tt, (config.key, tt)) (tokens_of key_line)
  delta_spelled : SpellsFields delta_form (tt, (config.delta, tt)) (tokens_of delta)
  dummy_spelled : SpellsFields dummy_form (tt, (config.dummy, tt)) (tokens_of dummy)

four_lines : (form : HeadForm) (formats : Formats) (lines : List (List ℕ)) (format : ℕ) (config : Config)
    → head_read form (Next (heads.Clients formats)) lines ≡ Ok (Whole format config)
    → FourLines form formats lines format config
four_lines form formats lines format config found =
    let a = first_line form (heads.Clients formats) lines format config found in
    let n = a.given.1.0 in
    let b = first_line form (heads.Key formats n) a.behind format config a.rest in
    let key = b.given.1.0 in
    let c = first_line form (heads.Delta formats n key) b.behind format config b.rest in
    let delta = c.given.1.0 in
    let d = first_line form (heads.Dummy formats n key delta) c.behind format config c.rest in
    let made : Config = config_of formats n key delta d.given.1.0 in
    let end = nothing_behind form formats.text made d.behind format config d.rest in
    let same : made ≡ config = ap (config_in made) end.1 in
    let lines_are : lines ≡ a.line ∷ b.line ∷ c.line ∷ d.line ∷ [] =
    a.lines_are ∙ ap (λ ls. a.line ∷ ls) (b.lines_are ∙ ap (λ ls. b.line ∷ ls) (c.lines_are
    ∙ ap (λ ls. c.line ∷ ls) (d.lines_are ∙ ap (λ ls. d.line ∷ ls) end.0))) in
    let read : FourLines form formats lines format made = record {
      clients = a.line;
      key_line = b.line;
      delta = c.line;
      dummy = d.line;
      lines_are = lines_are;
      format_is = ap format_of end.1;
      wire_is = refl;
      clients_spelled = a.spelled;
      key_spelled = b.spelled;
      delta_spelled = c.spelled;
      dummy_spelled = d.spelled;
    } in
    subst (λ (x : Config). FourLines form formats lines format x) same read

-- Behind the first of two formats stands the second.
second_of_two : (two : Bool) (place : ℕ) (token : List ℕ) → IsWordAt (cond two (codes "2" ∷ []) []) place token → place ≡ 0
second_of_two true zero token is = refl
second_of_two true (suc place) token is = absurd is.1
second_of_two false place token is = absurd is

title_place : (form : HeadForm) (place : ℕ) (tokens : List (List ℕ))
    → SpellsFields (title_form form) (tt, (suc place, tt)) tokens → place ≡ 0
title_place form place [] is = absurd is
title_place form place (name ∷ []) is = absurd is.1
title_place form place (name ∷ token ∷ tokens) is = second_of_two (leb 2 form.formats) place token is.1.0.1

behind_title : (form : HeadForm) (lines behind : List (List ℕ)) (title : List ℕ) (place format : ℕ) (config : Config)
    → lines ≡ title ∷ behind
    → SpellsFields (title_form form) (tt, (place, tt)) (tokens_of title)
    → head_read form (Next (after_title place)) behind ≡ Ok (Whole format config)
    → AreHeadLines form format config lines
behind_title form lines behind title zero format config are spelled rest =
    let four = four_lines form (record { text = 1; wire = 1 }) behind format config rest in
    let one : 1 ≡ format = four.format_is in
    let first : 0 ≡ format - 1 = omega arith in
    record {
      title = title;
      wires = [];
      clients = four.clients;
      key_line = four.key_line;
      delta = four.delta;
      dummy = four.dummy;
      lines_are = are ∙ ap (λ ls. title ∷ ls) four.lines_are;
      title_spelled = subst (λ (p : ℕ). SpellsFields (title_form form) (tt, (p, tt)) (tokens_of title)) first spelled;
      wire_spelled = (sym one, sym four.wire_is);
      clients_spelled = four.clients_spelled;
      key_spelled = four.key_spelled;
      delta_spelled = four.delta_spelled;
      dummy_spelled = four.dummy_spelled;
    }
behind_title form lines behind title (suc place) format config are spelled rest =
    let w = first_line form heads.Wire behind format config rest in
    let wire = w.given.1.0 in
    let four = four_lines form (record { text = 2; wire = wire }) w.behind format config w.rest in
    let two : 2 ≡ format = four.format_is in
    let none = title_place form place (tokens_of title) spelled in
    let second : suc place ≡ format - 1 = omega arith in
    record {
      title = title;
      wires = w.line ∷ [];
      clients = four.clients;
      key_line = four.key_line;
      delta = four.delta;
      dummy = four.dummy;
      lines_are = are ∙ ap (λ ls. title ∷ ls) (w.lines_are ∙ ap (λ ls. w.line ∷ ls) four.lines_are);
      title_spelled = subst (λ (p : ℕ). SpellsFields (title_form form) (tt, (p, tt)) (tokens_of title)) second spelled;
      wire_spelled = (sym two, subst (λ (x : ℕ). SpellsFields wire_form (tt, (x, tt)) (tokens_of w.line)) four.wire_is w.spelled);
      clients_spelled = four.clients_spelled;
      key_spelled = four.key_spelled;
      delta_spelled = four.delta_spelled;
      dummy_spelled = four.dummy_spelled;
    }

heads_only : (form : HeadForm) (lines : List (List ℕ)) (format : ℕ) (config : Config)
    → head_read form (Next heads.Title) lines ≡ Ok (Whole format config)
    → AreHeadLines form format config lines
heads_only form lines format config found =
    let t = first_line form heads.Title lines format config found in
    behind_title form lines t.behind t.line t.given.1.0 format config t.lines_are t.spelled t.rest

-- The other way round: lines that spell a config are read as it.
line_found : (form : HeadForm) (head : Head) (line : List ℕ) (lines : List (List ℕ)) (given : AllGiven (due_form form head))
    → SpellsFields (due_form form head) given (tokens_of line)
    → head_read form (Next head) (line ∷ lines) ≡ head_read form (with_line form head given) lines
line_found form head line lines given spelled =
    ap (λ r. r >>= (λ next. head_read form next lines)) (head_step form head (tokens_of line) given spelled)

abbrev four_of : {form : HeadForm} {format : ℕ} {config : Config} {lines : List (List ℕ)} → AreHeadLines form format config lines
    → List (List ℕ)
four_of are = are.clients ∷ are.key_line ∷ are.delta ∷ are.dummy ∷ []

four_found : (form : HeadForm) (formats : Formats) (format : ℕ) (config : Config) (lines : List (List ℕ))
    (are : AreHeadLines form format config lines)
    → formats.text ≡ format → formats.wire ≡ config.wire
    → head_read form (Next (heads.Clients formats)) (four_of are) ≡ Ok (Whole format config)
four_found form formats format config lines are format_is wire_is =
    let n = config.clients in
    let key = config.key in
    let delta = config.delta in
    let with_formats : ℕ → ℕ → HeadStep = λ f w. Whole f (record {
      clients = n;
      key = key;
      delta = delta;
      dummy = config.dummy;
      wire = w;
    }) in
    line_found form (heads.Clients formats) are.clients (are.key_line ∷ are.delta ∷ are.dummy ∷ []) (tt, (n, tt)) are.clients_spelled
    ∙ (line_found form (heads.Key formats n) are.key_line (are.delta ∷ are.dummy ∷ []) (tt, (key, tt)) are.key_spelled
    ∙ (line_found form (heads.Delta formats n key) are.delta (are.dummy ∷ []) (tt, (delta, tt)) are.delta_spelled
    ∙ (line_found form (heads.Dummy formats n key delta) are.dummy [] (tt, (config.dummy, tt)) are.dummy_spelled
    ∙ (ap (λ f. Ok (with_formats f formats.wire)) format_is ∙ ap (λ w. Ok (with_formats format w)) wire_is))))

wires_found : (form : HeadForm) (format : ℕ) (config : Config) (lines wires : List (List ℕ)) (are : AreHeadLines form format config lines)
    → SpellsWire format config.wire wires
    → head_read form (Next (after_title (format - 1))) (wires ++ four_of are) ≡ Ok (Whole format config)
wires_found form format config lines [] are is =
    let first : format - 1 ≡ 0 = omega (arith, is.0) in
    ap (λ p. head_read form (Next (after_title p)) (four_of are)) first
    ∙ four_found form (record { text = 1; wire = 1 }) format config lines are (sym is.0) (sym is.1)
wires_found form format config lines (wire ∷ []) are is =
    let second : format - 1 ≡ 1 = omega (arith, is.0) in
    ap (λ p. head_read form (Next (after_title p)) (wire ∷ four_of are)) second
    ∙ (line_found form heads.Wire wire (four_of are) (tt, (config.wire, tt)) is.1
    ∙ four_found form (record { text = 2; wire = config.wire }) format config lines are (sym is.0) refl)
wires_found form format config lines (wire ∷ more ∷ wires) are is = absurd is

heads_found : (form : HeadForm) (lines : List (List ℕ)) (format : ℕ) (config : Config)
    → AreHeadLines form format config lines
    → head_read form (Next heads.Title) lines ≡ Ok (Whole format config)
heads_found form lines format config are =
    ap (head_read form (Next heads.Title)) are.lines_are
    ∙ (line_found form heads.Title are.title (are.wires ++ four_of are) (tt, (format - 1, tt)) are.title_spelled
    ∙ wires_found form format config lines are.wires are are.wire_spelled)

-- Lines are read as the head that they spell, and as no other.
pub heads_are : (form : HeadForm) (lines : List (List ℕ)) (format : ℕ) (config : Config)
    → (head_read form (Next heads.Title) lines ≡ Ok (Whole format config)) ↔ AreHeadLines form format config lines
heads_are form lines format config = (heads_only form lines format config, heads_found form lines format config)

-- What a head spells is in range.
wire_in_range : (format wire : ℕ) (wires : List (List ℕ)) → SpellsWire format wire wires → (1 ≤ wire) × (wire ≤ 2)
wire_in_range format wire [] is = (omega (arith, is.1), omega (arith, is.1))
wire_in_range format wire (line ∷ []) is = (fields_in_range wire_form (tt, (wire, tt)) (tokens_of line) is.1).1.0
wire_in_range format wire (line ∷ more ∷ wires) is = absurd is

pub head_in_range : (form : HeadForm) (format : ℕ) (config : Config) (lines : List (List ℕ))
    → form.clients ≤ 32 → AreHeadLines form format config lines
    → IsConfig config
head_in_range form format config lines most are =
    let clients = (fields_in_range (clients_form form) (tt, (config.clients, tt)) (tokens_of are.clients) are.clients_spelled).1.0 in
    let key = (fields_in_range key_form (tt, (config.key, tt)) (tokens_of are.key_line) are.key_spelled).1.0 in
    let delta = (fields_in_range delta_form (tt, (config.delta, tt)) (tokens_of are.delta) are.delta_spelled).1.0 in
    let dummy = (fields_in_range dummy_form (tt, (config.dummy, tt)) (tokens_of are.dummy) are.dummy_spelled).1.0 in
    let wire = wire_in_range format config.wire are.wires are.wire_spelled in
    record {
      clients_count = record { at_least_two = clients.0; at_most_32 = omega (arith, clients.1) };
      key_sized = key.0;
      delta_span = record { from_one = delta.0; below = omega (arith, delta.1) };
      dummy_span = record { from_one = dummy.0; below = omega (arith, dummy.1) };
      wire_known = record { from_one = wire.0; to_two = wire.1 };
    }
