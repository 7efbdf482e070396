-- The words of the commands: the function that reads them, and the facts that say the same.
use Rattle.std.proofs.Common.{◌≡◌, ◌≢◌, ℕ, ◌^◌, ◌<◌, Bool, true, List, [], ◌∷◌, length, get_or, map, Option, Some, None, refl, sym, ap, ◌∙◌, subst, inl, inr, arith}
use Rattle.std.specs.Prelude.{codes}
use Rattle.std.specs.Fmt.{decimal}
use Rattle.std.specs.List.{AllByRecursion, find}
use Rattle.std.specs.Str.{bytes_eq}
use Rattle.std.proofs.lemmas.Bool.{cases_Bool, cond-true, cond-false}
use Rattle.std.proofs.lemmas.Slice.Eq.{bytes_eq-Decides}
use Rattle.faust_text.specs.Numbers.{between, number_between, number_of}
use Rattle.faust_text.proofs.Between.{between_from, between_parts}
use Rattle.faust_text.proofs.Choices.{chosen}
use Rattle.faust_text.proofs.NumberLaws.{numbers_are}
use Rattle.faust_top.specs.declared.words.Command.{Command}
use Rattle.faust_top.specs.declared.words.Command.TheVariants as commands
use Rattle.faust_top.specs.Commands.{IsForm, IsInRange, IsNoForm, numbers_of, word_of}
use Rattle.faust_top.specs.Forms.{command_of, plain_command, plain_commands, sample_command, sample_of}

-- Words as a slice, and as a list.
pub one_word : {X : Type 0} (f : X → List ℕ) (xs : List X) (w : X) → length xs ≡ 1 → w ≡ get_or xs 0 w → map f xs ≡ f w ∷ []
one_word f [] w one is = absurd (omega (arith, one))
one_word f (x ∷ []) w one is = ap (λ (y : List ℕ). y ∷ []) (ap f (sym is))
one_word f (x ∷ y ∷ rest) w one is = absurd (omega (arith, one))

same_four : {X : Type 0} (a b c d e f g h : X) → a ≡ e → b ≡ f → c ≡ g → d ≡ h → a ∷ b ∷ c ∷ d ∷ [] ≡ e ∷ f ∷ g ∷ h ∷ []
same_four a b c d e f g h first second third fourth = cc

pub four_words : {X : Type 0} (f : X → List ℕ) (xs : List X) (v w x y : X) → length xs ≡ 4 → v ≡ get_or xs 0 v → w ≡ get_or xs 1 w
    → x ≡ get_or xs 2 x → y ≡ get_or xs 3 y → map f xs ≡ f v ∷ f w ∷ f x ∷ f y ∷ []
four_words f [] v w x y four is_v is_w is_x is_y = absurd (omega (arith, four))
four_words f (a ∷ []) v w x y four is_v is_w is_x is_y = absurd (omega (arith, four))
four_words f (a ∷ b ∷ []) v w x y four is_v is_w is_x is_y = absurd (omega (arith, four))
four_words f (a ∷ b ∷ c ∷ []) v w x y four is_v is_w is_x is_y = absurd (omega (arith, four))
four_words f (a ∷ b ∷ c ∷ d ∷ []) v w x y four is_v is_w is_x is_y =
    same_four (f a) (f b) (f c) (f d) (f v) (f w) (f x) (f y) (ap f (sym is_v)) (ap f (sym is_w)) (ap f (sym is_x)) (ap f (sym is_y))
four_words f (a ∷ b ∷ c ∷ d ∷ e ∷ rest) v w x y four is_v is_w is_x is_y = absurd (omega (arith, four))

pub other_words : {X : Type 0} (f : X → List ℕ) (xs : List X) → length xs ≢ 1 → length xs ≢ 4 → command_of (map f xs) ≡ None
other_words f [] one four = refl
other_words f (a ∷ []) one four = absurd (one (omega arith))
other_words f (a ∷ b ∷ []) one four = refl
other_words f (a ∷ b ∷ c ∷ []) one four = refl
other_words f (a ∷ b ∷ c ∷ d ∷ []) one four = absurd (four (omega arith))
other_words f (a ∷ b ∷ c ∷ d ∷ e ∷ rest) one four = refl

-- What is found passes the test, and has what all of them have.
find_holds : {X : Type 0} (test : X → Bool) (P : X → Type 0) (xs : List X) (x : X) → AllByRecursion P xs → find test xs ≡ Some x
    → (test x ≡ true) × P x
find_holds test P [] x all found = absurd (cc)
find_holds test P (y ∷ xs) x all found =
    elim (cases_Bool (test y)) [
      | inl taken ↦
          let same : y ≡ x = let e = sym (cond-true (test y) (Some y) (find test xs) taken) ∙ found in cc in
          (subst (λ z. test z ≡ true) same taken, subst P same all.0)
      | inr left ↦ find_holds test P xs x all.1 (sym (cond-false (test y) (Some y) (find test xs) left) ∙ found)
    ]

-- One word.
record IsPlain (command : Command) : Type 0 where
  no_numbers : numbers_of command ≡ []
  in_range : IsInRange command

all_plain : AllByRecursion IsPlain plain_commands
all_plain =
    let script : IsPlain commands.Script = record { no_numbers = refl; in_range = tt } in
    let recorded : IsPlain commands.Record = record { no_numbers = refl; in_range = tt } in
    let audit : IsPlain commands.Audit = record { no_numbers = refl; in_range = tt } in
    let json : IsPlain commands.Json = record { no_numbers = refl; in_range = tt } in
    let migrate : IsPlain commands.Migrate = record { no_numbers = refl; in_range = tt } in
    (script, (recorded, (audit, (json, (migrate, tt)))))

plain_form : (word : List ℕ) (command : Command) → plain_command word ≡ Some command → IsForm (word ∷ []) command
plain_form word command found =
    let held = find_holds (λ c. bytes_eq (word_of c) word) IsPlain plain_commands command all_plain found in
    let spelled : word_of command ≡ word = (bytes_eq-Decides (word_of command) word).0 held.0 in record {
      words_are = ap (λ (w : List ℕ). w ∷ []) (sym spelled)
          ∙ ap (λ (numbers : List (List ℕ)). word_of command ∷ numbers) (sym held.1.no_numbers);
      in_range = held.1.in_range;
    }

-- Four words.
record IsSampleOf (seed clients ops : Option ℕ) (command : Command) : Type 0 where
  s : ℕ
  n : ℕ
  o : ℕ
  seed_is : seed ≡ Some s
  clients_is : clients ≡ Some n
  ops_is : ops ≡ Some o
  command_is : commands.Sample s n o ≡ command

sample_parts : (seed clients ops : Option ℕ) (command : Command) → sample_of seed clients ops ≡ Some command
    → IsSampleOf seed clients ops command
sample_parts None clients ops command found = absurd (cc)
sample_parts (Some s) None ops command found = absurd (cc)
sample_parts (Some s) (Some n) None command found = absurd (cc)
sample_parts (Some s) (Some n) (Some o) command found =
    record { s = s; n = n; o = o; seed_is = refl; clients_is = refl; ops_is = refl; command_is = cc }

sample_from : (seed clients ops : Option ℕ) (s n o : ℕ) → seed ≡ Some s → clients ≡ Some n → ops ≡ Some o
    → sample_of seed clients ops ≡ Some (commands.Sample s n o)
sample_from seed clients ops s n o seed_is clients_is ops_is =
    ap (λ x. sample_of x clients ops) seed_is
    ∙ (ap (λ x. sample_of (Some s) x ops) clients_is ∙ ap (λ x. sample_of (Some s) (Some n) x) ops_is)

sample_form : (word seed clients ops : List ℕ) (command : Command) → sample_command word seed clients ops ≡ Some command
    → IsForm (word ∷ seed ∷ clients ∷ ops ∷ []) command
sample_form word seed clients ops command found =
    elim (chosen (bytes_eq word (codes "sample")) (sample_of (number_of seed) (number_between clients 2 32) (number_between ops 1 3000))
    None (Some command) found) [
      | inl taken ↦
          let parts = sample_parts _ _ _ command taken.1 in
          let n_is = between_parts 2 32 (number_of clients) parts.n parts.clients_is in
          let o_is = between_parts 1 3000 (number_of ops) parts.o parts.ops_is in
          let s_told = (numbers_are seed parts.s).0 parts.seed_is in
          let n_told = (numbers_are clients parts.n).0 n_is.given in
          let o_told = (numbers_are ops parts.o).0 o_is.given in
          let is : IsForm (word ∷ seed ∷ clients ∷ ops ∷ []) (commands.Sample parts.s parts.n parts.o) = record {
            words_are = same_four word seed clients ops (codes "sample") (decimal parts.s) (decimal parts.n) (decimal parts.o)
                ((bytes_eq-Decides word (codes "sample")).0 taken.0) s_told.1 n_told.1 o_told.1;
            in_range = record {
              seed_fits = s_told.0;
              size = record {
                clients_count = record { at_least_two = n_is.from; at_most_32 = n_is.to };
                from_one = o_is.from;
                to_3000 = o_is.to;
              };
            };
          } in
          subst (λ (c : Command). IsForm (word ∷ seed ∷ clients ∷ ops ∷ []) c) parts.command_is is
      | inr left ↦ absurd (let e = left.1 in cc)
    ]

-- The words are the form of the command that is read.
pub command_form : (words : List (List ℕ)) (command : Command) → command_of words ≡ Some command → IsForm words command
command_form [] command found = absurd (cc)
command_form (word ∷ []) command found = plain_form word command found
command_form (word ∷ seed ∷ []) command found = absurd (cc)
command_form (word ∷ seed ∷ clients ∷ []) command found = absurd (cc)
command_form (word ∷ seed ∷ clients ∷ ops ∷ []) command found = sample_form word seed clients ops command found
command_form (word ∷ seed ∷ clients ∷ ops ∷ more ∷ words) command found = absurd (cc)

-- The command is read from its form.
command_read : (command : Command) → IsInRange command → command_of (word_of command ∷ numbers_of command) ≡ Some command
command_read commands.Script is = refl
command_read commands.Record is = refl
command_read commands.Audit is = refl
command_read commands.Json is = refl
command_read commands.Migrate is = refl
command_read (commands.Sample seed clients ops) is =
    let s_is : number_of (decimal seed) ≡ Some seed = (numbers_are (decimal seed) seed).1 (is.seed_fits, refl) in
    let n_fits : clients < 2 ^ 64 = let few = is.size.clients_count.at_most_32 in omega (arith, few) in
    let o_fits : ops < 2 ^ 64 = let few = is.size.to_3000 in omega (arith, few) in
    let n_is : number_of (decimal clients) ≡ Some clients = (numbers_are (decimal clients) clients).1 (n_fits, refl) in
    let o_is : number_of (decimal ops) ≡ Some ops = (numbers_are (decimal ops) ops).1 (o_fits, refl) in
    sample_from (number_of (decimal seed)) (number_between (decimal clients) 2 32)
    (number_between (decimal ops) 1 3000) seed clients ops s_is
    (ap (between 2 32) n_is ∙ between_from 2 32 clients is.size.clients_count.at_least_two is.size.clients_count.at_most_32)
    (ap (between 1 3000) o_is ∙ between_from 1 3000 ops is.size.from_one is.size.to_3000)

pub form_command : (words : List (List ℕ)) (command : Command) → IsForm words command → command_of words ≡ Some command
form_command words command form = ap command_of form.words_are ∙ command_read command form.in_range

pub one_command : (words : List (List ℕ)) (command other : Command) → IsForm words command → IsForm words other → command ≡ other
one_command words command other form also =
    let same : Some command ≡ Some other = sym (form_command words command form) ∙ form_command words other also in cc

pub no_form : (words : List (List ℕ)) → command_of words ≡ None → IsNoForm words
no_form words none = λ command form. let found = form_command words command form in absurd (cc)
