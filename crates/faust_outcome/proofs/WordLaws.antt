-- The words of a live run: the function that reads them, and the facts that say the same.
use Rattle.std.proofs.Common.{◌≡◌, ◌≢◌, ℕ, ◌^◌, ◌<◌, ◌≤◌, cond, List, [], ◌∷◌, length, map, Option, Some, None, Result, Ok, Err, IfOk, IfSome, refl, sym, ap, ◌∙◌, subst, inl, inr, arith}
use Rattle.std.specs.Prelude.{codes, IfNone}
use Rattle.std.specs.Fmt.{decimal}
use Rattle.std.specs.Str.{bytes_eq}
use Rattle.std.proofs.lemmas.Slice.Eq.{bytes_eq-Decides}
use Rattle.hex.specs.Hex.{encode_lower}
use Rattle.faust_types.specs.Bytes.{AreBytes, IsKey}
use Rattle.faust_types.specs.Ranges.{IsConfig}
use Rattle.faust_types.specs.declared.out_of_memory.OutOfMemory.{OutOfMemory}
use Rattle.faust_text.specs.Numbers.{between, number_between, number_of}
use Rattle.faust_text.specs.Values.{hex_of}
use Rattle.faust_text.proofs.Between.{between_from, between_parts}
use Rattle.faust_text.proofs.Choices.{chosen}
use Rattle.faust_text.proofs.NumberLaws.{numbers_are}
use Rattle.faust_text.proofs.ValueLaws.{hex-are}
use Rattle.faust_outcome.specs.declared.words.Detail.{Detail}
use Rattle.faust_outcome.specs.declared.words.Detail.TheVariants.{Short, Full}
use Rattle.faust_outcome.specs.declared.words.LiveCommand.{LiveCommand}
use Rattle.faust_outcome.specs.Forms.{command_of, command_with, detail_of, key_of, live_command, not_empty}
use Rattle.faust_outcome.specs.Words.{IsForm, IsInRange, IsNoForm, config_of, detail_word, words_of}

-- Five words, and any other number of them.
same_five : {X : Type 0} (a b c d e f g h i j : X) → a ≡ f → b ≡ g → c ≡ h → d ≡ i → e ≡ j
    → a ∷ b ∷ c ∷ d ∷ e ∷ [] ≡ f ∷ g ∷ h ∷ i ∷ j ∷ []
same_five a b c d e f g h i j first second third fourth fifth = cc

pub other_words : {X : Type 0} (f : X → List ℕ) (xs : List X) → length xs ≢ 5 → command_of (map f xs) ≡ None
other_words f [] five = refl
other_words f (a ∷ []) five = refl
other_words f (a ∷ b ∷ []) five = refl
other_words f (a ∷ b ∷ c ∷ []) five = refl
other_words f (a ∷ b ∷ c ∷ d ∷ []) five = refl
other_words f (a ∷ b ∷ c ∷ d ∷ e ∷ []) five = absurd (five (omega arith))
other_words f (a ∷ b ∷ c ∷ d ∷ e ∷ g ∷ rest) five = refl

-- Keys.
not_empty-parts : (o : Option (List ℕ)) (key : List ℕ) → not_empty o ≡ Some key → (o ≡ Some key) × (1 ≤ length key)
not_empty-parts None key found = absurd (cc)
not_empty-parts (Some []) key found = absurd (cc)
not_empty-parts (Some (byte ∷ bytes)) key found =
    let same : byte ∷ bytes ≡ key = cc in
    (found, subst (λ (k : List ℕ). 1 ≤ length k) same (omega arith))

not_empty-from : (key : List ℕ) → 1 ≤ length key → not_empty (Some key) ≡ Some key
not_empty-from [] some = absurd (omega (arith, some))
not_empty-from (byte ∷ bytes) some = refl

record IsKeyOf (word key : List ℕ) : Type 0 where
  spelled : word ≡ encode_lower key
  sized : IsKey key
  bytes_each : AreBytes key

key_parts : (word key : List ℕ) → key_of word ≡ Some key → IsKeyOf word key
key_parts word key found =
    let parts = not_empty-parts (hex_of 128 word) key found in
    let hex = (hex-are 128 word key).0 parts.0 in
    record { spelled = hex.0; sized = record { not_empty = parts.1; sized = hex.1 }; bytes_each = hex.2 }

key_from : (key : List ℕ) → IsKey key → AreBytes key → key_of (encode_lower key) ≡ Some key
key_from key sized are =
    ap not_empty ((hex-are 128 (encode_lower key) key).1 (refl, sized.sized, are)) ∙ not_empty-from key sized.not_empty

-- How much is told.
detail_parts : (word : List ℕ) (detail : Detail) → detail_of word ≡ Some detail → word ≡ detail_word detail
detail_parts word detail found =
    elim (chosen (bytes_eq word (codes "short")) (Some Short) (cond (bytes_eq word (codes "full")) (Some Full) None) (Some detail) found) [
      | inl taken ↦
          let same : Short ≡ detail = let e = taken.1 in cc in
          (bytes_eq-Decides word (codes "short")).0 taken.0 ∙ ap detail_word same
      | inr left ↦ elim (chosen (bytes_eq word (codes "full")) (Some Full) None (Some detail) left.1) [
        | inl taken ↦
            let same : Full ≡ detail = let e = taken.1 in cc in
            (bytes_eq-Decides word (codes "full")).0 taken.0 ∙ ap detail_word same
        | inr none ↦ absurd (let e = none.1 in cc)
      ]
    ]

detail_from : (detail : Detail) → detail_of (detail_word detail) ≡ Some detail
detail_from Short = refl
detail_from Full = refl

-- Five words.
record AreGiven (clients ops : Option ℕ) (key : Option (List ℕ)) (detail : Option Detail) (command : LiveCommand) : Type 0 where
  clients_is : clients ≡ Some command.clients
  ops_is : ops ≡ Some command.ops
  key_is : key ≡ Some command.key
  detail_is : detail ≡ Some command.detail

given_parts : (clients ops : Option ℕ) (key : Option (List ℕ)) (detail : Option Detail) (command : LiveCommand)
    → command_with clients ops key detail ≡ Some command → AreGiven clients ops key detail command
given_parts None ops key detail command found = absurd (cc)
given_parts (Some n) None key detail command found = absurd (cc)
given_parts (Some n) (Some o) None detail command found = absurd (cc)
given_parts (Some n) (Some o) (Some k) None command found = absurd (cc)
given_parts (Some n) (Some o) (Some k) (Some d) command found =
    let made : LiveCommand = record { clients = n; ops = o; key = k; detail = d } in
    let same : made ≡ command = cc in
    subst (λ (c : LiveCommand). AreGiven (Some n) (Some o) (Some k) (Some d) c) same
    (record { clients_is = refl; ops_is = refl; key_is = refl; detail_is = refl })

given_from : (clients ops : Option ℕ) (key : Option (List ℕ)) (detail : Option Detail) (command : LiveCommand)
    → AreGiven clients ops key detail command → command_with clients ops key detail ≡ Some command
given_from clients ops key detail command is =
    ap (λ o. command_with o ops key detail) is.clients_is
    ∙ ap (λ o. command_with (Some command.clients) o key detail) is.ops_is
    ∙ ap (λ o. command_with (Some command.clients) (Some command.ops) o detail) is.key_is
    ∙ ap (λ o. command_with (Some command.clients) (Some command.ops) (Some command.key) o) is.detail_is

live_form : (word clients ops key detail : List ℕ) (command : LiveCommand) → live_command word clients ops key detail ≡ Some command
    → IsForm (word ∷ clients ∷ ops ∷ key ∷ detail ∷ []) command
live_form word clients ops key detail command found =
    elim (chosen (bytes_eq word (codes "live"))
    (command_with (number_between clients 2 8) (number_between ops 1 1000) (key_of key) (detail_of detail)) None (Some command) found) [
      | inl taken ↦
          let parts = given_parts _ _ _ _ command taken.1 in
          let n_is = between_parts 2 8 (number_of clients) command.clients parts.clients_is in
          let o_is = between_parts 1 1000 (number_of ops) command.ops parts.ops_is in
          let k_is = key_parts key command.key parts.key_is in
          record {
            words_are = same_five word clients ops key detail (codes "live") (decimal command.clients) (decimal command.ops)
                (encode_lower command.key) (detail_word command.detail) ((bytes_eq-Decides word (codes "live")).0 taken.0)
                ((numbers_are clients command.clients).0 n_is.given).1 ((numbers_are ops command.ops).0 o_is.given).1 k_is.spelled
                (detail_parts detail command.detail parts.detail_is);
            in_range = record {
              two_clients = n_is.from;
              few_clients = n_is.to;
              one_operation = o_is.from;
              few_operations = o_is.to;
              key_sized = k_is.sized;
              key_bytes = k_is.bytes_each;
            };
          }
      | inr left ↦ absurd (let e = left.1 in cc)
    ]

-- The words are the form of the command that is read.
pub command_form : (words : List (List ℕ)) (command : LiveCommand) → command_of words ≡ Some command → IsForm words command
command_form [] command found = absurd (cc)
command_form (word ∷ []) command found = absurd (cc)
command_form (word ∷ clients ∷ []) command found = absurd (cc)
command_form (word ∷ clients ∷ ops ∷ []) command found = absurd (cc)
command_form (word ∷ clients ∷ ops ∷ key ∷ []) command found = absurd (cc)
command_form (word ∷ clients ∷ ops ∷ key ∷ detail ∷ []) command found = live_form word clients ops key detail command found
command_form (word ∷ clients ∷ ops ∷ key ∷ detail ∷ more ∷ words) command found = absurd (cc)

-- The command is read from its form.
command_read : (command : LiveCommand) → IsInRange command → command_of (words_of command) ≡ Some command
command_read command is =
    let n_fits : command.clients < 2 ^ 64 = let few = is.few_clients in omega (arith, few) in
    let o_fits : command.ops < 2 ^ 64 = let few = is.few_operations in omega (arith, few) in
    let n_is : number_of (decimal command.clients) ≡ Some command.clients =
    (numbers_are (decimal command.clients) command.clients).1 (n_fits, refl) in
    let o_is : number_of (decimal command.ops) ≡ Some command.ops = (numbers_are (decimal command.ops) command.ops).1 (o_fits, refl) in
    given_from (number_between (decimal command.clients) 2 8) (number_between (decimal command.ops) 1 1000)
    (key_of (encode_lower command.key)) (detail_of (detail_word command.detail)) command (record {
      clients_is = ap (between 2 8) n_is ∙ between_from 2 8 command.clients is.two_clients is.few_clients;
      ops_is = ap (between 1 1000) o_is ∙ between_from 1 1000 command.ops is.one_operation is.few_operations;
      key_is = key_from command.key is.key_sized is.key_bytes;
      detail_is = detail_from command.detail;
    })

pub form_command : (words : List (List ℕ)) (command : LiveCommand) → IsForm words command → command_of words ≡ Some command
form_command words command form = ap command_of form.words_are ∙ command_read command form.in_range

pub one_command : (words : List (List ℕ)) (command other : LiveCommand) → IsForm words command → IsForm words other → command ≡ other
one_command words command other form also =
    let same : Some command ≡ Some other = sym (form_command words command form) ∙ form_command words other also in cc

pub no_form : (words : List (List ℕ)) → command_of words ≡ None → IsNoForm words
no_form words none = λ command form. let found = form_command words command form in absurd (cc)

-- What reading the words answers.
found-form : (words : List (List ℕ)) (found : Option LiveCommand) → found ≡ command_of words
    → IfSome found (λ command. IsForm words command)
found-form words None is = tt
found-form words (Some command) is = command_form words command (sym is)

found-none : (words : List (List ℕ)) (found : Option LiveCommand) → found ≡ command_of words → IfNone found (IsNoForm words)
found-none words None is = no_form words (sym is)
found-none words (Some command) is = tt

pub read-form : (words : List (List ℕ)) (r : Result (Option LiveCommand) OutOfMemory) → IfOk r (λ found. found ≡ command_of words)
    → IfOk r (λ found. IfSome found (λ command. IsForm words command))
read-form words (Ok found) is = found-form words found is
read-form words (Err e) is = tt

pub read-none : (words : List (List ℕ)) (r : Result (Option LiveCommand) OutOfMemory) → IfOk r (λ found. found ≡ command_of words)
    → IfOk r (λ found. IfNone found (IsNoForm words))
read-none words (Ok found) is = found-none words found is
read-none words (Err e) is = tt

-- A number of clients fits a byte.
pub few_clients : (word : List ℕ) (n : ℕ) → number_between word 2 8 ≡ Some n → n ≤ 8
few_clients word n found = (between_parts 2 8 (number_of word) n found).to

-- What the clients share is in range.
pub config_in_range : (command : LiveCommand) → IsInRange command → IsConfig (config_of command)
config_in_range command is = record {
  clients_count = record { at_least_two = is.two_clients; at_most_32 = let few = is.few_clients in omega (arith, few) };
  key_sized = is.key_sized;
  delta_span = record { from_one = omega arith; below = omega arith };
  dummy_span = record { from_one = omega arith; below = omega arith };
  wire_known = record { from_one = omega arith; to_two = omega arith };
}
