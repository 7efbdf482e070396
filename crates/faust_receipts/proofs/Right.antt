-- No line comes exactly where every receipt is a completion.
use Rattle.std.proofs.Common.{◌≡◌, ◌↔◌, ℕ, ◌+◌, ◌^◌, ◌<◌, ◌≤◌, ◌==◌, zero, suc, Bool, true, false, cond, List, [], ◌∷◌, ◌++◌, length, Option, Some, None, IfSome, IsSomeAnd, option_map, option_to_list, refl, sym, ap, ◌∙◌, subst, arith}
use Rattle.std.specs.Prelude.{slice_get}
use Rattle.std.specs.Str.{bytes_eq}
use Rattle.std.proofs.lemmas.Bool.{both_ways, cond-true}
use Rattle.std.proofs.lemmas.Slice.Eq.{bytes_eq-Decides}
use Rattle.faust_types.specs.Clients.{IsClient}
use Rattle.faust_types.specs.declared.config.Config.{Config}
use Rattle.faust_types.specs.declared.operation.Answer.{Answer}
use Rattle.faust_types.specs.declared.operation.OpName.{OpName}
use Rattle.faust_record.specs.Operations.{Finished, Started, finished_among, started_among}
use Rattle.faust_record.specs.Runs.{AreNumbered, IsRun, entries_of}
use Rattle.faust_record.specs.declared.entry.Entry.{Entry}
use Rattle.faust_report.specs.Text.{done_line}
use Rattle.faust_receipts.specs.Lines.{due_line, first_differing, first_differing_of, or_later, told_line}
use Rattle.faust_receipts.specs.Receipts.{AreAllCompletions, AreAllPrintable, AreCompletions, ArePrintable, IsCompletion, IsPrintable}
use Rattle.faust_node.specs.Answers.{IsUserAnswer}
use Rattle.faust_receipts.specs.UserOperations.{user_completion}
use Rattle.faust_node.specs.declared.receipt.Receipt.{Receipt}
use Rattle.faust_receipts.proofs.Ordered.{AreTold, IsToldOf, told-in-run}
use Rattle.faust_receipts.proofs.Passing.{not-none}
use Rattle.faust_receipts.proofs.Printed.{IsOneLine, done-line-one}
use Rattle.faust_receipts.proofs.Told.{completion-told, told-own, user_finished}

-- numbers of entries
abbrev AreBelow : ℕ → List Entry → Type 0
AreBelow m [] = Unit {0}
AreBelow m (entry ∷ rest) = (entry.number < m) × AreBelow m rest

abbrev AreEndedBelow : ℕ → List Finished → Type 0
AreEndedBelow m [] = Unit {0}
AreEndedBelow m (finished ∷ rest) = (finished.number < m) × AreEndedBelow m rest

numbered-below : (q m : ℕ) (entries : List Entry) → AreNumbered q entries → q + length entries ≤ m → AreBelow m entries
numbered-below q m [] numbered fits = tt
numbered-below q m (entry ∷ rest) numbered fits =
    (omega (arith, numbered.0, fits), numbered-below (suc q) m rest numbered.1 (omega (arith, fits)))

ended-more : (m number : ℕ) (answer : Option Answer) (rest : List Finished) → number < m → AreEndedBelow m rest
    → AreEndedBelow m (option_to_list (option_map (λ (a : Answer). record { answer = a; number = number }) answer) ++ rest)
ended-more m number None rest below more = more
ended-more m number (Some answer) rest below more = (below, more)

ended-of : (m : ℕ) (entry : Entry) (own : List Entry) (b : Bool) → entry.number < m → AreEndedBelow m (finished_among own)
    → AreEndedBelow m (finished_among (cond b (entry ∷ own) own))
ended-of m entry own true below rest = ended-more m entry.number entry.outcome.answer (finished_among own) below rest
ended-of m entry own false below rest = rest

ended-below : (m i : ℕ) (entries : List Entry) → AreBelow m entries → AreEndedBelow m (finished_among (entries_of i entries))
ended-below m i [] below = tt
ended-below m i (entry ∷ rest) below =
    ended-of m entry (entries_of i rest) (entry.client == i) below.0 (ended-below m i rest below.1)

-- What a user of client me is told by the record.
record IsTelling (n me : ℕ) (finished : Finished) : Type 0 where
  user : IsUserAnswer finished.answer
  printable : IsPrintable finished.number finished.answer

finished-same : (a b : Finished) → (let left : Option Finished = Some a in left ≡ Some b) → a ≡ b
finished-same a b h = cc

telling-of : (n me t : ℕ) (started : Started) (finished : Finished) → IsClient n me → n ≤ 32 → finished.number < 2 ^ 64
    → IsToldOf n me t started finished → finished.answer.op.dummy ≡ false → IsTelling n me finished
telling-of n me t started finished client few below told asked = record {
  user = record { asked = asked; plain = told.plain };
  printable = record {
    number_fits = below;
    client_fits = let named : finished.answer.op.name.client ≡ me = ap (λ (name : OpName). name.client) told.same_name in
        omega (arith, named, client.to_n, few);
    t_fits = omega (arith, told.answer.number_below);
    register_fits = omega (arith, told.answer.register_in_range.to_n, few);
    asof_fits = omega (arith, told.answer.asof_below);
    value_fits = told.answer.value_in_range;
  };
}

telling-at : (n me : ℕ) (dummy : Bool) (finished g : Finished) (due : List Finished) (u : ℕ) → (dummy ≡ false → IsTelling n me finished)
    → ((v : ℕ) → slice_get due v ≡ Some g → IsTelling n me g) → slice_get (cond dummy due (finished ∷ due)) u ≡ Some g → IsTelling n me g
telling-at n me true finished g due u here later is = later u is
telling-at n me false finished g due zero here later is = subst (IsTelling n me) (finished-same finished g is) (here refl)
telling-at n me false finished g due (suc u) here later is = later u is

telling-each : (n me t : ℕ) (began : List Started) (ended : List Finished) (u : ℕ) (g : Finished) → IsClient n me → n ≤ 32
    → AreTold n me t began ended → AreEndedBelow (2 ^ 64) ended → slice_get (user_finished ended) u ≡ Some g → IsTelling n me g
telling-each n me t [] [] zero g client few told below is = absurd (cc)
telling-each n me t [] [] (suc u) g client few told below is = absurd (cc)
telling-each n me t (started ∷ began) [] zero g client few told below is = absurd (cc)
telling-each n me t (started ∷ began) [] (suc u) g client few told below is = absurd (cc)
telling-each n me t [] (finished ∷ ended) u g client few told below is = absurd told
telling-each n me t (started ∷ began) (finished ∷ ended) u g client few told below is =
    telling-at n me finished.answer.op.dummy finished g (user_finished ended) u
    (λ asked. telling-of n me t started finished client few below.0 told.0 asked)
    (λ v there. telling-each n me (suc t) began ended v g client few told.1 below.1 there) is

telling-some : (n me : ℕ) (due : Option Finished) → ((g : Finished) → due ≡ Some g → IsTelling n me g) → IfSome due (IsTelling n me)
telling-some n me None h = tt
telling-some n me (Some g) h = h g refl

completion-tells : (config : Config) (entries : List Entry) (i u : ℕ) → IsRun config entries → length entries < 2 ^ 64
    → IsClient config.clients i → IfSome (user_completion entries i u) (IsTelling config.clients i)
completion-tells config entries i u run sized client =
    telling-some config.clients i (user_completion entries i u)
    (λ g is. telling-each config.clients i 1 (started_among (entries_of i entries)) (finished_among (entries_of i entries)) u g client
    run.config_in_range.clients_count.at_most_32 (told-in-run config entries i run client)
    (ended-below (2 ^ 64) i entries (numbered-below 0 (2 ^ 64) entries run.numbered (omega (arith, sized))))
    (ap (λ (l : List Finished). slice_get l u) (sym (told-own i entries))
    ∙ sym (completion-told config entries i u run client) ∙ is))

-- one receipt
right-one : (n me : ℕ) (receipt : Receipt) (due : Option Finished) → IsPrintable receipt.number receipt.answer
    → IfSome due (IsTelling n me) → bytes_eq (told_line receipt) (due_line due) ≡ true → IsSomeAnd due (IsCompletion receipt)
right-one n me receipt None fits tells same = absurd (both_ways _ (not-none receipt.number receipt.answer) same)
right-one n me receipt (Some finished) fits tells same =
    let one : IsOneLine receipt.number finished.number receipt.answer finished.answer =
    done-line-one receipt.number finished.number receipt.answer finished.answer receipt.kept tells.user fits tells.printable
    ((bytes_eq-Decides (told_line receipt) (due_line (Some finished))).0 same) in
    record { same_number = one.same_number; same_answer = one.same_answer }

wrong-one : (receipt : Receipt) (due : Option Finished) → IsSomeAnd due (IsCompletion receipt)
    → bytes_eq (told_line receipt) (due_line due) ≡ true
wrong-one receipt None is = absurd is
wrong-one receipt (Some finished) is =
    (bytes_eq-Decides (told_line receipt) (due_line (Some finished))).1
    (ap (λ (k : ℕ). done_line k receipt.answer) is.same_number ∙ ap (done_line finished.number) is.same_answer)

-- What it says that no line comes, for one and then the others.
record AreBothNone (same : Bool) (later : Option (List ℕ)) : Type 0 where
  is_same : same ≡ true
  none_later : later ≡ None

none-both : (same : Bool) (later : Option (List ℕ)) (line : List ℕ) → cond same later (Some line) ≡ None → AreBothNone same later
none-both true later line none = record { is_same = refl; none_later = none }
none-both false later line none = absurd (cc)

right-user : (config : Config) (entries : List Entry) (i u : ℕ) (receipts : List Receipt) → IsRun config entries
    → length entries < 2 ^ 64 → IsClient config.clients i → ArePrintable receipts → first_differing entries i u receipts ≡ None
    → AreCompletions entries i u receipts
right-user config entries i u [] run sized client fits none = tt
right-user config entries i u (receipt ∷ rest) run sized client fits none =
    let both = none-both _ _ _ none in (
      right-one config.clients i receipt (user_completion entries i u) fits.0 (completion-tells config entries i u run sized client)
          both.is_same,
      right-user config entries i (suc u) rest run sized client fits.1 both.none_later,
    )

user-is-right : (entries : List Entry) (i u : ℕ) (receipts : List Receipt) → AreCompletions entries i u receipts
    → first_differing entries i u receipts ≡ None
user-is-right entries i u [] are = refl
user-is-right entries i u (receipt ∷ rest) are =
    cond-true _ _ _ (wrong-one receipt (user_completion entries i u) are.0) ∙ user-is-right entries i (suc u) rest are.1

-- all users
record AreNone (first later : Option (List ℕ)) : Type 0 where
  first_none : first ≡ None
  later_none : later ≡ None

or-none : (first later : Option (List ℕ)) → or_later first later ≡ None → AreNone first later
or-none None later none = record { first_none = refl; later_none = none }
or-none (Some line) later none = absurd (cc)

right-users : (config : Config) (entries : List Entry) (i : ℕ) (all : List (List Receipt)) → IsRun config entries
    → length entries < 2 ^ 64 → 1 ≤ i → i + length all ≤ config.clients + 1 → AreAllPrintable all
    → first_differing_of entries i all ≡ None → AreAllCompletions entries i all
right-users config entries i [] run sized one counted fits none = tt
right-users config entries i (receipts ∷ rest) run sized one counted fits none =
    let both = or-none _ _ none in (
      right-user config entries i 0 receipts run sized (record { from_one = one; to_n = omega (arith, counted) }) fits.0 both.first_none,
      right-users config entries (suc i) rest run sized (omega arith) (omega (arith, counted)) fits.1 both.later_none,
    )

users-are-right : (entries : List Entry) (i : ℕ) (all : List (List Receipt)) → AreAllCompletions entries i all
    → first_differing_of entries i all ≡ None
users-are-right entries i [] are = refl
users-are-right entries i (receipts ∷ rest) are =
    ap (λ (o : Option (List ℕ)). or_later o (first_differing_of entries (suc i) rest)) (user-is-right entries i 0 receipts are.0)
    ∙ users-are-right entries (suc i) rest are.1

pub receipts_are_right : (config : Config) (entries : List Entry) (all : List (List Receipt)) → IsRun config entries
    → length entries < 2 ^ 64 → length all ≡ config.clients → AreAllPrintable all
    → (first_differing_of entries 1 all ≡ None) ↔ AreAllCompletions entries 1 all
receipts_are_right config entries all run sized counted fits =
    (λ none. right-users config entries 1 all run sized (omega arith) (omega (arith, counted)) fits none, users-are-right entries 1 all)
