-- What is gathered of two clients that did nothing, whatever their users were told.
use Rattle.std.proofs.Common.{◌≡◌, ◌∙◌, ℕ, ◌++◌, ltb, List, [], ◌∷◌, length, refl, sym, ap, subst, arith}
use Rattle.std.proofs.lemmas.Bool.{cond-false, le-ltb}
use Rattle.faust_types.specs.Clients.{IsClient}
use Rattle.faust_types.specs.declared.arrival.Arrival.{Arrival}
use Rattle.faust_record.specs.Journals.{AreJournals, IsJournal, Log, first_log}
use Rattle.faust_record.specs.Merging.{AreEachBelow, AreOfConfig, HoldsEachBelow, gathered, numbers_of}
use Rattle.faust_record.specs.declared.entry.Entry.{Entry}
use Rattle.faust_node.specs.declared.receipt.Receipt.{Receipt}
use Rattle.faust_outcome.specs.declared.gathered.Gathered.{Gathered}
use Rattle.faust_outcome.specs.declared.words.LiveCommand.{LiveCommand}
use Rattle.faust_outcome.specs.Gathering.{IsGathered}
use Rattle.faust_outcome.specs.UserLists.{AreAllTold, AreTold}
use Rattle.faust_outcome.specs.Words.{IsInRange, config_of}
use Rattle.faust_outcome.proofs.WordLaws.{config_in_range}

-- A list that two things were pushed to.
pub two-pushed : {X : Type 0} (none one two : List X) (first second : X) → none ≡ [] → one ≡ none ++ first ∷ []
    → two ≡ one ++ second ∷ [] → two ≡ first ∷ second ∷ []
two-pushed {X} none one two first second start once twice =
    twice ∙ ap (λ (l : List X). l ++ second ∷ []) (once ∙ ap (λ (l : List X). l ++ first ∷ []) start)

-- Of two users, the second was told nothing.
told-nothing : (n ops i : ℕ) → AreTold n ops i []
told-nothing n ops i = record { listed = tt; few = omega arith; printable = tt }

pub both-told : (command : LiveCommand) (first second : List Receipt) → command.clients ≡ 2 → command.ops ≡ 1 → AreTold 2 1 1 first
    → second ≡ [] → AreAllTold command.clients command.ops 1 (first ∷ second ∷ [])
both-told command first second two one told none = (
  subst (λ (n : ℕ). AreTold n command.ops 1 first) (sym two) (subst (λ (ops : ℕ). AreTold 2 ops 1 first) (sym one) told),
  (subst (AreTold command.clients command.ops 2) (sym none) (told-nothing command.clients command.ops 2), tt),
)

-- Journals without entries, and no arrivals.
empty-journal : (command : LiveCommand) (me : ℕ) → IsInRange command → command.clients ≡ 2 → IsClient 2 me
    → IsJournal (first_log (config_of command) me)
empty-journal command me range two client = record {
  config_in_range = config_in_range command range;
  me_in_range = subst (λ (n : ℕ). IsClient n me) (sym two) client;
  few = omega arith;
  own = tt;
  rising = tt;
  obeyed = tt;
}

no-numbers : HoldsEachBelow 0 []
no-numbers x = sym (cond-false (ltb x 0) 1 0 (le-ltb x 0 (omega arith)))

pub idle-gathered : (command : LiveCommand) (it : Gathered) (first second : ℕ) → IsInRange command → command.clients ≡ 2
    → IsClient 2 first → IsClient 2 second
    → it.journals ≡ first_log (config_of command) first ∷ first_log (config_of command) second ∷ []
    → it.arrivals ≡ [] → length it.receipts ≡ 2 → AreAllTold command.clients command.ops 1 it.receipts
    → IsGathered command it
idle-gathered command it first second range two is_first is_second journals arrivals users told =
    let logs : List Log = first_log (config_of command) first ∷ first_log (config_of command) second ∷ [] in
    let none : length it.arrivals ≡ 0 = ap (length {A = Arrival}) arrivals in
    let empty : gathered it.journals it.arrivals ≡ [] =
    ap (λ (l : List Log). gathered l it.arrivals) journals ∙ ap (gathered logs) arrivals in
    let kept : AreJournals logs = (
      empty-journal command first range two is_first,
      (empty-journal command second range two is_second, tt),
    ) in
    let one_config : AreOfConfig (config_of command) logs = (refl, (refl, tt)) in
    record {
      as_many = ap (length {A = Log}) journals ∙ sym two;
      kept = subst AreJournals (sym journals) kept;
      one_config = subst (AreOfConfig (config_of command)) (sym journals) one_config;
      few_arrivals = omega (arith, none);
      numbered = subst (λ (l : List Entry). AreEachBelow (numbers_of l)) (sym empty) (record { count = 0; each_once = no-numbers });
      as_many_users = users ∙ sym two;
      told = told;
    }
