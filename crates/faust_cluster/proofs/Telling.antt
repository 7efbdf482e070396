-- What users are told, one more receipt and one more user.
use Rattle.std.proofs.Common.{◌≡◌, ℕ, zero, suc, ◌+◌, ◌-◌, ◌<◌, List, [], ◌∷◌, ◌++◌, length, set, refl, sym, ap, subst, ◌∙◌, arith}
use Rattle.std.specs.Prelude.{slice_set}
use Rattle.std.proofs.lemmas.List.{length-append, length-set}
use Rattle.faust_types.specs.Clients.{IsClient}
use Rattle.faust_node.specs.declared.receipt.Receipt.{Receipt}
use Rattle.faust_receipts.specs.Receipts.{ArePrintable, IsPrintable}
use Rattle.faust_outcome.specs.UserLists.{AreAllTold, AreListed, AreTold, IsListed, is_write_turn}
use Rattle.faust_cluster.specs.Casting.{AreUsersTold}

listed-more : (n i place : ℕ) (receipts : List Receipt) (receipt : Receipt) → AreListed n i place receipts
    → IsListed n i (is_write_turn (place + length receipts)) receipt.answer.op → AreListed n i place (receipts ++ receipt ∷ [])
listed-more n i place [] receipt listed one =
    (subst (λ (k : ℕ). IsListed n i (is_write_turn k) receipt.answer.op) (omega arith) one, tt)
listed-more n i place (first ∷ rest) receipt listed one = (
  listed.0,
  listed-more n i (suc place) rest receipt listed.1
      (subst (λ (k : ℕ). IsListed n i (is_write_turn k) receipt.answer.op) (omega arith) one),
)

printable-more : (receipts : List Receipt) (receipt : Receipt) → ArePrintable receipts → IsPrintable receipt.number receipt.answer
    → ArePrintable (receipts ++ receipt ∷ [])
printable-more [] receipt each one = (one, tt)
printable-more (first ∷ rest) receipt each one = (each.0, printable-more rest receipt each.1 one)

-- What a user was told so far: of its first operations.
pub record AreToldSoFar (n ops i place : ℕ) (receipts : List Receipt) : Type 0 where
  pub told : AreTold n ops i receipts
  pub sized : length receipts ≡ place

pub none-told : (n ops i : ℕ) → AreTold n ops i []
none-told n ops i = record { listed = tt; few = omega arith; printable = tt }

pub none-told-yet : (n ops i : ℕ) (receipts : List Receipt) → receipts ≡ [] → AreToldSoFar n ops i 0 receipts
none-told-yet n ops i receipts none =
    subst (λ (l : List Receipt). AreToldSoFar n ops i 0 l) (sym none) (record { told = none-told n ops i; sized = refl })

pub one-told : (n ops i place : ℕ) (receipts more : List Receipt) (receipt : Receipt) → AreToldSoFar n ops i place receipts → place < ops
    → IsListed n i (is_write_turn place) receipt.answer.op → IsPrintable receipt.number receipt.answer
    → more ≡ receipts ++ receipt ∷ [] → AreToldSoFar n ops i (place + 1) more
one-told n ops i place receipts more receipt is within listed printable appended =
    let longer : length (receipts ++ receipt ∷ []) ≡ place + 1 =
    length-append receipts (receipt ∷ []) ∙ ap (λ (k : ℕ). k + 1) is.sized in
    subst (λ (l : List Receipt). AreToldSoFar n ops i (place + 1) l) (sym appended) (record {
      told = record {
        listed = listed-more n i 0 receipts receipt is.told.listed
            (subst (λ (k : ℕ). IsListed n i (is_write_turn k) receipt.answer.op)
            (let at : place ≡ 0 + length receipts = omega (arith, is.sized) in at) listed);
        few = omega (arith, longer, within);
        printable = printable-more receipts receipt is.told.printable printable;
      };
      sized = longer;
    })

-- the lists of users
set-told : (n ops i place : ℕ) (lists : List (List Receipt)) (receipts : List Receipt) → AreAllTold n ops i lists
    → AreTold n ops (i + place) receipts → AreAllTold n ops i (set lists place receipts)
set-told n ops i place [] receipts all one = tt
set-told n ops i zero (first ∷ rest) receipts all one =
    (subst (λ (k : ℕ). AreTold n ops k receipts) (omega arith) one, all.1)
set-told n ops i (suc place) (first ∷ rest) receipts all one =
    (all.0, set-told n ops (suc i) place rest receipts all.1 (subst (λ (k : ℕ). AreTold n ops k receipts) (omega arith) one))

pub user-told : (n ops client : ℕ) (lists after : List (List Receipt)) (receipts : List Receipt) → AreUsersTold n ops lists
    → IsClient n client → AreTold n ops client receipts → after ≡ slice_set lists (client - 1) receipts → AreUsersTold n ops after
user-told n ops client lists after receipts all within one is =
    subst (λ (l : List (List Receipt)). AreUsersTold n ops l) (sym is) (record {
      as_many = length-set lists (client - 1) receipts ∙ all.as_many;
      told = set-told n ops 1 (client - 1) lists receipts all.told
          (subst (λ (k : ℕ). AreTold n ops k receipts) (omega (arith, within.from_one)) one);
    })

all-more : (n ops i : ℕ) (lists : List (List Receipt)) (receipts : List Receipt) → AreAllTold n ops i lists
    → AreTold n ops (i + length lists) receipts → AreAllTold n ops i (lists ++ receipts ∷ [])
all-more n ops i [] receipts all one = (subst (λ (k : ℕ). AreTold n ops k receipts) (omega arith) one, tt)
all-more n ops i (first ∷ rest) receipts all one =
    (all.0, all-more n ops (suc i) rest receipts all.1 (subst (λ (k : ℕ). AreTold n ops k receipts) (omega arith) one))

-- The lists of the first users.
pub record AreSomeTold (n k ops : ℕ) (lists : List (List Receipt)) : Type 0 where
  pub as_many : length lists ≡ k
  pub told : AreAllTold n ops 1 lists

pub no-users : (n ops : ℕ) (lists : List (List Receipt)) → lists ≡ [] → AreSomeTold n 0 ops lists
no-users n ops lists none =
    subst (λ (l : List (List Receipt)). AreSomeTold n 0 ops l) (sym none) (record { as_many = refl; told = tt })

pub empty-user : (n k ops : ℕ) (lists more : List (List Receipt)) (empty : List Receipt) → AreSomeTold n k ops lists → empty ≡ []
    → more ≡ lists ++ empty ∷ [] → AreSomeTold n (k + 1) ops more
empty-user n k ops lists more empty all none is = subst (λ (l : List (List Receipt)). AreSomeTold n (k + 1) ops l) (sym is) (record {
  as_many = length-append lists (empty ∷ []) ∙ ap (λ (m : ℕ). m + 1) all.as_many;
  told = all-more n ops 1 lists empty all.told
      (subst (λ (l : List Receipt). AreTold n ops (1 + length lists) l) (sym none) (none-told n ops (1 + length lists)));
})

pub all-users : (n ops : ℕ) (lists : List (List Receipt)) → AreSomeTold n n ops lists → AreUsersTold n ops lists
all-users n ops lists some = record { as_many = some.as_many; told = some.told }
