-- Cuts of a chronicle whose covered completions stand in line are right.
use Rattle.std.proofs.Common.{◌≡◌, ℕ, Bool, List, [], ◌∷◌, ◌++◌, Option, None, Some, refl, sym, ap, ◌∙◌, inl, inr}
use Rattle.faust_types.specs.Clients.{IsClient}
use Rattle.faust_types.specs.declared.operation.OpName.{OpName}
use Rattle.faust_lists.specs.Lists.{AreAlong, IsTail}
use Rattle.faust_lists.specs.Names.{name_of, Has}
use Rattle.faust_lists.proofs.Tails.{tail-trans}
use Rattle.faust_forks.specs.Books.{Begun, Done, find}
use Rattle.faust_forks.specs.Pasts.{fork_of}
use Rattle.faust_forks.proofs.Settled.{ends-client}
use Rattle.faust_names.specs.Histories.{named, Precedes}
use Rattle.faust_names.specs.Views.{IsBefore}
use Rattle.faust_names.specs.Cuts.{IsCovered, IsLinearization, IsRightCut, IsRightUpTo, StandInLine}
use Rattle.faust_names.specs.ForkViews.{history_of, is_kept, last_fork, last_number, listed, view_of}
use Rattle.faust_names.specs.Chronicles.{IsBacked, IsChronicle}
use Rattle.faust_names.proofs.Listed.{listed-kept, placed, prefix-listed}
use Rattle.faust_names.proofs.Known.{began-within, own_fork, precedes-before, precedes-not, shown}
use Rattle.faust_names.proofs.Last.{last-front}
use Rattle.faust_names.proofs.Viewed.{listed-legal}

-- a completion whose fork stands in line with another one stands in that fork's view before what it precedes
pub along-before : (n : ℕ) (started : List Begun) (book : List Done) (w : List ℕ) (a b : OpName) (x : Done) → IsChronicle n started book
    → find book a.client a.t ≡ Some x → AreAlong x.fork w → Has (listed (is_kept started book) w) b
    → Precedes (history_of started book) a b → IsBefore (listed (is_kept started book) w) a b
along-before n started book w a b x chronicle found (inl front) has precedes =
    precedes-before n started book w a b x chronicle found front (placed (is_kept started book) w b has) precedes
along-before n started book w a b x chronicle found (inr around) has precedes =
    let keep = is_kept started book in
    let place = placed keep w b has in
    let within : IsTail (b.client ∷ place.older) x.fork = tail-trans (b.client ∷ place.older) w x.fork place.front around in
    absurd (precedes-not started book a b x precedes found
    (began-within n started book keep a.client a.t x w b chronicle found place within))

-- what stays of forks that stand in line stands in line
along-listed : (keep : List ℕ → Bool) (u w : List ℕ) → AreAlong u w → StandInLine (listed keep w) (listed keep u)
along-listed keep u w (inl front) = inr (prefix-listed keep u w front)
along-listed keep u w (inr front) = inl (prefix-listed keep w u front)

found-listed : (keep : List ℕ → Bool) (w : List ℕ) (found : Option Done) → ((x : Done) → found ≡ Some x → AreAlong x.fork w)
    → StandInLine (listed keep w) (listed keep (fork_of found))
found-listed keep w None each = inr tt
found-listed keep w (Some x) each = along-listed keep x.fork w (each x refl)

pub right-up_to : (n : ℕ) (started : List Begun) (book : List Done) (i t : ℕ) (cut : List ℕ) (done : Done) → IsChronicle n started book
    → find book i t ≡ Some done
    → ((k s : ℕ) (x : Done) → IsCovered n cut t k → find book k s ≡ Some x → AreAlong x.fork done.fork)
    → IsRightUpTo n (history_of started book) (view_of started book) i cut t
right-up_to n started book i t cut done chronicle found along =
    let keep = is_kept started book in
    let own = own_fork n started book i t done chronicle found in
    let name : name_of i own.older ≡ named i t = ap (λ (z : ℕ). named i z) (sym own.number) in
    record {
      front = listed keep done.fork;
      before = listed keep own.older;
      ends = ap (listed keep) own.fork ∙ listed-kept keep i own.older own.kept
          ∙ ap (λ (z : OpName). listed keep own.older ++ z ∷ []) name;
      is_front = prefix-listed keep done.fork (last_fork book i) (last-front n started book i t done chronicle found);
      legal = listed-legal n started book done.entry done.fork chronicle (chronicle.forks i t done found).known;
      real_time = λ a b covered has precedes.
          let is = shown started book a precedes.finished precedes.completed in
          along-before n started book done.fork a b is.done chronicle is.found (along a.client a.t is.done covered is.found) has precedes;
      in_line = λ k covered.
          found-listed keep done.fork (find book k (last_number book k)) (λ x is. along k (last_number book k) x covered is);
    }

pub right-cut : (n : ℕ) (started : List Begun) (book : List Done) (i : ℕ) (cut : List ℕ) → IsChronicle n started book
    → IsBacked n book i cut → IsRightCut n (history_of started book) (view_of started book) i cut
right-cut n started book i cut chronicle backed = λ t one le.
    let own = backed t one le in
    right-up_to n started book i t cut own.done chronicle own.found own.fits_it

-- where all clients are covered, the front is a linearization: whatever completed is of one of them
pub right-linear : (n : ℕ) (started : List Begun) (book : List Done) (i t : ℕ) (cut : List ℕ) → IsChronicle n started book
    → (right : IsRightUpTo n (history_of started book) (view_of started book) i cut t)
    → ((k : ℕ) → IsClient n k → IsCovered n cut t k) → IsLinearization (history_of started book) right.front
right-linear n started book i t cut chronicle right all = record {
  legal = right.legal;
  real_time = λ a b has precedes.
      let is = shown started book a precedes.finished precedes.completed in
      let of_a = chronicle.forks a.client a.t is.done is.found in
      right.real_time a b (all a.client (ends-client n a.client is.done.fork of_a.known.clients of_a.ends)) has precedes;
}
