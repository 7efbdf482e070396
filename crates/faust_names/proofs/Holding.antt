-- Sound completions are a chronicle, and its views have all four properties.
use Rattle.std.proofs.Common.{◌≡◌, ℕ, ◌≤◌, List, Some}
use Rattle.faust_types.specs.declared.operation.Kind.TheVariants.{Write}
use Rattle.faust_forks.specs.Books.{Begun, Done, find_begun}
use Rattle.faust_forks.specs.Answers.{AreAnswered}
use Rattle.faust_forks.specs.Forks.{IsBook}
use Rattle.faust_forks.specs.Pasts.{Past}
use Rattle.faust_forks.proofs.Ordered.{found-of}
use Rattle.faust_names.specs.Views.{IsCausal, IsViewOf, IsWeakForkLinearizable, JoinAtMostOnce, KeepsWeakRealTime}
use Rattle.faust_names.specs.ForkViews.{history_of, is_kept, last_fork, view_of}
use Rattle.faust_names.specs.Chronicles.{IsChronicle}
use Rattle.faust_names.proofs.Last.{last-known}
use Rattle.faust_names.proofs.Viewed.{listed-distinct, listed-legal, listed-operations, listed-rising, view-own}
use Rattle.faust_names.proofs.Caused.{listed-causal}
use Rattle.faust_names.proofs.Joined.{listed-join, listed-real_time}

-- all of them, of the views of a chronicle
pub view-is : (n : ℕ) (started : List Begun) (book : List Done) (i : ℕ) → IsChronicle n started book
    → IsViewOf (history_of started book) i (view_of started book i)
view-is n started book i chronicle =
    let end = last-known n started book i chronicle in
    let keep = is_kept started book in
    let w = last_fork book i in
    record {
      operations = listed-operations n started book end.entry keep w end.known;
      once = listed-distinct keep w;
      rising = listed-rising keep w;
      own = view-own n started book i chronicle;
      legal = listed-legal n started book end.entry w chronicle end.known;
    }

pub view-causal : (n : ℕ) (started : List Begun) (book : List Done) (i : ℕ) → IsChronicle n started book
    → IsCausal (history_of started book) (view_of started book i)
view-causal n started book i chronicle =
    let end = last-known n started book i chronicle in
    listed-causal n started book end.entry (last_fork book i) chronicle end.known

pub view-real_time : (n : ℕ) (started : List Begun) (book : List Done) (i : ℕ) → IsChronicle n started book
    → KeepsWeakRealTime (history_of started book) (view_of started book i)
view-real_time n started book i chronicle =
    let end = last-known n started book i chronicle in
    listed-real_time n started book end.entry (last_fork book i) chronicle end.known

pub views-join : (n : ℕ) (started : List Begun) (book : List Done) (i j : ℕ) → IsChronicle n started book
    → JoinAtMostOnce (view_of started book i) (view_of started book j)
views-join n started book i j chronicle =
    let end_i = last-known n started book i chronicle in
    let end_j = last-known n started book j chronicle in
    listed-join n started book end_i.entry end_j.entry (is_kept started book) (last_fork book i) (last_fork book j) end_i.known end_j.known

pub views-hold : (n : ℕ) (started : List Begun) (book : List Done) → IsChronicle n started book
    → IsWeakForkLinearizable n (history_of started book) (view_of started book)
views-hold n started book chronicle = record {
  views = λ i client. view-is n started book i chronicle;
  causal = λ i client. view-causal n started book i chronicle;
  real_time = λ i client. view-real_time n started book i chronicle;
  joins = λ i j client_i client_j. views-join n started book i j chronicle;
}

-- what a sound book keeps of a completion, without its version
pub chronicle-from : (n : ℕ) (past : Past) → IsBook n past → AreAnswered past.started past.book
    → ((k t : ℕ) (begun : Begun) → find_begun past.started k t ≡ Some begun → 1 ≤ t)
    → ((k t : ℕ) (begun : Begun) → find_begun past.started k t ≡ Some begun → begun.kind ≡ Write → begun.register ≡ k)
    → IsChronicle n past.started past.book
chronicle-from n past sound answered numbered own_register = record {
  forks = λ k t done found.
      let of_k = found-of n past k t done sound found in
      let fork = (sound k t done found).fork in
      record {
        ends = of_k.ends;
        counted = of_k.counted;
        known = record { clients = fork.clients; settled = fork.settled; begun_before = fork.begun_before };
      };
  answered = answered;
  numbered = numbered;
  own_register = own_register;
}
