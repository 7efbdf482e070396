-- The history, the fork views and the views that a book of completions has. The promise on views and cuts is made of
-- these lists.
use Rattle.std.specs.Prelude.{ℕ, ◌==◌, ◌||◌, suc, max, Bool, true, false, cond, List, [], ◌∷◌, ◌++◌, Option, None, Some}
use Rattle.std.specs.Str.{bytes_eq}
use Rattle.faust_types.specs.declared.operation.Kind.{Kind}
use Rattle.faust_types.specs.declared.operation.Kind.TheVariants.{Write, Read}
use Rattle.faust_types.specs.declared.operation.OpName.{OpName}
use Rattle.faust_lists.specs.Lists.{count}
use Rattle.faust_lists.specs.Names.{name_of}
use Rattle.faust_forks.specs.Books.{Begun, Done, find, find_begun}
use Rattle.faust_forks.specs.Pasts.{fork_of}
use Rattle.faust_names.specs.Histories.{Finished, History}

-- What is seen of a completion: neither its version nor its fork.
abbrev pub seen : Option Done → Option Finished
seen None = None
seen (Some done) = Some (record { entry = done.entry; value = done.value; asof = done.asof })

-- The history of the operations that began, and of the book.
abbrev pub history_of : List Begun → List Done → History
history_of started book = record {
  began = λ (a : OpName). find_begun started a.client a.t;
  completed = λ (a : OpName). seen (find book a.client a.t);
}

-- The names of those operations of a fork that a test keeps, the first one first. The test is given the front that ends
-- with the operation.
abbrev pub listed : (List ℕ → Bool) → List ℕ → List OpName
listed keep [] = []
listed keep (k ∷ w) = cond (keep (k ∷ w)) (listed keep w ++ name_of k w ∷ []) (listed keep w)

-- The fork view of a completed operation: the names of all operations of its fork.
abbrev pub fork_view : List Done → OpName → List OpName
fork_view book a = listed (λ front. true) (fork_of (find book a.client a.t))

abbrev pub is_writing : Kind → Bool
is_writing Write = true
is_writing Read = false

-- The operation is a write.
abbrev pub is_write : Option Begun → Bool
is_write None = false
is_write (Some begun) = is_writing begun.kind

-- The operation completed, and its own fork is the given one.
abbrev pub has_fork : Option Done → List ℕ → Bool
has_fork None w = false
has_fork (Some done) w = bytes_eq done.fork w

-- The last operation of a front stays in a view: it is a write, or it completed and the front is its own fork.
abbrev pub is_kept : List Begun → List Done → List ℕ → Bool
is_kept started book [] = false
is_kept started book (k ∷ w) =
    is_write (find_begun started k (suc (count k w))) || has_fork (find book k (suc (count k w))) (k ∷ w)

-- The number of the last completed operation of client i; 0 where it completed nothing.
abbrev pub last_number : List Done → ℕ → ℕ
last_number [] i = 0
last_number (done ∷ book) i = cond (done.client == i) (max done.number (last_number book i)) (last_number book i)

-- The fork of the last completed operation of client i; nothing where it completed nothing.
abbrev pub last_fork : List Done → ℕ → List ℕ
last_fork book i = fork_of (find book i (last_number book i))

-- The view of client i: what stays of the fork view of its last completed operation.
abbrev pub view_of : List Begun → List Done → ℕ → List OpName
view_of started book i = listed (is_kept started book) (last_fork book i)
