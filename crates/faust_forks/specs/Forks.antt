-- The fork of a completion, and what is kept of all completions: the chain lemma is stated here. A promise on forks,
-- views and cuts rests on this file.
use Rattle.std.specs.Prelude.{◌≡◌, ℕ, ◌<◌, ◌≤◌, ◌⊎◌, suc, true, List, Option, None, Some, IfSome}
use Rattle.faust_types.specs.Clients.{IsClient}
use Rattle.faust_types.specs.Ranges.{IsOperationNumber, IsReplyFor}
use Rattle.faust_types.specs.Versions.{Vector, digest_at, initial, is_initial, timestamp_at}
use Rattle.faust_types.specs.declared.operation.Operation.{Operation}
use Rattle.faust_types.specs.declared.message.Reply.{Reply}
use Rattle.faust_hash.specs.Chain.{value_input}
use Rattle.faust_ustor.specs.Checks.{digest_of}
use Rattle.faust_ustor.specs.Hashed.{all_inputs}
use Rattle.faust_ustor.specs.InRange.{IsPendingOf}
use Rattle.faust_ustor.specs.Passed.{IsPassed}
use Rattle.faust_lists.specs.Lists.{AreClients, EndsWith, count, last_to, upto}
use Rattle.faust_lists.specs.Names.{Has}
use Rattle.faust_lists.specs.Walks.{AreHashed, IsFree, IsVersionOf}
use Rattle.faust_forks.specs.Books.{Began, Begun, Came, Completed, Done, find, find_begun}
use Rattle.faust_forks.specs.Sources.{AreSources, Source, of_commit, of_data, of_peer, of_proof, of_submit}
use Rattle.faust_forks.specs.Pairs.{AreMade, checked}
use Rattle.faust_forks.specs.Pasts.{Past}
use Rattle.faust_forks.specs.Answers.{AreBegunTo, IsWritten, written, written_by}

-- Each operation in the history, but the last of its client, completed, and its fork is the front that ends with it.
abbrev pub IsSettled : ℕ → List Done → List ℕ → Type 0
IsSettled n book w = (k t : ℕ) → IsClient n k → 1 ≤ t → t < count k w → Completed book k t (λ done. done.fork ≡ upto k t w)

-- So is the last one of client k, if there is one.
abbrev pub IsAnchored : List Done → ℕ → List ℕ → Type 0
IsAnchored book k w = (count k w ≡ 0) ⊎ Completed book k (count k w) (λ done. done.fork ≡ last_to k w)

-- Each operation in the history began before the entry.
abbrev pub AreBegun : ℕ → List Begun → ℕ → List ℕ → Type 0
AreBegun n started entry w = (k t : ℕ) → IsClient n k → 1 ≤ t → t ≤ count k w → Began started k t (λ begun. begun.entry < entry)

-- A history that an entry may come to know: its operations are of n clients, began before, are settled, and its chains
-- were hashed.
pub record IsFork (n : ℕ) (past : Past) (entry : ℕ) (w : List ℕ) : Type 0 where
  pub clients : AreClients n w
  pub settled : IsSettled n past.book w
  pub begun_before : AreBegun n past.started entry w
  pub chains : AreHashed past.hashed w

-- The version of client k is that of a history which the entry may know, and which ends with k or is empty.
pub record IsHistoryOf (n : ℕ) (past : Past) (entry k : ℕ) (v : Vector) (w : List ℕ) : Type 0 where
  pub version : IsVersionOf n v w
  pub fork : IsFork n past entry w
  pub whole : last_to k w ≡ w

-- A version of client k is initial, or that of a completion of the client.
abbrev pub IsBooked : List Done → ℕ → Vector → Type 0
IsBooked book k v = (is_initial v ≡ true) ⊎ Completed book k (timestamp_at v k) (λ done. done.version ≡ v)

-- A completion is sound: its fork ends with it, its version is that of its fork, and its fork is a history that its
-- entry may know.
pub record IsSound (n : ℕ) (past : Past) (done : Done) : Type 0 where
  pub ends : EndsWith done.client done.fork
  pub counted : count done.client done.fork ≡ done.number
  pub version : IsVersionOf n done.version done.fork
  pub fork : IsFork n past done.entry done.fork

-- Each completion in the book is sound.
abbrev pub IsBook : ℕ → Past → Type 0
IsBook n past = (k t : ℕ) (done : Done) → find past.book k t ≡ Some done → IsSound n past done

-- Where a body that was made comes from: from a begin, or from a completion. A message between clients may say
-- anything.
abbrev pub IsExplained : List Begun → List Done → Source → Type 0
IsExplained started book (of_submit k kind register t) =
    Began started k t (λ begun. (begun.kind ≡ kind) × (begun.register ≡ register))
IsExplained started book (of_data k t digest) = IsWritten started k t digest
IsExplained started book (of_commit k v) = Completed book k (timestamp_at v k) (λ done. done.version ≡ v)
IsExplained started book (of_proof k digest) = Came book k (λ done. digest_at done.version k ≡ Some digest)
IsExplained started book (of_peer message) = Unit {0}

-- What holds before an entry where no tag was forged: no two hashed inputs have one digest, the book is sound, what
-- was made is in range and explained, what began and what completed did so before, and each value that a write has was
-- hashed.
pub record IsGround (n : ℕ) (past : Past) : Type 0 where
  pub free : IsFree past.hashed
  pub sound : IsBook n past
  pub sources : AreSources n past.made
  pub explained : (source : Source) → Has past.made source → IsExplained past.started past.book source
  pub begun_before : (k t : ℕ) (begun : Begun) → find_begun past.started k t ≡ Some begun → begun.entry < past.entry
  pub done_before : (k t : ℕ) (done : Done) → find past.book k t ≡ Some done → done.entry < past.entry
  pub values : (k t : ℕ) (begun : Begun) → find_begun past.started k t ≡ Some begun
      → IfSome begun.value (λ value. Has past.hashed (value_input value))

-- The version that client me holds as its own: the initial one, or that of its last completion, which has the own
-- timestamp as its number.
pub record IsOwn (n : ℕ) (book : List Done) (me : ℕ) (own : Vector) : Type 0 where
  pub held : (own ≡ initial n) ⊎ Completed book me (timestamp_at own me) (λ done. done.version ≡ own)
  pub last : (t : ℕ) → timestamp_at own me < t → find book me t ≡ None

-- The operation that client me waits for began, as what it is.
abbrev pub IsWaiting : List Begun → ℕ → Operation → Type 0
IsWaiting started me op = Began started me op.name.t (λ begun. (begun.kind ≡ op.kind) × (begun.register ≡ op.register))

-- Client me begins its next operation: all before it began, its value is hashed, and the digest is that of the value
-- written last, with this operation.
pub record IsBegin (past : Past) (me : ℕ) (op : Operation) (value digest : Option (List ℕ)) : Type 0 where
  pub number : IsOperationNumber op.name.t
  pub before : ℕ
  pub follows : op.name.t ≡ suc before
  pub fresh : find_begun past.started me op.name.t ≡ None
  pub begun_to : AreBegunTo past.started me before
  pub is_digest : digest ≡ digest_of (written_by op.kind value (written past.started me before))
  pub value_hashed : IfSome value (λ v. Has past.hashed (value_input v))

-- Client me, whose version is own, accepts the reply to the operation that it waits for: the reply breaks no check, no
-- tag of it is forged, and what is hashed for it is among the hashed inputs.
pub record IsAccepted (n : ℕ) (past : Past) (key : List ℕ) (me : ℕ) (own : Vector) (op : Operation) (reply : Reply) : Type 0 where
  pub client_in_range : IsClient n me
  pub reply_in_range : IsReplyFor n reply
  pub owned : IsOwn n past.book me own
  pub pending : IsPendingOf me own op
  pub waiting : IsWaiting past.started me op
  pub passed : IsPassed key me own op reply
  pub unforged : AreMade key past.made (checked reply)
  pub all_hashed : (x : List ℕ) → Has (all_inputs me reply) x → Has past.hashed x
