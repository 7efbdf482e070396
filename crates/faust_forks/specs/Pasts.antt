-- What the entries of a run left behind them, and how one more adds to it. A promise on forks, views and cuts rests on
-- this file.
use Rattle.std.specs.Prelude.{ℕ, ◌+◌, ◌≤◌, suc, cond, List, [], ◌∷◌, Option, None, Some}
use Rattle.faust_types.specs.Versions.{Vector, is_initial, timestamp_at}
use Rattle.faust_types.specs.declared.operation.OpName.{OpName}
use Rattle.faust_types.specs.declared.operation.Operation.{Operation}
use Rattle.faust_types.specs.declared.message.PeerMessage.{PeerMessage}
use Rattle.faust_types.specs.declared.message.Reply.{Reply}
use Rattle.faust_ustor.specs.Passed.{clients_after, next_of, told}
use Rattle.faust_lists.specs.Lists.{count}
use Rattle.faust_lists.specs.Names.{Has}
use Rattle.faust_forks.specs.Books.{AreBegunIn, AreDoneIn, Begun, Done, find}
use Rattle.faust_forks.specs.Sources.{Source, of_commit, of_data, of_peer, of_proof, of_submit}

-- The operations that began and those that completed, the bodies that were made, the inputs that were hashed, and the
-- number of the entry that comes next.
pub record Past : Type 0 where
  pub started : List Begun
  pub book : List Done
  pub made : List Source
  pub hashed : List (List ℕ)
  pub entry : ℕ

abbrev pub first_past : Past
first_past = record { started = []; book = []; made = []; hashed = []; entry = 0 }

-- The fork of a completion that is found; nothing where none is.
abbrev pub fork_of : Option Done → List ℕ
fork_of None = []
fork_of (Some done) = done.fork

-- The history that a version of client k is of: nothing where it is initial, else the fork of the client's operation
-- that it counts last.
abbrev pub history_at : List Done → ℕ → Vector → List ℕ
history_at book k v = cond (is_initial v) [] (fork_of (find book k (timestamp_at v k)))

-- The history that the version of a reply is of.
abbrev pub base_of : List Done → Reply → List ℕ
base_of book reply = history_at book reply.c reply.version.version

-- The fork of the operation that client me completes by a reply: that history, the clients of the tuples, and the own
-- operation.
abbrev pub fork_after : List Done → ℕ → Reply → List ℕ
fork_after book me reply = me ∷ clients_after (base_of book reply) reply.pending

-- The names of operations that come after a version: numbered by counting on from its timestamps.
abbrev pub names_since : Vector → List ℕ → List OpName
names_since v [] = []
names_since v (k ∷ w) = record { client = k; t = suc (timestamp_at v k + count k w) } ∷ names_since v w

-- Client me begins an operation, a write of a value or a read; and completes it by a reply that breaks no check.
abbrev pub begun_at : Past → ℕ → Operation → Option (List ℕ) → Begun
begun_at past me op value = record {
  client = me;
  number = op.name.t;
  kind = op.kind;
  register = op.register;
  value = value;
  entry = past.entry;
}

abbrev pub done_at : Past → ℕ → Operation → Reply → Done
done_at past me op reply = record {
  client = me;
  number = op.name.t;
  entry = past.entry;
  version = next_of me reply;
  fork = fork_after past.book me reply;
  value = (told me reply).value;
  asof = (told me reply).asof;
}

-- An operation begins: a SUBMIT is made, and a body over the digest of the value that its client submitted last.
abbrev pub begun_in : Past → ℕ → Operation → Option (List ℕ) → Option (List ℕ) → Past
begun_in past me op value digest = record {
  started = begun_at past me op value ∷ past.started;
  book = past.book;
  made = of_submit me op.kind op.register op.name.t ∷ of_data me op.name.t digest ∷ past.made;
  hashed = past.hashed;
  entry = suc past.entry;
}

-- An operation completes: a COMMIT is made, of the new version and of the digest in the own place.
abbrev pub completed_in : Past → ℕ → Operation → Reply → List ℕ → Past
completed_in past me op reply digest = record {
  started = past.started;
  book = done_at past me op reply ∷ past.book;
  made = of_commit me (next_of me reply) ∷ of_proof me digest ∷ past.made;
  hashed = past.hashed;
  entry = suc past.entry;
}

-- A message goes to another client.
abbrev pub sent_in : Past → PeerMessage → Past
sent_in past message = record {
  started = past.started;
  book = past.book;
  made = of_peer message ∷ past.made;
  hashed = past.hashed;
  entry = past.entry;
}

-- Other inputs are hashed, and another entry comes next.
abbrev pub hashed_in : Past → List (List ℕ) → ℕ → Past
hashed_in past hashed entry = record {
  started = past.started;
  book = past.book;
  made = past.made;
  hashed = hashed;
  entry = entry;
}

-- Whatever is found, made or hashed stays so.
pub record IsLater (past later : Past) : Type 0 where
  pub begun_kept : AreBegunIn past.started later.started
  pub done_kept : AreDoneIn past.book later.book
  pub made_kept : (source : Source) → Has past.made source → Has later.made source
  pub hashed_kept : (input : List ℕ) → Has past.hashed input → Has later.hashed input
  pub comes_later : past.entry ≤ later.entry
