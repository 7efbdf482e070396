-- What clients do that keep to their table, and which messages they send. The promise on the honest server speaks of
-- such clients.
use Rattle.std.specs.Prelude.{◌≡◌, ℕ, zero, suc, true, List, Option, Some, None}
use Rattle.faust_types.specs.Versions.{digest_at}
use Rattle.faust_types.specs.declared.operation.Kind.{Kind}
use Rattle.faust_types.specs.declared.operation.Kind.TheVariants.{Write, Read}
use Rattle.faust_types.specs.declared.message.Submit.{Submit}
use Rattle.faust_types.specs.declared.message.Commit.{Commit}
use Rattle.faust_tags.specs.Bodies.{commit_body, data_body, submit_body, tag_of}
use Rattle.faust_ustor.specs.Checks.{digest_of, is_digest_proven}
use Rattle.faust_lists.specs.Walks.{IsVersionOf}

-- The key that the clients share, and what operation t of client k is: its kind, its register, and the value of a
-- write.
pub record World : Type 0 where
  pub key : List ℕ
  pub kind : ℕ → ℕ → Kind
  pub register : ℕ → ℕ → ℕ
  pub value : ℕ → ℕ → Option (List ℕ)

-- What stands in a register after an operation of its client.
abbrev pub written_by : Kind → Option (List ℕ) → Option (List ℕ) → Option (List ℕ)
written_by Write value before = value
written_by Read value before = before

-- The value that client k wrote last in its first t operations, or none.
abbrev pub written : World → ℕ → ℕ → Option (List ℕ)
written world k zero = None
written world k (suc t) = written_by (world.kind k (suc t)) (world.value k (suc t)) (written world k t)

-- The SUBMIT of operation t of client k, on which a COMMIT may ride.
abbrev pub submit_of : World → ℕ → ℕ → Option Commit → Submit
submit_of world k t commit = record {
  kind = world.kind k t;
  register = world.register k t;
  t = t;
  value = world.value k t;
  submit_tag = tag_of world.key (submit_body k (world.kind k t) (world.register k t) t);
  data_tag = tag_of world.key (data_body k t (digest_of (written world k t)));
  commit = commit;
}

-- The COMMIT of client k after the history w, of which its operation is the last: the version of the history, and the
-- two tags.
pub record IsCommitOf (n : ℕ) (world : World) (k : ℕ) (w : List ℕ) (m : Commit) : Type 0 where
  pub version : IsVersionOf n m.version w
  pub commit_right : m.commit_tag ≡ tag_of world.key (commit_body k m.version)
  pub proof_right : is_digest_proven world.key k (digest_at m.version k) (Some m.proof_tag) ≡ true
