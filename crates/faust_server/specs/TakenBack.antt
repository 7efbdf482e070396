-- A COMMIT is taken back: what it replaced stands again. It only helps the proof of `Server::submit`.
use Rattle.std.specs.Prelude.{ℕ, ◌-◌, slice_set}
use Rattle.faust_server.specs.Rows.{State, version_at, proof_at, turn_at}
use Rattle.faust_server.specs.declared.server.Replaced.{Replaced}

-- What a COMMIT of client i replaces in a state.
abbrev pub replaced_in : State → ℕ → Replaced
replaced_in st i = record {
  c = st.c;
  known = version_at st i;
  pending = st.pending;
  proof = proof_at st i;
  turn = turn_at st i;
}

-- The state with it in its place.
abbrev pub taken_back : State → ℕ → Replaced → State
taken_back st i before = record st {
  c = before.c;
  versions = slice_set st.versions (i - 1) before.known;
  pending = before.pending;
  proofs = slice_set st.proofs (i - 1) before.proof;
  turns = slice_set st.turns (i - 1) before.turn;
}
