-- What a branch of the lying server does with a message: the rows of the honest server, but never out of turn. Each
-- promise on `arrive` and `echo` rests on this file.
use Rattle.std.specs.Prelude.{ℕ, ◌-◌, true, false, Option, Some, None}
use Rattle.faust_types.specs.Versions.{timestamp_at}
use Rattle.faust_types.specs.declared.message.Submit.{Submit}
use Rattle.faust_types.specs.declared.message.Reply.{Reply}
use Rattle.faust_types.specs.declared.message.Commit.{Commit}
use Rattle.faust_types.specs.declared.message.Message.{Message}
use Rattle.faust_types.specs.declared.message.Message.TheVariants as messages
use Rattle.faust_server.specs.Rows.{State, Served, advanced, retaken, served, settled}

-- The turn of client i set to what a COMMIT needs: the operation that its version counts last is submitted, and
-- uncommitted.
abbrev pub uncommitted_at : State → ℕ → Commit → State
uncommitted_at st i m = retaken st i (timestamp_at m.version i) true

-- The same for a SUBMIT: what the COMMIT needs that rides on it, or, where none does, the operation before committed.
abbrev pub turn_set : State → ℕ → Submit → Option Commit → State
turn_set st i m None = retaken st i (m.t - 1) false
turn_set st i m (Some commit) = uncommitted_at st i commit

-- The branch after a COMMIT: its row, in turn.
abbrev pub after_commit : State → ℕ → Commit → State
after_commit st i m = settled (advanced (uncommitted_at st i m) i m.version) i m

-- The branch before the steps of a SUBMIT: a COMMIT that rides on it is taken first.
abbrev pub before_submit : State → ℕ → Submit → Option Commit → State
before_submit st i m None = turn_set st i m None
before_submit st i m (Some commit) = after_commit st i commit

-- The branch after a SUBMIT, and the reply: its row, in turn.
abbrev pub answered : State → ℕ → Submit → Served
answered st i m = served (before_submit st i m m.commit) i m

-- What handling a message gives: the branch after it, and for a SUBMIT a reply.
pub record Handled : Type 0 where
  pub state : State
  pub reply : Option Reply

abbrev pub replying : Served → Handled
replying served = record { state = served.state; reply = Some served.reply }

-- A message from client i. The server handles none but a SUBMIT and a COMMIT.
abbrev pub handled : State → ℕ → Message → Handled
handled st i (messages.Submit m) = replying (answered st i m)
handled st i (messages.Commit m) = record { state = after_commit st i m; reply = None }
handled st i (messages.Reply m) = record { state = st; reply = None }
handled st i (messages.Peer m) = record { state = st; reply = None }
handled st i (messages.Hello client) = record { state = st; reply = None }
