-- Why the loops that serve a node stop, as far as their links and clocks tell it: the causes that a caller sees rest on
-- it. A count stands still unless it is the cause. No loop of a node stops by a frame out of place, by a client that was
-- named before, or by a turn.
use Rattle.std.specs.Prelude.{◌≡◌, ℕ}
use Rattle.faust_io.specs.Faults.{CountsFault}
use Rattle.faust_types.specs.declared.arrival.Closing.{Closing}
use Rattle.faust_types.specs.declared.arrival.Closing.TheVariants as closings
use Rattle.faust_link.specs.declared.answers.LinkError.{LinkError}
use Rattle.faust_link.specs.declared.answers.LinkError.TheVariants as errors

-- A count stands still.
abbrev pub Stands : ℕ → ℕ → Type 0
Stands before now = now ≡ before

-- Over a link that ends: it ended, it failed, or neither.
abbrev pub StopsReplies : Closing → (ends ends_now faults faults_now : ℕ) → Type 0
StopsReplies closings.Asked ends ends_now faults faults_now = Stands ends ends_now × Stands faults faults_now
StopsReplies (closings.Failed notice) ends ends_now faults faults_now = Stands ends ends_now × Stands faults faults_now
StopsReplies closings.Ended ends ends_now faults faults_now = CountsFault ends ends_now × Stands faults faults_now
StopsReplies closings.Link ends ends_now faults faults_now = Stands ends ends_now × CountsFault faults faults_now
StopsReplies closings.Malformed ends ends_now faults faults_now = ⊥
StopsReplies (closings.Named client) ends ends_now faults faults_now = ⊥
StopsReplies (closings.Turn expected got) ends ends_now faults faults_now = ⊥
StopsReplies closings.Full ends ends_now faults faults_now = Stands ends ends_now × Stands faults faults_now
StopsReplies closings.Memory ends ends_now faults faults_now = Stands ends ends_now × Stands faults faults_now

-- Over a post, which never ends.
abbrev pub StopsPeers : Closing → (faults faults_now : ℕ) → Type 0
StopsPeers closings.Asked faults faults_now = Stands faults faults_now
StopsPeers (closings.Failed notice) faults faults_now = Stands faults faults_now
StopsPeers closings.Ended faults faults_now = ⊥
StopsPeers closings.Link faults faults_now = CountsFault faults faults_now
StopsPeers closings.Malformed faults faults_now = ⊥
StopsPeers (closings.Named client) faults faults_now = ⊥
StopsPeers (closings.Turn expected got) faults faults_now = ⊥
StopsPeers closings.Full faults faults_now = Stands faults faults_now
StopsPeers closings.Memory faults faults_now = Stands faults faults_now

-- Over what is sent, which puts no entry into the journal.
abbrev pub StopsSending : Closing → (faults faults_now : ℕ) → Type 0
StopsSending closings.Asked faults faults_now = Stands faults faults_now
StopsSending (closings.Failed notice) faults faults_now = Stands faults faults_now
StopsSending closings.Ended faults faults_now = ⊥
StopsSending closings.Link faults faults_now = CountsFault faults faults_now
StopsSending closings.Malformed faults faults_now = ⊥
StopsSending (closings.Named client) faults faults_now = ⊥
StopsSending (closings.Turn expected got) faults faults_now = ⊥
StopsSending closings.Full faults faults_now = ⊥
StopsSending closings.Memory faults faults_now = Stands faults faults_now

-- Over a clock, which has no count of faults.
abbrev pub StopsTicks : Closing → (ends ends_now : ℕ) → Type 0
StopsTicks closings.Asked ends ends_now = Stands ends ends_now
StopsTicks (closings.Failed notice) ends ends_now = Stands ends ends_now
StopsTicks closings.Ended ends ends_now = CountsFault ends ends_now
StopsTicks closings.Link ends ends_now = ⊥
StopsTicks closings.Malformed ends ends_now = ⊥
StopsTicks (closings.Named client) ends ends_now = ⊥
StopsTicks (closings.Turn expected got) ends ends_now = ⊥
StopsTicks closings.Full ends ends_now = Stands ends ends_now
StopsTicks closings.Memory ends ends_now = Stands ends ends_now

-- The causes that a cell names.
abbrev pub IsCellCause : Closing → Type 0
IsCellCause closings.Asked = Unit {0}
IsCellCause (closings.Failed notice) = Unit {0}
IsCellCause closings.Ended = ⊥
IsCellCause closings.Link = ⊥
IsCellCause closings.Malformed = ⊥
IsCellCause (closings.Named client) = ⊥
IsCellCause (closings.Turn expected got) = ⊥
IsCellCause closings.Full = Unit {0}
IsCellCause closings.Memory = Unit {0}

-- Of these, those that an outbox finds.
abbrev pub IsOutboxCause : Closing → Type 0
IsOutboxCause closings.Asked = Unit {0}
IsOutboxCause (closings.Failed notice) = Unit {0}
IsOutboxCause closings.Ended = ⊥
IsOutboxCause closings.Link = ⊥
IsOutboxCause closings.Malformed = ⊥
IsOutboxCause (closings.Named client) = ⊥
IsOutboxCause (closings.Turn expected got) = ⊥
IsOutboxCause closings.Full = ⊥
IsOutboxCause closings.Memory = Unit {0}

-- The cause that a link's error is.
abbrev pub cause_of : LinkError → Closing
cause_of errors.Failed = closings.Link
cause_of errors.OutOfMemory = closings.Memory
