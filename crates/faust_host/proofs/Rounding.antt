-- One round of serving a connection, from what its calls answered.
use Rattle.std.proofs.Common.{◌≡◌, ℕ, ◌⊎◌, List, Some, None, Ok, Err, sym, subst, inl, inr}
use Rattle.faust_types.specs.declared.arrival.Closing.{Closing}
use Rattle.faust_types.specs.declared.arrival.Closing.TheVariants as closings
use Rattle.faust_host.specs.Requests.{client_in}
use Rattle.faust_host.specs.Connections.{Ends, Inlet, IsRequest}
use Rattle.faust_host.specs.Rounds.{Greets, Rounds, SendStopped, TakesOne, TellsOf, TookOne}

-- no first frame was taken
pub greets_untaken : (n : ℕ) (a b : Inlet) (frame : List ℕ) (closing : Closing) → TakesOne (Err closing) a b frame
    → Greets n (Err closing) a b
greets_untaken n a b frame closings.Ended found = found
greets_untaken n a b frame closings.Link failed = failed
greets_untaken n a b frame closings.Memory found = found
greets_untaken n a b frame closings.Malformed never = absurd never
greets_untaken n a b frame (closings.Named client) never = absurd never
greets_untaken n a b frame (closings.Turn expected got) never = absurd never
greets_untaken n a b frame closings.Full never = absurd never
greets_untaken n a b frame closings.Asked never = absurd never
greets_untaken n a b frame (closings.Failed notice) never = absurd never

-- the first frame names no client, or one that was named before
pub greets_unnamed : (n : ℕ) (a b : Inlet) (frame : List ℕ) (closing : Closing) → TookOne a b frame
    → (closing ≡ closings.Memory) ⊎ ((closing ≡ closings.Malformed) × (client_in n frame ≡ None)) → Greets n (Err closing) a b
greets_unnamed n a b frame closing one (inl e) =
    subst (λ (c : Closing). Greets n (Err c) a b) (sym e) (record { ends = one.ends; faults = one.faults })
greets_unnamed n a b frame closing one (inr none) =
    subst (λ (c : Closing). Greets n (Err c) a b) (sym none.0) (record { frame = frame; none = none.1; taken = one })

pub greets_again : (n : ℕ) (a b : Inlet) (frame : List ℕ) (client : ℕ) (closing : Closing) → TookOne a b frame
    → client_in n frame ≡ Some client → closing ≡ closings.Named client → Greets n (Err closing) a b
greets_again n a b frame client closing one named e =
    subst (λ (c : Closing). Greets n (Err c) a b) (sym e) (record { frame = frame; named = named; taken = one })

-- no further frame was taken
pub round_untaken : (n : ℕ) (a b : Ends) (frame : List ℕ) (closing : Closing) → TakesOne (Err closing) a.inlet b.inlet frame
    → b.faults_out ≡ a.faults_out → Rounds n a b (Err closing)
round_untaken n a b frame closings.Ended found out = record { found = found; output = out }
round_untaken n a b frame closings.Link failed out = inl failed
round_untaken n a b frame closings.Memory found out = record {
  no_end = found.ends;
  faultless = record { input = found.faults; output = out };
}
round_untaken n a b frame closings.Malformed never out = absurd never
round_untaken n a b frame (closings.Named client) never out = absurd never
round_untaken n a b frame (closings.Turn expected got) never out = absurd never
round_untaken n a b frame closings.Full never out = absurd never
round_untaken n a b frame closings.Asked never out = absurd never
round_untaken n a b frame (closings.Failed notice) never out = absurd never

-- the frame was refused
pub round_refused : (n : ℕ) (a b : Ends) (frame : List ℕ) (closing : Closing) → TookOne a.inlet b.inlet frame
    → b.faults_out ≡ a.faults_out → TellsOf n frame (Err closing) → Rounds n a b (Err closing)
round_refused n a b frame closings.Malformed one out tells = (frame, record { taken = one; output = out }, tells)
round_refused n a b frame (closings.Turn expected got) one out tells = (frame, record { taken = one; output = out }, tells)
round_refused n a b frame closings.Full one out tells = (frame, record { taken = one; output = out }, tells)
round_refused n a b frame closings.Memory one out tells = record {
  no_end = one.ends;
  faultless = record { input = one.faults; output = out };
}
round_refused n a b frame closings.Ended one out never = absurd never
round_refused n a b frame closings.Link one out never = absurd never
round_refused n a b frame (closings.Named client) one out never = absurd never
round_refused n a b frame closings.Asked one out never = absurd never
round_refused n a b frame (closings.Failed notice) one out never = absurd never

-- the frame was accepted, and its reply was sent, or wasn't
pub round_done : (n : ℕ) (a b : Ends) (frame : List ℕ) → TookOne a.inlet b.inlet frame → b.faults_out ≡ a.faults_out
    → IsRequest n frame → Rounds n a b (Ok tt)
round_done n a b frame one out request = (frame, record { taken = one; output = out }, request)

pub round_unsent : (n : ℕ) (a b : Ends) (frame : List ℕ) (closing : Closing) → TookOne a.inlet b.inlet frame
    → SendStopped closing a.faults_out b.faults_out → Rounds n a b (Err closing)
round_unsent n a b frame closings.Link one failed = inr failed
round_unsent n a b frame closings.Memory one same = record {
  no_end = one.ends;
  faultless = record { input = one.faults; output = same };
}
round_unsent n a b frame closings.Malformed one never = absurd never
round_unsent n a b frame closings.Full one never = absurd never
round_unsent n a b frame (closings.Turn expected got) one never = absurd never
round_unsent n a b frame closings.Ended one never = absurd never
round_unsent n a b frame (closings.Named client) one never = absurd never
round_unsent n a b frame closings.Asked one never = absurd never
round_unsent n a b frame (closings.Failed notice) one never = absurd never
