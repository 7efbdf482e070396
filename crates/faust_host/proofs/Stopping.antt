-- Why a connection stopped, from the pieces of which serving it is made.
use Rattle.std.proofs.Common.{◌≡◌, ℕ, List, [], ◌∷◌, ◌++◌, Option, Some, None, Err, IfSome, IsSome, IsNone, refl, sym, ◌∙◌, subst, inl, inr}
use Rattle.std.specs.Io.KnownBytes.{Consumes, IsAtEnd, Keeps}
use Rattle.faust_io.specs.Faults.{CountsFault}
use Rattle.faust_types.specs.declared.arrival.Closing.{Closing}
use Rattle.faust_types.specs.declared.arrival.Closing.TheVariants as closings
use Rattle.faust_host.specs.Requests.{client_in}
use Rattle.faust_host.specs.Connections.{AreInPlace, Ends, EndsWithRequest, IsFaultless, IsQuiet, IsRequest, StoppedBy, Took}
use Rattle.faust_host.specs.Rounds.{Answered, AnsweredSome, FoundEnd, GreetedBy, Greets, RequestRound, Rounds, StopsBehind, TookOne}
use Rattle.faust_host.proofs.Growing.{all_snoc}
use Rattle.faust_host.proofs.Taking.{took-none, takes_none, takes_one, takes_more, takes_behind, takes_kept}

nothing_left : (a b c : Option (List ℕ)) (bytes : List ℕ) → Consumes a b bytes → IsAtEnd b → Keeps b c → IfSome a (λ _. IsAtEnd c)
nothing_left None b c bytes taken none kept = tt
nothing_left (Some xs) None c bytes taken none kept = absurd taken
nothing_left (Some xs) (Some ys) None bytes taken none kept = absurd kept
nothing_left (Some xs) (Some ys) (Some zs) bytes taken none kept = kept ∙ none

-- rounds without end or fault
quiet_none : (a : Ends) → IsQuiet a a
quiet_none a = record { no_end = refl; faultless = record { input = refl; output = refl } }

quiet_more : (a b c : Ends) → IsQuiet a b → IsQuiet b c → IsQuiet a c
quiet_more a b c first later = record {
  no_end = later.no_end ∙ first.no_end;
  faultless = record {
    input = later.faultless.input ∙ first.faultless.input;
    output = later.faultless.output ∙ first.faultless.output;
  };
}

quiet_one : (a b : Ends) (f : List ℕ) → TookOne a.inlet b.inlet f → b.faults_out ≡ a.faults_out → IsQuiet a b
quiet_one a b f one out = record { no_end = one.ends; faultless = record { input = one.faults; output = out } }

faultless_behind : (a b c : Ends) → IsQuiet a b → FoundEnd b.inlet c.inlet → c.faults_out ≡ b.faults_out → IsFaultless a c
faultless_behind a b c quiet found out = record {
  input = found.faults ∙ quiet.faultless.input;
  output = out ∙ quiet.faultless.output;
}

-- no request was answered, and one more was
keeps_same : (x : Option (List ℕ)) → Keeps x x
keeps_same None = tt
keeps_same (Some bytes) = refl

pub answered_none : (n : ℕ) (a : Ends) → Answered n a a
answered_none n a = ([], record { taken = takes_none a.inlet a.inlet (keeps_same a.inlet.left); each = tt; quiet = quiet_none a })

pub answered_more : (n : ℕ) (a b c : Ends) → Answered n a b → RequestRound n b c → Answered n a c
answered_more n a b c (requests, some) (frame, round, request) = (
  requests ++ frame ∷ [],
  record {
    taken = takes_more a.inlet b.inlet c.inlet requests frame some.taken round.taken;
    each = all_snoc (IsRequest n) requests frame some.each request;
    quiet = quiet_more a b c some.quiet (quiet_one b c frame round.taken round.output);
  },
)

-- the connection stopped in place of its first frame, or by it
pub stopped_greeting : (n : ℕ) (a b : Ends) (closing : Closing) → Greets n (Err closing) a.inlet b.inlet → b.faults_out ≡ a.faults_out
    → StoppedBy n a b closing
stopped_greeting n a b closings.Ended found out = (
  [],
  record {
    taken = takes_none a.inlet b.inlet found.same;
    in_place = tt;
    at_end = nothing_left a.inlet.left a.inlet.left b.inlet.left [] (took-none a.inlet.left) found.nothing_left found.same;
    ended = found.ends;
    faultless = record { input = found.faults; output = out };
  },
)
stopped_greeting n a b closings.Link failed out = inl failed
stopped_greeting n a b closings.Memory found out = record {
  no_end = found.ends;
  faultless = record { input = found.faults; output = out };
}
stopped_greeting n a b closings.Malformed wrong out = (
  [],
  wrong.frame,
  record {
    taken = takes_one a.inlet b.inlet wrong.frame wrong.taken;
    in_place = tt;
    out_of_place = subst IsNone (sym wrong.none) refl;
    quiet = quiet_one a b wrong.frame wrong.taken out;
  },
)
stopped_greeting n a b (closings.Named client) greeted out = record {
  frame = greeted.frame;
  named = greeted.named;
  taken = takes_one a.inlet b.inlet greeted.frame greeted.taken;
  quiet = quiet_one a b greeted.frame greeted.taken out;
}
stopped_greeting n a b (closings.Turn expected got) never out = absurd never
stopped_greeting n a b closings.Full never out = absurd never
stopped_greeting n a b closings.Asked never out = absurd never
stopped_greeting n a b (closings.Failed notice) never out = absurd never

-- the connection stopped behind its HELLO and some requests
record Begun (n : ℕ) (a now : Ends) (first : List ℕ) (requests : List (List ℕ)) : Type 0 where
  pub taken : Took a.inlet now.inlet (first ∷ requests)
  pub in_place : AreInPlace n (first ∷ requests)
  pub quiet : IsQuiet a now

begun : (n : ℕ) (a b now : Ends) (client : ℕ) (first : List ℕ) (requests : List (List ℕ)) → client_in n first ≡ Some client
    → TookOne a.inlet b.inlet first → b.faults_out ≡ a.faults_out → AnsweredSome n b now requests → Begun n a now first requests
begun n a b now client first requests named taken out some = record {
  taken = takes_behind a.inlet b.inlet now.inlet first requests taken some.taken;
  in_place = (subst IsSome (sym named) refl, some.each);
  quiet = quiet_more a b now (quiet_one a b first taken out) some.quiet;
}

request_last : (n : ℕ) (a now c : Ends) (first : List ℕ) (requests : List (List ℕ)) → Begun n a now first requests
    → RequestRound n now c → EndsWithRequest n a c
request_last n a now c first requests so_far (frame, round, request) = (
  first,
  requests,
  frame,
  record {
    taken = takes_more a.inlet now.inlet c.inlet (first ∷ requests) frame so_far.taken round.taken;
    in_place = so_far.in_place;
    request = request;
    quiet = quiet_more a now c so_far.quiet (quiet_one now c frame round.taken round.output);
  },
)

stopped_round : (n : ℕ) (a now c : Ends) (first : List ℕ) (requests : List (List ℕ)) (closing : Closing) → Begun n a now first requests
    → Rounds n now c (Err closing) → StoppedBy n a c closing
stopped_round n a now c first requests closings.Ended so_far round = (
  first ∷ requests,
  record {
    taken = takes_kept a.inlet now.inlet c.inlet (first ∷ requests) so_far.taken round.found.same;
    in_place = so_far.in_place;
    at_end = nothing_left a.inlet.left now.inlet.left c.inlet.left _ so_far.taken.bytes round.found.nothing_left round.found.same;
    ended = subst (λ k. CountsFault k c.inlet.ends) so_far.quiet.no_end round.found.ends;
    faultless = faultless_behind a now c so_far.quiet round.found round.output;
  },
)
stopped_round n a now c first requests closings.Link so_far (inl failed) =
    inl (subst (λ k. CountsFault k c.inlet.faults) so_far.quiet.faultless.input failed)
stopped_round n a now c first requests closings.Link so_far (inr failed) =
    inr (subst (λ k. CountsFault k c.faults_out) so_far.quiet.faultless.output failed)
stopped_round n a now c first requests closings.Memory so_far round = quiet_more a now c so_far.quiet round
stopped_round n a now c first requests closings.Malformed so_far (frame, round, request) = (
  first ∷ requests,
  frame,
  record {
    taken = takes_more a.inlet now.inlet c.inlet (first ∷ requests) frame so_far.taken round.taken;
    in_place = so_far.in_place;
    out_of_place = request;
    quiet = quiet_more a now c so_far.quiet (quiet_one now c frame round.taken round.output);
  },
)
stopped_round n a now c first requests (closings.Named client) so_far never = absurd never
stopped_round n a now c first requests (closings.Turn expected got) so_far round = request_last n a now c first requests so_far round
stopped_round n a now c first requests closings.Full so_far round = request_last n a now c first requests so_far round
stopped_round n a now c first requests closings.Asked so_far never = absurd never
stopped_round n a now c first requests (closings.Failed notice) so_far never = absurd never

pub stopped_behind : (n : ℕ) (a b c : Ends) (client : ℕ) (closing : Closing) → GreetedBy n a.inlet b.inlet client
    → b.faults_out ≡ a.faults_out → StopsBehind n b c closing → StoppedBy n a c closing
stopped_behind n a b c client closing greeted out (now, (requests, some), round) =
    let so_far = begun n a b now client greeted.frame requests greeted.named greeted.taken out some in
    stopped_round n a now c greeted.frame requests closing so_far round
