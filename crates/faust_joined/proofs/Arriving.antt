-- A message of a client arrives at the honest server: the history has one more operation, or one more COMMIT was taken.
use Rattle.std.proofs.Common.{◌≡◌, ◌+◌, ◌-◌, ◌≤◌, ◌<◌, ℕ, zero, suc, Bool, true, false, List, [], ◌∷◌, ◌++◌, length, map, Option, Some, None, IfSome, refl, sym, ap, ◌∙◌, subst, inl, inr, arith, length-append}
use Rattle.std.specs.Prelude.{◌⊎◌, Result, Ok, Err, IsOkAnd, IfOk, slice_get, slice_index_or, if◌then◌else◌}
use Rattle.std.proofs.lemmas.Bool.{cases_eq}
use Rattle.std.proofs.lemmas.Option.{same_Some}
use Rattle.faust_types.specs.Clients.{IsClient}
use Rattle.faust_types.specs.Ranges.{IsCommitFor, IsReadPartFor, IsSubmitFor}
use Rattle.faust_types.specs.Messages.{unmade}
use Rattle.faust_types.specs.declared.config.Config.{Config}
use Rattle.faust_types.specs.declared.operation.Kind.{Kind}
use Rattle.faust_types.specs.declared.operation.Kind.TheVariants.{Write, Read}
use Rattle.faust_types.specs.declared.message.Known.{Known}
use Rattle.faust_types.specs.declared.message.Submit.{Submit}
use Rattle.faust_types.specs.declared.message.Commit.{Commit}
use Rattle.faust_types.specs.declared.message.ReadPart.{ReadPart}
use Rattle.faust_types.specs.declared.message.Reply.{Reply}
use Rattle.faust_lists.specs.Lists.{count, upto}
use Rattle.faust_lists.specs.Walks.{IsVersionOf}
use Rattle.faust_lists.proofs.Counts.{count-le-cons, count-own, upto-here, upto-more}
use Rattle.faust_lists.proofs.Fronts.{upto-tail}
use Rattle.faust_server.specs.Rows.{State, Served, committed, submitted, then_submitted, is_submit_in_turn, turn_at, version_at, served, out_of_turn, ridden, remembered, read_part}
use Rattle.faust_server.specs.States.{IsServedFor}
use Rattle.faust_server.specs.declared.refusal.OutOfTurn.{OutOfTurn}
use Rattle.faust_server.proofs.Rows.{submitted-in_range}
use Rattle.faust_honest.specs.World.{World, submit_of}
use Rattle.faust_honest.specs.Honest.{IsHonest, IsServedWell}
use Rattle.faust_honest.proofs.Rides.{committed-well, riding-well, submitted-well}
use Rattle.faust_forks.specs.Pairs.{checked}
use Rattle.faust_agent.specs.State as held
use Rattle.faust_agent.specs.State.{completed_count}
use Rattle.faust_agent.specs.Deeds.{Sent, commits, submits}
use Rattle.faust_agent.specs.declared.client.Client.{Client}
use Rattle.faust_joined.specs.Joined.{AreOfHistory, IsCommitMade, IsInStep, IsReplyTo, IsSubmitDue, IsWithin, Lead, rides}
use Rattle.faust_joined.proofs.Grown.{reply-more, within-more}
use Rattle.faust_joined.proofs.Queues.{held-more, lead-more}
use Rattle.faust_joined.proofs.Replying.{reply-of}

-- what a row gives is one thing
ok-or : {X E : Type 0} → X → Result X E → X
ok-or d (Ok x) = x
ok-or d (Err e) = d

same_Ok : {X E : Type 0} (x y : X) → ◌≡◌ {A = Result X E} (Ok x) (Ok y) → x ≡ y
unfolding ok-or
same_Ok {X} {E} x y same = ap (ok-or {X = X} {E = E} x) same

-- what a read shows is a version that the server holds
record IsShown (versions : List Known) (part : ReadPart) : Type 0 where
  is_held : part.version ≡ slice_index_or versions (part.register - 1) (unmade 0)

part-shown : (st : State) (kind : Kind) (j : ℕ) → IfSome (read_part st kind j) (IsShown st.versions)
part-shown st Write j = tt
part-shown st Read j = record { is_held = refl }

alone-shown : (b : Bool) (st : State) (i : ℕ) (m : Submit) (refused : OutOfTurn) (x : Served)
    → (if b then Ok (served st i m) else Err refused) ≡ Ok x → IfSome x.reply.read (IsShown x.state.versions)
alone-shown true st i m refused x row =
    subst (λ (y : Served). IfSome y.reply.read (IsShown y.state.versions)) (same_Ok (served st i m) x row)
    (part-shown (remembered st i m) m.kind m.register)
alone-shown false st i m refused x row = absurd cc

row-shown : (row : Result State OutOfTurn) (i : ℕ) (m : Submit) (x : Served) → then_submitted row i m ≡ Ok x
    → IfSome x.reply.read (IsShown x.state.versions)
row-shown (Ok st) i m x is =
    alone-shown (is_submit_in_turn (turn_at st i) m.t) st i m (out_of_turn (turn_at st i) m.t) x is
row-shown (Err refused) i m x is = absurd cc

-- a row that is taken gives what the SUBMIT is served
pub record IsServedBy (row : Result State OutOfTurn) (i : ℕ) (m : Submit) (x : Served) : Type 0 where
  pub now : State
  pub row_is : row ≡ Ok now
  pub served_is : x ≡ served now i m

alone-served : (b : Bool) (st : State) (i : ℕ) (m : Submit) (refused : OutOfTurn) (x : Served)
    → (if b then Ok (served st i m) else Err refused) ≡ Ok x → x ≡ served st i m
alone-served true st i m refused x row = sym (same_Ok (served st i m) x row)
alone-served false st i m refused x row = absurd cc

row-served : (row : Result State OutOfTurn) (i : ℕ) (m : Submit) (x : Served) → then_submitted row i m ≡ Ok x → IsServedBy row i m x
row-served (Ok st) i m x is = record {
  now = st;
  row_is = refl;
  served_is = alone-served (is_submit_in_turn (turn_at st i) m.t) st i m (out_of_turn (turn_at st i) m.t) x is;
}
row-served (Err refused) i m x is = absurd cc

-- so it stands for a front of the history
part-within : (n : ℕ) (world : World) (st : State) (arrived handled : List ℕ) (read : Option ReadPart) → IsHonest n world st arrived handled
    → IfSome read (IsReadPartFor n) → IfSome read (IsShown st.versions)
    → IfSome read (λ (part : ReadPart). IsWithin n arrived part.version.version)
part-within n world st arrived handled None honest range shown = tt
part-within n world st arrived handled (Some part) honest range shown =
    let j : ℕ = part.register in
    let version : IsVersionOf n (version_at st j).version (upto j (count j handled) arrived) =
    (honest.held j range.register_in_range).version in
    record {
      history = upto j (count j handled) arrived;
      is_version = subst (λ (known : Known). IsVersionOf n known.version (upto j (count j handled) arrived)) (sym shown.is_held) version;
      within = upto-tail j (count j handled) arrived;
    }

-- a row that is taken
pub ok-and : {X E : Type 0} (P : X → Type 0) (row : Result X E) → IsOkAnd row P → (x : X) × (row ≡ Ok x) × P x
ok-and {X} {E} P (Ok x) holds = (x, refl, holds)
ok-and {X} {E} P (Err e) holds = absurd holds

-- the COMMITs that were taken after a SUBMIT
abbrev pub handled_with : ℕ → List ℕ → Option Commit → List ℕ
handled_with i handled None = handled
handled_with i handled (Some commit) = i ∷ handled

pub counted-with : (i : ℕ) (handled : List ℕ) (c : Option Commit) → count i (handled_with i handled c) ≡ count i handled + rides c
counted-with i handled None = omega arith
counted-with i handled (Some c) = omega (arith, count-own i i handled refl)

-- the state in which a SUBMIT is served is honest
ridden-honest : (n : ℕ) (world : World) (st now : State) (arrived handled : List ℕ) (i : ℕ) (c : Option Commit)
    → IsHonest n world st arrived handled → IsClient n i → count i arrived ≡ count i handled + rides c
    → IfSome c (IsCommitFor n) → IfSome c (IsCommitMade n world arrived i (count i arrived)) → ridden st i c ≡ Ok now
    → IsHonest n world now arrived (handled_with i handled c)
ridden-honest n world st now arrived handled i None honest client balanced range made row =
    subst (λ (x : State). IsHonest n world x arrived handled) (same_Ok st now row) honest
ridden-honest n world st now arrived handled i (Some c) honest client balanced range made row =
    let taken = ok-and (λ (x : State). IsHonest n world x arrived (i ∷ handled)) (committed st i c)
    (committed-well n world st arrived handled i c honest client range (omega (arith, balanced)) made.is_commit) in
    subst (λ (x : State). IsHonest n world x arrived (i ∷ handled)) (same_Ok taken.0 now (sym taken.1 ∙ row)) taken.2

pub taken-more : (i : ℕ) (handled : List ℕ) (c : Option Commit) (k : ℕ) → count k handled ≤ count k (handled_with i handled c)
taken-more i handled None k = omega arith
taken-more i handled (Some c) k = count-le-cons k i handled

-- A SUBMIT that is due is served: the history grows, and the reply is right.
pub record IsServedNext (n : ℕ) (world : World) (st : State) (arrived handled : List ℕ) (i : ℕ) (m : Submit) : Type 0 where
  pub served : Served
  pub row : submitted st i m ≡ Ok served
  pub honest : IsHonest n world served.state (i ∷ arrived) (handled_with i handled m.commit)
  pub reply_to : IsReplyTo n world (i ∷ arrived) i (suc (count i arrived)) served.reply
  pub of_history : AreOfHistory n world (i ∷ arrived) (handled_with i handled m.commit) (checked served.reply)

served-well : (n : ℕ) (world : World) (st : State) (arrived handled : List ℕ) (i : ℕ) (c : Option Commit)
    → IsHonest n world st arrived handled
    → IsClient n i → IsSubmitFor n (submit_of world i (suc (count i arrived)) c)
    → count i arrived ≡ count i handled + rides c → IfSome c (IsCommitMade n world arrived i (count i arrived))
    → IsOkAnd (submitted st i (submit_of world i (suc (count i arrived)) c)) (IsServedWell n world i arrived (handled_with i handled c))
served-well n world st arrived handled i None honest client range balanced made =
    submitted-well n world st arrived handled i honest client range (omega (arith, balanced))
served-well n world st arrived handled i (Some c) honest client range balanced made =
    riding-well n world st arrived handled i c honest client range (omega (arith, balanced)) made.is_commit

pub served-next : (config : Config) (world : World) (st : State) (arrived handled : List ℕ) (i : ℕ) (m : Submit)
    → IsHonest config.clients world st arrived handled → IsClient config.clients i
    → IsSubmitDue config world arrived i (count i arrived) (count i handled) m
    → IsServedNext config.clients world st arrived handled i m
served-next config world st arrived handled i m honest client due =
    let n = config.clients in
    let a : ℕ = count i arrived in
    let next : Submit = submit_of world i (suc a) m.commit in
    let Well : Submit → Type 0 = λ (x : Submit). IsOkAnd (submitted st i x)
    (IsServedWell n world i arrived (handled_with i handled m.commit)) in
    let well = ok-and (IsServedWell n world i arrived (handled_with i handled m.commit)) (submitted st i m)
    (subst Well (sym due.is_next)
    (served-well n world st arrived handled i m.commit honest client (subst (IsSubmitFor n) due.is_next due.in_range.0) due.balanced
    due.rides_rightly)) in
    let range : IsServedFor n well.0 =
    subst (λ (row : Result Served OutOfTurn). IfOk row (IsServedFor n)) well.1
    (submitted-in_range n st i m honest.in_range client due.in_range.0) in
    let shown : IfSome well.0.reply.read (IsShown well.0.state.versions) = row-shown (ridden st i m.commit) i m well.0 well.1 in
    let after : List ℕ = handled_with i handled m.commit in
    let by : IsServedBy (ridden st i m.commit) i m well.0 = row-served (ridden st i m.commit) i m well.0 well.1 in
    let settled : IsHonest n world by.now arrived after =
    ridden-honest n world st by.now arrived handled i m.commit honest client due.balanced due.in_range.0.commit_in_range due.rides_rightly
    by.row_is in
    record {
      served = well.0;
      row = well.1;
      honest = well.2.honest;
      reply_to = record {
        before = arrived;
        arrived_then = upto-here i (suc a) i arrived (omega arith);
        accepted = well.2.accepted;
        in_range = range.reply_in_range;
        read_within = part-within n world well.0.state (i ∷ arrived) (handled_with i handled m.commit) well.0.reply.read well.2.honest
            range.reply_in_range.read_in_range shown;
      };
      of_history = subst (λ (x : Served). AreOfHistory n world (i ∷ arrived) after (checked x.reply)) (sym by.served_is)
          (reply-of n world by.now arrived after i m settled
          (subst (λ (x : Served). IsHonest n world x.state (i ∷ arrived) after) by.served_is well.2.honest)
          due.in_range.0.register_in_range);
    }

le_cases : (a b : ℕ) → a ≤ b → (a < b) ⊎ (a ≡ b)
le_cases a b le = elim (cases_eq a b) [ inl same ↦ inr same | inr apart ↦ inl (omega (arith, le, apart)) ]

-- what was given last, and before
get-front : {X : Type 0} (xs ys : List X) (q : ℕ) (x : X) → slice_get xs q ≡ Some x → slice_get (xs ++ ys) q ≡ Some x
get-front {X} [] ys q x found = absurd cc
get-front {X} (z ∷ xs) ys zero x found = found
get-front {X} (z ∷ xs) ys (suc q) x found = get-front xs ys q x found

get-last : {X : Type 0} (xs : List X) (x : X) → slice_get (xs ++ x ∷ []) (length xs) ≡ Some x
get-last {X} [] x = refl
get-last {X} (z ∷ xs) x = get-last xs x

-- the client whose SUBMIT arrived
pub submitted-in_step : (config : Config) (world : World) (arrived handled : List ℕ) (begun i : ℕ) (st : Client) (m : Submit)
    (rest : List Sent) (given : List Reply) (handed : ℕ) (reply : Reply)
    → IsInStep config world arrived (count i handled) begun i st (submits m ∷ rest) given handed
    → IsReplyTo config.clients world (i ∷ arrived) i (suc (count i arrived)) reply
    → IsInStep config world (i ∷ arrived) (count i (handled_with i handled m.commit)) begun i st rest (given ++ reply ∷ []) handed
submitted-in_step config world arrived handled begun i st m rest given handed reply h right =
    let n = config.clients in
    let a : ℕ = count i arrived in
    let d : ℕ = completed_count i st in
    let one : count i (i ∷ arrived) ≡ suc a = count-own i i arrived refl in
    let moved : Lead config world (i ∷ arrived) i (suc a) (count i handled + rides m.commit) rest begun h.all_committed =
    lead-more config world arrived i (suc a) (count i handled + rides m.commit) rest begun h.all_committed i h.leads.1 in
    let longer : length (given ++ reply ∷ []) ≡ suc a = length-append given (reply ∷ []) ∙ omega (arith, h.given_each) in
    let Found : ℕ → Type 0 = λ (t : ℕ). (r : Reply) × (slice_get (given ++ reply ∷ []) t ≡ Some r)
    × IsReplyTo n world (i ∷ arrived) i (suc t) r in
    record {
      in_range = h.in_range;
      no_notice = h.no_notice;
      has_arrived = omega (arith, one, h.has_arrived);
      own = subst (λ (w : List ℕ). IsVersionOf n (held.version_at st i) w) (sym (upto-more i d i arrived h.has_arrived)) h.own;
      within = λ j client. within-more n arrived i (held.version_at st j) (h.within j client);
      waiting = h.waiting;
      last = h.last;
      all_committed = h.all_committed;
      held_back = held-more n world arrived i d h.all_committed i st.held h.held_back;
      leads = subst (λ (x : ℕ). Lead config world (i ∷ arrived) i x (count i (handled_with i handled m.commit)) rest begun h.all_committed)
          (sym one)
          (subst (λ (y : ℕ). Lead config world (i ∷ arrived) i (suc a) y rest begun h.all_committed)
          (sym (counted-with i handled m.commit)) moved);
      given_each = longer ∙ sym one;
      handed_each = h.handed_each;
      due = λ lt. elim (le_cases d a h.has_arrived) [
        | inl below ↦
            let found = h.due below in (
              found.0,
              get-front given (reply ∷ []) d found.0 found.1,
              reply-more n world arrived i (suc d) i found.0 (omega (arith, below)) found.2,
            )
        | inr here ↦ subst Found (sym here) (
          reply,
          subst (λ (t : ℕ). slice_get (given ++ reply ∷ []) t ≡ Some reply) h.given_each (get-last given reply),
          right,
        )
      ];
    }

-- the client whose COMMIT was taken
pub committed-in_step : (config : Config) (world : World) (arrived handled : List ℕ) (begun i : ℕ) (st : Client) (c : Commit)
    (rest : List Sent) (given : List Reply) (handed : ℕ)
    → IsInStep config world arrived (count i handled) begun i st (commits c ∷ rest) given handed
    → IsInStep config world arrived (count i (i ∷ handled)) begun i st rest given handed
committed-in_step config world arrived handled begun i st c rest given handed h = record {
  in_range = h.in_range;
  no_notice = h.no_notice;
  has_arrived = h.has_arrived;
  own = h.own;
  within = h.within;
  waiting = h.waiting;
  last = h.last;
  all_committed = h.all_committed;
  held_back = h.held_back;
  leads = subst (λ (x : ℕ). Lead config world arrived i (count i arrived) x rest begun h.all_committed) (sym (count-own i i handled refl))
      h.leads.1;
  given_each = h.given_each;
  handed_each = h.handed_each;
  due = h.due;
}

-- the messages that wait
pub next-queued : {X : Type 0} (gone more : List X) → slice_get (gone ++ more) (length gone) ≡ slice_get more 0
next-queued {X} [] more = refl
next-queued {X} (z ∷ gone) more = next-queued gone more

pub record IsHead (f : Sent → List ℕ) (queue : List Sent) (message : List ℕ) : Type 0 where
  pub sent : Sent
  pub rest : List Sent
  pub queue_is : queue ≡ sent ∷ rest
  pub spelled : f sent ≡ message

pub head-of : (f : Sent → List ℕ) (queue : List Sent) (message : List ℕ) → slice_get (map f queue) 0 ≡ Some message → IsHead f queue message
head-of f [] message found = absurd cc
head-of f (s ∷ rest) message found = record { sent = s; rest = rest; queue_is = refl; spelled = same_Some (f s) message found }
