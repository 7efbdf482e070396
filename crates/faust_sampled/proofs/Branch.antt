-- The liar of a script that tells it no lie: its one branch is the honest server behind the entries, and it hands out the
-- replies that this server gave.
use Rattle.std.proofs.Common.{◌≡◌, ◌+◌, ◌-◌, ℕ, List, [], ◌∷◌, ◌++◌, length, map, Option, Some, None, Ok, refl, sym, ap, ◌∙◌, subst, inl, inr, arith, get_or, length-set}
use Rattle.std.specs.Prelude.{IsNone, option_map, slice_get, slice_set}
use Rattle.std.proofs.lemmas.Bool.{cases_eq}
use Rattle.std.proofs.lemmas.List.{append-nil, get_or-replicate, length-replicate, map-append}
use Rattle.std.proofs.lemmas.Option.{slice_get-map}
use Rattle.faust_types.specs.Clients.{IsClient}
use Rattle.faust_types.specs.Ranges.{IsSubmitFor}
use Rattle.faust_types.specs.declared.config.Config.{Config}
use Rattle.faust_types.specs.declared.message.Commit.{Commit}
use Rattle.faust_types.specs.declared.message.Message.{Message}
use Rattle.faust_types.specs.declared.message.Message.TheVariants as messages
use Rattle.faust_types.specs.declared.message.Reply.{Reply}
use Rattle.faust_types.specs.declared.message.Submit.{Submit}
use Rattle.faust_wire.specs.Grammar.{spelling}
use Rattle.faust_wire.specs.Reading.{message_of}
use Rattle.faust_server.specs.Rows.{Served, State, committed, first_state, submitted}
use Rattle.faust_server.specs.States.{IsStateFor}
use Rattle.faust_record.proofs.Agents.{set-other, set-own}
use Rattle.faust_audit.specs.Departure.{Given, Line, first_line, given_to, line_told, line_served, line_settled, times_of}
use Rattle.faust_audit.proofs.Following.{given-other, given-own, times-other, times-own}
use Rattle.faust_liar.specs.Branches.{Handled, handled, replying}
use Rattle.faust_liar.specs.InRange.{IsBehind}
use Rattle.faust_liar.specs.Lies.{LiarState, after_arrival, after_handling, after_reading, arrived, branch_at, first_lies, first_session, handed_next, next_due, next_of, one_taken, queued, received, session_at, session_count}
use Rattle.faust_liar.specs.declared.session.Session.{Session}
use Rattle.faust_liar.proofs.Turns.{commit-honest, submit-honest}

abbrev pub as_message : Reply → Message
as_message reply = messages.Reply reply

-- The session of client i: it is on branch 0, and its queue has the replies that the server gave to it, of which so many
-- were taken as were handed to it.
pub record IsLoneSession (line : Line) (i : ℕ) (session : Session) : Type 0 where
  pub on_first : session.route ≡ 0
  pub replies_are : session.replies ≡ map as_message (given_to i line.given)
  pub taken_are : session.taken ≡ times_of i line.handed

pub record IsLone (config : Config) (line : Line) (liar : LiarState) : Type 0 where
  pub wire_is : liar.wire ≡ config.wire
  pub counted : length liar.sessions ≡ config.clients
  pub branches_are : liar.branches ≡ line.server ∷ []
  pub each : (i : ℕ) → IsClient config.clients i → IsLoneSession line i (session_at liar i)

-- at first
pub lone-first : (config : Config) → IsLone config (first_line config.clients) (first_lies config.wire config.clients)
lone-first config =
    let n = config.clients in
    record {
      wire_is = refl;
      counted = length-replicate n first_session;
      branches_are = refl;
      each = λ i client. subst (IsLoneSession (first_line n) i)
          (sym (get_or-replicate n (i - 1) first_session first_session (omega (arith, client.from_one, client.to_n))))
          (record { on_first = refl; replies_are = refl; taken_are = refl });
    }

-- a reply is handed out
pub next-handed : (config : Config) (line : Line) (liar : LiarState) (i : ℕ) (reply : Reply) → IsLone config line liar
    → IsClient config.clients i → slice_get (given_to i line.given) (times_of i line.handed) ≡ Some reply
    → next_due liar i ≡ Ok (record { state = one_taken liar i; bytes = spelling liar.wire (messages.Reply reply) })
next-handed config line liar i reply lone client found =
    let session : Session = session_at liar i in
    let is = lone.each i client in
    let next : next_of session ≡ Some (messages.Reply reply) =
    ap (λ (l : List Message). slice_get l session.taken) is.replies_are
    ∙ ap (slice_get (map as_message (given_to i line.given))) is.taken_are
    ∙ slice_get-map as_message (given_to i line.given) (times_of i line.handed)
    ∙ ap (λ (o : Option Reply). option_map as_message o) found in
    ap (handed_next liar i) next

pub lone-taken : (config : Config) (line : Line) (liar : LiarState) (i : ℕ) → IsLone config line liar → IsClient config.clients i
    → IsLone config (record line { handed = line.handed ++ i ∷ [] }) (one_taken liar i)
lone-taken config line liar i lone client =
    let n = config.clients in
    let now : Line = record line { handed = line.handed ++ i ∷ [] } in
    let taken : Session = record (session_at liar i) { taken = (session_at liar i).taken + 1 } in
    let mine : IsLoneSession now i taken = record {
      on_first = (lone.each i client).on_first;
      replies_are = (lone.each i client).replies_are;
      taken_are = omega (arith, (lone.each i client).taken_are, times-own i i line.handed refl);
    } in
    record {
      wire_is = lone.wire_is;
      counted = length-set liar.sessions (i - 1) taken ∙ lone.counted;
      branches_are = lone.branches_are;
      each = λ j within. elim (cases_eq i j) [
        | inl same ↦ subst (λ (k : ℕ). IsLoneSession now k (session_at (one_taken liar i) k)) same
            (subst (IsLoneSession now i) (sym (set-own liar.sessions i taken first_session n lone.counted client)) mine)
        | inr other ↦ subst (IsLoneSession now j) (sym (set-other liar.sessions i j taken first_session n client within other)) (record {
          on_first = (lone.each j within).on_first;
          replies_are = (lone.each j within).replies_are;
          taken_are = (lone.each j within).taken_are ∙ sym (times-other i j line.handed other);
        })
      ];
    }

-- What the honest server gives at a message, as the line has it.
abbrev pub given_too : ℕ → Option Reply → List Given
given_too i None = []
given_too i (Some reply) = record { client = i; reply = reply } ∷ []

too-own : (i : ℕ) (xs : List Given) (reply : Option Reply)
    → map as_message (given_to i xs) ++ queued reply ≡ map as_message (given_to i (xs ++ given_too i reply))
too-own i xs None =
    append-nil (map as_message (given_to i xs)) ∙ ap (λ (l : List Given). map as_message (given_to i l)) (sym (append-nil xs))
too-own i xs (Some reply) =
    sym (map-append as_message (given_to i xs) (reply ∷ [])) ∙ ap (λ (l : List Reply). map as_message l) (sym (given-own i i xs reply refl))

too-other : (i j : ℕ) (xs : List Given) (reply : Option Reply) → (i ≡ j → ⊥) → given_to j xs ≡ given_to j (xs ++ given_too i reply)
too-other i j xs None other = ap (given_to j) (sym (append-nil xs))
too-other i j xs (Some reply) other = sym (given-other i j xs reply other)

-- a message is handled by the branch
lone-handled : (config : Config) (line : Line) (liar : LiarState) (i : ℕ) (message : Message) (made : Handled) → IsLone config line liar
    → IsClient config.clients i
    → IsLone config (record line { server = made.state; given = line.given ++ given_too i made.reply }) (after_handling liar i message made)
lone-handled config line liar i message made lone client =
    let n = config.clients in
    let now : Line = record line { server = made.state; given = line.given ++ given_too i made.reply } in
    let session : Session = session_at liar i in
    let got : Session = received session message made.reply in
    let mine : IsLoneSession now i got = record {
      on_first = (lone.each i client).on_first;
      replies_are = ap (λ (l : List Message). l ++ queued made.reply) (lone.each i client).replies_are ∙ too-own i line.given made.reply;
      taken_are = (lone.each i client).taken_are;
    } in
    record {
      wire_is = lone.wire_is;
      counted = length-set liar.sessions (i - 1) got ∙ lone.counted;
      branches_are = ap (λ (l : List State). slice_set l session.route made.state) lone.branches_are
          ∙ ap (λ (r : ℕ). slice_set (line.server ∷ []) r made.state) (lone.each i client).on_first;
      each = λ j within. elim (cases_eq i j) [
        | inl same ↦ subst (λ (k : ℕ). IsLoneSession now k (session_at (after_handling liar i message made) k)) same
            (subst (IsLoneSession now i) (sym (set-own liar.sessions i got first_session n lone.counted client)) mine)
        | inr other ↦ subst (IsLoneSession now j) (sym (set-other liar.sessions i j got first_session n client within other)) (record {
          on_first = (lone.each j within).on_first;
          replies_are = (lone.each j within).replies_are ∙ ap (map as_message) (too-other i j line.given made.reply other);
          taken_are = (lone.each j within).taken_are;
        })
      ];
    }

branch-is : (config : Config) (line : Line) (liar : LiarState) (i : ℕ) → IsLone config line liar → IsClient config.clients i
    → branch_at liar (session_at liar i).route ≡ line.server
branch-is config line liar i lone client =
    ap (branch_at liar) (lone.each i client).on_first ∙ ap (λ (l : List State). get_or l 0 (first_state 0)) lone.branches_are

lone-message : (config : Config) (line : Line) (liar : LiarState) (i : ℕ) (message : Message) (made : Handled) → IsLone config line liar
    → IsClient config.clients i → handled line.server i message ≡ made
    → IsLone config (record line { server = made.state; given = line.given ++ given_too i made.reply }) (after_arrival liar i message)
lone-message config line liar i message made lone client is =
    let same : made ≡ handled (branch_at liar (session_at liar i).route) i message =
    sym is ∙ ap (λ (st : State). handled st i message) (sym (branch-is config line liar i lone client)) in
    subst (λ (x : Handled). IsLone config (record line { server = made.state; given = line.given ++ given_too i made.reply })
    (after_handling liar i message x)) same (lone-handled config line liar i message made lone client)

-- a message that arrives is read
arrived-read : (config : Config) (line : Line) (liar : LiarState) (i : ℕ) (bytes : List ℕ) (message : Message) → IsLone config line liar
    → message_of config.wire config.clients bytes ≡ Some message → arrived liar i bytes ≡ after_arrival liar i message
arrived-read config line liar i bytes message lone read =
    ap (after_reading liar i)
    (ap (λ (w : ℕ). message_of w (session_count liar) bytes) lone.wire_is
    ∙ ap (λ (n : ℕ). message_of config.wire n bytes) lone.counted ∙ read)

behind-none : (i : ℕ) (m : Submit) (riding : Option Commit) → IsNone riding → IsBehind i m riding
behind-none i m None none = tt
behind-none i m (Some commit) none = absurd (cc none)

pub lone-submitted : (config : Config) (line : Line) (liar : LiarState) (i : ℕ) (bytes : List ℕ) (m : Submit) (served : Served)
    → IsLone config line liar → IsClient config.clients i → IsStateFor config.clients line.server → IsSubmitFor config.clients m
    → IsNone m.commit → message_of config.wire config.clients bytes ≡ Some (messages.Submit m) → submitted line.server i m ≡ Ok served
    → IsLone config (line_told line i (Some (messages.Submit m))) (arrived liar i bytes)
lone-submitted config line liar i bytes m served lone client state range alone read row =
    let behind : IsBehind i m m.commit = behind-none i m m.commit alone in
    let same : handled line.server i (messages.Submit m) ≡ replying served =
    ap (λ (s : Served). replying s) (sym (submit-honest config.clients line.server i m served state client range behind row)) in
    let lone_now = lone-message config line liar i (messages.Submit m) (replying served) lone client same in
    subst (λ (l : Line). IsLone config l (arrived liar i bytes)) (sym (ap (line_served line i) row))
    (subst (IsLone config _) (sym (arrived-read config line liar i bytes (messages.Submit m) lone read)) lone_now)

pub lone-committed : (config : Config) (line : Line) (liar : LiarState) (i : ℕ) (bytes : List ℕ) (m : Commit) (after : State)
    → IsLone config line liar → IsClient config.clients i → IsStateFor config.clients line.server
    → message_of config.wire config.clients bytes ≡ Some (messages.Commit m) → committed line.server i m ≡ Ok after
    → IsLone config (line_told line i (Some (messages.Commit m))) (arrived liar i bytes)
lone-committed config line liar i bytes m after lone client state read row =
    let made : Handled = record { state = after; reply = None } in
    let same : handled line.server i (messages.Commit m) ≡ made =
    ap (λ (st : State). let h : Handled = record { state = st; reply = None } in h)
    (sym (commit-honest config.clients line.server after i m state client row)) in
    let lone_now = lone-message config line liar i (messages.Commit m) made lone client same in
    let line_is : record line { server = after; given = line.given ++ [] } ≡ line_told line i (Some (messages.Commit m)) =
    ap (λ (l : List Given). record line { server = after; given = l }) (append-nil line.given) ∙ sym (ap (line_settled line) row) in
    subst (λ (l : Line). IsLone config l (arrived liar i bytes)) line_is
    (subst (IsLone config _) (sym (arrived-read config line liar i bytes (messages.Commit m) lone read)) lone_now)
