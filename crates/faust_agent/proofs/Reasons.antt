-- What a deed tells, and that a client in range can do it.
use Rattle.std.proofs.Common.{◌≡◌, ℕ, ◌==◌, ◌&&◌, true, is_none, Option, Some, None, Result, Ok, Err, IfSome, List, refl, sym, ◌∙◌, subst, arith}
use Rattle.std.specs.Prelude.{nat_le}
use Rattle.std.proofs.lemmas.Bool.{and_parts, eqb-true, leb-true, true≢false}
use Rattle.faust_types.specs.Clients.{IsClientCount, IsClient}
use Rattle.faust_types.specs.Versions.{clients_of}
use Rattle.faust_types.specs.Ranges.{AreBytes, IsCheck, IsMessageFor, IsPeerFor, IsPeerMessageFor, IsReplyFor}
use Rattle.faust_types.specs.declared.config.Config.{Config}
use Rattle.faust_types.specs.declared.operation.Notice.{Notice}
use Rattle.faust_types.specs.declared.operation.Operation.{Operation}
use Rattle.faust_types.specs.declared.message.Known.{Known}
use Rattle.faust_types.specs.declared.message.Reply.{Reply}
use Rattle.faust_types.specs.declared.message.Peer.{Peer}
use Rattle.faust_types.specs.declared.message.Peer.TheVariants as peers
use Rattle.faust_types.specs.declared.message.PeerMessage.{PeerMessage}
use Rattle.faust_types.specs.declared.message.Message.{Message}
use Rattle.faust_types.specs.declared.message.Message.TheVariants as messages
use Rattle.faust_wire.specs.Reading.{message_of}
use Rattle.faust_wire.proofs.Messages.{message-range}
use Rattle.faust_ustor.specs.Checks.{judged}
use Rattle.faust_ustor.specs.declared.judgement.Judged.{Judged}
use Rattle.faust_ustor.proofs.Next.{judged-in_range}
use Rattle.faust_ustor.proofs.Stops.{judged-noticed}
use Rattle.faust_agent.specs.State.{is_idle, slot_at, version_at}
use Rattle.faust_agent.specs.Deeds.{Event, asked, replied, told, ticked, passed, as_peer, as_reply, peer_in, reply_in}
use Rattle.faust_agent.specs.Table.{after, awaited, broken, deed_of, first_unfit, fitted, heeded, heeded_version, is_signed, received, taken, told_deed}
use Rattle.faust_agent.specs.InRange.{IsClientOf, IsDeedFor, IsOther, IsWaitedFor}
use Rattle.faust_agent.specs.Tells.{Breaking, no_reply, unasked, misjudged, unfit, version_unfit, failed, IsAccepted, IsEventFor, Tells}
use Rattle.faust_agent.specs.declared.client.Client.{Client}
use Rattle.faust_agent.specs.declared.deed.Deed.{Deed}
use Rattle.faust_agent.specs.declared.deed.Deed.TheVariants as deeds
use Rattle.faust_agent.proofs.Kept.{either_way, kept-after}
use Rattle.faust_agent.proofs.Slots.{fits-below}
use Rattle.faust_agent.proofs.Rounds.{completion-of}

pub none-of : {X : Type 0} (o : Option X) → is_none o ≡ true → o ≡ None
none-of None h = refl
none-of (Some x) h = absurd (true≢false (sym h))

-- what the reply row tells
fitted-tells : (config : Config) (me : ℕ) (st : Client) (reply : Reply) (op : Operation) (answer : Judged) (first : Option ℕ)
    → st.notice ≡ None → st.waiting ≡ Some op → judged config.key me (version_at st me) op reply ≡ Ok answer
    → first_unfit st answer.next answer.heard config.clients ≡ first → Tells config me st (replied (Some reply)) (fitted op answer first)
fitted-tells config me st reply op answer None no_notice waits passes none = record {
  reply = reply;
  came = refl;
  no_notice = no_notice;
  waited = waits;
  passed_checks = passes;
  all_fit = fits-below st answer.next answer.heard config.clients none;
}
fitted-tells config me st reply op answer (Some k) no_notice waits passes found =
    record { no_notice = no_notice; breaking = unfit reply op answer k refl waits passes found refl }

taken-tells : (config : Config) (me : ℕ) (st : Client) (reply : Reply) (op : Operation) (due : Result Judged Notice)
    → st.notice ≡ None → st.waiting ≡ Some op → judged config.key me (version_at st me) op reply ≡ due
    → Tells config me st (replied (Some reply)) (taken config st op due)
taken-tells config me st reply op (Ok answer) no_notice waits is =
    fitted-tells config me st reply op answer (first_unfit st answer.next answer.heard config.clients) no_notice waits is refl
taken-tells config me st reply op (Err notice) no_notice waits is =
    record { no_notice = no_notice; breaking = misjudged reply op refl waits is }

awaited-tells : (config : Config) (me : ℕ) (st : Client) (reply : Reply) (waiting : Option Operation) → st.notice ≡ None
    → st.waiting ≡ waiting → Tells config me st (replied (Some reply)) (awaited config me st reply waiting)
awaited-tells config me st reply None no_notice is = record { no_notice = no_notice; breaking = unasked reply refl is refl }
awaited-tells config me st reply (Some op) no_notice is =
    taken-tells config me st reply op (judged config.key me (version_at st me) op reply) no_notice is refl

received-tells : (config : Config) (me : ℕ) (st : Client) (reply : Option Reply) → st.notice ≡ None
    → Tells config me st (replied reply) (received config me st reply)
received-tells config me st None no_notice = record { no_notice = no_notice; breaking = no_reply refl refl }
received-tells config me st (Some reply) no_notice = awaited-tells config me st reply st.waiting no_notice refl

-- what the row of peer messages tells
version-tells : (config : Config) (me : ℕ) (st : Client) (message : PeerMessage) (known : Known) (first : Option ℕ)
    → IsAccepted config me (told (Some message)) message → message.peer ≡ peers.Version known → st.notice ≡ None
    → first_unfit st known.version None config.clients ≡ first
    → Tells config me st (told (Some message)) (heeded_version message.from known first)
version-tells config me st message known None accepted says no_notice none = record {
  message = message;
  accepted = accepted;
  from_j = refl;
  says = says;
  no_notice = no_notice;
  all_fit = fits-below st known.version None config.clients none;
}
version-tells config me st message known (Some k) accepted says no_notice found =
    record { no_notice = no_notice; breaking = version_unfit message known k accepted says found refl }

heeded-tells : (config : Config) (me : ℕ) (st : Client) (message : PeerMessage) (peer : Peer)
    → IsAccepted config me (told (Some message)) message → message.peer ≡ peer
    → Tells config me st (told (Some message)) (heeded config.clients st message.from peer)
heeded-tells config me st message peers.Probe accepted says =
    record { message = message; accepted = accepted; from_j = refl; probes = says }
heeded-tells config me st message (peers.Version known) accepted says =
    let first : Option ℕ = first_unfit st known.version None config.clients in
    either_way (Tells config me st (told (Some message))) (is_none st.notice) (heeded_version message.from known first) deeds.Ignores
    (λ none. version-tells config me st message known first accepted says (none-of st.notice none) refl) (λ some. tt)
heeded-tells config me st message (peers.Failure check) accepted says =
    either_way (Tells config me st (told (Some message))) (is_none st.notice) (broken 15 message.from) deeds.Ignores
    (λ none. record { no_notice = none-of st.notice none; breaking = failed message check accepted says refl })
    (λ some. tt)

told-tells : (config : Config) (me : ℕ) (st : Client) (message : Option PeerMessage)
    → Tells config me st (told message) (told_deed config me st message)
told-tells config me st None = tt
told-tells config me st (Some message) =
    either_way (Tells config me st (told (Some message))) ((message.to == me) && is_signed config message)
    (heeded config.clients st message.from message.peer) deeds.Ignores
    (λ right. let parts = and_parts (message.to == me) (is_signed config message) right in
    heeded-tells config me st message message.peer (record { came = refl; to_me = eqb-true message.to me parts.0; signed = parts.1 }) refl)
    (λ wrong. tt)

-- each deed tells why it is done
pub deed-tells : (config : Config) (me : ℕ) (st : Client) (event : Event) → Tells config me st event (deed_of config me st event)
unfolding deed_of
deed-tells config me st (asked order) =
    either_way (Tells config me st (asked order)) (is_idle me st) (deeds.Begins order) deeds.Ignores
    (λ idle. record { came = refl; idle = idle }) (λ busy. tt)
deed-tells config me st (replied reply) =
    either_way (Tells config me st (replied reply)) (is_none st.notice) (received config me st reply) deeds.Ignores
    (λ none. received-tells config me st reply (none-of st.notice none)) (λ some. tt)
deed-tells config me st (told message) = told-tells config me st message
deed-tells config me st (ticked m) =
    either_way (Tells config me st (ticked m)) (is_none st.notice && nat_le st.timers.now m) (deeds.Ticks m) deeds.Ignores
    (λ in_order. let parts = and_parts (is_none st.notice) (nat_le st.timers.now m) in_order in
    record { came = refl; no_notice = none-of st.notice parts.0; in_order = leb-true st.timers.now m parts.1 })
    (λ out_of_order. tt)
deed-tells config me st passed = tt

-- a client in range can do each of its deeds
break-in_range : (config : Config) (me : ℕ) (st : Client) (event : Event) (notice : Notice) → Breaking config me st event notice
    → IsCheck notice.check
break-in_range config me st event notice (no_reply came is) =
    subst (λ (n : Notice). IsCheck n.check) (sym is) (record { from_one = omega arith; to_15 = omega arith })
break-in_range config me st event notice (unasked reply came none is) =
    subst (λ (n : Notice). IsCheck n.check) (sym is) (record { from_one = omega arith; to_15 = omega arith })
break-in_range config me st event notice (misjudged reply op came waits is) =
    judged-noticed config.key me (version_at st me) op reply notice is
break-in_range config me st event notice (unfit reply op answer k came waits passes found is) =
    subst (λ (n : Notice). IsCheck n.check) (sym is) (record { from_one = omega arith; to_15 = omega arith })
break-in_range config me st event notice (version_unfit message known k accepted says found is) =
    subst (λ (n : Notice). IsCheck n.check) (sym is) (record { from_one = omega arith; to_15 = omega arith })
break-in_range config me st event notice (failed message check accepted says is) =
    subst (λ (n : Notice). IsCheck n.check) (sym is) (record { from_one = omega arith; to_15 = omega arith })

-- the message that was told is in range
message-told : (config : Config) (me : ℕ) (event : Event) (message : PeerMessage) → IsAccepted config me event message
    → IsEventFor config.clients event → IsPeerMessageFor config.clients message
message-told config me event message accepted fits = subst (IsEventFor config.clients) accepted.came fits

other-told : (config : Config) (me : ℕ) (event : Event) (message : PeerMessage) (j : ℕ) → IsAccepted config me event message
    → message.from ≡ j → IsEventFor config.clients event → IsOther config.clients me j
other-told config me event message j accepted from_j fits =
    let range = message-told config me event message accepted fits in
    record {
      in_range = subst (λ (k : ℕ). IsClient config.clients k) from_j range.from_in_range;
      differs = λ same. range.differ (from_j ∙ same ∙ sym accepted.to_me);
    }

pub tells-in_range : (config : Config) (me : ℕ) (st : Client) (event : Event) (deed : Deed) → IsClient config.clients me
    → IsClientOf config me st → IsEventFor config.clients event → Tells config me st event deed → IsDeedFor config me st deed
tells-in_range config me st event deeds.Ignores client kept fits tells = tt
tells-in_range config me st event (deeds.Begins order) client kept fits tells =
    record { idle = tells.idle; order_in_range = subst (IsEventFor config.clients) tells.came fits }
tells-in_range config me st event (deeds.Completes done) client kept fits tells =
    let own = version_at st me in
    let sized : clients_of own ≡ config.clients = (kept.versions.in_range me client).known_by.version_in_range.count in
    let waited : IsWaitedFor config.clients me own done.op =
    subst (λ (waiting : Option Operation). IfSome waiting (IsWaitedFor config.clients me own)) tells.waited kept.waiting_in_range in
    let came : IsReplyFor config.clients tells.reply = subst (IsEventFor config.clients) tells.came fits in
    let range : IsReplyFor (clients_of own) tells.reply = subst (λ (n : ℕ). IsReplyFor n tells.reply) (sym sized) came in
    completion-of config me st done.op done.judged (slot_at st me) kept client tells.waited refl
    (judged-in_range config.key me own done.op tells.reply done.judged waited.pending range tells.passed_checks)
tells-in_range config me st event (deeds.Breaks notice) client kept fits tells = break-in_range config me st event notice tells.breaking
tells-in_range config me st event (deeds.Answers j) client kept fits tells =
    other-told config me event tells.message j tells.accepted tells.from_j fits
tells-in_range config me st event (deeds.Hears j known) client kept fits tells =
    let range = message-told config me event tells.message tells.accepted fits in
    record {
      from_another = other-told config me event tells.message j tells.accepted tells.from_j fits;
      known_in_range = subst (IsPeerFor config.clients) tells.says range.peer_in_range;
    }
tells-in_range config me st event (deeds.Ticks m) client kept fits tells = tt

pub deed-in_range : (config : Config) (me : ℕ) (st : Client) (event : Event) → IsClient config.clients me
    → IsClientOf config me st → IsEventFor config.clients event → IsDeedFor config me st (deed_of config me st event)
deed-in_range config me st event client kept fits =
    tells-in_range config me st event (deed_of config me st event) client kept fits (deed-tells config me st event)

-- a client keeps what every client keeps
pub kept-event : (config : Config) (me : ℕ) (st : Client) (event : Event) → IsClient config.clients me → IsClientOf config me st
    → IsEventFor config.clients event → IsClientOf config me (after config me st (deed_of config me st event))
kept-event config me st event client kept fits =
    kept-after config me st (deed_of config me st event) client kept (deed-in_range config me st event client kept fits)

-- what bytes spell is in range
as_reply-in_range : (n : ℕ) (message : Option Message) → IfSome message (IsMessageFor n) → IfSome (as_reply message) (IsReplyFor n)
as_reply-in_range n None range = tt
as_reply-in_range n (Some (messages.Submit m)) range = tt
as_reply-in_range n (Some (messages.Reply m)) range = range
as_reply-in_range n (Some (messages.Commit m)) range = tt
as_reply-in_range n (Some (messages.Peer m)) range = tt
as_reply-in_range n (Some (messages.Hello client)) range = tt

as_peer-in_range : (n : ℕ) (message : Option Message) → IfSome message (IsMessageFor n) → IfSome (as_peer message) (IsPeerMessageFor n)
as_peer-in_range n None range = tt
as_peer-in_range n (Some (messages.Submit m)) range = tt
as_peer-in_range n (Some (messages.Reply m)) range = tt
as_peer-in_range n (Some (messages.Commit m)) range = tt
as_peer-in_range n (Some (messages.Peer m)) range = range
as_peer-in_range n (Some (messages.Hello client)) range = tt

message-in_range : (n : ℕ) (message : Option Message) → ((m : Message) → message ≡ Some m → IsMessageFor n m)
    → IfSome message (IsMessageFor n)
message-in_range n None each = tt
message-in_range n (Some m) each = each m refl

pub reply-in_range : (config : Config) (bytes : List ℕ) → IsClientCount config.clients → AreBytes bytes
    → IfSome (reply_in config bytes) (IsReplyFor config.clients)
reply-in_range config bytes count are =
    let message = message_of config.wire config.clients bytes in
    as_reply-in_range config.clients message
    (message-in_range config.clients message (λ m is. message-range config.wire config.clients bytes m count are is))

pub peer-in_range : (config : Config) (bytes : List ℕ) → IsClientCount config.clients → AreBytes bytes
    → IfSome (peer_in config bytes) (IsPeerMessageFor config.clients)
peer-in_range config bytes count are =
    let message = message_of config.wire config.clients bytes in
    as_peer-in_range config.clients message
    (message-in_range config.clients message (λ m is. message-range config.wire config.clients bytes m count are is))
