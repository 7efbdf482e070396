-- What the liar hands out is no longer than a message may be.
use Rattle.std.proofs.Common.{◌≡◌, ◌-◌, ◌≤◌, ◌==◌, ℕ, Bool, true, false, cond, List, [], ◌∷◌, length, Option, Some, None, Result, Ok, Err, refl, ap, subst, arith}
use Rattle.std.specs.Prelude.{IfOk, slice_get}
use Rattle.std.specs.List.{AllByRecursion}
use Rattle.faust_types.specs.Clients.{IsClient, IsClientCount}
use Rattle.faust_types.specs.Ranges.{IsReplyFor}
use Rattle.faust_types.specs.declared.config.Config.{Config}
use Rattle.faust_types.specs.declared.outcome.Post.{Post}
use Rattle.faust_types.specs.declared.message.Message.{Message}
use Rattle.faust_types.specs.declared.message.Message.TheVariants as messages
use Rattle.faust_wire.specs.Grammar.{spelling}
use Rattle.faust_wire.proofs.Lengths.{reply_at_most, spelling_at_most}
use Rattle.faust_agent.proofs.Kept.{either_way}
use Rattle.faust_record.specs.Runs.{IsRun, entries_of}
use Rattle.faust_record.specs.declared.entry.Entry.{Entry}
use Rattle.faust_liar.specs.InRange.{IsAnswer, IsLiarState}
use Rattle.faust_liar.specs.Lies.{Handed, Hands, LiarState, again_due, edited_due, edited_next, handed_again, handed_lie, handed_next, lied, next_due, next_of, nth, one_taken, session_at, session_count}
use Rattle.faust_liar.specs.Edits.{lied_reply}
use Rattle.faust_liar.proofs.EditsInRange.{lie-range}
use Rattle.faust_script.specs.InRange.{IsEditFor}
use Rattle.faust_script.specs.declared.edit.Edit.{Edit}
use Rattle.faust_types.specs.declared.message.Reply.{Reply}
use Rattle.faust_liar.specs.declared.error.LiarError.{LiarError}
use Rattle.faust_sim.specs.Mail.{mailed, mailed_in, posts_to}
use Rattle.faust_sim.specs.Playing.{IsHanded}
use Rattle.faust_sim.specs.Sent.{IsGivenBy, IsPostedBy}
use Rattle.faust_sim.proofs.Sendings.{all-append, all-at, run_given}

answer-sized : (wire n : ℕ) (message : Message) → IsClientCount n → IsAnswer n message → length (spelling wire message) ≤ 16384
answer-sized wire n (messages.Submit m) count range = absurd range
answer-sized wire n (messages.Reply m) count range = omega (arith, reply_at_most wire n m count range)
answer-sized wire n (messages.Commit m) count range = absurd range
answer-sized wire n (messages.Peer m) count range = absurd range
answer-sized wire n (messages.Hello client) count range = absurd range

-- the next reply, and one that was made before
next-bytes : (liar : LiarState) (i : ℕ) (reply : Option Message) (state : LiarState) (bytes : List ℕ) → IsClientCount (session_count liar)
    → ((message : Message) → reply ≡ Some message → IsAnswer (session_count liar) message)
    → handed_next liar i reply ≡ Ok (record { state = state; bytes = bytes }) → length bytes ≤ 16384
next-bytes liar i None state bytes count range is = absurd (cc)
next-bytes liar i (Some message) state bytes count range is =
    let out : Handed = record { state = one_taken liar i; bytes = spelling liar.wire message } in
    let same : out ≡ record { state = state; bytes = bytes } = cc in
    subst (λ (h : Handed). length h.bytes ≤ 16384) same (answer-sized liar.wire (session_count liar) message count (range message refl))

pub next-sized : (liar state : LiarState) (i : ℕ) (bytes : List ℕ) → IsLiarState liar → IsClient (session_count liar) i
    → IsHanded (Ok bytes) state (next_due liar i) → length bytes ≤ 16384
next-sized liar state i bytes kept client is =
    let session = session_at liar i in
    next-bytes liar i (next_of session) state bytes kept.count
    (λ message found. all-at (IsAnswer (session_count liar)) session.replies session.taken message
    (kept.sessions_in_range i client).replies_in_range found) is

again-bytes : (liar : LiarState) (reply : Option Message) (state : LiarState) (bytes : List ℕ) → IsClientCount (session_count liar)
    → ((message : Message) → reply ≡ Some message → IsAnswer (session_count liar) message)
    → handed_again liar reply ≡ Ok (record { state = state; bytes = bytes }) → length bytes ≤ 16384
again-bytes liar None state bytes count range is = absurd (cc)
again-bytes liar (Some message) state bytes count range is =
    let out : Handed = record { state = liar; bytes = spelling liar.wire message } in
    let same : out ≡ record { state = state; bytes = bytes } = cc in
    subst (λ (h : Handed). length h.bytes ≤ 16384) same (answer-sized liar.wire (session_count liar) message count (range message refl))

nth-all : (P : Message → Type 0) (b : Bool) (list : List Message) (k : ℕ) (message : Message) → AllByRecursion P list
    → cond b None (slice_get list k) ≡ Some message → P message
nth-all P true list k message all found = absurd (cc)
nth-all P false list k message all found = all-at P list k message all found

pub again-sized : (liar state : LiarState) (i k : ℕ) (bytes : List ℕ) → IsLiarState liar → IsClient (session_count liar) i
    → IsHanded (Ok bytes) state (again_due liar i k) → length bytes ≤ 16384
again-sized liar state i k bytes kept client is =
    let session = session_at liar i in
    again-bytes liar (nth k session.replies) state bytes kept.count
    (λ message found. nth-all (IsAnswer (session_count liar)) (k == 0) session.replies (k - 1) message
    (kept.sessions_in_range i client).replies_in_range found) is

-- a reply that was edited
lie-bytes : (liar : LiarState) (i : ℕ) (made : Option Reply) (state : LiarState) (bytes : List ℕ) → IsClientCount (session_count liar)
    → ((reply : Reply) → made ≡ Some reply → IsReplyFor (session_count liar) reply)
    → handed_lie liar i made ≡ Ok (record { state = state; bytes = bytes }) → length bytes ≤ 16384
lie-bytes liar i None state bytes count range is = absurd (cc)
lie-bytes liar i (Some reply) state bytes count range is =
    let out : Handed = record { state = one_taken liar i; bytes = spelling liar.wire (messages.Reply reply) } in
    let same : out ≡ record { state = state; bytes = bytes } = cc in
    subst (λ (h : Handed). length h.bytes ≤ 16384) same
    (answer-sized liar.wire (session_count liar) (messages.Reply reply) count (range reply refl))

lied-bytes : (liar : LiarState) (i : ℕ) (edit : Edit) (key : Option (List ℕ)) (message : Message) (state : LiarState) (bytes : List ℕ)
    → IsClientCount (session_count liar) → IsEditFor (session_count liar) edit → IsAnswer (session_count liar) message
    → handed_lie liar i (lied key edit message) ≡ Ok (record { state = state; bytes = bytes }) → length bytes ≤ 16384
lied-bytes liar i edit key (messages.Submit m) state bytes count fits range is = absurd range
lied-bytes liar i edit key (messages.Reply m) state bytes count fits range is =
    lie-bytes liar i (lied_reply key edit m) state bytes count
    (λ reply made. lie-range (session_count liar) key edit m reply range fits made) is
lied-bytes liar i edit key (messages.Commit m) state bytes count fits range is = absurd range
lied-bytes liar i edit key (messages.Peer m) state bytes count fits range is = absurd range
lied-bytes liar i edit key (messages.Hello client) state bytes count fits range is = absurd range

edited-bytes : (liar : LiarState) (i : ℕ) (edit : Edit) (key : Option (List ℕ)) (reply : Option Message) (state : LiarState)
    (bytes : List ℕ) → IsClientCount (session_count liar) → IsEditFor (session_count liar) edit
    → ((message : Message) → reply ≡ Some message → IsAnswer (session_count liar) message)
    → edited_next liar i edit key reply ≡ Ok (record { state = state; bytes = bytes }) → length bytes ≤ 16384
edited-bytes liar i edit key None state bytes count fits range is = absurd (cc)
edited-bytes liar i edit key (Some message) state bytes count fits range is =
    lied-bytes liar i edit key message state bytes count fits (range message refl) is

pub edited-sized : (liar state : LiarState) (i : ℕ) (edit : Edit) (key : Option (List ℕ)) (bytes : List ℕ) → IsLiarState liar
    → IsClient (session_count liar) i → IsEditFor (session_count liar) edit
    → IsHanded (Ok bytes) state (edited_due liar i edit key) → length bytes ≤ 16384
edited-sized liar state i edit key bytes kept client fits is =
    let session = session_at liar i in
    edited-bytes liar i edit key (next_of session) state bytes kept.count fits
    (λ message found. all-at (IsAnswer (session_count liar)) session.replies session.taken message
    (kept.sessions_in_range i client).replies_in_range found) is

pub handed-sized : (out : Result (List ℕ) LiarError) (old new : LiarState) (due : Result Handed LiarError) → Hands out old new due
    → ((bytes : List ℕ) → IsHanded (Ok bytes) new due → length bytes ≤ 16384) → IfOk out (λ bytes. length bytes ≤ 16384)
handed-sized (Ok bytes) old new due hands sized = sized bytes hands
handed-sized (Err e) old new due hands sized = tt

-- a message between clients
post-sized : (config : Config) (i : ℕ) (post : Post) → IsClientCount config.clients → IsPostedBy config i post → length post.bytes ≤ 16384
post-sized config i post count by =
    let short : length (spelling config.wire (messages.Peer by.message)) ≤ 8977 =
    spelling_at_most config.wire config.clients (messages.Peer by.message) count by.in_range in
    let same : length post.bytes ≡ length (spelling config.wire (messages.Peer by.message)) =
    ap (λ (p : Post). length p.bytes) by.spelled in
    omega (arith, short, same)

posts-sized : (config : Config) (i j : ℕ) (posts : List Post) → IsClientCount config.clients → AllByRecursion (IsPostedBy config i) posts
    → AllByRecursion (λ (bytes : List ℕ). length bytes ≤ 16384) (posts_to j posts)
posts-sized config i j [] count all = tt
posts-sized config i j (post ∷ posts) count all =
    let rest = posts-sized config i j posts count all.1 in
    either_way (AllByRecursion (λ (bytes : List ℕ). length bytes ≤ 16384)) (post.to == j) (post.bytes ∷ posts_to j posts) (posts_to j posts)
    (λ own. (post-sized config i post count all.0, rest)) (λ other. rest)

mailed-sized : (config : Config) (i j : ℕ) (own : List Entry) → IsClientCount config.clients → AllByRecursion (IsGivenBy config i) own
    → AllByRecursion (λ (bytes : List ℕ). length bytes ≤ 16384) (mailed_in j own)
mailed-sized config i j [] count all = tt
mailed-sized config i j (entry ∷ rest) count all =
    all-append (λ (bytes : List ℕ). length bytes ≤ 16384) (posts_to j entry.outcome.to_peers) (mailed_in j rest)
    (posts-sized config i j entry.outcome.to_peers count all.0.to_peers) (mailed-sized config i j rest count all.1)

pub letter-sized : (config : Config) (entries : List Entry) (i j k : ℕ) (bytes : List ℕ) → IsRun config entries
    → IsClient config.clients i → slice_get (mailed i j entries) k ≡ Some bytes → length bytes ≤ 16384
letter-sized config entries i j k bytes run client found =
    all-at (λ (b : List ℕ). length b ≤ 16384) (mailed i j entries) k bytes
    (mailed-sized config i j (entries_of i entries) run.config_in_range.clients_count (run_given config entries i run client)) found
