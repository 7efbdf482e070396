-- Whole texts: what is read is spelled so, what is spelled so is read, and what follows for all messages.
use Rattle.std.proofs.Common.{◌≡◌, ℕ, List, [], ◌∷◌, ◌++◌, Option, Some, None, Result, Ok, Err, refl, sym, ap, subst, ◌∙◌}
use Rattle.std.specs.Prelude.{IfOk, IsNone}
use Rattle.std.proofs.lemmas.Bool.{eqb-true}
use Rattle.std.proofs.lemmas.Option.{same_Some}
use Rattle.std.proofs.lemmas.List.{append-nil, nil_from_length}
use Rattle.faust_types.specs.Clients.{IsClientCount}
use Rattle.faust_types.specs.Versions.{Vector}
use Rattle.faust_types.specs.Ranges.{AreBytes, IsVersionFor, IsSubmitFor, IsReplyFor, IsCommitFor, IsPeerMessageFor, IsMessageFor}
use Rattle.faust_types.specs.Spelling.{version_bytes}
use Rattle.faust_types.specs.declared.message.Submit.{Submit}
use Rattle.faust_types.specs.declared.message.Reply.{Reply}
use Rattle.faust_types.specs.declared.message.Commit.{Commit}
use Rattle.faust_types.specs.declared.message.PeerMessage.{PeerMessage}
use Rattle.faust_types.specs.declared.message.Message.{Message}
use Rattle.faust_types.specs.declared.message.Message.TheVariants as messages
use Rattle.faust_wire.specs.declared.error.WireError.{WireError}
use Rattle.faust_wire.specs.declared.error.WireError.TheVariants as errors
use Rattle.faust_wire.specs.Grammar.{submit_bytes, reply_bytes, commit_bytes, peer_bytes, spelling, IsSpellingOf, IsVersionSpelling}
use Rattle.faust_wire.specs.Reading.{Gives, IsReadAs, next_version, next_message, whole, message_of, version_of}
use Rattle.faust_wire.proofs.Readers.{if_ok, IsRead}
use Rattle.faust_wire.proofs.Entries.{version_reader}
use Rattle.faust_wire.proofs.AnyMessages.{IsUnder, kind_of, text_of, spelling-parts, message_takes, message_again}

-- ---- whole texts

whole_takes : {X : Type 0} (spell : X → List ℕ) (Fits : X → Type 0) (bytes : List ℕ) (r : Option (X × List ℕ)) (x : X)
    → ((y : X × List ℕ) → r ≡ Some y → IsRead X spell Fits bytes y) → whole r ≡ Some x → Fits x × (bytes ≡ spell x)
whole_takes spell Fits bytes None x takes e = absurd cc
whole_takes spell Fits bytes (Some y) x takes e =
    let g = if_ok _ _ _ e in
    let read = takes y refl in
    let text : bytes ≡ spell y.0 =
    read.taken.parts ∙ ap (λ (t : List ℕ). spell y.0 ++ t) (nil_from_length y.1 (eqb-true _ _ g.0))
    ∙ append-nil (spell y.0) in
    let same = same_Some _ _ g.1 in
    (subst Fits same read.fits, text ∙ ap spell same)

whole_again : {X : Type 0} (next : List ℕ → Option (X × List ℕ)) (text : List ℕ) (x : X) → next (text ++ []) ≡ Some (x, [])
    → whole (next text) ≡ Some x
whole_again next text x e =
    let read : next text ≡ Some (x, []) = ap next (sym (append-nil text)) ∙ e in
    ap whole read

-- the message that is read is spelled so
pub message_found : (wire n : ℕ) (bytes : List ℕ) (m : Message) → IsClientCount n → AreBytes bytes
    → message_of wire n bytes ≡ Some m → IsSpellingOf wire n bytes m
unfolding message_of
message_found wire n bytes m count fits e =
    let takes : (y : Message × List ℕ) → next_message wire n bytes ≡ Some y → IsRead Message (spelling wire) (IsUnder wire n) bytes y =
    λ y h. message_takes wire n count bytes y fits h in
    let r = whole_takes (spelling wire) (IsUnder wire n) bytes (next_message wire n bytes) m takes e in
    record { in_range = r.0.in_range; for_wire = r.0.for_wire; spelled = r.1 }

-- a message that is spelled so is read
pub message_only : (wire n : ℕ) (bytes : List ℕ) (m : Message) → IsClientCount n → IsSpellingOf wire n bytes m
    → message_of wire n bytes ≡ Some m
unfolding message_of
message_only wire n bytes m count spells =
    let under : IsUnder wire n m = record { in_range = spells.in_range; for_wire = spells.for_wire } in
    ap (λ (t : List ℕ). whole (next_message wire n t)) spells.spelled
    ∙ whole_again (next_message wire n) (spelling wire m) m (message_again wire n count m [] under)

-- the same of versions
pub version_found : (n : ℕ) (bytes : List ℕ) (v : Vector) → IsClientCount n → AreBytes bytes → version_of n bytes ≡ Some v
    → IsVersionSpelling n bytes v
unfolding version_of
version_found n bytes v count fits e =
    let r = whole_takes version_bytes (IsVersionFor n) bytes (next_version n bytes) v
    (λ y h. (version_reader n count).takes bytes y fits h) e in
    record { in_range = r.0; spelled = r.1 }

pub version_only : (n : ℕ) (bytes : List ℕ) (v : Vector) → IsClientCount n → IsVersionSpelling n bytes v
    → version_of n bytes ≡ Some v
unfolding version_of
version_only n bytes v count spells =
    ap (λ (t : List ℕ). whole (next_version n t)) spells.spelled
    ∙ whole_again (next_version n) (version_bytes v) v ((version_reader n count).again v [] spells.in_range)

-- ---- what the calls answer

pub given_found : {X : Type 0} (r : Result X WireError) (read : Option X) (IsOf : X → Type 0) → ((x : X) → read ≡ Some x → IsOf x)
    → Gives (λ (x : X). x) r read → IfOk r IsOf
given_found (Ok x) read IsOf found given = found x given
given_found (Err e) read IsOf found given = tt

pub given_only : {X : Type 0} (r : Result X WireError) (read : Option X) (x : X) → read ≡ Some x → Gives (λ (y : X). y) r read
    → IsReadAs r x
given_only (Ok y) read x is given = same_Some y x (sym given ∙ is)
given_only (Err errors.Malformed) read x is given = absurd cc
given_only (Err errors.OutOfMemory) read x is given = tt

-- ---- laws

-- bytes spell at most one message
pub same_message : (wire n : ℕ) (bytes : List ℕ) (a b : Message) → IsClientCount n
    → IsSpellingOf wire n bytes a → IsSpellingOf wire n bytes b → a ≡ b
same_message wire n bytes a b count a-spells b-spells =
    same_Some a b (sym (message_only wire n bytes a count a-spells) ∙ message_only wire n bytes b count b-spells)

-- and under one version of the wire at most
pub same_wire : (v w n : ℕ) (bytes : List ℕ) (a b : Message) → IsSpellingOf v n bytes a → IsSpellingOf w n bytes b → v ≡ w
same_wire v w n bytes a b a-spells b-spells =
    let first : bytes ≡ v ∷ kind_of a ∷ text_of v a = a-spells.spelled ∙ spelling-parts v a in
    let second : bytes ≡ w ∷ kind_of b ∷ text_of w b = b-spells.spelled ∙ spelling-parts w b in
    same_first v w _ _ (sym first ∙ second)
  where
    same_first : (x y : ℕ) (xs ys : List ℕ) → x ∷ xs ≡ y ∷ ys → x ≡ y
    same_first x y xs ys e = cc

-- what bytes are read as is in range
pub message-range : (wire n : ℕ) (bytes : List ℕ) (m : Message) → IsClientCount n → AreBytes bytes
    → message_of wire n bytes ≡ Some m → IsMessageFor n m
message-range wire n bytes m count fits e = (message_found wire n bytes m count fits e).in_range

-- each message in range is read back from its spelling
pub submit-read : (wire n : ℕ) (m : Submit) → IsClientCount n → IsSubmitFor n m → (wire ≡ 1 → IsNone m.commit)
    → message_of wire n (submit_bytes wire m) ≡ Some (messages.Submit m)
submit-read wire n m count fits rides =
    message_only wire n (submit_bytes wire m) (messages.Submit m) count (record { in_range = fits; for_wire = rides; spelled = refl })

pub reply-read : (wire n : ℕ) (m : Reply) → IsClientCount n → IsReplyFor n m
    → message_of wire n (reply_bytes wire m) ≡ Some (messages.Reply m)
reply-read wire n m count fits =
    message_only wire n (reply_bytes wire m) (messages.Reply m) count (record { in_range = fits; for_wire = tt; spelled = refl })

pub commit-read : (wire n : ℕ) (m : Commit) → IsClientCount n → IsCommitFor n m
    → message_of wire n (commit_bytes wire m) ≡ Some (messages.Commit m)
commit-read wire n m count fits =
    message_only wire n (commit_bytes wire m) (messages.Commit m) count (record { in_range = fits; for_wire = tt; spelled = refl })

pub peer-read : (wire n : ℕ) (m : PeerMessage) → IsClientCount n → IsPeerMessageFor n m
    → message_of wire n (peer_bytes wire m) ≡ Some (messages.Peer m)
peer-read wire n m count fits =
    message_only wire n (peer_bytes wire m) (messages.Peer m) count (record { in_range = fits; for_wire = tt; spelled = refl })
