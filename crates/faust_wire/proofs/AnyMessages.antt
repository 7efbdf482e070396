-- The readers of the other messages, and of any message.
use Rattle.std.proofs.Common.{◌≡◌, ℕ, true, false, List, [], ◌∷◌, ◌++◌, Some, refl, sym, ap, subst, ◌∙◌, append_assoc, inl, inr}
use Rattle.std.specs.Prelude.{IfSome, ◌==◌, flat_map}
use Rattle.std.proofs.lemmas.Bool.{eqb-true, eqb-false, eq-eqb, ne_eqb}
use Rattle.std.proofs.lemmas.Option.{same_Some}
use Rattle.faust_types.specs.Clients.{IsClientCount}
use Rattle.faust_types.specs.Ranges.{AreBytes, IsDigest, IsReplyFor, IsPeerFor, IsPeerMessageFor, IsMessageFor}
use Rattle.faust_types.specs.Spelling.{optional, peer_byte, peer_content, peer_front}
use Rattle.faust_types.specs.declared.message.Reply.{Reply}
use Rattle.faust_types.specs.declared.message.Peer.{Peer}
use Rattle.faust_types.specs.declared.message.Peer.TheVariants as peers
use Rattle.faust_types.specs.declared.message.PeerMessage.{PeerMessage}
use Rattle.faust_types.specs.declared.message.Message.{Message}
use Rattle.faust_types.specs.declared.message.Message.TheVariants as messages
use Rattle.faust_wire.specs.Grammar.{IsForWire, signed_bytes, read_part_bytes, commit_content, submit_bytes, reply_bytes, commit_bytes, peer_bytes, spelling}
use Rattle.faust_wire.specs.Reading.{◌>>=◌, next_up_to, next_tag, next_submit, next_signed, next_pending, next_items, next_optional, next_read_part, optionally, next_reply, next_commit, next_announced, next_content, next_peer, next_of_kind, next_message}
use Rattle.faust_wire.proofs.Readers.{bind_ok, bind_some, unless_ok, if_ok, chosen, AreBytes-rest, takes_then, IsRead, IsReader, items_reader}
use Rattle.faust_wire.proofs.SmallParts.{tag_reader, optional_reader, client_reader}
use Rattle.faust_wire.proofs.Composites.{signed_reader, announced_reader, pending_text, pending_reader, read_part_reader}
use Rattle.faust_wire.proofs.Submits.{commit_reader, submit_text, submit_reader}

-- ---- REPLY

abbrev pub reply_text : Reply → List ℕ
reply_text m = m.c ∷ (signed_bytes m.version ++ pending_text m.pending ++ flat_map optional m.proofs ++ read_part_bytes m.read)

reply_takes : (n : ℕ) → IsClientCount n → (bytes : List ℕ) (x : Reply × List ℕ) → AreBytes bytes → next_reply n bytes ≡ Some x
    → IsRead Reply reply_text (IsReplyFor n) bytes x
unfolding next_reply
reply_takes n count bytes x fits e =
    let proofs_reader = items_reader next_optional optional (λ o. IfSome o IsDigest) optional_reader n in
    bind_ok (next_up_to n bytes) _ x e (λ a a-is a-then.
    let c = (client_reader n).takes bytes a fits a-is in
    bind_ok (next_signed n a.0 a.1) _ x a-then (λ b b-is b-then.
    let version = (signed_reader n count a.0).takes a.1 b c.taken.rest_bytes b-is in
    bind_ok (next_pending n b.1) _ x b-then (λ d d-is d-then.
    let pending = (pending_reader n).takes b.1 d version.taken.rest_bytes d-is in
    bind_ok (next_items next_optional n [] d.1) _ x d-then (λ f f-is f-then.
    let proofs = proofs_reader.takes d.1 f pending.taken.rest_bytes f-is in
    bind_ok (optionally (next_read_part n) f.1) _ x f-then (λ g g-is g-then.
    let read = (read_part_reader n count).takes f.1 g proofs.taken.rest_bytes g-is in
    subst (IsRead Reply reply_text (IsReplyFor n) bytes) (same_Some _ _ g-then) (record {
      taken = takes_then (takes_then (takes_then (takes_then c.taken version.taken) pending.taken) proofs.taken) read.taken;
      fits = record {
        client_in_range = c.fits;
        version_known = version.fits;
        few_pending = pending.fits.few;
        pending_in_range = pending.fits.in_range;
        proofs_counted = proofs.fits.counted;
        proofs_sized = proofs.fits.fit;
        read_in_range = read.fits;
      };
    }))))))

reply_again : (n : ℕ) → IsClientCount n → (m : Reply) (rest : List ℕ) → IsReplyFor n m
    → next_reply n (reply_text m ++ rest) ≡ Some (m, rest)
unfolding next_reply
reply_again n count m rest fits =
    let proofs_reader = items_reader next_optional optional (λ o. IfSome o IsDigest) optional_reader n in
    let later = flat_map optional m.proofs ++ (read_part_bytes m.read ++ rest) in
    let regrouped : reply_text m ++ rest ≡ m.c ∷ (signed_bytes m.version ++ (pending_text m.pending ++ later)) = simp append_assoc in
    ap (next_reply n) regrouped
    ∙ bind_some _ _ _ _ ((client_reader n).again m.c _ fits.client_in_range)
    (bind_some _ _ _ _ ((signed_reader n count m.c).again m.version _ fits.version_known)
    (bind_some _ _ _ _ ((pending_reader n).again m.pending _ (record { few = fits.few_pending; in_range = fits.pending_in_range }))
    (bind_some _ _ _ _ (proofs_reader.again m.proofs _ (record { counted = fits.proofs_counted; fit = fits.proofs_sized }))
    (bind_some _ _ _ _ ((read_part_reader n count).again m.read rest fits.read_in_range) refl))))

reply_reader : (n : ℕ) → IsClientCount n → IsReader Reply (next_reply n) reply_text (IsReplyFor n)
reply_reader n count = record { takes = reply_takes n count; again = reply_again n count }

-- ---- PROBE, VERSION and FAILURE

record IsContent (n kind : ℕ) (content : Peer) : Type 0 where
  in_range : IsPeerFor n content
  of_kind : peer_byte content ≡ kind

content_takes : (n : ℕ) → IsClientCount n → (kind : ℕ) (bytes : List ℕ) (x : Peer × List ℕ) → AreBytes bytes
    → next_content n kind bytes ≡ Some x → IsRead Peer peer_content (IsContent n kind) bytes x
unfolding next_content
content_takes n count kind bytes x fits e =
    elim (chosen (kind == 4) _ _ _ e) [
      | inl w ↦
          subst (IsRead Peer peer_content (IsContent n kind) bytes) (same_Some _ _ w.1)
          (record {
            taken = record { parts = refl; rest_bytes = fits };
            fits = record { in_range = tt; of_kind = sym (eqb-true kind 4 w.0) };
          })
      | inr w ↦
          elim (chosen (kind == 5) _ _ _ w.1) [
            | inl v ↦
                bind_ok (next_announced n bytes) _ x v.1 (λ a a-is a-then.
                let r = (announced_reader n count).takes bytes a fits a-is in
                subst (IsRead Peer peer_content (IsContent n kind) bytes) (same_Some _ _ a-then)
                (record { taken = r.taken; fits = record { in_range = r.fits; of_kind = sym (eqb-true kind 5 v.0) } }))
            | inr v ↦
                let g = if_ok _ _ _ v.1 in
                bind_ok (next_up_to 15 bytes) _ x g.1 (λ a a-is a-then.
                let r = (client_reader 15).takes bytes a fits a-is in
                subst (IsRead Peer peer_content (IsContent n kind) bytes) (same_Some _ _ a-then)
                (record {
                  taken = r.taken;
                  fits = record {
                    in_range = record { from_one = r.fits.from_one; to_15 = r.fits.to_n };
                    of_kind = sym (eqb-true kind 6 g.0);
                  };
                }))
          ]
    ]

content_again : (n : ℕ) → IsClientCount n → (content : Peer) (rest : List ℕ) → IsPeerFor n content
    → next_content n (peer_byte content) (peer_content content ++ rest) ≡ Some (content, rest)
unfolding next_content
content_again n count peers.Probe rest fits = refl
content_again n count (peers.Version known) rest fits = bind_some _ _ _ _ ((announced_reader n count).again known rest fits) refl
content_again n count (peers.Failure check) rest fits =
    bind_some _ _ _ _ ((client_reader 15).again check rest (record { from_one = fits.from_one; to_n = fits.to_15 })) refl

abbrev pub peer_text : PeerMessage → List ℕ
peer_text m = m.from ∷ m.to ∷ (peer_content m.peer ++ m.tag)

record IsPeerOf (n kind : ℕ) (m : PeerMessage) : Type 0 where
  in_range : IsPeerMessageFor n m
  of_kind : peer_byte m.peer ≡ kind

peer_takes : (n : ℕ) → IsClientCount n → (kind : ℕ) (bytes : List ℕ) (x : PeerMessage × List ℕ) → AreBytes bytes
    → next_peer n kind bytes ≡ Some x → IsRead PeerMessage peer_text (IsPeerOf n kind) bytes x
unfolding next_peer
peer_takes n count kind bytes x fits e =
    bind_ok (next_up_to n bytes) _ x e (λ a a-is a-then.
    let from = (client_reader n).takes bytes a fits a-is in
    bind_ok (next_up_to n a.1) _ x a-then (λ b b-is b-then.
    let to = (client_reader n).takes a.1 b from.taken.rest_bytes b-is in
    bind_ok (next_content n kind b.1) _ x b-then (λ d d-is d-then.
    let content = content_takes n count kind b.1 d to.taken.rest_bytes d-is in
    bind_ok (next_tag d.1) _ x d-then (λ f f-is f-then.
    let tag = tag_reader.takes d.1 f content.taken.rest_bytes f-is in
    let g = unless_ok _ _ _ f-then in
    subst (IsRead PeerMessage peer_text (IsPeerOf n kind) bytes) (same_Some _ _ g.1) (record {
      taken = takes_then (takes_then (takes_then from.taken to.taken) content.taken) tag.taken;
      fits = record {
        in_range = record {
          from_in_range = from.fits;
          to_in_range = to.fits;
          differ = eqb-false _ _ g.0;
          peer_in_range = content.fits.in_range;
          tag_sized = tag.fits;
        };
        of_kind = content.fits.of_kind;
      };
    })))))

peer_again : (n : ℕ) → IsClientCount n → (m : PeerMessage) (rest : List ℕ) → IsPeerMessageFor n m
    → next_peer n (peer_byte m.peer) (peer_text m ++ rest) ≡ Some (m, rest)
unfolding next_peer
peer_again n count m rest fits =
    let regrouped : peer_text m ++ rest ≡ m.from ∷ m.to ∷ (peer_content m.peer ++ (m.tag ++ rest)) =
    ap (λ (t : List ℕ). m.from ∷ m.to ∷ t) (append_assoc (peer_content m.peer) m.tag rest) in
    let apart : (m.from == m.to) ≡ false = ne_eqb m.from m.to fits.differ in
    ap (next_peer n (peer_byte m.peer)) regrouped
    ∙ bind_some _ _ _ _ ((client_reader n).again m.from _ fits.from_in_range)
    (bind_some _ _ _ _ ((client_reader n).again m.to _ fits.to_in_range)
    (bind_some _ _ _ _ (content_again n count m.peer (m.tag ++ rest) fits.peer_in_range)
    (bind_some _ _ _ _ (tag_reader.again m.tag rest fits.tag_sized) (rw apart refl))))

-- ---- any message

abbrev pub kind_of : Message → ℕ
kind_of (messages.Submit m) = 1
kind_of (messages.Reply m) = 2
kind_of (messages.Commit m) = 3
kind_of (messages.Peer m) = peer_byte m.peer
kind_of (messages.Hello client) = 7

abbrev pub text_of : ℕ → Message → List ℕ
text_of wire (messages.Submit m) = submit_text wire m
text_of wire (messages.Reply m) = reply_text m
text_of wire (messages.Commit m) = commit_content m
text_of wire (messages.Peer m) = peer_text m
text_of wire (messages.Hello client) = client ∷ []

pub spelling-parts : (wire : ℕ) (m : Message) → spelling wire m ≡ wire ∷ kind_of m ∷ text_of wire m
unfolding submit_bytes reply_bytes commit_bytes peer_bytes peer_front
spelling-parts wire (messages.Submit m) = refl
spelling-parts wire (messages.Reply m) = refl
spelling-parts wire (messages.Commit m) = refl
spelling-parts wire (messages.Peer m) = refl
spelling-parts wire (messages.Hello client) = refl

-- in range, and fit for the wire
pub record IsUnder (wire n : ℕ) (m : Message) : Type 0 where
  pub in_range : IsMessageFor n m
  pub for_wire : IsForWire wire m

record IsOfKind (wire n kind : ℕ) (m : Message) : Type 0 where
  under : IsUnder wire n m
  of_kind : kind_of m ≡ kind

of_kind_takes : (wire n : ℕ) → IsClientCount n → (kind : ℕ) (bytes : List ℕ) (x : Message × List ℕ) → AreBytes bytes
    → next_of_kind wire n kind bytes ≡ Some x → IsRead Message (text_of wire) (IsOfKind wire n kind) bytes x
unfolding next_of_kind
of_kind_takes wire n count kind bytes x fits e =
    elim (chosen (kind == 1) _ _ _ e) [
      | inl w ↦
          bind_ok (next_submit wire n bytes) _ x w.1 (λ a a-is a-then.
          let r = (submit_reader wire n count).takes bytes a fits a-is in
          subst (IsRead Message (text_of wire) (IsOfKind wire n kind) bytes) (same_Some _ _ a-then)
          (record {
            taken = r.taken;
            fits = record {
              under = record { in_range = r.fits.in_range; for_wire = r.fits.none_under_1 };
              of_kind = sym (eqb-true kind 1 w.0);
            };
          }))
      | inr w ↦
          elim (chosen (kind == 2) _ _ _ w.1) [
            | inl v ↦
                bind_ok (next_reply n bytes) _ x v.1 (λ a a-is a-then.
                let r = (reply_reader n count).takes bytes a fits a-is in
                subst (IsRead Message (text_of wire) (IsOfKind wire n kind) bytes) (same_Some _ _ a-then)
                (record {
                  taken = r.taken;
                  fits = record { under = record { in_range = r.fits; for_wire = tt }; of_kind = sym (eqb-true kind 2 v.0) };
                }))
            | inr v ↦
                elim (chosen (kind == 3) _ _ _ v.1) [
                  | inl u ↦
                      bind_ok (next_commit n bytes) _ x u.1 (λ a a-is a-then.
                      let r = (commit_reader n count).takes bytes a fits a-is in
                      subst (IsRead Message (text_of wire) (IsOfKind wire n kind) bytes) (same_Some _ _ a-then)
                      (record {
                        taken = r.taken;
                        fits = record {
                          under = record { in_range = r.fits; for_wire = tt };
                          of_kind = sym (eqb-true kind 3 u.0);
                        };
                      }))
                  | inr u ↦
                      elim (chosen (kind == 7) _ _ _ u.1) [
                        | inl s ↦
                            bind_ok (next_up_to n bytes) _ x s.1 (λ a a-is a-then.
                            let r = (client_reader n).takes bytes a fits a-is in
                            subst (IsRead Message (text_of wire) (IsOfKind wire n kind) bytes) (same_Some _ _ a-then)
                            (record {
                              taken = r.taken;
                              fits = record {
                                under = record { in_range = r.fits; for_wire = tt };
                                of_kind = sym (eqb-true kind 7 s.0);
                              };
                            }))
                        | inr s ↦
                            bind_ok (next_peer n kind bytes) _ x s.1 (λ a a-is a-then.
                            let r = peer_takes n count kind bytes a fits a-is in
                            subst (IsRead Message (text_of wire) (IsOfKind wire n kind) bytes) (same_Some _ _ a-then)
                            (record {
                              taken = r.taken;
                              fits = record {
                                under = record { in_range = r.fits.in_range; for_wire = tt };
                                of_kind = r.fits.of_kind;
                              };
                            }))
                      ]
                ]
          ]
    ]

-- no byte of a peer message is that of another kind
of_peer : (wire n : ℕ) (content : Peer) (bytes : List ℕ)
    → next_of_kind wire n (peer_byte content) bytes ≡ (next_peer n (peer_byte content) bytes >>= λ x. Some (messages.Peer x.0, x.1))
unfolding next_of_kind
of_peer wire n peers.Probe bytes = refl
of_peer wire n (peers.Version known) bytes = refl
of_peer wire n (peers.Failure check) bytes = refl

of_kind_again : (wire n : ℕ) → IsClientCount n → (m : Message) (rest : List ℕ) → IsUnder wire n m
    → next_of_kind wire n (kind_of m) (text_of wire m ++ rest) ≡ Some (m, rest)
unfolding next_of_kind
of_kind_again wire n count (messages.Submit m) rest fits =
    bind_some _ _ _ _ ((submit_reader wire n count).again m rest (record { in_range = fits.in_range; none_under_1 = fits.for_wire })) refl
of_kind_again wire n count (messages.Reply m) rest fits = bind_some _ _ _ _ ((reply_reader n count).again m rest fits.in_range) refl
of_kind_again wire n count (messages.Commit m) rest fits = bind_some _ _ _ _ ((commit_reader n count).again m rest fits.in_range) refl
of_kind_again wire n count (messages.Peer m) rest fits =
    of_peer wire n m.peer (peer_text m ++ rest) ∙ bind_some _ _ _ _ (peer_again n count m rest fits.in_range) refl
of_kind_again wire n count (messages.Hello client) rest fits = bind_some _ _ _ _ ((client_reader n).again client rest fits.in_range) refl

pub message_takes : (wire n : ℕ) → IsClientCount n → (bytes : List ℕ) (x : Message × List ℕ) → AreBytes bytes
    → next_message wire n bytes ≡ Some x → IsRead Message (spelling wire) (IsUnder wire n) bytes x
unfolding next_message
message_takes wire n count [] x fits e = absurd cc
message_takes wire n count (first ∷ []) x fits e = absurd cc
message_takes wire n count (first ∷ kind ∷ bytes) x fits e =
    let g = if_ok _ _ _ e in
    let r = of_kind_takes wire n count kind bytes x (AreBytes-rest kind bytes (AreBytes-rest first (kind ∷ bytes) fits)) g.1 in
    let heads : first ∷ kind ∷ bytes ≡ wire ∷ kind_of x.0 ∷ bytes =
    ap (λ (b : ℕ). b ∷ kind ∷ bytes) (eqb-true first wire g.0) ∙ ap (λ (k : ℕ). wire ∷ k ∷ bytes) (sym r.fits.of_kind) in
    record {
      taken = record {
        parts = heads ∙ ap (λ (t : List ℕ). wire ∷ kind_of x.0 ∷ t) r.taken.parts
            ∙ ap (λ (t : List ℕ). t ++ x.1) (sym (spelling-parts wire x.0));
        rest_bytes = r.taken.rest_bytes;
      };
      fits = r.fits.under;
    }

pub message_again : (wire n : ℕ) → IsClientCount n → (m : Message) (rest : List ℕ) → IsUnder wire n m
    → next_message wire n (spelling wire m ++ rest) ≡ Some (m, rest)
unfolding next_message
message_again wire n count m rest fits =
    let same : (wire == wire) ≡ true = eq-eqb wire wire refl in
    ap (λ (t : List ℕ). next_message wire n (t ++ rest)) (spelling-parts wire m) ∙ rw same (of_kind_again wire n count m rest fits)
