-- What holds before an entry holds behind it: where an operation begins or completes, where a message goes to another
-- client, and where more is hashed.
use Rattle.std.proofs.Common.{◌≡◌, ℕ, ◌+◌, ◌^◌, ◌<◌, ◌≤◌, List, [], ◌∷◌, Option, None, Some, IfSome, refl, sym, ap, ◌∙◌, subst, inl, inr, arith}
use Rattle.faust_types.specs.Ranges.{IsPeerMessageFor}
use Rattle.faust_types.specs.Versions.{Vector, digest_at, initial, timestamp_at}
use Rattle.faust_types.specs.declared.message.PeerMessage.{PeerMessage}
use Rattle.faust_types.specs.declared.message.Reply.{Reply}
use Rattle.faust_types.specs.declared.operation.Operation.{Operation}
use Rattle.faust_hash.specs.Chain.{chain_of, link, value_input}
use Rattle.faust_ustor.proofs.Next.{next-in_range}
use Rattle.faust_ustor.specs.Passed.{clients_after, next_of}
use Rattle.faust_lists.specs.Names.{Has}
use Rattle.faust_lists.specs.Walks.{IsFree}
use Rattle.faust_lists.proofs.Counts.{last_to-own}
use Rattle.faust_forks.specs.Books.{Begun, Done, AreBegunIn, AreDoneIn, find}
use Rattle.faust_forks.specs.Sources.{Source, of_commit, of_data, of_peer, of_proof, of_submit}
use Rattle.faust_forks.specs.Pasts.{IsLater, Past, base_of, begun_at, begun_in, completed_in, done_at, first_past, hashed_in, sent_in}
use Rattle.faust_forks.specs.Forks.{IsAccepted, IsBegin, IsBook, IsExplained, IsGround, IsOwn, IsSound}
use Rattle.faust_forks.proofs.Found.{Began-more, Completed-more, begun-cases, begun-first, done-cases, done-first, done-more, done-none}
use Rattle.faust_forks.proofs.Later.{later-begun, later-completed, later-hashed, later-sent}
use Rattle.faust_forks.proofs.Settled.{sound-later}
use Rattle.faust_forks.proofs.Registers.{IsWritten-more, IsWritten-next}
use Rattle.faust_forks.proofs.Completing.{completion-sound}

explained-more : (started started' : List Begun) (book book' : List Done) (source : Source) → AreBegunIn started started'
    → AreDoneIn book book' → IsExplained started book source → IsExplained started' book' source
explained-more started started' book book' (of_submit k kind register t) starts dones h =
    Began-more started started' k t (λ begun. (begun.kind ≡ kind) × (begun.register ≡ register)) starts h
explained-more started started' book book' (of_data k t value) starts dones h = IsWritten-more started started' k t value starts h
explained-more started started' book book' (of_commit k v) starts dones h =
    Completed-more book book' k (timestamp_at v k) (λ done. done.version ≡ v) dones h
explained-more started started' book book' (of_proof k digest) starts dones h =
    record { number = h.number; done = h.done; found = dones k h.number h.done h.found; fits_it = h.fits_it }
explained-more started started' book book' (of_peer message) starts dones h = tt

value-more : (hashed hashed' : List (List ℕ)) (value : Option (List ℕ)) → ((x : List ℕ) → Has hashed x → Has hashed' x)
    → IfSome value (λ v. Has hashed (value_input v)) → IfSome value (λ v. Has hashed' (value_input v))
value-more hashed hashed' None hashes h = tt
value-more hashed hashed' (Some value) hashes h = hashes (value_input value) h

-- before the first entry
pub ground-first : (n : ℕ) → IsGround n first_past
ground-first n = record {
  free = λ x y in_x in_y same. absurd in_x;
  sound = λ k t done found. absurd cc;
  sources = tt;
  explained = λ source has. absurd has;
  begun_before = λ k t begun found. absurd cc;
  done_before = λ k t done found. absurd cc;
  values = λ k t begun found. absurd cc;
}

book-later : (n : ℕ) (past later : Past) → IsLater past later → IsBook n past → (k t : ℕ) (done : Done) → find past.book k t ≡ Some done
    → IsSound n later done
book-later n past later grows book_sound k t done found = sound-later n past later done grows (book_sound k t done found)

-- more is hashed, and time goes on
pub ground-hashed : (n : ℕ) (past : Past) (hashed : List (List ℕ)) (entry : ℕ) → IsGround n past → IsFree hashed
    → ((x : List ℕ) → Has past.hashed x → Has hashed x) → past.entry ≤ entry → IsGround n (hashed_in past hashed entry)
ground-hashed n past hashed entry ground free grows le = record {
  free = free;
  sound = book-later n past (hashed_in past hashed entry) (later-hashed past hashed entry grows le) ground.sound;
  sources = ground.sources;
  explained = ground.explained;
  begun_before = λ k t begun found. omega (arith, ground.begun_before k t begun found, le);
  done_before = λ k t done found. omega (arith, ground.done_before k t done found, le);
  values = λ k t begun found. value-more past.hashed hashed begun.value grows (ground.values k t begun found);
}

-- a message goes to another client
pub ground-sent : (n : ℕ) (past : Past) (message : PeerMessage) → IsGround n past → IsPeerMessageFor n message
    → IsGround n (sent_in past message)
ground-sent n past message ground in_range = record {
  free = ground.free;
  sound = book-later n past (sent_in past message) (later-sent past message) ground.sound;
  sources = (in_range, ground.sources);
  explained = λ source has. elim has [
    | inl same ↦ subst (λ (z : Source). IsExplained past.started past.book z) (sym same) tt
    | inr old ↦ ground.explained source old
  ];
  begun_before = ground.begun_before;
  done_before = ground.done_before;
  values = ground.values;
}

-- an operation begins
explained-begun : (past : Past) (me : ℕ) (op : Operation) (value digest : Option (List ℕ))
    → ((source : Source) → Has past.made source → IsExplained past.started past.book source) → IsBegin past me op value digest
    → (source : Source) → Has (begun_in past me op value digest).made source
    → IsExplained (begun_at past me op value ∷ past.started) past.book source
explained-begun past me op value digest old h source (inl same) =
    let added : Begun = begun_at past me op value in
    subst (λ (z : Source). IsExplained (added ∷ past.started) past.book z) (sym same)
    (record { begun = added; found = begun-first past.started added me op.name.t h.fresh refl refl; fits_it = (refl, refl) })
explained-begun past me op value digest old h source (inr (inl same)) =
    let added : Begun = begun_at past me op value in
    subst (λ (z : Source). IsExplained (added ∷ past.started) past.book z) (sym same)
    (IsWritten-next past.started added h.before digest h.follows h.fresh h.begun_to h.is_digest)
explained-begun past me op value digest old h source (inr (inr has)) =
    let grows = later-begun past me op value digest in
    explained-more past.started (begun_at past me op value ∷ past.started) past.book past.book source grows.begun_kept grows.done_kept
    (old source has)

pub ground-begun : (n : ℕ) (past : Past) (me : ℕ) (op : Operation) (value digest : Option (List ℕ)) → IsGround n past
    → IsBegin past me op value digest → IsGround n (begun_in past me op value digest)
ground-begun n past me op value digest ground h =
    let added : Begun = begun_at past me op value in
    record {
      free = ground.free;
      sound = book-later n past (begun_in past me op value digest) (later-begun past me op value digest) ground.sound;
      sources = (h.number, (h.number, ground.sources));
      explained = explained-begun past me op value digest ground.explained h;
      begun_before = λ k t begun found. elim (begun-cases past.started added k t begun found) [
        | inl old ↦ omega (arith, ground.begun_before k t begun old)
        | inr same ↦ omega (arith, ap (λ (z : Begun). z.entry) same)
      ];
      done_before = λ k t done found. omega (arith, ground.done_before k t done found);
      values = λ k t begun found. elim (begun-cases past.started added k t begun found) [
        | inl old ↦ ground.values k t begun old
        | inr same ↦ subst (λ (z : Begun). IfSome z.value (λ v. Has past.hashed (value_input v))) same h.value_hashed
      ];
    }

-- the own timestamp and digest of the new version
pub next-timestamp : (n : ℕ) (past : Past) (key : List ℕ) (me : ℕ) (own : Vector) (op : Operation) (reply : Reply) → IsGround n past
    → IsAccepted n past key me own op reply → timestamp_at (next_of me reply) me ≡ op.name.t
next-timestamp n past key me own op reply ground accepted =
    let sound = completion-sound n past key me own op reply ground accepted in
    sound.version.timestamps me accepted.client_in_range ∙ sound.counted

pub next-digest : (n : ℕ) (past : Past) (key : List ℕ) (me : ℕ) (own : Vector) (op : Operation) (reply : Reply) → IsGround n past
    → IsAccepted n past key me own op reply
    → digest_at (next_of me reply) me ≡ Some (link (chain_of (clients_after (base_of past.book reply) reply.pending)) me)
next-digest n past key me own op reply ground accepted =
    let sound = completion-sound n past key me own op reply ground accepted in
    sound.version.digests me accepted.client_in_range
    ∙ ap chain_of (last_to-own me (clients_after (base_of past.book reply) reply.pending))

not-completed : (n : ℕ) (past : Past) (key : List ℕ) (me : ℕ) (own : Vector) (op : Operation) (reply : Reply)
    → IsAccepted n past key me own op reply → find past.book me op.name.t ≡ None
not-completed n past key me own op reply accepted = accepted.owned.last op.name.t (omega (arith, accepted.pending.number))

-- an operation completes
explained-completed : (past : Past) (me : ℕ) (op : Operation) (reply : Reply) (digest : List ℕ)
    → ((source : Source) → Has past.made source → IsExplained past.started past.book source) → find past.book me op.name.t ≡ None
    → timestamp_at (next_of me reply) me ≡ op.name.t → digest_at (next_of me reply) me ≡ Some digest
    → (source : Source) → Has (completed_in past me op reply digest).made source
    → IsExplained past.started (done_at past me op reply ∷ past.book) source
explained-completed past me op reply digest old none numbered own source (inl same) =
    let added : Done = done_at past me op reply in
    let none_there = subst (λ (z : ℕ). find past.book me z ≡ None) (sym numbered) none in
    subst (λ (z : Source). IsExplained past.started (added ∷ past.book) z) (sym same)
    (record {
      done = added;
      found = done-first past.book added me (timestamp_at (next_of me reply) me) none_there refl (sym numbered);
      fits_it = refl;
    })
explained-completed past me op reply digest old none numbered own source (inr (inl same)) =
    let added : Done = done_at past me op reply in
    subst (λ (z : Source). IsExplained past.started (added ∷ past.book) z) (sym same)
    (record { number = op.name.t; done = added; found = done-first past.book added me op.name.t none refl refl; fits_it = own })
explained-completed past me op reply digest old none numbered own source (inr (inr has)) =
    let grows = later-completed past me op reply digest in
    explained-more past.started past.started past.book (done_at past me op reply ∷ past.book) source grows.begun_kept grows.done_kept
    (old source has)

pub ground-completed : (n : ℕ) (past : Past) (key : List ℕ) (me : ℕ) (own : Vector) (op : Operation) (reply : Reply) (digest : List ℕ)
    → IsGround n past → IsAccepted n past key me own op reply → digest_at (next_of me reply) me ≡ Some digest
    → IsGround n (completed_in past me op reply digest)
ground-completed n past key me own op reply digest ground accepted is_digest =
    let added : Done = done_at past me op reply in
    let sound = completion-sound n past key me own op reply ground accepted in
    let none = not-completed n past key me own op reply accepted in
    let numbered = next-timestamp n past key me own op reply ground accepted in
    let below : timestamp_at own me + 1 < 2 ^ 40 = omega (arith, accepted.pending.number, accepted.pending.below) in
    let next = next-in_range key n me own op reply accepted.reply_in_range accepted.client_in_range accepted.passed below in
    let later : Past = completed_in past me op reply digest in
    let grows : IsLater past later = later-completed past me op reply digest in
    record {
      free = ground.free;
      sound = λ k t done found. elim (done-cases past.book added k t done found) [
        | inl old ↦ book-later n past later grows ground.sound k t done old
        | inr same ↦ subst (λ (z : Done). IsSound n later z) same (sound-later n past later added grows sound)
      ];
      sources = (next.in_range, (tt, ground.sources));
      explained = explained-completed past me op reply digest ground.explained none numbered is_digest;
      begun_before = λ k t begun found. omega (arith, ground.begun_before k t begun found);
      done_before = λ k t done found. elim (done-cases past.book added k t done found) [
        | inl old ↦ omega (arith, ground.done_before k t done old)
        | inr same ↦ omega (arith, ap (λ (z : Done). z.entry) same)
      ];
      values = ground.values;
    }

-- a client that completed nothing owns the initial version
pub own-first : (n me : ℕ) → IsOwn n [] me (initial n)
own-first n me = record { held = inl refl; last = λ t above. refl }

-- the new version is the client's own one
pub own-completed : (n : ℕ) (past : Past) (key : List ℕ) (me : ℕ) (own : Vector) (op : Operation) (reply : Reply) → IsGround n past
    → IsAccepted n past key me own op reply → IsOwn n (done_at past me op reply ∷ past.book) me (next_of me reply)
own-completed n past key me own op reply ground accepted =
    let added : Done = done_at past me op reply in
    let none = not-completed n past key me own op reply accepted in
    let numbered = next-timestamp n past key me own op reply ground accepted in
    record {
      held = inr (record {
        done = added;
        found = done-first past.book added me (timestamp_at (next_of me reply) me)
            (subst (λ (z : ℕ). find past.book me z ≡ None) (sym numbered) none) refl (sym numbered);
        fits_it = refl;
      });
      last = λ t above. done-none past.book added me t (accepted.owned.last t (omega (arith, above, numbered, accepted.pending.number)))
          (λ client number. absurd (omega (arith, above, numbered, number)));
    }

-- the others keep theirs
pub own-other : (n : ℕ) (book : List Done) (added : Done) (k : ℕ) (own : Vector) → (added.client ≡ k → ⊥) → IsOwn n book k own
    → IsOwn n (added ∷ book) k own
own-other n book added k own other h = record {
  held = elim h.held [
    | inl is ↦ inl is
    | inr came ↦ inr (Completed-more book (added ∷ book) k (timestamp_at own k) (λ done. done.version ≡ own) (done-more book added) came)
  ];
  last = λ t above. done-none book added k t (h.last t above) (λ client number. other client);
}
