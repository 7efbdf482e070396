-- A read answers the value that its register's client wrote last in the fork, and goes on to have answered it.
use Rattle.std.proofs.Common.{◌≡◌, ℕ, ◌≤◌, true, List, [], ◌∷◌, Option, None, Some, IfSome, refl, sym, ap, ◌∙◌, subst, inl, inr, arith}
use Rattle.std.proofs.lemmas.Bool.{cases_eq, eqb-true}
use Rattle.faust_types.specs.Clients.{IsClient}
use Rattle.faust_types.specs.Messages.{value_of}
use Rattle.faust_types.specs.Ranges.{IsMem, IsReadPartFor}
use Rattle.faust_types.specs.Versions.{Vector}
use Rattle.faust_types.specs.declared.message.Mem.{Mem}
use Rattle.faust_types.specs.declared.message.ReadPart.{ReadPart}
use Rattle.faust_types.specs.declared.message.Reply.{Reply}
use Rattle.faust_types.specs.declared.operation.Kind.{Kind}
use Rattle.faust_types.specs.declared.operation.Kind.TheVariants.{Write, Read}
use Rattle.faust_types.specs.declared.operation.Operation.{Operation}
use Rattle.faust_hash.specs.Chain.{chain_input, value_input}
use Rattle.faust_ustor.specs.Checks.{begun, digest_of, is_mem_right, is_part_for, time_of}
use Rattle.faust_ustor.specs.Hashed.{chain_inputs, mem_inputs, read_inputs, value_inputs}
use Rattle.faust_ustor.specs.Passed.{IsPartPassed, followed, next_of, told_of}
use Rattle.faust_lists.specs.Lists.{count, AreClients}
use Rattle.faust_lists.specs.Names.{Has}
use Rattle.faust_lists.specs.Walks.{IsVersionOf}
use Rattle.faust_lists.proofs.Counts.{count-other}
use Rattle.faust_forks.specs.Books.{Begun, Done, AreBegunIn, find_begun}
use Rattle.faust_forks.specs.Sources.{of_data}
use Rattle.faust_forks.specs.Pairs.{AreMade, known_pairs, mem_pairs, read_pairs, tuple_pairs}
use Rattle.faust_forks.specs.Answers.{AreAnswered, AreBegunTo, IsAnswered, IsWritten, written}
use Rattle.faust_forks.specs.Pasts.{Past, done_at, fork_after}
use Rattle.faust_forks.specs.Forks.{AreBegun, IsAccepted, IsBook, IsGround}
use Rattle.faust_forks.proofs.Members.{has-right}
use Rattle.faust_forks.proofs.Found.{begun-more, done-cases, done-named, found-once}
use Rattle.faust_forks.proofs.Made.{AreMade-right, behind-pairs, made-data, mem-made}
use Rattle.faust_forks.proofs.Registers.{value-same, written-hashed, written-more}
use Rattle.faust_forks.proofs.Completing.{completion-sound}
use Rattle.faust_forks.proofs.Ordered.{found-of}

-- only clients of a history are counted in it
pub counted-client : (n k : ℕ) (w : List ℕ) → AreClients n w → 1 ≤ count k w → IsClient n k
counted-client n k [] clients some = absurd (omega (arith, some))
counted-client n k (x ∷ w) clients some = elim (cases_eq x k) [
  | inl e ↦ subst (λ (z : ℕ). IsClient n z) e clients.0
  | inr ne ↦ counted-client n k w clients.1 (omega (arith, some, count-other k x w ne))
]

-- all operations of a client in a history began
pub begun-to : (n : ℕ) (started : List Begun) (entry k : ℕ) (w : List ℕ) → AreClients n w → AreBegun n started entry w
    → AreBegunTo started k (count k w)
begun-to n started entry k w clients h = λ s one le.
    let began = h k s (counted-client n k w clients (omega (arith, one, le))) one le in
    record { begun = began.begun; found = began.found; fits_it = tt }

value-hashed : (hashed : List (List ℕ)) (value : Option (List ℕ)) → ((x : List ℕ) → Has (value_inputs value) x → Has hashed x)
    → IfSome value (λ v. Has hashed (value_input v))
value-hashed hashed None each = tt
value-hashed hashed (Some value) each = each (value_input value) (inl refl)

-- what is in memory is what was written last
pub mem-written : (n : ℕ) (past : Past)
    (key : List ℕ) (j : ℕ) (mem : Option Mem) → IsGround n past → AreMade key past.made (mem_pairs j mem)
    → is_mem_right key j mem ≡ true → IfSome mem IsMem → ((x : List ℕ) → Has (mem_inputs mem) x → Has past.hashed x)
    → value_of mem ≡ written past.started j (time_of mem)
mem-written n past key j None ground pairs right range each = refl
mem-written n past key j (Some mem) ground pairs right range each =
    let has : Has past.made (of_data j mem.t (digest_of mem.value)) =
    made-data n past.made j mem.t (digest_of mem.value) ground.sources range.number (mem-made key past.made j mem pairs right) in
    let is_written : IsWritten past.started j mem.t (digest_of mem.value) = ground.explained (of_data j mem.t (digest_of mem.value)) has in
    value-same past.hashed mem.value (written past.started j mem.t) ground.free (value-hashed past.hashed mem.value each)
    (written-hashed past.started past.hashed j mem.t ground.values) is_written.is_digest

-- What a read part tells of a history.
pub record IsReadOf (started : List Begun) (w : List ℕ) (part : ReadPart) : Type 0 where
  pub asof : time_of part.mem ≡ count part.register w
  pub value : value_of part.mem ≡ written started part.register (count part.register w)

pub part-written : (n : ℕ) (past : Past) (key : List ℕ) (version next : Vector) (w : List ℕ) (part : ReadPart) → IsGround n past
    → IsVersionOf n next w → IsReadPartFor n part → IsPartPassed key version next part → AreMade key past.made (read_pairs (Some part))
    → ((x : List ℕ) → Has (read_inputs (Some part)) x → Has past.hashed x) → IsReadOf past.started w part
part-written n past key version next w part ground of_w range passed pairs each =
    let asof : time_of part.mem ≡ count part.register w = passed.latest ∙ of_w.timestamps part.register range.register_in_range in
    record {
      asof = asof;
      value = mem-written n past key part.register part.mem ground
          (AreMade-right key past.made (known_pairs part.register part.version) (mem_pairs part.register part.mem) pairs)
          passed.mem_right range.mem_in_range each
          ∙ ap (λ (t : ℕ). written past.started part.register t) asof;
    }

-- the answer of a read is what its part tells
told-answered : (started : List Begun) (next : Vector) (kind : Kind) (register : ℕ) (read : Option ReadPart) (done : Done)
    → IfSome read (IsReadOf started done.fork) → kind ≡ Read → is_part_for kind register read ≡ true
    → done.value ≡ (told_of next read).value → done.asof ≡ (told_of next read).asof → IsAnswered started register done
told-answered started next Write register read done told is fits value asof = absurd cc
told-answered started next Read register None done told is fits value asof = absurd cc
told-answered started next Read register (Some part) done told is fits value asof =
    let same : part.register ≡ register = eqb-true part.register register fits in
    let counted : count part.register done.fork ≡ count register done.fork = ap (λ (k : ℕ). count k done.fork) same in
    record {
      asof = asof ∙ told.asof ∙ counted;
      value = value ∙ told.value ∙ ap (λ (k : ℕ). written started k (count part.register done.fork)) same
          ∙ ap (λ (t : ℕ). written started register t) counted;
    }

if-read : (n : ℕ) (past : Past) (key : List ℕ) (version next : Vector) (w : List ℕ) (read : Option ReadPart) → IsGround n past
    → IsVersionOf n next w → IfSome read (IsReadPartFor n) → IfSome read (IsPartPassed key version next)
    → AreMade key past.made (read_pairs read) → ((x : List ℕ) → Has (read_inputs read) x → Has past.hashed x)
    → IfSome read (IsReadOf past.started w)
if-read n past key version next w None ground of_w range passed pairs each = tt
if-read n past key version next w (Some part) ground of_w range passed pairs each =
    part-written n past key version next w part ground of_w range passed pairs each

-- a completed read answers what was written last
pub completion-answered : (n : ℕ) (past : Past) (key : List ℕ) (me : ℕ) (own : Vector) (op : Operation) (reply : Reply) → IsGround n past
    → IsAccepted n past key me own op reply → op.kind ≡ Read
    → IsAnswered past.started op.register (done_at past me op reply)
completion-answered n past key me own op reply ground accepted is =
    let sound = completion-sound n past key me own op reply ground accepted in
    let walk = begun reply in
    let behind = read_pairs reply.read in
    let known = known_pairs reply.c reply.version in
    let own_input = chain_input (followed walk reply.pending).digest me in
    let pairs : AreMade key past.made behind =
    behind-pairs key past.made me reply.proofs behind walk reply.pending accepted.passed.tuples_passed
    (AreMade-right key past.made known (tuple_pairs reply.proofs behind walk reply.pending) accepted.unforged) in
    let read = if-read n past key reply.version.version (next_of me reply) (fork_after past.book me reply) reply.read ground sound.version
    accepted.reply_in_range.read_in_range accepted.passed.part_passed pairs
    (λ x has. accepted.all_hashed x (has-right (chain_inputs walk reply.pending) (own_input ∷ read_inputs reply.read) x (inr has))) in
    told-answered past.started (next_of me reply) op.kind op.register reply.read (done_at past me op reply) read is
    accepted.passed.part_fits refl refl

IsAnswered-more : (started more : List Begun) (register : ℕ) (done : Done) → AreBegunIn started more
    → AreBegunTo started register (count register done.fork) → IsAnswered started register done → IsAnswered more register done
IsAnswered-more started more register done grows begun_to h = record {
  asof = h.asof;
  value = h.value ∙ sym (written-more started more register (count register done.fork) grows begun_to);
}

-- reads that answered so go on to have answered so, where an operation begins
pub answered-begun : (n : ℕ) (past : Past) (added : Begun) → IsBook n past → AreAnswered past.started past.book
    → AreAnswered (added ∷ past.started) past.book
answered-begun n past added book_sound h = λ k t done begun in_book found is.
    let more : List Begun = added ∷ past.started in
    let sound = book_sound k t done in_book in
    let of_k = found-of n past k t done book_sound in_book in
    let began = sound.fork.begun_before k t of_k.client of_k.some (omega (arith, of_k.counted)) in
    let same : began.begun ≡ begun = found-once (find_begun more k t) began.begun begun
    (begun-more past.started added k t began.begun began.found) found in
    let old : find_begun past.started k t ≡ Some begun = began.found ∙ ap Some same in
    IsAnswered-more past.started more begun.register done (begun-more past.started added)
    (begun-to n past.started done.entry begun.register done.fork sound.fork.clients sound.fork.begun_before)
    (h k t done begun in_book old is)

-- and where one completes
pub answered-completed : (n : ℕ) (past : Past) (key : List ℕ) (me : ℕ) (own : Vector) (op : Operation) (reply : Reply) → IsGround n past
    → IsAccepted n past key me own op reply → AreAnswered past.started past.book
    → AreAnswered past.started (done_at past me op reply ∷ past.book)
answered-completed n past key me own op reply ground accepted h = λ k t done begun in_book found is.
    let added : Done = done_at past me op reply in
    elim (done-cases past.book added k t done in_book) [
      | inl old ↦ h k t done begun old found is
      | inr same ↦
          let named = done-named (added ∷ past.book) k t done in_book in
          let mine : me ≡ k = ap (λ (z : Done). z.client) same ∙ named.is_client in
          let number : op.name.t ≡ t = ap (λ (z : Done). z.number) same ∙ named.is_number in
          let waited = accepted.waiting in
          let here : find_begun past.started k t ≡ Some waited.begun =
          subst (λ (z : ℕ). find_begun past.started k z ≡ Some waited.begun) number
          (subst (λ (z : ℕ). find_begun past.started z op.name.t ≡ Some waited.begun) mine waited.found) in
          let the_one : waited.begun ≡ begun = found-once (find_begun past.started k t) waited.begun begun here found in
          let kind : op.kind ≡ Read = sym waited.fits_it.0 ∙ ap (λ (z : Begun). z.kind) the_one ∙ is in
          let register : op.register ≡ begun.register = sym waited.fits_it.1 ∙ ap (λ (z : Begun). z.register) the_one in
          let answered : IsAnswered past.started op.register added =
          completion-answered n past key me own op reply ground accepted kind in
          subst (λ (z : Done). IsAnswered past.started begun.register z) same
          (subst (λ (z : ℕ). IsAnswered past.started z added) register answered)
    ]
