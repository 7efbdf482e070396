-- Each step of a row keeps what every state keeps, and a reply made in such a state is in range.
use Rattle.std.proofs.Common.{◌≡◌, ℕ, ◌-◌, ◌^◌, ◌<◌, ◌≤◌, Bool, true, false, if◌then◌else◌, Option, Some, None, List, length, IfSome, IsSomeAnd, replicate, slice_index_or, slice_set, refl, sym, ap, ◌∙◌, subst, inl, inr, arith}
use Rattle.std.proofs.lemmas.Bool.{cases_eq, true≢false}
use Rattle.std.proofs.lemmas.List.{get_or-set_other, get_or-replicate, length-set, length-replicate}
use Rattle.std.proofs.lemmas.Grind.{get_or-set_at}
use Rattle.std.proofs.lemmas.List.Elements.{All-from_recursion, recursion_from_All, All-replicate, All-set}
use Rattle.std.specs.List.{AllByRecursion}
use Rattle.faust_types.proofs.Messages.{IsKnownBy-unmade, value_of-in_range}
use Rattle.faust_types.specs.Clients.{IsClientCount, IsClient}
use Rattle.faust_types.specs.Messages.{unmade, tuples_by}
use Rattle.faust_types.specs.Ranges.{IsDigest, IsValue, IsKnownBy, IsTupleFor, IsMem, IsReadPartFor, IsReplyFor, IsValueOf, IsSubmitFor, IsCommitFor}
use Rattle.faust_types.specs.declared.operation.Kind.{Kind}
use Rattle.faust_types.specs.declared.operation.Kind.TheVariants.{Write, Read}
use Rattle.faust_types.specs.declared.message.Known.{Known}
use Rattle.faust_types.specs.declared.message.Mem.{Mem}
use Rattle.faust_types.specs.declared.message.Submit.{Submit}
use Rattle.faust_types.specs.declared.message.Commit.{Commit}
use Rattle.faust_server.specs.declared.turn.Turn.{Turn}
use Rattle.faust_server.specs.Rows.{State, client_count, first_turn, first_state, memory_at, turn_at, value_after, renewed, remembered, read_part, replied, tuple_of, appended, without, behind, settled, retaken}
use Rattle.faust_server.specs.States.{IsStateFor, IsState}
use Rattle.faust_server.proofs.Tuples.{tuples_by-push_own, tuples_by-push_other, tuples_by-without-own, tuples_by-without-le, tuples_by-behind-le, All-push, All-without, All-behind, few_tuples}

-- one item of a list is replaced: what holds of it and of the others holds of each
pub each-set : {A : Type 0} (P : ℕ → A → Type 0) (n i : ℕ) (xs : List A) (x d : A) → IsClient n i → length xs ≡ n → P i x
    → ((k : ℕ) → IsClient n k → (k ≡ i → ⊥) → P k (slice_index_or xs (k - 1) d)) → (k : ℕ) → IsClient n k
    → P k (slice_index_or (slice_set xs (i - 1) x) (k - 1) d)
each-set {A} P n i xs x d client paired own others k within = elim (cases_eq k i) [
  | inl e ↦
      let same : slice_index_or (slice_set xs (i - 1) x) (k - 1) d ≡ x = get_or-set_at xs (i - 1) (k - 1) x d (omega (arith, e))
      (omega (arith, client.from_one, client.to_n, paired)) in
      subst (λ (z : A). P k z) (sym same) (subst (λ (z : ℕ). P z x) (sym e) own)
  | inr ne ↦
      let apart : k - 1 ≡ i - 1 → ⊥ = λ q. ne (omega (arith, client.from_one, within.from_one)) in
      let same : slice_index_or (slice_set xs (i - 1) x) (k - 1) d ≡ slice_index_or xs (k - 1) d = get_or-set_other xs (i - 1)
      (k - 1) x d apart in
      subst (λ (z : A). P k z) (sym same) (others k within ne)
]

-- the same for facts on the list alone
pub All-slice_set : {A : Type 0} (P : A → Type 0) (xs : List A) (k : ℕ) (x : A) → AllByRecursion P xs → P x
    → AllByRecursion P (slice_set xs k x)
All-slice_set P xs k x all p = recursion_from_All P (slice_set xs k x) (All-set P xs k x p (All-from_recursion P xs all))

-- SUBMIT keeps it
pub written-in_range : (value : Option (List ℕ)) → IsSomeAnd value IsValue → IfSome value IsValue
written-in_range None h = tt
written-in_range (Some value) h = h

pub value_after-in_range : (kind : Kind) (value : Option (List ℕ)) (held : Option Mem) → IsValueOf kind value → IfSome held IsMem
    → IfSome (value_after kind value held) IsValue
value_after-in_range Write value held v h = written-in_range value v
value_after-in_range Read value held v h = value_of-in_range held h

pub IsStateFor-remembered : (n : ℕ) (st : State) (i : ℕ) (m : Submit) → IsStateFor n st → IsClient n i → IsSubmitFor n m
    → IsStateFor n (remembered st i m)
IsStateFor-remembered n st i m h client message =
    let mem : IsMem (renewed (memory_at st i) m) = record {
      number = message.number;
      value_in_range = value_after-in_range m.kind m.value (memory_at st i) message.value_in_range (h.memory_in_range i client);
      tag_sized = message.data_tag_sized;
    } in
    record {
      count = h.count;
      memory_paired = length-set st.memory (i - 1) _ ∙ h.memory_paired;
      versions_paired = h.versions_paired;
      proofs_paired = h.proofs_paired;
      turns_paired = h.turns_paired;
      c_in_range = h.c_in_range;
      memory_in_range = each-set (λ (k : ℕ) (held : Option Mem). IfSome held IsMem) n i st.memory _ None client h.memory_paired mem
          (λ k within ne. h.memory_in_range k within);
      versions_known = h.versions_known;
      pending_in_range = h.pending_in_range;
      one_pending = h.one_pending;
      proofs_sized = h.proofs_sized;
      turns_below = h.turns_below;
    }

-- a client that is committed has nothing pending
pub none_pending : (n : ℕ) (st : State) (i : ℕ) → IsStateFor n st → IsClient n i → (turn_at st i).uncommitted ≡ false
    → tuples_by i st.pending ≡ 0
none_pending n st i h client committed =
    let most : tuples_by i st.pending ≤ (if false then 1 else 0) = subst
    (λ (b : Bool). tuples_by i st.pending ≤ (if b then 1 else 0)) committed (h.one_pending i client) in
    omega (arith, most)

pub IsStateFor-appended : (n : ℕ) (st : State) (i : ℕ) (m : Submit) → IsStateFor n st → IsClient n i → IsSubmitFor n m
    → (turn_at st i).uncommitted ≡ false → IsStateFor n (appended st i m)
IsStateFor-appended n st i m h client message committed =
    let none = none_pending n st i h client committed in
    record {
      count = h.count;
      memory_paired = h.memory_paired;
      versions_paired = h.versions_paired;
      proofs_paired = h.proofs_paired;
      turns_paired = length-set st.turns (i - 1) _ ∙ h.turns_paired;
      c_in_range = h.c_in_range;
      memory_in_range = h.memory_in_range;
      versions_known = h.versions_known;
      pending_in_range = All-push (IsTupleFor n) st.pending (tuple_of i m) h.pending_in_range
          (record { client_in_range = client; register_in_range = message.register_in_range; tag_sized = message.submit_tag_sized });
      one_pending = each-set (λ (k : ℕ) (turn : Turn). tuples_by k (appended st i m).pending ≤ (if turn.uncommitted then 1 else 0)) n
          i st.turns _ first_turn client h.turns_paired
          (omega (arith, tuples_by-push_own i st.pending (tuple_of i m) refl, none))
          (λ k within ne. let same = tuples_by-push_other k st.pending (tuple_of i m) (λ e. ne (sym e)) in omega
          (arith, same, h.one_pending k within));
      proofs_sized = h.proofs_sized;
      turns_below = each-set (λ (k : ℕ) (turn : Turn). turn.last < 2 ^ 40) n i st.turns _ first_turn client h.turns_paired
          message.number.below (λ k within ne. h.turns_below k within);
    }

-- COMMIT keeps it
pub IsStateFor-led : (n : ℕ) (st : State) (i : ℕ) → IsStateFor n st → IsClient n i
    → IsStateFor n (record st { c = i; pending = behind i st.pending })
IsStateFor-led n st i h client = record {
  count = h.count;
  memory_paired = h.memory_paired;
  versions_paired = h.versions_paired;
  proofs_paired = h.proofs_paired;
  turns_paired = h.turns_paired;
  c_in_range = client;
  memory_in_range = h.memory_in_range;
  versions_known = h.versions_known;
  pending_in_range = All-behind (IsTupleFor n) i st.pending h.pending_in_range;
  one_pending = λ k within. omega (arith, tuples_by-behind-le k i st.pending, h.one_pending k within);
  proofs_sized = h.proofs_sized;
  turns_below = h.turns_below;
}

pub IsStateFor-settled : (n : ℕ) (st : State) (i : ℕ) (m : Commit) → IsStateFor n st → IsClient n i → IsCommitFor n m
    → IsStateFor n (settled st i m)
IsStateFor-settled n st i m h client message =
    let known : IsKnownBy n i (record { maker = i; version = m.version; tag = m.commit_tag }) = record {
      version_in_range = message.version_in_range;
      tag_sized = message.commit_tag_sized;
      unsigned = λ is. absurd (true≢false (sym is ∙ message.not_initial));
      signed = λ not_initial. refl;
    } in
    record {
      count = h.count;
      memory_paired = h.memory_paired;
      versions_paired = length-set st.versions (i - 1) _ ∙ h.versions_paired;
      proofs_paired = length-set st.proofs (i - 1) _ ∙ h.proofs_paired;
      turns_paired = length-set st.turns (i - 1) _ ∙ h.turns_paired;
      c_in_range = h.c_in_range;
      memory_in_range = h.memory_in_range;
      versions_known = each-set (λ (k : ℕ) (v : Known). IsKnownBy n k v) n i st.versions _ (unmade 0) client h.versions_paired known
          (λ k within ne. h.versions_known k within);
      pending_in_range = All-without (IsTupleFor n) i st.pending h.pending_in_range;
      one_pending = each-set (λ (k : ℕ) (turn : Turn). tuples_by k (settled st i m).pending ≤ (if turn.uncommitted then 1 else 0)) n i
          st.turns _ first_turn client h.turns_paired
          (omega (arith, tuples_by-without-own i st.pending))
          (λ k within ne. omega (arith, tuples_by-without-le k i st.pending, h.one_pending k within));
      proofs_sized = All-slice_set (λ (proof : Option (List ℕ)). IfSome proof IsDigest) st.proofs (i - 1)
          (Some m.proof_tag) h.proofs_sized message.proof_tag_sized;
      turns_below = each-set (λ (k : ℕ) (turn : Turn). turn.last < 2 ^ 40) n i st.turns _ first_turn client h.turns_paired
          (h.turns_below i client) (λ k within ne. h.turns_below k within);
    }

pub at_most_one : (b : Bool) (count : ℕ) → count ≤ (if b then 1 else 0) → count ≤ 1
at_most_one true count h = h
at_most_one false count h = omega (arith, h)

-- so does a turn set by hand
pub IsStateFor-retaken : (n : ℕ) (st : State) (i last : ℕ) (uncommitted : Bool) → IsStateFor n st → IsClient n i → last < 2 ^ 40
    → IsStateFor n (retaken st i last uncommitted)
IsStateFor-retaken n st i last uncommitted h client below = record {
  count = h.count;
  memory_paired = h.memory_paired;
  versions_paired = h.versions_paired;
  proofs_paired = h.proofs_paired;
  turns_paired = length-set st.turns (i - 1) _ ∙ h.turns_paired;
  c_in_range = h.c_in_range;
  memory_in_range = h.memory_in_range;
  versions_known = h.versions_known;
  pending_in_range = elim uncommitted as (λ b. AllByRecursion (IsTupleFor n) (retaken st i last b).pending) [
    | true ↦ h.pending_in_range
    | false ↦ All-without (IsTupleFor n) i st.pending h.pending_in_range
  ];
  one_pending = elim uncommitted as (λ b. (k : ℕ) → IsClient n k → tuples_by k (retaken st i last b).pending ≤
      (if (turn_at (retaken st i last b) k).uncommitted then 1 else 0)) [
        | true ↦ each-set (λ (k : ℕ) (turn : Turn). tuples_by k st.pending ≤ (if turn.uncommitted then 1 else 0)) n i st.turns _
            first_turn client h.turns_paired
            (at_most_one (turn_at st i).uncommitted _ (h.one_pending i client))
            (λ k within ne. h.one_pending k within)
        | false ↦ each-set (λ (k : ℕ) (turn : Turn). tuples_by k (without i st.pending) ≤ (if turn.uncommitted then 1 else 0)) n i
            st.turns _ first_turn client h.turns_paired
            (omega (arith, tuples_by-without-own i st.pending))
            (λ k within ne. omega (arith, tuples_by-without-le k i st.pending, h.one_pending k within))
      ];
  proofs_sized = h.proofs_sized;
  turns_below = each-set (λ (k : ℕ) (turn : Turn). turn.last < 2 ^ 40) n i st.turns _ first_turn client h.turns_paired below
      (λ k within ne. h.turns_below k within);
}

-- the first state has it
pub IsStateFor-first : (n : ℕ) → IsClientCount n → IsStateFor n (first_state n)
IsStateFor-first n count =
    let turn : (k : ℕ) → IsClient n k → turn_at (first_state n) k ≡ first_turn = λ k within. get_or-replicate n
    (k - 1) first_turn first_turn (omega (arith, within.from_one, within.to_n)) in
    record {
      count = count;
      memory_paired = length-replicate n None;
      versions_paired = length-replicate n (unmade n);
      proofs_paired = length-replicate n None;
      turns_paired = length-replicate n first_turn;
      c_in_range = record { from_one = omega arith; to_n = omega (arith, count.at_least_two) };
      memory_in_range = λ k within. subst (λ (held : Option Mem). IfSome held IsMem)
          (sym (get_or-replicate n (k - 1) None None (omega (arith, within.from_one, within.to_n)))) tt;
      versions_known = λ k within. subst (λ (v : Known). IsKnownBy n k v)
          (sym (get_or-replicate n (k - 1) (unmade n) (unmade 0) (omega (arith, within.from_one, within.to_n))))
          (IsKnownBy-unmade n k count);
      pending_in_range = tt;
      one_pending = λ k within. omega arith;
      proofs_sized = recursion_from_All _ (replicate n None)
          (All-replicate (λ (proof : Option (List ℕ)). IfSome proof IsDigest) n None tt);
      turns_below = λ k within. omega (arith, ap (λ (t : Turn). t.last) (turn k within));
    }

-- a reply to a client that is committed
pub read_part-in_range : (n : ℕ) (st : State) (kind : Kind) (j : ℕ) → IsStateFor n st → IsClient n j
    → IfSome (read_part st kind j) (IsReadPartFor n)
read_part-in_range n st Write j h register = tt
read_part-in_range n st Read j h register =
    record { register_in_range = register; version_known = h.versions_known j register; mem_in_range = h.memory_in_range j register }

pub pending-lt : (n : ℕ) (st : State) (i : ℕ) → IsStateFor n st → IsClient n i → (turn_at st i).uncommitted ≡ false
    → length st.pending < n
pending-lt n st i h client committed = few_tuples n i st.pending h.pending_in_range client (none_pending n st i h client committed)
    (λ k within. at_most_one _ _ (h.one_pending k within))

pub IsReplyFor-replied : (n : ℕ) (st : State) (i : ℕ) (m : Submit) → IsStateFor n st → IsClient n i → (turn_at st i).uncommitted ≡ false
    → IsClient n m.register → IsReplyFor n (replied st m)
IsReplyFor-replied n st i m h client committed register = record {
  client_in_range = h.c_in_range;
  version_known = h.versions_known st.c h.c_in_range;
  few_pending = omega (arith, pending-lt n st i h client committed, h.count.at_most_32);
  pending_in_range = h.pending_in_range;
  proofs_counted = h.proofs_paired;
  proofs_sized = h.proofs_sized;
  read_in_range = read_part-in_range n st m.kind m.register h register;
}

-- the same where the number of clients is that of the turns, and the state is known by an equation
pub IsState-for : (n : ℕ) (st : State) → IsStateFor n st → IsState st
IsState-for n st h = subst (λ (z : ℕ). IsStateFor z st) (sym h.turns_paired) h

module _ (st now : State) (i : ℕ) (same : st ≡ now) (h : IsState st) (client : IsClient (client_count now) i) where
  pub client-then : IsClient (client_count st) i
  client-then = subst (λ (s : State). IsClient (client_count s) i) (sym same) client

  pub IsState-remembered : (m : Submit) → IsSubmitFor (client_count now) m → IsState (remembered st i m)
  IsState-remembered m message =
      IsState-for _ _ (IsStateFor-remembered (client_count st) st i m h client-then
      (subst (λ (s : State). IsSubmitFor (client_count s) m) (sym same) message))

  pub IsState-appended : (m : Submit) → IsSubmitFor (client_count now) m → (turn_at now i).uncommitted ≡ false → IsState (appended st i m)
  IsState-appended m message committed =
      IsState-for _ _ (IsStateFor-appended (client_count st) st i m h client-then
      (subst (λ (s : State). IsSubmitFor (client_count s) m) (sym same) message)
      (subst (λ (s : State). (turn_at s i).uncommitted ≡ false) (sym same) committed))

  pub IsState-led : IsState (record st { c = i; pending = behind i st.pending })
  IsState-led = IsState-for _ _ (IsStateFor-led (client_count st) st i h client-then)

  pub IsState-settled : (m : Commit) → IsCommitFor (client_count now) m → IsState (settled st i m)
  IsState-settled m message =
      IsState-for _ _ (IsStateFor-settled (client_count st) st i m h client-then
      (subst (λ (s : State). IsCommitFor (client_count s) m) (sym same) message))

  pub IsState-retaken : (last : ℕ) (uncommitted : Bool) → last < 2 ^ 40 → IsState (retaken st i last uncommitted)
  IsState-retaken last uncommitted below = IsState-for _ _
      (IsStateFor-retaken (client_count st) st i last uncommitted h client-then below)
