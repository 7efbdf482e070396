-- Where judging stops: the check of a notice, and what was hashed up to it.
use Rattle.std.proofs.Common.{◌≡◌, ℕ, ◌+◌, ◌≤◌, Bool, true, false, not, if◌then◌else◌, List, [], ◌∷◌, ◌++◌, length, Option, Some, None, Result, Ok, Err, refl, sym, ap, ◌∙◌, subst, arith, append-nil, length-append}
use Rattle.faust_types.specs.Versions.{Vector}
use Rattle.faust_types.specs.Ranges.{IsCheck}
use Rattle.faust_types.specs.declared.operation.Operation.{Operation}
use Rattle.faust_types.specs.declared.operation.Notice.{Notice}
use Rattle.faust_types.specs.declared.message.ReadPart.{ReadPart}
use Rattle.faust_types.specs.declared.message.Reply.{Reply}
use Rattle.faust_types.specs.declared.message.Tuple.{Tuple}
use Rattle.faust_hash.specs.Chain.{chain_input}
use Rattle.faust_ustor.specs.declared.walk.Walk.{Walk}
use Rattle.faust_ustor.specs.Checks.{advanced, answered, begun, broken_base, broken_part, broken_tuple, completed, is_known_right, is_latest, is_mem_right, is_of_another, is_own_kept, is_next_submitted, is_part_for, is_proven, is_recent, judged, time_of, unless, walked}
use Rattle.faust_ustor.specs.Hashed.{all_inputs, chain_inputs, hashed, inputs_after, inputs_unless, mem_inputs, part_inputs, read_inputs, walk_inputs}
use Rattle.faust_ustor.specs.Passed.{followed}
use Rattle.faust_ustor.proofs.Inputs.{inputs-walked, rest_inputs}

-- The notice is of one of the checks from low to high.
pub record IsWithin (low high : ℕ) (notice : Notice) : Type 0 where
  pub from_low : low ≤ notice.check
  pub to_high : notice.check ≤ high

-- A property of the notices of three conditions is one of the notice of the first broken one.
some-three : (P : Notice → Type 0) (a b c : Bool) (x y z n : Notice) → P x → P y → P z
    → (if not a then Some x else if not b then Some y else if not c then Some z else None) ≡ Some n → P n
some-three P true true true x y z n px py pz h = cc
some-three P true true false x y z n px py pz h = let e : z ≡ n = cc in subst P e pz
some-three P true false c x y z n px py pz h = let e : y ≡ n = cc in subst P e py
some-three P false b c x y z n px py pz h = let e : x ≡ n = cc in subst P e px

-- The first of four conditions is broken, or a later one.
some-four : (P : Bool → Notice → Type 0) (a b c d : Bool) (x y z u n : Notice) → P false x → P true y → P true z → P true u
    → (if not a then Some x else if not b then Some y else if not c then Some z else if not d then Some u else None) ≡ Some n
    → P a n
some-four P true true true true x y z u n px py pz pu h = cc
some-four P true true true false x y z u n px py pz pu h = let e : u ≡ n = cc in subst (P true) e pu
some-four P true true false d x y z u n px py pz pu h = let e : z ≡ n = cc in subst (P true) e pz
some-four P true false c d x y z u n px py pz pu h = let e : y ≡ n = cc in subst (P true) e py
some-four P false b c d x y z u n px py pz pu h = let e : x ≡ n = cc in subst (P false) e px

base-noticed : (key : List ℕ) (me : ℕ) (own : Vector) (op : Operation) (reply : Reply) (notice : Notice)
    → broken_base key me own op reply ≡ Some notice → IsWithin 3 5 notice
unfolding broken_base
base-noticed key me own op reply notice h =
    some-three (IsWithin 3 5) (is_part_for op.kind op.register reply.read) (is_known_right key reply.c reply.version)
    (is_own_kept me own reply.version.version) _ _ _ notice
    (record { from_low = omega arith; to_high = omega arith }) (record { from_low = omega arith; to_high = omega arith })
    (record { from_low = omega arith; to_high = omega arith }) h

-- The notice is of one of the checks 6 to 8, at tuple q.
record IsOfTuple (q : ℕ) (notice : Notice) : Type 0 where
  within : IsWithin 6 8 notice
  here : notice.place ≡ q

tuple-noticed : (key : List ℕ) (me : ℕ) (proofs : List (Option (List ℕ))) (q : ℕ) (walk : Walk) (tuple : Tuple) (notice : Notice)
    → broken_tuple key me proofs q walk tuple ≡ Some notice → IsOfTuple q notice
unfolding broken_tuple
tuple-noticed key me proofs q walk tuple notice h =
    some-three (IsOfTuple q) (is_of_another me tuple) (is_proven key proofs walk.version tuple.client)
    (is_next_submitted key walk.version tuple) _ _ _ notice
    (record { within = record { from_low = omega arith; to_high = omega arith }; here = refl })
    (record { within = record { from_low = omega arith; to_high = omega arith }; here = refl })
    (record { within = record { from_low = omega arith; to_high = omega arith }; here = refl }) h

-- The notice is of one of the checks 9 to 12: of check 9 exactly where the known version isn't right.
pub record IsOfPart (known : Bool) (notice : Notice) : Type 0 where
  pub within : IsWithin 9 12 notice
  pub wrong : notice.check ≡ 9 → known ≡ false
  pub right : 10 ≤ notice.check → known ≡ true

right-of : (check place : ℕ) → 10 ≤ check → check ≤ 12 → IsOfPart true (record { check = check; place = place })
right-of check place low high = record {
  within = record { from_low = omega (arith, low); to_high = omega (arith, high) };
  wrong = λ e. absurd (omega (arith, e, low));
  right = λ e. refl;
}

part-noticed : (key : List ℕ) (version next : Vector) (part : ReadPart) (notice : Notice)
    → broken_part key version next part ≡ Some notice → IsOfPart (is_known_right key part.register part.version) notice
unfolding broken_part
part-noticed key version next part notice h =
    some-four IsOfPart (is_known_right key part.register part.version) (is_mem_right key part.register part.mem)
    (is_latest next part.register part.mem) (is_recent version part.register part.version.version (time_of part.mem)) _ _ _ _ notice
    (record {
      within = record { from_low = omega arith; to_high = omega arith };
      wrong = λ e. refl;
      right = λ e. absurd (omega (arith, e));
    })
    (right-of 10 0 (omega arith) (omega arith)) (right-of 11 0 (omega arith) (omega arith)) (right-of 12 0 (omega arith) (omega arith)) h

-- Where a result behind a condition is an error, the condition is broken, or it holds and the result is that error.
data UnlessErr {X : Type 0} (b : Option Notice) (r : Result X Notice) (n : Notice) : Type 0 where
  broken_before : b ≡ Some n → UnlessErr b r n
  broken_after : b ≡ None → r ≡ Err n → UnlessErr b r n

unless-err : {X : Type 0} (b : Option Notice) (r : Result X Notice) (n : Notice) → unless b r ≡ Err n → UnlessErr b r n
unless-err None r n h = broken_after refl h
unless-err (Some m) r n h = broken_before (cc)

-- A walk that stops does so at a tuple, after as many inputs as there are tuples before.
record WalkedErr (key : List ℕ) (me : ℕ) (proofs : List (Option (List ℕ))) (q : ℕ) (walk : Walk) (tuples : List Tuple)
    (notice : Notice) : Type 0 where
  within : IsWithin 6 8 notice
  counted : length (walk_inputs key me proofs q walk tuples) + q ≡ notice.place

walked-noticed : (key : List ℕ) (me : ℕ) (proofs : List (Option (List ℕ))) (q : ℕ) (walk : Walk) (tuples : List Tuple)
    (notice : Notice)
    → walked key me proofs q walk tuples ≡ Err notice → WalkedErr key me proofs q walk tuples notice
walked-noticed key me proofs q walk [] notice h = cc
walked-noticed key me proofs q walk (tuple ∷ rest) notice h =
    let on = advanced walk tuple.client in
    let b = broken_tuple key me proofs q walk tuple in
    let behind = chain_input walk.digest tuple.client ∷ walk_inputs key me proofs (q + 1) on rest in
    elim (unless-err b (walked key me proofs (q + 1) on rest) notice h) [
      | broken_before here ↦
          let told = tuple-noticed key me proofs q walk tuple notice here in
          let none : length (inputs_unless b behind) ≡ 0 = ap (λ (m : Option Notice). length (inputs_unless m behind)) here in
          record { within = told.within; counted = omega (arith, none, told.here) }
      | broken_after none later ↦
          let more = walked-noticed key me proofs (q + 1) on rest notice later in
          let one : length (inputs_unless b behind) ≡ length behind =
          ap (λ (m : Option Notice). length (inputs_unless m behind)) none in
          record { within = more.within; counted = omega (arith, one, more.counted) }
    ]

-- Where judging stops at a notice.
pub data Stops (key : List ℕ) (me : ℕ) (own : Vector) (op : Operation) (reply : Reply) (notice : Notice) : Type 0 where
  at_base : broken_base key me own op reply ≡ Some notice → Stops key me own op reply notice
  at_tuple : broken_base key me own op reply ≡ None → walked key me reply.proofs 1 (begun reply) reply.pending ≡ Err notice
      → Stops key me own op reply notice
  at_part : broken_base key me own op reply ≡ None → (end : Walk) → walked key me reply.proofs 1 (begun reply) reply.pending ≡ Ok end
      → (part : ReadPart) → reply.read ≡ Some part → IsOfPart (is_known_right key part.register part.version) notice
      → Stops key me own op reply notice

record AnsweredErr (key : List ℕ) (read : Option ReadPart) (notice : Notice) : Type 0 where
  part : ReadPart
  there : read ≡ Some part
  told : IsOfPart (is_known_right key part.register part.version) notice

answered-noticed : (key : List ℕ) (version next : Vector) (read : Option ReadPart) (notice : Notice)
    → answered key version next read ≡ Err notice → AnsweredErr key read notice
answered-noticed key version next None notice h = cc
answered-noticed key version next (Some part) notice h =
    elim (unless-err (broken_part key version next part) _ notice h) [
      | broken_before here ↦ record { part = part; there = refl; told = part-noticed key version next part notice here }
      | broken_after none later ↦ cc
    ]

completed-stops : (key : List ℕ) (me : ℕ) (own : Vector) (op : Operation) (reply : Reply) (notice : Notice) (w : Result Walk Notice)
    → broken_base key me own op reply ≡ None → walked key me reply.proofs 1 (begun reply) reply.pending ≡ w
    → completed key me reply w ≡ Err notice → Stops key me own op reply notice
completed-stops key me own op reply notice (Ok end) none came h =
    let last = answered-noticed key reply.version.version (advanced end me).version reply.read notice h in
    at_part none end came last.part last.there last.told
completed-stops key me own op reply notice (Err other) none came h =
    let same : other ≡ notice = cc in
    at_tuple none (came ∙ ap (λ (n : Notice). Err n) same)

-- Judging that comes to a notice stops there.
pub judged-stops : (key : List ℕ) (me : ℕ) (own : Vector) (op : Operation) (reply : Reply) (notice : Notice)
    → judged key me own op reply ≡ Err notice → Stops key me own op reply notice
unfolding judged
judged-stops key me own op reply notice h =
    let w = walked key me reply.proofs 1 (begun reply) reply.pending in
    elim (unless-err (broken_base key me own op reply) (completed key me reply w) notice h) [
      | broken_before here ↦ at_base here
      | broken_after none later ↦ completed-stops key me own op reply notice w none refl later
    ]

-- A notice of judging is of one of the checks 3 to 12.
pub judged-within : (key : List ℕ) (me : ℕ) (own : Vector) (op : Operation) (reply : Reply) (notice : Notice)
    → judged key me own op reply ≡ Err notice → IsWithin 3 12 notice
judged-within key me own op reply notice h =
    elim (judged-stops key me own op reply notice h) [
      | at_base here ↦
          let told = base-noticed key me own op reply notice here in
          record { from_low = told.from_low; to_high = omega (arith, told.to_high) }
      | at_tuple none here ↦
          let told = walked-noticed key me reply.proofs 1 (begun reply) reply.pending notice here in
          record { from_low = omega (arith, told.within.from_low); to_high = omega (arith, told.within.to_high) }
      | at_part none end came part there told ↦
          record { from_low = omega (arith, told.within.from_low); to_high = told.within.to_high }
    ]

-- So it has the number of a check.
pub judged-noticed : (key : List ℕ) (me : ℕ) (own : Vector) (op : Operation) (reply : Reply) (notice : Notice)
    → judged key me own op reply ≡ Err notice → IsCheck notice.check
judged-noticed key me own op reply notice h =
    let within = judged-within key me own op reply notice h in
    record { from_one = omega (arith, within.from_low); to_15 = omega (arith, within.to_high) }

-- What is hashed where judging comes to a notice.
pub record HashedUpTo (key : List ℕ) (me : ℕ) (own : Vector) (op : Operation) (reply : Reply) (notice : Notice) : Type 0 where
  pub at_base : notice.check ≤ 5 → hashed key me own op reply ≡ []
  pub at_tuple : 6 ≤ notice.check → notice.check ≤ 8 → length (hashed key me own op reply) + 1 ≡ notice.place
  pub at_version : notice.check ≡ 9 → length (hashed key me own op reply) ≡ length reply.pending + 1
  pub behind : 10 ≤ notice.check → hashed key me own op reply ≡ all_inputs me reply

chain_inputs-length : (walk : Walk) (tuples : List Tuple) → length (chain_inputs walk tuples) ≡ length tuples
chain_inputs-length walk [] = refl
chain_inputs-length walk (tuple ∷ rest) =
    let more = chain_inputs-length (advanced walk tuple.client) rest in
    omega (arith, more)

hashed-unbroken : (key : List ℕ) (me : ℕ) (own : Vector) (op : Operation) (reply : Reply) (w : Result Walk Notice)
    → broken_base key me own op reply ≡ None → walked key me reply.proofs 1 (begun reply) reply.pending ≡ w
    → hashed key me own op reply ≡ walk_inputs key me reply.proofs 1 (begun reply) reply.pending ++ inputs_after key me reply w
unfolding hashed
hashed-unbroken key me own op reply w none came =
    let inputs = walk_inputs key me reply.proofs 1 (begun reply) reply.pending in
    ap (λ (b : Option Notice). inputs_unless b (rest_inputs key me reply 1 (begun reply) reply.pending)) none
    ∙ ap (λ (r : Result Walk Notice). inputs ++ inputs_after key me reply r) came

hashed-broken : (key : List ℕ) (me : ℕ) (own : Vector) (op : Operation) (reply : Reply) (notice : Notice)
    → broken_base key me own op reply ≡ Some notice → hashed key me own op reply ≡ []
unfolding hashed
hashed-broken key me own op reply notice h =
    ap (λ (b : Option Notice). inputs_unless b (rest_inputs key me reply 1 (begun reply) reply.pending)) h

-- Where the walk comes to its end, each tuple and the own operation are hashed, and what is due of the read part.
hashed-walked : (key : List ℕ) (me : ℕ) (own : Vector) (op : Operation) (reply : Reply) (end : Walk)
    → broken_base key me own op reply ≡ None → walked key me reply.proofs 1 (begun reply) reply.pending ≡ Ok end
    → hashed key me own op reply ≡ chain_inputs (begun reply) reply.pending
    ++ (chain_input (followed (begun reply) reply.pending).digest me ∷ part_inputs key reply.read)
hashed-walked key me own op reply end none came =
    hashed-unbroken key me own op reply (Ok end) none came ∙ inputs-walked key me reply end came

-- What was hashed where judging comes to a notice, by its check.
pub hashed-up_to : (key : List ℕ) (me : ℕ) (own : Vector) (op : Operation) (reply : Reply) (notice : Notice)
    → judged key me own op reply ≡ Err notice → HashedUpTo key me own op reply notice
hashed-up_to key me own op reply notice h =
    elim (judged-stops key me own op reply notice h) [
      | at_base here ↦
          let told = base-noticed key me own op reply notice here in
          record {
            at_base = λ low. hashed-broken key me own op reply notice here;
            at_tuple = λ low high. absurd (omega (arith, told.to_high, low));
            at_version = λ same. absurd (omega (arith, told.to_high, same));
            behind = λ low. absurd (omega (arith, told.to_high, low));
          }
      | at_tuple none here ↦
          let told = walked-noticed key me reply.proofs 1 (begun reply) reply.pending notice here in
          let inputs = walk_inputs key me reply.proofs 1 (begun reply) reply.pending in
          let all = ap (λ (hashes : List (List ℕ)). length hashes)
          (hashed-unbroken key me own op reply (Err notice) none here ∙ append-nil inputs) in
          record {
            at_base = λ high. absurd (omega (arith, told.within.from_low, high));
            at_tuple = λ low high. omega (arith, all, told.counted);
            at_version = λ same. absurd (omega (arith, told.within.to_high, same));
            behind = λ low. absurd (omega (arith, told.within.to_high, low));
          }
      | at_part none end came part there told ↦
          let chains = chain_inputs (begun reply) reply.pending in
          let last = chain_input (followed (begun reply) reply.pending).digest me in
          let all = hashed-walked key me own op reply end none came
          ∙ ap (λ (read : Option ReadPart). chains ++ (last ∷ part_inputs key read)) there in
          let of_part : Bool → List (List ℕ) = λ known. chains ++ (last ∷ (if known then mem_inputs part.mem else [])) in
          record {
            at_base = λ high. absurd (omega (arith, told.within.from_low, high));
            at_tuple = λ low high. absurd (omega (arith, told.within.from_low, high));
            at_version = λ same.
                let known = all ∙ ap of_part (told.wrong same) in
                let counted = ap (λ (hashes : List (List ℕ)). length hashes) known in
                omega (arith, counted, length-append chains (last ∷ []), chain_inputs-length (begun reply) reply.pending);
            behind = λ low. all ∙ ap of_part (told.right low)
                ∙ ap (λ (read : Option ReadPart). chains ++ (last ∷ read_inputs read)) (sym there);
          }
    ]
