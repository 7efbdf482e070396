-- What is held of a client, from one state to the next.
use Rattle.std.proofs.Common.{◌≡◌, ℕ, ◌<◌, ◌≤◌, zero, suc, Bool, true, false, List, Option, Some, None, refl, sym, ap, ◌∙◌, subst}
use Rattle.std.proofs.lemmas.Bool.{lt-ltb, le-ltb}
use Rattle.faust_types.specs.Messages.{value_of}
use Rattle.faust_types.specs.declared.operation.Kind.{Kind}
use Rattle.faust_types.specs.declared.operation.Kind.TheVariants.{Write, Read}
use Rattle.faust_types.specs.declared.message.Known.{Known}
use Rattle.faust_types.specs.declared.message.Mem.{Mem}
use Rattle.faust_hash.proofs.Lists.{is_same_tells}
use Rattle.faust_tags.specs.Bodies.{data_body, tag_of}
use Rattle.faust_server.specs.Rows.{value_after, renewed}
use Rattle.faust_server.specs.declared.turn.Turn.{Turn}
use Rattle.faust_ustor.specs.Checks.{digest_of, is_mem_right, time_of}
use Rattle.faust_honest.specs.World.{World, written_by, written, submit_of}
use Rattle.faust_honest.specs.Honest.{mem_of, turn_of, IsHeld}

-- it is the same where each part is
pub held-along : (n : ℕ) (world : World) (k : ℕ) (known known' : Known) (proof proof' : Option (List ℕ)) (turn turn' : Turn)
    (mem mem' : Option Mem) (submits submits' commits commits' : ℕ) (history history' : List ℕ)
    → known' ≡ known → proof' ≡ proof → turn' ≡ turn → mem' ≡ mem → submits' ≡ submits → commits' ≡ commits → history' ≡ history
    → IsHeld n world k known proof turn mem submits commits history → IsHeld n world k known' proof' turn' mem' submits' commits' history'
held-along n world k known known' proof proof' turn turn' mem mem' s s' c c' w w' e1 e2 e3 e4 e5 e6 e7 h =
    subst (λ (z : Known). IsHeld n world k z proof' turn' mem' s' c' w') (sym e1)
    (subst (λ (z : Option (List ℕ)). IsHeld n world k known z turn' mem' s' c' w') (sym e2)
    (subst (λ (z : Turn). IsHeld n world k known proof z mem' s' c' w') (sym e3)
    (subst (λ (z : Option Mem). IsHeld n world k known proof turn z s' c' w') (sym e4)
    (subst (λ (z : ℕ). IsHeld n world k known proof turn mem z c' w') (sym e5)
    (subst (λ (z : ℕ). IsHeld n world k known proof turn mem s z w') (sym e6)
    (subst (λ (z : List ℕ). IsHeld n world k known proof turn mem s c z) (sym e7) h))))))

-- the turn of a client with an operation that isn't committed, and without one
pub turn_of-busy : (submits commits : ℕ) → commits < submits → (turn_of submits commits).uncommitted ≡ true
turn_of-busy submits commits lt = lt-ltb commits submits lt

pub turn_of-free : (submits commits : ℕ) → submits ≤ commits → (turn_of submits commits).uncommitted ≡ false
turn_of-free submits commits le = le-ltb commits submits le

abbrev pub turn_with : ℕ → Bool → Turn
turn_with last uncommitted = record { last = last; uncommitted = uncommitted }

-- what stands in memory
pub value_of-mem : (world : World) (k t : ℕ) → value_of (mem_of world k t) ≡ written world k t
value_of-mem world k zero = refl
value_of-mem world k (suc t) = refl

pub time_of-mem : (world : World) (k t : ℕ) → time_of (mem_of world k t) ≡ t
time_of-mem world k zero = refl
time_of-mem world k (suc t) = refl

pub mem_of-right : (world : World) (k t : ℕ) → is_mem_right world.key k (mem_of world k t) ≡ true
mem_of-right world k zero = refl
mem_of-right world k (suc t) =
    let tag : List ℕ = tag_of world.key (data_body k (suc t) (digest_of (written world k (suc t)))) in
    (is_same_tells tag tag).1 refl

value_after-written : (kind : Kind) (value : Option (List ℕ)) (held : Option Mem) (before : Option (List ℕ)) → value_of held ≡ before
    → value_after kind value held ≡ written_by kind value before
value_after-written Write value held before e = refl
value_after-written Read value held before e = e

-- the next operation of its client renews it
pub renewed-mem : (world : World) (k t : ℕ) (held : Option Mem) → held ≡ mem_of world k t
    → Some (renewed held (submit_of world k (suc t) None)) ≡ mem_of world k (suc t)
renewed-mem world k t held e =
    let tag : List ℕ = tag_of world.key (data_body k (suc t) (digest_of (written world k (suc t)))) in
    let before : value_of held ≡ written world k t = ap value_of e ∙ value_of-mem world k t in
    ap (λ (value : Option (List ℕ)). let mem : Mem = record { t = suc t; value = value; tag = tag } in Some mem)
    (value_after-written (world.kind k (suc t)) (world.value k (suc t)) held (written world k t) before)
