-- What the table's four calls ask, for the root and for a seat.
use Rattle.std.proofs.Common.{◌≡◌, ℕ, ◌+◌, ◌%◌, ◌^◌, ◌<◌, ◌≤◌, [], ◌∷◌, set, get_or, refl, sym, ap, ◌∙◌, subst, arith}
use Rattle.atomic_table.specs.Table.{State, Me, keeps, Allows, Splits, Joins}
use Rattle.atomic_table.proofs.Lists.{set_again}
use Rattle.faust_ticket.specs.Holders.{SeatView, RootView, after_draw}
use Rattle.faust_ticket.specs.Rule.{Holder, root, seat, spent, IsCounted, IsCounter}
use Rattle.faust_ticket.specs.Steps.{drew, finished, root_left, seat_given, root_joined}
use Rattle.faust_ticket.proofs.Keeps.{draws, draw_rises, draw_is_below, splits, joins, finishes}

abbrev Table : Type 0
Table = State (Unit {0}) Holder

abbrev Mine : Type 0
Mine = Me (Unit {0}) Holder

-- the word is the next number of what is counted
counted : (s : Table) → IsCounter s → IsCounted (get_or s.words 0 0) s.views
counted s c =
    let is : get_or s.words 0 0 ≡ c.next = ap (λ l. get_or l 0 0) c.one_word in
    subst (λ n. IsCounted n s.views) (sym is) c.counted

wraps : (x : ℕ) → x < 2 ^ 40 → (x + 1) % 2 ^ 64 ≡ x + 1
wraps x h = omega arith

draws_from : (slots id : ℕ) (s : SeatView) → 0 < s.spare
    → Allows IsCounter slots id (seat s, []) 0 (λ n. (n + 1) % 2 ^ 64) (λ x after. drew (seat s) x after.0 × (after.1 ≡ []))
draws_from slots id s left t c sized at small =
    let x : ℕ = get_or t.words 0 0 in
    let k = counted t c in
    let below = draw_is_below x t.views id k s at left in (
      seat (after_draw s x),
      keeps,
      tt,
      record {
        next = x + 1;
        one_word = ap (λ l. set l 0 ((x + 1) % 2 ^ 64)) c.one_word ∙ ap (λ n. n ∷ []) (wraps x below);
        counted = draws x t.views id k s at left;
      },
      (record { rising = draw_rises x t.views id k s at; below = below; taken = refl }, refl),
    )

-- a draw by a seat with a spare number
pub draw_allowed : (slots id : ℕ) (me : Mine) (s : SeatView) → me ≡ (seat s, []) → 0 < s.spare
    → Allows IsCounter slots id me 0 (λ n. (n + 1) % 2 ^ 64) (λ x after. drew me.0 x after.0 × (after.1 ≡ me.1))
draw_allowed slots id me s e left =
    subst (λ (m : Mine). Allows IsCounter slots id m 0 (λ n. (n + 1) % 2 ^ 64) (λ x after. drew m.0 x after.0 × (after.1 ≡ m.1)))
    (sym e) (draws_from slots id s left)

-- a split by a root with enough spare numbers
pub split_allowed : (id : ℕ) (v : Holder) (r : RootView) → v ≡ root r → 2 ^ 32 ≤ r.spare
    → Splits IsCounter id v (root_left v) (seat_given v)
split_allowed id v r e enough =
    subst (λ (h : Holder). Splits IsCounter id h (root_left h) (seat_given h)) (sym e)
    (λ t c at. record { next = c.next; one_word = c.one_word; counted = splits c.next t.views id c.counted r at enough })

-- a join of a seat by the root
pub join_allowed : (id : ℕ) (v : Holder) (r : RootView) (i : ℕ) (w : Holder) (s : SeatView) → v ≡ root r → w ≡ seat s
    → Joins IsCounter id v i w (root_joined v w) spent
join_allowed id v r i w s e f =
    subst (λ (h : Holder). Joins IsCounter id h i w (root_joined h w) spent) (sym e)
    (subst (λ (h : Holder). Joins IsCounter id (root r) i h (root_joined (root r) h) spent) (sym f)
    (λ t c at apart there. record { next = c.next; one_word = c.one_word; counted = joins c.next t.views id c.counted r at i s there }))

finish_of : (slots id : ℕ) (r : RootView) → Allows IsCounter slots id (root r, []) 0 (λ n. n) (λ x _. finished (root r) x)
finish_of slots id r t c sized at small =
    let x : ℕ = get_or t.words 0 0 in
    let k = counted t c in (
      root r,
      keeps,
      tt,
      record {
        next = x;
        one_word = ap (λ l. set l 0 x) c.one_word;
        counted = subst (λ vs. IsCounted x vs) (sym (set_again t.views id (root r) at)) k;
      },
      finishes x t.views id k r at,
    )

-- the last load, by the root
pub finish_allowed : (slots id : ℕ) (me : Mine) (r : RootView) → me ≡ (root r, [])
    → Allows IsCounter slots id me 0 (λ n. n) (λ x _. finished me.0 x)
finish_allowed slots id me r e =
    subst (λ (m : Mine). Allows IsCounter slots id m 0 (λ n. n) (λ x _. finished m.0 x)) (sym e) (finish_of slots id r)
