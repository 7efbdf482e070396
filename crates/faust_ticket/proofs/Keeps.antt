-- Each of the four steps keeps what holds of the next number and the holders.
use Rattle.std.proofs.Common.{◌≡◌, ℕ, ◌+◌, ◌^◌, ◌<◌, ◌≤◌, List, [], ◌∷◌, ◌++◌, set, refl, sym, arith, All, ◌∙◌}
use mathlib.Core.Option.{some}
use lib.ListN.{get_elem?}
use Rattle.faust_ticket.specs.Numbers.{times, HoldsEachBelow}
use Rattle.faust_ticket.specs.Holders.{SeatView, RootView, first_root, first_seat, after_draw, after_split, after_join}
use Rattle.faust_ticket.specs.Rule.{Holder, root, seat, spent, drawn_by, spare_of, out_of, is_root, is_seat, total, IsCounted}
use Rattle.faust_ticket.proofs.Once.{once_below-no, once_below-add, times-append, times-push, all_below}
use Rattle.faust_ticket.proofs.Totals.{total-set, total-push, at_most, alone, total-add}

abbrev times_by : ℕ → Holder → ℕ
times_by x h = times x (drawn_by h)

no_root : (h : Holder) → is_root h ≡ 0 → out_of h ≡ 0
no_root (root q) e = absurd (omega arith)
no_root (seat q) e = refl
no_root spent e = refl

only_spent : (x : ℕ) (h : Holder) → is_root h + is_seat h ≡ 0 → times_by x h ≡ 0
only_spent x (root q) e = absurd (omega arith)
only_spent x (seat q) e = absurd (omega arith)
only_spent x spent e = refl

pub opens : IsCounted 0 (root first_root ∷ [])
opens = record {
  each_once = λ x. let a = once_below-no 0 x (omega arith) in omega arith;
  room = omega arith;
  one_root = refl;
  seats_out = refl;
}

module _ (w : ℕ) (vs : List Holder) (k : ℕ) (kept : IsCounted w vs) where
  module _ (s : SeatView) (at : get_elem? vs k ≡ some (seat s)) where
    pub draws : 0 < s.spare → IsCounted (w + 1) (set vs k (seat (after_draw s w)))
    draws left = let u : Holder = seat (after_draw s w) in record {
      each_once = λ x.
          let a = total-set (times_by x) vs k (seat s) u at in
          let b = times-push x s.drawn w in
          let c = once_below-add w x in
          let d = kept.each_once x in
          omega arith;
      room = let a = total-set spare_of vs k (seat s) u at in let b = kept.room in omega arith;
      one_root = let a = total-set is_root vs k (seat s) u at in let b = kept.one_root in omega arith;
      seats_out =
          let a = total-set is_seat vs k (seat s) u at in
          let b = total-set out_of vs k (seat s) u at in
          let c = kept.seats_out in
          omega arith;
    }

    pub draw_rises : All (λ y. y < w) s.drawn
    draw_rises = all_below w s.drawn (λ x.
        let a = at_most (times_by x) vs k (seat s) at in
        let b = kept.each_once x in
        omega arith)

    pub draw_is_below : 0 < s.spare → w < 2 ^ 40
    draw_is_below left = let a = at_most spare_of vs k (seat s) at in let b = kept.room in omega arith

  module _ (r : RootView) (at : get_elem? vs k ≡ some (root r)) where
    pub splits : 2 ^ 32 ≤ r.spare → IsCounted w (set vs k (root (after_split r)) ++ seat first_seat ∷ [])
    splits enough = let u : Holder = root (after_split r) in let us = set vs k u in record {
      each_once = λ x.
          let a = total-set (times_by x) vs k (root r) u at in
          let b = total-push (times_by x) us (seat first_seat) in
          let c = kept.each_once x in
          omega arith;
      room =
          let a = total-set spare_of vs k (root r) u at in
          let b = total-push spare_of us (seat first_seat) in
          let c = kept.room in
          omega arith;
      one_root =
          let a = total-set is_root vs k (root r) u at in
          let b = total-push is_root us (seat first_seat) in
          let c = kept.one_root in
          omega arith;
      seats_out =
          let a = total-set is_seat vs k (root r) u at in
          let b = total-push is_seat us (seat first_seat) in
          let c = total-set out_of vs k (root r) u at in
          let d = total-push out_of us (seat first_seat) in
          let e = kept.seats_out in
          omega arith;
    }

    -- only the root counts seats out
    all_out : total out_of vs ≡ r.out
    all_out = alone out_of is_root no_root vs k (root r) at kept.one_root

    pub joins : (i : ℕ) (s : SeatView) → get_elem? (set vs k (root (after_join r s))) i ≡ some (seat s)
        → IsCounted w (set (set vs k (root (after_join r s))) i spent)
    joins i s there = let u : Holder = root (after_join r s) in let us = set vs k u in record {
      each_once = λ x.
          let a = total-set (times_by x) vs k (root r) u at in
          let b = total-set (times_by x) us i (seat s) spent there in
          let c = times-append x r.drawn s.drawn in
          let d = kept.each_once x in
          omega arith;
      room =
          let a = total-set spare_of vs k (root r) u at in
          let b = total-set spare_of us i (seat s) spent there in
          let c = kept.room in
          omega arith;
      one_root =
          let a = total-set is_root vs k (root r) u at in
          let b = total-set is_root us i (seat s) spent there in
          let c = kept.one_root in
          omega arith;
      seats_out =
          let a = total-set is_seat vs k (root r) u at in
          let b = total-set is_seat us i (seat s) spent there in
          let c = total-set out_of vs k (root r) u at in
          let d = total-set out_of us i (seat s) spent there in
          let e = kept.seats_out in
          let one_more = at_most is_seat us i (seat s) there in
          let all = all_out in
          omega arith;
    }

    pub finishes : r.out ≡ 0 → HoldsEachBelow w r.drawn
    finishes none x =
        let all = all_out in
        let a = kept.seats_out in
        let b = kept.one_root in
        let c = total-add is_root is_seat vs in
        let d = alone (times_by x) (λ h. is_root h + is_seat h) (only_spent x) vs k (root r) at (omega arith) in
        sym d ∙ kept.each_once x
