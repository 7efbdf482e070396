use Rattle.std.proofs.Common.{rules, ◌≡◌, ◌≢◌, ℕ, ◌+◌, List, ◌∷◌, [], ◌++◌, Some, length, sym, ap, subst, ◌∙◌, arith}
use Rattle.std.specs.Vec.Iter.{into_iter_len}
use Rattle.std.proofs.lemmas.List.{length-append}
use Rattle.faust_types.specs.declared.arrival.Closing.TheVariants as closings
use Rattle.faust_record.specs.Journals.{Log}
use Rattle.faust_node.specs.Cells.{Cell}
use Rattle.faust_cluster.specs.Casting.{IsJoining}
use Rattle.faust_cluster.proofs.Seats.{one-joined}
use Rattle.faust_cluster.proofs.stage.journals_of.Goals as goal

pub loop-node-preserved : goal.loop-node-preserved
loop-node-preserved g c =
    let config = g.T.Session.config in
    let cell : Cell =
    record { log = c.into_parts-journal.result.0; seat = c.into_parts-journal.result.1; closed = c.into_parts-journal.result.2 } in
    let left : ℕ = into_iter_len c.next.new.self in
    let one_less : into_iter_len c.loop-node.node-iterator ≡ left + 1 = search rules in
    let more : c.push.new.self ≡ c.loop-node.journals ++ cell.log ∷ [] = c.in_ok-push.ensures.ok in
    let sized : length c.push.new.self ≡ length c.loop-node.journals + 1 =
    ap (λ (l : List Log). length l) more ∙ length-append c.loop-node.journals (cell.log ∷ []) in
    let before : IsJoining config c.loop-node.root ((left + 1) + 1) c.loop-node.journals =
    subst (λ (k : ℕ). IsJoining config c.loop-node.root (k + 1) c.loop-node.journals) one_less c.loop-node.invariant.joining in
    let other : cell.closed ≢ Some closings.Memory = c.in_ok-check_memory.ensures in
    record {
      can_next = tt;
      finite = tt;
      as_many = omega (arith, sized, one_less, c.loop-node.invariant.as_many);
      joining = subst (λ (l : List Log). IsJoining config c.join.new.self (left + 1) l) (sym more)
          (one-joined config c.loop-node.root c.join.new.self (left + 1) c.loop-node.journals cell before c.into_parts-journal.ensures other
          c.client-client.ensures.kept c.join.ensures);
    }
