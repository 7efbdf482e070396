use Rattle.std.proofs.Common.{◌≡◌, ◌++◌, ◌∷◌, [], List, length, map, refl, ap, ◌∙◌}
use Rattle.std.proofs.lemmas.List.{map_push}
use Rattle.std.specs.Prelude.{slice_set}
use Rattle.faust_record.specs.Merging.{entry_of}
use Rattle.faust_record.specs.Placing.{placed}
use Rattle.faust_record.proofs.Pushes.{arrival-entry}
use Rattle.faust_record.proofs.Tables.{last-below, put-last}
use Rattle.faust_record.proofs.placing.put_arrivals.Goals as goal

pub set-requires : goal.set-requires
set-requires c =
    let last : map entry_of c.loop-arrival.arrivals ≡ map entry_of c.pop.new.self ++ entry_of c.in-Some.arrival ∷ [] =
    ap (map entry_of) c.in-Some.ensures.taken ∙ map_push entry_of c.pop.new.self c.in-Some.arrival in
    last-below (length c.loop-arrival.table) (map entry_of c.loop-arrival.arrivals) (map entry_of c.pop.new.self)
    (entry_of c.in-Some.arrival)
    last c.loop-arrival.invariant.1

pub loop-arrival-preserved : goal.loop-arrival-preserved
loop-arrival-preserved c =
    let arrival = c.in-Some.arrival in
    let last : map entry_of c.loop-arrival.arrivals ≡ map entry_of c.pop.new.self ++ entry_of arrival ∷ [] =
    ap (map entry_of) c.in-Some.ensures.taken ∙ map_push entry_of c.pop.new.self arrival in
    let entry = arrival-entry arrival.number arrival.client arrival.message c.nothing.result arrival.number arrival.client refl refl
    c.nothing.ensures in
    let set : c.set.new.self ≡ slice_set c.loop-arrival.table arrival.number (entry_of arrival) =
    c.set.ensures ∙ ap (slice_set c.loop-arrival.table arrival.number) entry in
    put-last c.loop-arrival.table c.set.new.self (map entry_of c.loop-arrival.arrivals) (map entry_of c.pop.new.self)
    (placed c.args.table.now (map entry_of c.args.arrivals)) (entry_of arrival) last set c.loop-arrival.invariant.0
    c.loop-arrival.invariant.1
