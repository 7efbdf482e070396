use Rattle.faust_views.proofs.EndsFound.{base-inside}
use Rattle.faust_views.proofs.Forested.{forest-grown, room-left}
use Rattle.faust_views.proofs.forest.Forest.grow.Goals as goal

pub add_tuples-requires-clause-place : goal.add_tuples-requires-clause-place
add_tuples-requires-clause-place c =
    rw c.base-base.ensures
    (base-inside c.args.self.now.tree c.args.self.now.ends c.requires.room.views _ c.args.reply.now
    c.requires.room.forest_is.ends_are c.requires.room.forest_is.found)

pub add-requires-clause-few : goal.add-requires-clause-few
add-requires-clause-few c =
    room-left c.args.self.now.tree c.add_tuples.new.tree c.args.self.now.ends c.base-base.result c.in_ok-place.place c.args.reply.now
    c.as_slice-pending.result.now c.requires.reply c.as_slice-pending.ensures c.requires.room.forest_is.few c.requires.room.room
    c.in_ok-place.ensures

pub returns-clause-forest : goal.returns-clause-forest
returns-clause-forest c = λ views is.
    forest-grown c.args.self.now (record { tree = c.add.new.self; ends = c.push.new.self; places = c.insert.new.self }) views
    c.args.op c.args.reply.now c.as_slice-pending.result.now c.add_tuples.new.tree c.base-base.result c.in_ok-place.place
    c.in_ok-end.end c.of.result is c.requires.reply c.as_slice-pending.ensures c.base-base.ensures c.in_ok-place.ensures
    c.in_ok-end.ensures.ok c.in_ok-end.ensures.path c.in_ok-end.ensures.kept c.of.ensures c.in_ok-push.ensures.ok
    c.in_ok-insert.ensures.updates.0
