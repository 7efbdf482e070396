-- The history of a record: what is seen of it from outside, read off the inputs and the outcomes of its entries alone.
-- Every promise on the views and the cuts of a record rests on this file.
use Rattle.std.specs.Prelude.{◌==◌, cond, List, Option, Some, None}
use Rattle.faust_types.specs.declared.operation.OpName.{OpName}
use Rattle.faust_forks.specs.Books.{Begun}
use Rattle.faust_names.specs.Histories.{History}
use Rattle.faust_names.specs.Histories as seen
use Rattle.faust_record.specs.Operations.{Started, completion_named, operation_named}
use Rattle.faust_record.specs.Operations as entered
use Rattle.faust_record.specs.declared.entry.Entry.{Entry}

-- An operation, as it began.
abbrev pub begun_as : OpName → Option Started → Option Begun
begun_as a None = None
begun_as a (Some started) = Some (record {
  client = a.client;
  number = a.t;
  kind = started.order.kind;
  register = started.order.register;
  value = started.order.value;
  entry = started.number;
})

-- Operations are numbered from 1.
abbrev pub began_in : List Entry → OpName → Option Begun
began_in entries a = cond (a.t == 0) None (begun_as a (operation_named entries a))

-- How it completed.
abbrev pub finished_as : Option entered.Finished → Option seen.Finished
finished_as None = None
finished_as (Some finished) =
    Some (record { entry = finished.number; value = finished.answer.value; asof = finished.answer.asof })

abbrev pub completed_in : List Entry → OpName → Option seen.Finished
completed_in entries a = finished_as (completion_named entries a)

-- The history of a record.
abbrev pub history_read : List Entry → History
history_read entries = record {
  began = λ (a : OpName). began_in entries a;
  completed = λ (a : OpName). completed_in entries a;
}
