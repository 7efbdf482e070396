-- The key under which an operation is looked up, and the order of keys. It helps proofs.
use Rattle.std.specs.declared.cmp.Ordering.{Ordering}
use Rattle.faust_types.specs.declared.operation.OpName.{OpName}
use Rattle.faust_views.specs.contracts.key.KeyOrd.TheImpl as key_ord
use Rattle.faust_views.specs.declared.key.Key.{Key}

abbrev pub key_of : OpName → Key
key_of name = record { client = name.client; t = name.t }

abbrev pub key_order : Key → Key → Ordering
key_order = (key_ord.ghosts).cmp
