-- Which answers a user may get: what the type of a receipt keeps.
use Rattle.std.specs.Prelude.{◌≡◌, false, None}
use Rattle.faust_types.specs.declared.operation.Answer.{Answer}
use Rattle.faust_types.specs.declared.operation.Kind.TheVariants.{Write}

-- A write has its client's register, no value, and `asof` 0.
pub record IsWriteAnswer (answer : Answer) : Type 0 where
  pub own_register : answer.op.register ≡ answer.op.name.client
  pub no_value : answer.value ≡ None
  pub no_asof : answer.asof ≡ 0

abbrev pub IsPlain : Answer → Type 0
IsPlain answer = answer.op.kind ≡ Write → IsWriteAnswer answer

-- An answer that a user may get: none to a dummy read.
pub record IsUserAnswer (answer : Answer) : Type 0 where
  pub asked : answer.op.dummy ≡ false
  pub plain : IsPlain answer
