-- The config that stands in until a call names its own. No promise rests on it.
use Rattle.std.specs.Prelude.{[]}
use Rattle.faust_types.specs.declared.config.Config.{Config}

abbrev pub no_config : Config
no_config = record { clients = 0; key = []; delta = 0; dummy = 0; wire = 0 }
