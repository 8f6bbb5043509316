-- A request, as contracts see it: its fields, as one value.
use Rattle.std.specs.Prelude.{Option}
use Rattle.cedar_requests.specs.declared.context.Context.{Context}
use Rattle.cedar_requests.specs.declared.entry.EntityUIDEntry.{EntityUIDEntry}

pub record RequestFields : Type 0 where
  pub principal : EntityUIDEntry
  pub action : EntityUIDEntry
  pub resource : EntityUIDEntry
  pub context : Option Context
