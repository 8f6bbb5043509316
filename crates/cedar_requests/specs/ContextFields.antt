-- A context, as contracts see it: its fields, as one value.
use Rattle.std.specs.declared.alloc.Global.{Global}
use Rattle.cedar_requests.specs.declared.context.pairs.ContextPairs.{ContextPairs}

pub record ContextFields : Type 0 where
  pub pairs : ContextPairs
  pub alloc : Global
