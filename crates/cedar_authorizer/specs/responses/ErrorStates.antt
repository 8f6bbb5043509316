-- The order of error states.
use Rattle.std.specs.declared.cmp.Ordering.{Ordering}
use Rattle.std.specs.declared.cmp.Ordering.TheVariants.{Less, Equal, Greater}
use Rattle.cedar_authorizer.specs.declared.responses.partial_response.ErrorState.{ErrorState}
use Rattle.cedar_authorizer.specs.declared.responses.partial_response.ErrorState.TheVariants as states

-- how two error states compare: `NoError` comes first
abbrev pub order_of_states : ErrorState → ErrorState → Ordering
order_of_states states.NoError states.NoError = Equal
order_of_states states.NoError states.Error = Less
order_of_states states.Error states.NoError = Greater
order_of_states states.Error states.Error = Equal
