use Rattle.cedar_layers.specs.Stores.{store_view}
use Rattle.cedar_extensions.specs.Extensions.{extensions_view}
use Rattle.cedar_operators.specs.Operands.{given}
use Rattle.cedar_interpreter.proofs.DirectLaws.{value_found}
use Rattle.cedar_interpreter.proofs.direct_evaluators.operator_on_values.Goals as goal

pub returns-in-Some : goal.returns-in-Some
returns-in-Some g c s =
    c.in-Some.ensures (given s (store_view c.args.within.now.given.now.entities.now) (extensions_view c.args.within.now.given.now.extensions.now))

pub returns-in-None : goal.returns-in-None
returns-in-None g c s = value_found c.binary_app.result c.answered_value.result _ c.answered_value.ensures (c.binary_app.ensures s)
