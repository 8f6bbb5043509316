-- No standard function asks for an unknown.
use Rattle.std.specs.Prelude.{◌≢◌, List, Option, None, Some}
use Rattle.cedar_model.specs.Terms.{Text, ValueType}
use Rattle.cedar_model.specs.Values.{AbstractValue}
use Rattle.cedar_model.specs.World.{World, function_asks}
use Rattle.cedar_model.specs.Agreement.{FitsFunction}
use Rattle.cedar_standard_functions.specs.Laws.{AskNothing}
use Rattle.cedar_standard_functions.specs.Standard.{made_by, standard_named, standard_answers}
use Rattle.cedar_standard_functions.specs.declared.function.StandardFunction.{StandardFunction}

never_asks : AskNothing → (o : Option StandardFunction) (vs : List AbstractValue) (n : Text) (t : Option ValueType)
    → made_by o vs ≢ function_asks n t
never_asks ask None vs n t e = cc
never_asks ask (Some f) vs n t e = ask f vs n t e

pub each_world_fits : AskNothing → (w : World) (f : Text) → FitsFunction standard_answers w f
each_world_fits ask w f vs n t e = absurd (never_asks ask (standard_named f) vs n t e)
