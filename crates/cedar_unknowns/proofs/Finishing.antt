-- A step by a map that names all that is listed finishes.
use Rattle.std.specs.Prelude.{◌≡◌, ◌≢◌, List, Option, true}
use Rattle.cedar_model.specs.Terms.{Text, ValueType, bool_literal}
use Rattle.cedar_model.specs.Values.{AbstractValue, plain}
use Rattle.cedar_model.specs.World.{Functions, function_gives, function_asks}
use Rattle.cedar_model.specs.Failures.{PartialValue, value, residual}
use Rattle.cedar_model.specs.Settings.{Resolution, shallow, deep, Store}
use Rattle.cedar_model.specs.Agreement.{EachStored, IsValue, NeverAsks}
use Rattle.cedar_model.specs.Configurations.{Configuration}
use Rattle.cedar_model.specs.Chains.{Mapping, Response}
use Rattle.cedar_model.specs.Progress.{LeavesNoResidual}
use Rattle.cedar_authorizer.specs.declared.responses.partial_response.PartialResponse.{PartialResponse}
use Rattle.cedar_authorizer.specs.Steps.{Finishes}
use Rattle.cedar_unknowns.specs.Finishing.{FinishesByLists, FinishesWithoutFunctions}
use Rattle.cedar_unknowns.proofs.Naming.{listed_names_are_all}

-- from a value no residual is answered, whatever reading a residual answers
value_leaves_none : (ans : Functions) (m : Mapping) (resolution : Resolution) (p : PartialValue) → IsValue p
    → LeavesNoResidual ans m resolution p
value_leaves_none ans m shallow p h = h
value_leaves_none ans m deep (value v) h = tt
value_leaves_none ans m deep (residual t) h = absurd h

stored_leave_none : (ans : Functions) (m : Mapping) (resolution : Resolution) (s : Store) → EachStored IsValue s
    → EachStored (LeavesNoResidual ans m resolution) s
stored_leave_none ans m resolution s h e x k p at = (
  λ there. value_leaves_none ans m resolution p ((h e x k p at).0 there),
  λ there. value_leaves_none ans m resolution p ((h e x k p at).1 there),
)

pub finishes_by_lists : (c : Configuration) (step : Mapping × Store) (old : Response) (r : PartialResponse)
    → Finishes c step old r → FinishesByLists c step old r
finishes_by_lists c step old r finishes given ans agrees never =
    finishes ans agrees given.store_is_concrete
    (stored_leave_none ans step.0 c.resolution step.1 given.stored_are_values)
    (listed_names_are_all ans never step.0 given.values_hold_none old given.listed_are_named)

-- functions of a world that ask nothing
abbrev answering_true : Functions
answering_true f vs = function_gives (plain (bool_literal true))

gives_no_unknown : (v : AbstractValue) (n : Text) (t : Option ValueType) → function_gives v ≢ function_asks n t
gives_no_unknown v n t e = cc

true_never_asks : (f : Text) → NeverAsks answering_true f
true_never_asks f vs n t = gives_no_unknown (plain (bool_literal true)) n t

pub finishes_without_functions : (c : Configuration) (step : Mapping × Store) (old : Response) (r : PartialResponse)
    → Finishes c step old r → FinishesWithoutFunctions c step old r
finishes_without_functions c step old r finishes given none =
    (finishes_by_lists c step old r finishes given answering_true (λ f vs a h. absurd (none f vs a h))
    true_never_asks).0
