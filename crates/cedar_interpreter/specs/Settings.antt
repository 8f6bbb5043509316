-- What an evaluation is given, as plain data.
use Rattle.std.specs.Prelude.{◌≡◌, Option, None}
use Rattle.cedar_model.specs.Terms.{Text, Variable, principal, action, resource, context}
use Rattle.cedar_model.specs.Values.{Represented}
use Rattle.cedar_model.specs.Settings as model
use Rattle.cedar_model.specs.Settings.{RequestPart, Setting, variable_part}
use Rattle.cedar_values.specs.declared.partial_value.PartialValue.{PartialValue}
use Rattle.cedar_values.specs.Residuals.{partial_view}
use Rattle.cedar_values.specs.Sound.{Placed}
use Rattle.cedar_expressions.specs.Mappings.{mapping_of}
use Rattle.cedar_layers.specs.Policies.{slots_view}
use Rattle.cedar_layers.specs.Stores.{store_view}
use Rattle.cedar_model.specs.Rules.{StoredCalls}
use Rattle.cedar_extensions.specs.Extensions.{extensions_view, calls_of}
use Rattle.cedar_interpreter.specs.declared.evaluation.Evaluation.{Evaluation}
use Rattle.cedar_interpreter.specs.declared.evaluation.Given.{Given}
use Rattle.cedar_interpreter.specs.declared.evaluation.Mapper.{Mapper}
use Rattle.cedar_interpreter.specs.declared.evaluation.Mapper.TheVariants as mappers
use Rattle.cedar_interpreter.specs.declared.evaluation.Resolution.{Resolution}
use Rattle.cedar_interpreter.specs.declared.evaluation.Resolution.TheVariants as resolutions

-- the values of unknowns
abbrev pub mapper_view : Mapper → Text → Option Represented
mapper_view mappers.Empty n = None
mapper_view (mappers.Values m) n = mapping_of (λ (v : Placed). v.what) m.now.entries n

-- what reading a stored residual answers
abbrev pub resolution_view : Resolution → model.Resolution
resolution_view resolutions.Shallow = model.shallow
resolution_view resolutions.Deep = model.deep

-- what is given for a variable
abbrev pub given_for : {X : Type 0} {F : X → Type 0} {g : _} → Given X F g → Variable → PartialValue
given_for g principal = g.principal
given_for g action = g.action
given_for g resource = g.resource
given_for g context = g.context

-- what is given for the variables is what this request says
abbrev pub Speaks : {X : Type 0} {F : X → Type 0} {g : _} → RequestPart → Evaluation X F g → Type 0
Speaks r e = (v : Variable) → partial_view (given_for e.given.now v) ≡ variable_part r v

-- what the evaluation is given, where this is the request
abbrev pub evaluation_setting : {X : Type 0} {F : X → Type 0} {g : _} → RequestPart → Evaluation X F g → Setting
evaluation_setting r e =
    record {
      request = r;
      store = store_view e.given.now.entities.now;
      map = mapper_view e.given.now.mapper;
      slots = slots_view e.slots.now;
      extensions = extensions_view e.given.now.extensions.now;
      resolution = resolution_view e.given.now.resolution;
    }

-- what the stored functions may answer
abbrev pub calls_in : {X : Type 0} {F : X → Type 0} {g : _} → Evaluation X F g → StoredCalls
calls_in e = calls_of e.given.now.extensions.now
