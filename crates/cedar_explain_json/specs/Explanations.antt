-- The JSON value of an explanation, of which all is so that `cedar_explain` promises.
use Rattle.std.specs.Prelude.{Bool, List}
use Rattle.json.specs.Json.{Json}
use Rattle.cedar_model.specs.Terms.{Text}
use Rattle.cedar_model.specs.World.{Slots}
use Rattle.cedar_model.specs.Policies as model
use Rattle.cedar_layers.specs.declared.policies.policy_set.PolicySet.{PolicySet}
use Rattle.cedar_explain.specs.declared.requests.ExplainedPolicy.{ExplainedPolicy}
use Rattle.cedar_explain.specs.Explained.{Told}
use Rattle.cedar_explain_printer.specs.Lines.{Line}
use Rattle.cedar_explain_printer.specs.Explanations.{IsExplanation, IsLackOf}
use Rattle.cedar_explain_json.specs.Documents.{IsDocument}

-- of these explained policies: the value of the very lacks that lines tell
pub record IsLackJson (text : Text) (Is : Slots → Told → Type 0) (xs : List ExplainedPolicy) (mode : model.ErrorHandling)
    (has_values : Bool) (j : Json) : Type 0 where
  pub lines : List Line
  pub told : IsLackOf Is xs mode has_values lines
  pub document : IsDocument text has_values Is told.lacks xs j

-- there is an explanation, as it is told in lines: each policy of the set is explained, its parts are reached, they decide,
-- and none of them can be left out; and the value is the one of this explanation
pub record IsExplanationJson (text : Text) (Is : Slots → Told → Type 0) (ps : PolicySet) (mode : model.ErrorHandling)
    (has_values : Bool) (j : Json) : Type 0 where
  pub lines : List Line
  pub explanation : IsExplanation Is ps mode has_values lines
  pub document : IsDocument text has_values Is explanation.told.lacks explanation.explained j
