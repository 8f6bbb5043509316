-- How high what is given is, as an evaluator counts levels: values, policies, entities, and maps of values.
use Rattle.std.specs.Prelude.{ℕ, ◌≤◌, max, List, [], ◌∷◌, Option, Some, None}
use Rattle.std.specs.declared.alloc.Global.{Global}
use Rattle.std.specs.declared.rc.Rc.{Rc}
use Rattle.std.specs.declared.rc.RcStr.{RcStr}
use Rattle.cedar_model.specs.Terms.{Text}
use Rattle.cedar_model.specs.Values.{expression_of}
use Rattle.cedar_model.specs.Failures.{PartialValue, part_expression}
use Rattle.cedar_model.specs.Settings.{StoredEntity, part_at, names_of}
use Rattle.cedar_model.specs.Policies.{Policy}
use Rattle.cedar_model.specs.Agreement.{height}
use Rattle.cedar_expressions.specs.View.{view}
use Rattle.cedar_expressions.specs.declared.expr.Expr.{Expr}
use Rattle.cedar_layers.specs.Stores.{entity_view}
use Rattle.cedar_layers.specs.declared.policies.entities.Entity.{Entity}
use Rattle.cedar_layers.specs.declared.policies.policy.Annotations.{Annotations}
use Rattle.cedar_layers.specs.declared.policies.policy.PolicyID.{PolicyID}
use Rattle.cedar_values.specs.Sound.{Placed}

-- the height of the highest condition
abbrev pub greatest_condition : List Policy → ℕ
greatest_condition [] = 0
greatest_condition (p ∷ ps) = max (height p.condition) (greatest_condition ps)

-- the height of the highest value of a map
abbrev pub greatest_value : List (RcStr Global × Placed) → ℕ
greatest_value [] = 0
greatest_value (e ∷ es) = max (height (expression_of e.1.what)) (greatest_value es)

-- what is left of policies, under their ids
abbrev pub Residuals : Type 0
Residuals = List (PolicyID × (Rc Expr Global × Rc Annotations Global))

-- the height of the highest residual
abbrev pub greatest_residual : Residuals → ℕ
greatest_residual [] = 0
greatest_residual (e ∷ es) = max (height (view e.1.0.value)) (greatest_residual es)

-- ---- entities

-- the height of a part, if it is there
abbrev pub found_height : Option PartialValue → ℕ
found_height None = 0
found_height (Some p) = height (part_expression p)

-- the height of the highest of the parts under these names
abbrev pub greatest_under : List Text → List (Text × PartialValue) → ℕ
greatest_under [] ps = 0
greatest_under (k ∷ ks) ps = max (found_height (part_at k ps)) (greatest_under ks ps)

-- that of the highest attribute or tag
abbrev pub facts_height : StoredEntity → ℕ
facts_height x = max (greatest_under (names_of x.attributes) x.attributes) (greatest_under (names_of x.tags) x.tags)

-- that of all entities
abbrev pub greatest_facts : List Entity → ℕ
greatest_facts [] = 0
greatest_facts (e ∷ es) = max (facts_height (entity_view e)) (greatest_facts es)
