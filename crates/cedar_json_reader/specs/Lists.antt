-- What is read into lists, and what calls say by their shapes; for private clauses.
use Rattle.std.specs.Prelude.{◌≡◌, List, [], ◌∷◌, ◌++◌, map, Ok}
use Rattle.std.specs.Rc.{rc_str_bytes}
use Rattle.std.specs.declared.alloc.Global.{Global}
use Rattle.std.specs.declared.rc.RcStr.{RcStr}
use Rattle.json.specs.Json.{Json}
use Rattle.json.specs.Find.{as_str}
use Rattle.cedar_model.specs.Terms.{Text, Term}
use Rattle.cedar_restricted.specs.declared.restricted_expr.RestrictedExpr.{RestrictedExpr}
use Rattle.cedar_restricted.specs.Views.{restricted_term}
use Rattle.cedar_expressions.specs.declared.errors.ExpressionConstructionError.{ExpressionConstructionError}
use Rattle.cedar_expressions.specs.declared.errors.ExpressionConstructionError.TheVariants as constructions
use Rattle.cedar_json_reader.specs.declared.errors.JsonError.{JsonError}
use Rattle.cedar_json_reader.specs.declared.errors.RefusalReason.TheVariants as reasons
use Rattle.cedar_json_reader.specs.Paths.{at_key}
use Rattle.cedar_json_reader.specs.Refusals.{Said, made_of, IsRefusedAt, IsMemory}
use Rattle.cedar_json_reader.specs.Said.{said, said_list, arguments_said, called_said}
use Rattle.cedar_json_reader.specs.Shapes.{Parts}

-- a pair of a key and an expression, as a text and a term
abbrev pub pair_said : RcStr Global × RestrictedExpr → Text × Term
pair_said p = (rc_str_bytes p.0, restricted_term p.1)

abbrev pub pairs_said : List (RcStr Global × RestrictedExpr) → List (Text × Term)
pairs_said = map pair_said

-- the new list has one more at its end, which is what was said
abbrev pub IsOneMore : {T : Type 0} → List T → Said T → List T → Type 0
IsOneMore old s new = made_of (λ t. old ++ t ∷ []) s ≡ Ok new

abbrev pub arguments_of : Text → Json → Said (List Term)
arguments_of k j = arguments_said k (said j) (said_list j)

abbrev pub shape_said : Parts → Said Term
shape_said p = called_said (as_str p.function) (arguments_of p.key p.argument)

-- the key is a duplicate, or memory ran out
abbrev pub IsUnrecorded : ExpressionConstructionError → JsonError → Type 0
IsUnrecorded (constructions.DuplicateKey key context) e = IsRefusedAt (at_key (rc_str_bytes key) ∷ []) reasons.RepeatedKey e
IsUnrecorded (constructions.Memory error) e = IsMemory e
