-- The stored residuals that operators read, as plain data: the first on the way of an extended `has`.
use Rattle.std.specs.Prelude.{List, [], ◌∷◌, Option, None, Some, option_map, option_copied}
use denote.Ref.{Bor}
use Rattle.std.specs.Rc.{rc_str_bytes}
use Rattle.std.specs.declared.alloc.Global.{Global}
use Rattle.std.specs.declared.rc.Rc.{Rc}
use Rattle.std.specs.declared.rc.RcStr.{RcStr}
use Rattle.cedar_model.specs.Terms.{Text, Term}
use Rattle.cedar_model.specs.Values.{Represented}
use Rattle.cedar_model.specs.Failures.{PartialValue, value, residual}
use Rattle.cedar_model.specs.Settings.{Store, Found, found, not_there, not_known, look_up, part_at}
use Rattle.cedar_model.specs.Operators.{Container, a_record, an_entity, no_container, container_of, represented_at}
use Rattle.cedar_model.specs.Operators.{attribute_residual}
use Rattle.cedar_names.specs.declared.types.FirstRest.{FirstRest}
use Rattle.cedar_names.specs.Leaves.{texts_view}
use Rattle.cedar_expressions.specs.declared.expr.Expr.{Expr}
use Rattle.cedar_expressions.specs.View.{view}
use Rattle.cedar_values.specs.declared.partial_value.ResidualExpr.{ResidualExpr}
use Rattle.cedar_values.specs.Residuals.{residual_term}

-- the expression of a stored residual, if there is one
abbrev pub residual_of : Option (Bor ResidualExpr) → Option Term
residual_of o = option_map residual_term (option_copied o)

-- one with the attributes after it
abbrev pub on_path_of : (Rc Expr Global × Rc (FirstRest (RcStr Global)) Global) → Term × Text × List Text
on_path_of p = (view p.0.value, rc_str_bytes p.1.value.first, texts_view p.1.value.rest.items)

abbrev pub path_residual_of : Option (Rc Expr Global × Rc (FirstRest (RcStr Global)) Global)
    → Option (Term × Text × List Text)
path_residual_of o = option_map on_path_of o

unfoldable pub value_in : Option PartialValue → Option Represented
value_in None = None
value_in (Some (value v)) = Some v
value_in (Some (residual t)) = None

unfoldable pub next_found : Found → Text → Option Represented
next_found not_known k = None
next_found not_there k = None
next_found (found x) k = value_in (part_at k x.attributes)

-- the value that an attribute leads to, if it leads to one
unfoldable pub next_in : Store → Container → Text → Option Represented
next_in store (a_record fs) k = represented_at k fs
next_in store (an_entity e) k = next_found (look_up store e) k
next_in store no_container k = None

-- a residual that is read here, or what comes from the value that is walked on to
unfoldable pub read_or : Option Term → Option Represented → Text → List Text
    → (Represented → Option (Term × Text × List Text)) → Option (Term × Text × List Text)
read_or (Some t) o l ls next = Some (t, l, ls)
read_or None (Some u) l ls next = next u
read_or None None l ls next = None

-- the first stored residual that an extended `has` reads before its last attribute, with the attributes after it
unfoldable pub path_residual : Store → Represented → Text → List Text → Option (Term × Text × List Text)
path_residual store v k [] = None
path_residual store v k (l ∷ ls) =
    read_or (attribute_residual store v k) (next_in store (container_of v) k) l ls (λ u. path_residual store u l ls)
