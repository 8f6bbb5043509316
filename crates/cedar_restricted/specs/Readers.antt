-- What the readers of a restricted expression find: the part that they name, where the expression is of that kind.
use Rattle.std.specs.Prelude.{ℤ, Bool, List, Option, Some, None}
use Rattle.std.specs.Option.{option_and_then}
use Rattle.std.specs.declared.alloc.Global.{Global}
use Rattle.std.specs.declared.rc.RcStr.{RcStr}
use Rattle.cedar_model.specs.Terms as model
use Rattle.cedar_model.specs.Terms.{Text, EntityName, ValueType, Term, literal, bool_literal, long_literal}
use Rattle.cedar_model.specs.Terms.{text_literal, entity_literal, unknown, call, set_of, Terms}
use Rattle.cedar_names.specs.declared.names.Name.{Name}
use Rattle.cedar_names.specs.declared.types.Unknown as unknowns
use Rattle.cedar_expressions.specs.declared.expr.Expr.{Expr}
use Rattle.cedar_expressions.specs.Nodes.{Node}
use Rattle.cedar_expressions.specs.Nodes as node

-- ---- in a term

abbrev pub literal_in : Term → Option model.Literal
literal_in (literal l) = Some l
literal_in t = None

abbrev pub bool_of_literal : model.Literal → Option Bool
bool_of_literal (bool_literal b) = Some b
bool_of_literal (long_literal n) = None
bool_of_literal (text_literal t) = None
bool_of_literal (entity_literal e) = None

abbrev pub long_of_literal : model.Literal → Option ℤ
long_of_literal (bool_literal b) = None
long_of_literal (long_literal n) = Some n
long_of_literal (text_literal t) = None
long_of_literal (entity_literal e) = None

abbrev pub text_of_literal : model.Literal → Option Text
text_of_literal (bool_literal b) = None
text_of_literal (long_literal n) = None
text_of_literal (text_literal t) = Some t
text_of_literal (entity_literal e) = None

abbrev pub entity_of_literal : model.Literal → Option EntityName
entity_of_literal (bool_literal b) = None
entity_of_literal (long_literal n) = None
entity_of_literal (text_literal t) = None
entity_of_literal (entity_literal e) = Some e

abbrev pub bool_in : Term → Option Bool
bool_in t = option_and_then bool_of_literal (literal_in t)

abbrev pub long_in : Term → Option ℤ
long_in t = option_and_then long_of_literal (literal_in t)

abbrev pub text_in : Term → Option Text
text_in t = option_and_then text_of_literal (literal_in t)

abbrev pub entity_in : Term → Option EntityName
entity_in t = option_and_then entity_of_literal (literal_in t)

-- the name of an unknown and its annotation
abbrev pub unknown_in : Term → Option (Text × Option ValueType)
unknown_in (unknown n t) = Some (n, t)
unknown_in t = None

abbrev pub elements_in : Term → Option Terms
elements_in (set_of ts) = Some ts
elements_in t = None

-- the function's name and the arguments
abbrev pub call_in : Term → Option (Text × Terms)
call_in (call f ts) = Some (f, ts)
call_in t = None

-- ---- in a node, with the locations of the part

abbrev pub unknown_at : Node → Option unknowns.Unknown
unknown_at (node.Unknown u) = Some u
unknown_at n = None

abbrev pub elements_at : Node → Option (List Expr)
elements_at (node.Set es) = Some es
elements_at n = None

abbrev pub pairs_at : Node → Option (List (RcStr Global × Expr))
pairs_at (node.Record es) = Some es
pairs_at n = None

abbrev pub call_at : Node → Option (Name × List Expr)
call_at (node.ExtensionFunctionApp f es) = Some (f, es)
call_at n = None
