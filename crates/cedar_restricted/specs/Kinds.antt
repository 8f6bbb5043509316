-- The kind of a restricted expression, with its parts, as a term and as a node.
use Rattle.std.specs.Prelude.{option_map}
use Rattle.std.specs.Rc.{rc_str_bytes}
use Rattle.cedar_model.specs.Terms.{Term, literal, unknown, set_of, record_of, call}
use Rattle.cedar_names.specs.Names.{name_text}
use Rattle.cedar_names.specs.Leaves.{type_view, literal_view}
use Rattle.cedar_expressions.specs.View.{terms_view, fields_view}
use Rattle.cedar_expressions.specs.Nodes.{Node}
use Rattle.cedar_expressions.specs.Nodes as node
use Rattle.cedar_restricted.specs.declared.restricted_expr.kinds.RestrictedKind.{RestrictedKind}
use Rattle.cedar_restricted.specs.declared.restricted_expr.kinds.RestrictedKind.TheVariants as kinds

abbrev pub kind_term : RestrictedKind → Term
kind_term (kinds.Literal l) = literal (literal_view l.now)
kind_term (kinds.Unknown u) = unknown (rc_str_bytes u.now.name) (option_map type_view u.now.type_annotation)
kind_term (kinds.Set es) = set_of (terms_view es.now)
kind_term (kinds.Record m) = record_of (fields_view m.now.entries)
kind_term (kinds.Call f es) = call (name_text f.now) (terms_view es.now)

abbrev pub kind_node : RestrictedKind → Node
kind_node (kinds.Literal l) = node.Lit l.now
kind_node (kinds.Unknown u) = node.Unknown u.now
kind_node (kinds.Set es) = node.Set es.now
kind_node (kinds.Record m) = node.Record m.now.entries
kind_node (kinds.Call f es) = node.ExtensionFunctionApp f.now es.now
