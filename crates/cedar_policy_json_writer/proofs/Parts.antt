-- Parts of expressions that are written one by one.
use Rattle.std.proofs.Common.{◌≡◌, List, [], ◌∷◌, map, refl, ap, Global}
use Rattle.std.specs.Rc.{rc_str_bytes}
use Rattle.std.specs.declared.rc.RcStr.{RcStr}
use Rattle.json.specs.Json.{Json, item, member}
use Rattle.json.specs.Value.{items_of}
use Rattle.cedar_model.specs.Terms.{Text}
use Rattle.cedar_model.specs.World.{Slots}
use Rattle.cedar_expressions.specs.declared.expr.Expr.{Expr}
use Rattle.cedar_expressions.specs.View.{view, terms_view, fields_view}
use Rattle.cedar_json_writer.specs.Trees.{members_of}
use Rattle.cedar_policy_json_writer.specs.Expressions.{expression_json, items_json, members_json}

abbrev pub Entry : Type 0
Entry = RcStr Global × Expr

abbrev pub part_json : Slots → Expr → Json
part_json s e = expression_json s (view e)

abbrev pub pair_json : Slots → Entry → Text × Json
pair_json s p = (rc_str_bytes p.0, expression_json s (view p.1))

pub items_written : (s : Slots) (es : List Expr) → items_of (map (part_json s) es) ≡ items_json s (terms_view es)
items_written s [] = refl
items_written s (e ∷ es) = ap (item (part_json s e)) (items_written s es)

pub members_written : (s : Slots) (fs : List Entry)
    → members_of (map (pair_json s) fs) ≡ members_json s (fields_view fs)
members_written s [] = refl
members_written s (f ∷ fs) = ap (member (rc_str_bytes f.0) (part_json s f.1)) (members_written s fs)

pub ruleset parts = (items_written, members_written)
