-- Items and members that are written one by one.
use Rattle.std.proofs.Common.{◌≡◌, List, [], ◌∷◌, length, map, refl, ap, Global}
use Rattle.std.specs.Prelude.{codes}
use Rattle.std.specs.Rc.{rc_str_bytes}
use Rattle.std.specs.declared.rc.RcStr.{RcStr}
use Rattle.json.specs.Json.{Json, string, array, item, member}
use Rattle.json.specs.Value.{items_of}
use Rattle.cedar_model.specs.Terms.{Text}
use Rattle.cedar_expressions.specs.declared.expr.Expr.{Expr}
use Rattle.cedar_expressions.specs.View.{view, terms_view, fields_view}
use Rattle.cedar_json_writer.specs.Trees.{members_of}
use Rattle.cedar_json_writer.specs.Written.{written, written_items, written_members, written_call, written_call_of}

abbrev pub Entry : Type 0
Entry = RcStr Global × Expr

abbrev pub written_expr : Expr → Json
written_expr e = written (view e)

abbrev pub written_pair : Entry → Text × Json
written_pair p = (rc_str_bytes p.0, written (view p.1))

pub items_written : (es : List Expr) → items_of (map written_expr es) ≡ written_items (terms_view es)
items_written [] = refl
items_written (e ∷ es) = ap (item (written_expr e)) (items_written es)

pub members_written : (fs : List Entry) → members_of (map written_pair fs) ≡ written_members (fields_view fs)
members_written [] = refl
members_written (f ∷ fs) = ap (member (rc_str_bytes f.0) (written_expr f.1)) (members_written fs)

-- a call of fewer or more arguments than one
pub call_many : (f : Text) (es : List Expr) → (length es ≡ 1 → ⊥)
    → written_call_of (string f) (codes "args") (array (written_items (terms_view es))) ≡ written_call f (written_items (terms_view es))
call_many f [] h = refl
call_many f (e ∷ []) h = absurd (h refl)
call_many f (d ∷ e ∷ es) h = refl
