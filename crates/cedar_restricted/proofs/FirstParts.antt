-- The first disallowed part as it stands: how it is found in the parts of an expression.
use Rattle.std.proofs.Common.{◌≡◌, true, false, ℕ, ◌+◌, ◌<◌, List, ◌∷◌, length, get_or, drop, Option, Some, None}
use Rattle.std.proofs.Common.{is_some, IfSome, Vec, BTreeMap, Global, sym, ap, ◌∙◌, subst}
use Rattle.std.proofs.lemmas.List.{drop_more}
use Rattle.std.specs.declared.rc.Rc.{Rc}
use Rattle.std.specs.declared.rc.RcStr.{RcStr}
use Rattle.cedar_model.specs.Shapes.{is_restricted}
use Rattle.cedar_model.specs.Restricted.{Disallowed, feature_of, or_else, first_disallowed, first_disallowed_of}
use Rattle.cedar_model.specs.Restricted.{first_disallowed_at}
use Rattle.cedar_names.specs.declared.names.Name.{Name}
use Rattle.cedar_expressions.specs.declared.expr.Expr.{Expr}
use Rattle.cedar_expressions.specs.declared.expr.ExprKind.{ExprKind, ExtensionFunctionApp, Set, Record}
use Rattle.cedar_expressions.specs.View.{view, kind_view, expr_kind_of, terms_view, fields_view}
use Rattle.cedar_expressions.specs.Nodes.{parts_of, parts_below, kind_parts}
use Rattle.cedar_expressions.proofs.Levels.{view_by_kind, kind_view-ExtensionFunctionApp, kind_view-Set}
use Rattle.cedar_expressions.proofs.Levels.{kind_view-Record}
use Rattle.cedar_expressions.proofs.NodeLevels.{kind_node-ExtensionFunctionApp, kind_node-Set, kind_node-Record}
use Rattle.cedar_restricted.specs.declared.restricted_expr.disallowed.DisallowedPart.{DisallowedPart}
use Rattle.cedar_restricted.specs.Refusals.{is_disallowed, IsFirstDisallowed, inside}
use Rattle.cedar_restricted.specs.Refusals.{IsFirstAmong, here, later, entry_parts}

-- ---- in a node

-- what is found among the parts of an allowed node is found in it
found_inside : (e : Expr) (parts : List Expr) (r : Option DisallowedPart) → is_disallowed e ≡ false → parts_of e ≡ parts →
    IfSome r (λ f. IsFirstAmong parts f.part.now) → IfSome r (λ f. IsFirstDisallowed e f.part.now)
found_inside e parts None allowed is found = tt
found_inside e parts (Some f) allowed is found =
    inside e f.part.now allowed (subst (λ es. IsFirstAmong es f.part.now) (sym is) found)

pub found_in_call : (e : Expr) (k : ExprKind) (name : Name) (args : Rc (Vec Expr Global) Global)
    (lent : Vec Expr Global) (r : Option DisallowedPart) → k ≡ expr_kind_of e → k ≡ ExtensionFunctionApp name args →
    lent ≡ args.value → IfSome r (λ f. IsFirstAmong lent.items f.part.now) →
    IfSome r (λ f. IsFirstDisallowed e f.part.now)
unfolding feature_of
found_in_call e k name args lent r kind is same found =
    let this : expr_kind_of e ≡ ExtensionFunctionApp name args = sym kind ∙ is in
    found_inside e lent.items r
    (ap (λ t. is_some (feature_of t)) (view_by_kind e ∙ ap kind_view this ∙ kind_view-ExtensionFunctionApp name args))
    (ap kind_parts this ∙ ap parts_below (kind_node-ExtensionFunctionApp name args)
    ∙ ap (λ (v : Vec Expr Global). v.items) (sym same)) found

pub found_in_set : (e : Expr) (k : ExprKind) (parts : Rc (Vec Expr Global) Global) (lent : Vec Expr Global)
    (r : Option DisallowedPart) → k ≡ expr_kind_of e → k ≡ Set parts → lent ≡ parts.value →
    IfSome r (λ f. IsFirstAmong lent.items f.part.now) → IfSome r (λ f. IsFirstDisallowed e f.part.now)
unfolding feature_of
found_in_set e k parts lent r kind is same found =
    let this : expr_kind_of e ≡ Set parts = sym kind ∙ is in
    found_inside e lent.items r
    (ap (λ t. is_some (feature_of t)) (view_by_kind e ∙ ap kind_view this ∙ kind_view-Set parts))
    (ap kind_parts this ∙ ap parts_below (kind_node-Set parts) ∙ ap (λ (v : Vec Expr Global). v.items) (sym same)) found

pub found_in_record : (e : Expr) (k : ExprKind) (pairs : Rc (BTreeMap (RcStr Global) Expr) Global)
    (lent : BTreeMap (RcStr Global) Expr) (r : Option DisallowedPart) → k ≡ expr_kind_of e → k ≡ Record pairs →
    lent ≡ pairs.value → IfSome r (λ f. IsFirstAmong (entry_parts lent.entries) f.part.now) →
    IfSome r (λ f. IsFirstDisallowed e f.part.now)
unfolding feature_of
found_in_record e k pairs lent r kind is same found =
    let this : expr_kind_of e ≡ Record pairs = sym kind ∙ is in
    found_inside e (entry_parts lent.entries) r
    (ap (λ t. is_some (feature_of t)) (view_by_kind e ∙ ap kind_view this ∙ kind_view-Record pairs))
    (ap kind_parts this ∙ ap parts_below (kind_node-Record pairs)
    ∙ ap (λ (m : BTreeMap (RcStr Global) Expr). entry_parts m.entries) (sym same)) found

-- ---- among parts

-- what is left, with the part that is next
pub left_is : (xs ys : List Expr) (i : ℕ) (e : Expr) → xs ≡ ys → i < length xs → e ≡ get_or xs i e →
    drop i ys ≡ e ∷ drop (i + 1) ys
left_is xs ys i e same below is =
    subst (λ l. drop i l ≡ e ∷ drop (i + 1) l) same (drop_more xs i e below ∙ ap (λ d. d ∷ drop (i + 1) xs) (sym is))

-- a part is restricted, so that the first among those behind it is the first of all
pub behind : (all left : List Expr) (e : Expr) (es : List Expr) → left ≡ e ∷ es → is_restricted (view e) ≡ true →
    ((p : Expr) → IsFirstAmong left p → IsFirstAmong all p) → (p : Expr) → IsFirstAmong es p → IsFirstAmong all p
behind all left e es is restricted before p found =
    before p (subst (λ l. IsFirstAmong l p) (sym is) (later e es p restricted found))

-- what is found in the next part is the first of all
pub next_found : (all left : List Expr) (e : Expr) (es : List Expr) (p : Expr) → left ≡ e ∷ es →
    ((q : Expr) → IsFirstAmong left q → IsFirstAmong all q) → IsFirstDisallowed e p → IsFirstAmong all p
next_found all left e es p is before found =
    before p (subst (λ l. IsFirstAmong l p) (sym is) (here e es p found))

-- a part has none, so that the first of those behind it is that of all
pub seen_of : (left : List Expr) (e : Expr) (es : List Expr) (all : Option Disallowed) → left ≡ e ∷ es →
    first_disallowed (view e) ≡ None → first_disallowed_of (terms_view left) ≡ all →
    first_disallowed_of (terms_view es) ≡ all
unfolding first_disallowed or_else
seen_of left e es all is none before =
    sym (ap (λ o. or_else o (first_disallowed_of (terms_view es))) none)
    ∙ ap (λ l. first_disallowed_of (terms_view l)) (sym is) ∙ before

pub seen_at : (left : List (RcStr Global × Expr)) (k : RcStr Global) (e : Expr) (fs : List (RcStr Global × Expr))
    (all : Option Disallowed) → left ≡ (k, e) ∷ fs → first_disallowed (view e) ≡ None →
    first_disallowed_at (fields_view left) ≡ all → first_disallowed_at (fields_view fs) ≡ all
unfolding first_disallowed or_else
seen_at left k e fs all is none before =
    sym (ap (λ o. or_else o (first_disallowed_at (fields_view fs))) none)
    ∙ ap (λ l. first_disallowed_at (fields_view l)) (sym is) ∙ before
