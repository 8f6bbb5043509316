-- Which part of an expression is refused, and what the refusal says.
use Rattle.std.specs.Prelude.{◌≡◌, Bool, true, false, List, ◌∷◌, map, Option, Some, None, is_some, codes}
use Rattle.std.specs.declared.alloc.Global.{Global}
use Rattle.std.specs.declared.rc.RcStr.{RcStr}
use Rattle.cedar_model.specs.Terms.{Text, Term}
use Rattle.cedar_model.specs.Shapes.{is_restricted}
use Rattle.cedar_model.specs.Restricted.{Feature, feature_of, of_variable, of_slot, of_if, of_and, of_or, of_unary}
use Rattle.cedar_model.specs.Restricted.{of_binary, of_attribute, of_has, of_like, of_is, Disallowed}
use Rattle.cedar_names.specs.Texts.{unary_text, binary_text}
use Rattle.cedar_expressions.specs.declared.expr.Expr.{Expr}
use Rattle.cedar_expressions.specs.View.{view, expr_loc}
use Rattle.cedar_expressions.specs.Nodes.{parts_of}
use Rattle.cedar_restricted.specs.declared.restricted_expr.disallowed.DisallowedPart.{DisallowedPart}
use Rattle.cedar_restricted.specs.declared.err.RestrictedExpressionError.{RestrictedExpressionError}
use Rattle.cedar_restricted.specs.declared.err.RestrictedExpressionError.TheVariants as refusals
use Rattle.cedar_restricted.specs.declared.err.PartialValueToRestrictedExprError as refused
use Rattle.cedar_restricted.specs.declared.err.PartialValueToRestrictedExprError.TheVariants as residuals

-- what a disallowed part uses, in words; of an operator its text
abbrev pub feature_text : Feature → Text
feature_text of_variable = codes "variables"
feature_text of_slot = codes "template slots"
feature_text of_if = codes "if-then-else"
feature_text of_and = codes "&&"
feature_text of_or = codes "||"
feature_text (of_unary op) = unary_text op
feature_text (of_binary op) = binary_text op
feature_text of_attribute = codes "attribute accesses"
feature_text of_has = codes "'has'"
feature_text of_like = codes "'like'"
feature_text of_is = codes "'is'"

-- a disallowed part with the text of what it uses
abbrev pub with_its_text : Disallowed → Text × Term
with_its_text d = (feature_text d.feature, d.part)

-- the same of a part that was found
abbrev pub disallowed_view : DisallowedPart → Text × Term
disallowed_view f = (f.feature.now, view f.part.now)

-- a part is refused: the first disallowed one, by the text of what it uses
abbrev pub IsFirst : Option Disallowed → Text × Term → Type 0
IsFirst None named = ⊥
IsFirst (Some d) named = named ≡ with_its_text d

abbrev pub IsFirstPart : Option Disallowed → Term → Type 0
IsFirstPart None t = ⊥
IsFirstPart (Some d) t = t ≡ d.part

-- the refusal names the first disallowed part and what it uses, or is out of memory
abbrev pub IsRefusal : Option Disallowed → RestrictedExpressionError → Type 0
IsRefusal first (refusals.InvalidRestrictedExpression e) = IsFirst first (e.feature.now, view e.expr)
IsRefusal first (refusals.Memory e) = Unit {0}

-- the same, naming the part alone
abbrev pub IsRefusedResidual : Option Disallowed → refused.PartialValueToRestrictedExprError → Type 0
IsRefusedResidual first (residuals.NontrivialResidual e) = IsFirstPart first (view e.value)
IsRefusedResidual first (residuals.Memory e) = Unit {0}

-- ---- the part as it stands in the expression

-- the parts of a record, in the order of their keys
abbrev pub entry_parts : List (RcStr Global × Expr) → List Expr
entry_parts fs = map {B = Expr} (λ f. f.1) fs

-- whether a node may not stand in a restricted expression
abbrev pub is_disallowed : Expr → Bool
is_disallowed e = is_some (feature_of (view e))

mutual
  -- the first disallowed part of an expression, as it stands there: a disallowed node itself, else that of its parts
  pub data IsFirstDisallowed : Expr → Expr → Type 0 where
    itself : (e : Expr) → is_disallowed e ≡ true → IsFirstDisallowed e e
    inside : (e part : Expr) → is_disallowed e ≡ false → IsFirstAmong (parts_of e) part → IsFirstDisallowed e part

  -- of parts in order, that of the first which is not restricted
  pub data IsFirstAmong : List Expr → Expr → Type 0 where
    here : (e : Expr) (es : List Expr) (part : Expr) → IsFirstDisallowed e part → IsFirstAmong (e ∷ es) part
    later : (e : Expr) (es : List Expr) (part : Expr) → is_restricted (view e) ≡ true → IsFirstAmong es part →
        IsFirstAmong (e ∷ es) part

-- the same term at the same place, of the very parts
abbrev pub IsCopyOf : Expr → Expr → Type 0
IsCopyOf e copy = (view copy ≡ view e) × (expr_loc copy ≡ expr_loc e) × (parts_of copy ≡ parts_of e)

-- what is named is a copy of the first disallowed part of an expression, with its place
pub record NamesFirstPart (e named : Expr) : Type 0 where
  pub part : Expr
  pub first : IsFirstDisallowed e part
  pub copy : IsCopyOf part named

-- the refusal holds that part of this expression, or is out of memory
abbrev pub HoldsFirstPart : Expr → RestrictedExpressionError → Type 0
HoldsFirstPart e (refusals.InvalidRestrictedExpression r) = NamesFirstPart e r.expr
HoldsFirstPart e (refusals.Memory m) = Unit {0}

abbrev pub HoldsFirstPartOfResidual : Expr → refused.PartialValueToRestrictedExprError → Type 0
HoldsFirstPartOfResidual e (residuals.NontrivialResidual r) = NamesFirstPart e r.value
HoldsFirstPartOfResidual e (residuals.Memory m) = Unit {0}
