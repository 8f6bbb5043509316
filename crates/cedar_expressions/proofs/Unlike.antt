-- Which kind an expression has: an expression that is not of a kind is not equal to a term of that kind.
use Rattle.std.proofs.Common.{◌≡◌, ℕ, List, Option, true, false, Vec, BTreeMap, Global, sym, ap, ◌∙◌, refl, arith}
use Rattle.std.specs.declared.rc.Rc.{Rc}
use Rattle.std.specs.declared.rc.RcStr.{RcStr}
use Rattle.cedar_model.specs.Terms as model
use Rattle.cedar_model.specs.Terms.{Text, Variable, ValueType, UnaryOperator, BinaryOperator, PatternPart, Term, Terms, Fields, literal, variable, slot, unknown, if_then_else, both, either, unary, binary, call, get_attribute, has_attribute, extended_has, like, is_of_type, set_of, record_of}
use Rattle.cedar_expressions.specs.declared.expr.Expr.{Expr}
use Rattle.cedar_expressions.specs.declared.expr.ExprKind.{ExprKind, ExprKind-F, out-ExprKind, roll-ExprKind, roll-out-ExprKind, Lit, Var, Slot, Unknown, If, And, Or, UnaryApp, BinaryApp, ExtensionFunctionApp, GetAttr, HasAttr, ExtHasAttr, Like, Is, Set, Record}
use Rattle.cedar_expressions.specs.declared.expr.ExprKind.TheViews.{rolls-Lit, rolls-Var, rolls-Slot, rolls-Unknown, rolls-If, rolls-And, rolls-Or, rolls-UnaryApp, rolls-BinaryApp, rolls-ExtensionFunctionApp, rolls-GetAttr, rolls-HasAttr, rolls-ExtHasAttr, rolls-Like, rolls-Is, rolls-Set, rolls-Record}
use Rattle.cedar_names.specs.declared.names.Name.{Name}
use Rattle.cedar_names.specs.declared.names.EntityType.{EntityType}
use Rattle.cedar_names.specs.declared.names.SlotId.{SlotId}
use Rattle.cedar_names.specs.declared.names.Var as names
use Rattle.cedar_names.specs.declared.operators.UnaryOp.{UnaryOp}
use Rattle.cedar_names.specs.declared.operators.BinaryOp.{BinaryOp}
use Rattle.cedar_names.specs.declared.pattern.Pattern.{Pattern}
use Rattle.cedar_names.specs.declared.types.Literal.{Literal}
use Rattle.cedar_names.specs.declared.types.FirstRest.{FirstRest}
use Rattle.cedar_names.specs.declared.types.Unknown as unknowns
use Rattle.cedar_expressions.specs.View.{kind_view}
use Rattle.cedar_names.specs.Equality.{term_eq}
use Rattle.cedar_names.specs.EqualityLaws.{term_eq-decides}
use Rattle.cedar_expressions.proofs.Levels.{kind_view-Lit, kind_view-Var, kind_view-Slot, kind_view-Unknown, kind_view-If, kind_view-And, kind_view-Or, kind_view-UnaryApp, kind_view-BinaryApp, kind_view-ExtensionFunctionApp, kind_view-GetAttr, kind_view-HasAttr, kind_view-ExtHasAttr, kind_view-Like, kind_view-Is, kind_view-Set, kind_view-Record}

-- the number of a term's kind
abbrev term_number : Term → ℕ
term_number (literal l) = 0
term_number (variable v) = 1
term_number (slot s) = 2
term_number (unknown n t) = 3
term_number (if_then_else a b c) = 4
term_number (both a b) = 5
term_number (either a b) = 6
term_number (unary o a) = 7
term_number (binary o a b) = 8
term_number (call f ts) = 9
term_number (get_attribute a k) = 10
term_number (has_attribute a k) = 11
term_number (extended_has a k ks) = 12
term_number (like a p) = 13
term_number (is_of_type a t) = 14
term_number (set_of ts) = 15
term_number (record_of fs) = 16

-- the same of one level of an expression
abbrev kind_number : ExprKind-F ExprKind Expr → ℕ
kind_number (ExprKind-F.Lit l) = 0
kind_number (ExprKind-F.Var v) = 1
kind_number (ExprKind-F.Slot s) = 2
kind_number (ExprKind-F.Unknown u) = 3
kind_number (ExprKind-F.If c a b) = 4
kind_number (ExprKind-F.And a b) = 5
kind_number (ExprKind-F.Or a b) = 6
kind_number (ExprKind-F.UnaryApp op a) = 7
kind_number (ExprKind-F.BinaryApp op a b) = 8
kind_number (ExprKind-F.ExtensionFunctionApp n es) = 9
kind_number (ExprKind-F.GetAttr e a) = 10
kind_number (ExprKind-F.HasAttr e a) = 11
kind_number (ExprKind-F.ExtHasAttr e attrs) = 12
kind_number (ExprKind-F.Like e p) = 13
kind_number (ExprKind-F.Is e t) = 14
kind_number (ExprKind-F.Set es) = 15
kind_number (ExprKind-F.Record m) = 16

number_at : (f : ExprKind-F ExprKind Expr) → term_number (kind_view (roll-ExprKind f)) ≡ kind_number f
number_at (ExprKind-F.Lit l) = ap (λ k. term_number (kind_view k)) (rolls-Lit l) ∙ ap term_number (kind_view-Lit l)
number_at (ExprKind-F.Var v) = ap (λ k. term_number (kind_view k)) (rolls-Var v) ∙ ap term_number (kind_view-Var v)
number_at (ExprKind-F.Slot s) = ap (λ k. term_number (kind_view k)) (rolls-Slot s) ∙ ap term_number (kind_view-Slot s)
number_at (ExprKind-F.Unknown u) = ap (λ k. term_number (kind_view k)) (rolls-Unknown u) ∙ ap term_number (kind_view-Unknown u)
number_at (ExprKind-F.If c a b) = ap (λ k. term_number (kind_view k)) (rolls-If c a b) ∙ ap term_number (kind_view-If c a b)
number_at (ExprKind-F.And a b) = ap (λ k. term_number (kind_view k)) (rolls-And a b) ∙ ap term_number (kind_view-And a b)
number_at (ExprKind-F.Or a b) = ap (λ k. term_number (kind_view k)) (rolls-Or a b) ∙ ap term_number (kind_view-Or a b)
number_at (ExprKind-F.UnaryApp op a) = ap (λ k. term_number (kind_view k)) (rolls-UnaryApp op a) ∙ ap term_number (kind_view-UnaryApp op a)
number_at (ExprKind-F.BinaryApp op a b) = ap (λ k. term_number (kind_view k)) (rolls-BinaryApp op a b) ∙ ap term_number (kind_view-BinaryApp op a b)
number_at (ExprKind-F.ExtensionFunctionApp n es) = ap (λ k. term_number (kind_view k)) (rolls-ExtensionFunctionApp n es) ∙ ap term_number (kind_view-ExtensionFunctionApp n es)
number_at (ExprKind-F.GetAttr e a) = ap (λ k. term_number (kind_view k)) (rolls-GetAttr e a) ∙ ap term_number (kind_view-GetAttr e a)
number_at (ExprKind-F.HasAttr e a) = ap (λ k. term_number (kind_view k)) (rolls-HasAttr e a) ∙ ap term_number (kind_view-HasAttr e a)
number_at (ExprKind-F.ExtHasAttr e attrs) = ap (λ k. term_number (kind_view k)) (rolls-ExtHasAttr e attrs) ∙ ap term_number (kind_view-ExtHasAttr e attrs)
number_at (ExprKind-F.Like e p) = ap (λ k. term_number (kind_view k)) (rolls-Like e p) ∙ ap term_number (kind_view-Like e p)
number_at (ExprKind-F.Is e t) = ap (λ k. term_number (kind_view k)) (rolls-Is e t) ∙ ap term_number (kind_view-Is e t)
number_at (ExprKind-F.Set es) = ap (λ k. term_number (kind_view k)) (rolls-Set es) ∙ ap term_number (kind_view-Set es)
number_at (ExprKind-F.Record m) = ap (λ k. term_number (kind_view k)) (rolls-Record m) ∙ ap term_number (kind_view-Record m)

number_of : (k : ExprKind) → term_number (kind_view k) ≡ kind_number (out-ExprKind k)
number_of k = ap (λ r. term_number (kind_view r)) (sym (roll-out-ExprKind k)) ∙ number_at (out-ExprKind k)

-- terms of two kinds are not equal
unlike : (s t : Term) → (term_number s ≡ term_number t → ⊥) → term_eq s t ≡ false
unlike s t h =
    elim (term_eq s t) as (λ b. (b ≡ true → s ≡ t) → b ≡ false) [ true ↦ λ same. absurd (h (ap term_number (same refl))) | false ↦ λ _. refl ] (term_eq-decides s t).0

apart-Lit : (level : ExprKind-F ExprKind Expr) → ((l : Literal) → roll-ExprKind level ≡ Lit l → ⊥) → kind_number level ≡ 0 → ⊥
apart-Lit (ExprKind-F.Lit l) h q = h l (rolls-Lit l)
apart-Lit _ h q = omega arith

pub unlike-Lit : (kind : ExprKind) (l : model.Literal) → ((l : Literal) → kind ≡ Lit l → ⊥) → term_eq (literal l) (kind_view kind) ≡ false
unlike-Lit kind l h =
    unlike (literal l) (kind_view kind) (λ q. apart-Lit (out-ExprKind kind) (λ l' r. h l' (sym (roll-out-ExprKind kind) ∙ r)) (sym (number_of kind) ∙ sym q))

apart-Var : (level : ExprKind-F ExprKind Expr) → ((v : names.Var) → roll-ExprKind level ≡ Var v → ⊥) → kind_number level ≡ 1 → ⊥
apart-Var (ExprKind-F.Var v) h q = h v (rolls-Var v)
apart-Var _ h q = omega arith

pub unlike-Var : (kind : ExprKind) (v : Variable) → ((v : names.Var) → kind ≡ Var v → ⊥) → term_eq (variable v) (kind_view kind) ≡ false
unlike-Var kind v h =
    unlike (variable v) (kind_view kind) (λ q. apart-Var (out-ExprKind kind) (λ v' r. h v' (sym (roll-out-ExprKind kind) ∙ r)) (sym (number_of kind) ∙ sym q))

apart-Slot : (level : ExprKind-F ExprKind Expr) → ((s : SlotId) → roll-ExprKind level ≡ Slot s → ⊥) → kind_number level ≡ 2 → ⊥
apart-Slot (ExprKind-F.Slot s) h q = h s (rolls-Slot s)
apart-Slot _ h q = omega arith

pub unlike-Slot : (kind : ExprKind) (s : model.Slot) → ((s : SlotId) → kind ≡ Slot s → ⊥) → term_eq (slot s) (kind_view kind) ≡ false
unlike-Slot kind s h =
    unlike (slot s) (kind_view kind) (λ q. apart-Slot (out-ExprKind kind) (λ s' r. h s' (sym (roll-out-ExprKind kind) ∙ r)) (sym (number_of kind) ∙ sym q))

apart-Unknown : (level : ExprKind-F ExprKind Expr) → ((u : unknowns.Unknown) → roll-ExprKind level ≡ Unknown u → ⊥) → kind_number level ≡ 3 → ⊥
apart-Unknown (ExprKind-F.Unknown u) h q = h u (rolls-Unknown u)
apart-Unknown _ h q = omega arith

pub unlike-Unknown : (kind : ExprKind) (n : Text) (t : Option ValueType) → ((u : unknowns.Unknown) → kind ≡ Unknown u → ⊥) → term_eq (unknown n t) (kind_view kind) ≡ false
unlike-Unknown kind n t h =
    unlike (unknown n t) (kind_view kind) (λ q. apart-Unknown (out-ExprKind kind) (λ u' r. h u' (sym (roll-out-ExprKind kind) ∙ r)) (sym (number_of kind) ∙ sym q))

apart-If : (level : ExprKind-F ExprKind Expr) → ((c : Rc Expr Global) (a : Rc Expr Global) (b : Rc Expr Global) → roll-ExprKind level ≡ If c a b → ⊥) → kind_number level ≡ 4 → ⊥
apart-If (ExprKind-F.If c a b) h q = h c a b (rolls-If c a b)
apart-If _ h q = omega arith

pub unlike-If : (kind : ExprKind) (a : Term) (b : Term) (c : Term) → ((c : Rc Expr Global) (a : Rc Expr Global) (b : Rc Expr Global) → kind ≡ If c a b → ⊥) → term_eq (if_then_else a b c) (kind_view kind) ≡ false
unlike-If kind a b c h =
    unlike (if_then_else a b c) (kind_view kind) (λ q. apart-If (out-ExprKind kind) (λ c' a' b' r. h c' a' b' (sym (roll-out-ExprKind kind) ∙ r)) (sym (number_of kind) ∙ sym q))

apart-And : (level : ExprKind-F ExprKind Expr) → ((a : Rc Expr Global) (b : Rc Expr Global) → roll-ExprKind level ≡ And a b → ⊥) → kind_number level ≡ 5 → ⊥
apart-And (ExprKind-F.And a b) h q = h a b (rolls-And a b)
apart-And _ h q = omega arith

pub unlike-And : (kind : ExprKind) (a : Term) (b : Term) → ((a : Rc Expr Global) (b : Rc Expr Global) → kind ≡ And a b → ⊥) → term_eq (both a b) (kind_view kind) ≡ false
unlike-And kind a b h =
    unlike (both a b) (kind_view kind) (λ q. apart-And (out-ExprKind kind) (λ a' b' r. h a' b' (sym (roll-out-ExprKind kind) ∙ r)) (sym (number_of kind) ∙ sym q))

apart-Or : (level : ExprKind-F ExprKind Expr) → ((a : Rc Expr Global) (b : Rc Expr Global) → roll-ExprKind level ≡ Or a b → ⊥) → kind_number level ≡ 6 → ⊥
apart-Or (ExprKind-F.Or a b) h q = h a b (rolls-Or a b)
apart-Or _ h q = omega arith

pub unlike-Or : (kind : ExprKind) (a : Term) (b : Term) → ((a : Rc Expr Global) (b : Rc Expr Global) → kind ≡ Or a b → ⊥) → term_eq (either a b) (kind_view kind) ≡ false
unlike-Or kind a b h =
    unlike (either a b) (kind_view kind) (λ q. apart-Or (out-ExprKind kind) (λ a' b' r. h a' b' (sym (roll-out-ExprKind kind) ∙ r)) (sym (number_of kind) ∙ sym q))

apart-UnaryApp : (level : ExprKind-F ExprKind Expr) → ((op : UnaryOp) (a : Rc Expr Global) → roll-ExprKind level ≡ UnaryApp op a → ⊥) → kind_number level ≡ 7 → ⊥
apart-UnaryApp (ExprKind-F.UnaryApp op a) h q = h op a (rolls-UnaryApp op a)
apart-UnaryApp _ h q = omega arith

pub unlike-UnaryApp : (kind : ExprKind) (o : UnaryOperator) (a : Term) → ((op : UnaryOp) (a : Rc Expr Global) → kind ≡ UnaryApp op a → ⊥) → term_eq (unary o a) (kind_view kind) ≡ false
unlike-UnaryApp kind o a h =
    unlike (unary o a) (kind_view kind) (λ q. apart-UnaryApp (out-ExprKind kind) (λ op' a' r. h op' a' (sym (roll-out-ExprKind kind) ∙ r)) (sym (number_of kind) ∙ sym q))

apart-BinaryApp : (level : ExprKind-F ExprKind Expr) → ((op : BinaryOp) (a : Rc Expr Global) (b : Rc Expr Global) → roll-ExprKind level ≡ BinaryApp op a b → ⊥) → kind_number level ≡ 8 → ⊥
apart-BinaryApp (ExprKind-F.BinaryApp op a b) h q = h op a b (rolls-BinaryApp op a b)
apart-BinaryApp _ h q = omega arith

pub unlike-BinaryApp : (kind : ExprKind) (o : BinaryOperator) (a : Term) (b : Term) → ((op : BinaryOp) (a : Rc Expr Global) (b : Rc Expr Global) → kind ≡ BinaryApp op a b → ⊥) → term_eq (binary o a b) (kind_view kind) ≡ false
unlike-BinaryApp kind o a b h =
    unlike (binary o a b) (kind_view kind) (λ q. apart-BinaryApp (out-ExprKind kind) (λ op' a' b' r. h op' a' b' (sym (roll-out-ExprKind kind) ∙ r)) (sym (number_of kind) ∙ sym q))

apart-ExtensionFunctionApp : (level : ExprKind-F ExprKind Expr) → ((n : Name) (es : Rc (Vec Expr Global) Global) → roll-ExprKind level ≡ ExtensionFunctionApp n es → ⊥) → kind_number level ≡ 9 → ⊥
apart-ExtensionFunctionApp (ExprKind-F.ExtensionFunctionApp n es) h q = h n es (rolls-ExtensionFunctionApp n es)
apart-ExtensionFunctionApp _ h q = omega arith

pub unlike-ExtensionFunctionApp : (kind : ExprKind) (f : Text) (ts : Terms) → ((n : Name) (es : Rc (Vec Expr Global) Global) → kind ≡ ExtensionFunctionApp n es → ⊥) → term_eq (call f ts) (kind_view kind) ≡ false
unlike-ExtensionFunctionApp kind f ts h =
    unlike (call f ts) (kind_view kind) (λ q. apart-ExtensionFunctionApp (out-ExprKind kind) (λ n' es' r. h n' es' (sym (roll-out-ExprKind kind) ∙ r)) (sym (number_of kind) ∙ sym q))

apart-GetAttr : (level : ExprKind-F ExprKind Expr) → ((e : Rc Expr Global) (a : RcStr Global) → roll-ExprKind level ≡ GetAttr e a → ⊥) → kind_number level ≡ 10 → ⊥
apart-GetAttr (ExprKind-F.GetAttr e a) h q = h e a (rolls-GetAttr e a)
apart-GetAttr _ h q = omega arith

pub unlike-GetAttr : (kind : ExprKind) (a : Term) (k : Text) → ((e : Rc Expr Global) (a : RcStr Global) → kind ≡ GetAttr e a → ⊥) → term_eq (get_attribute a k) (kind_view kind) ≡ false
unlike-GetAttr kind a k h =
    unlike (get_attribute a k) (kind_view kind) (λ q. apart-GetAttr (out-ExprKind kind) (λ e' a' r. h e' a' (sym (roll-out-ExprKind kind) ∙ r)) (sym (number_of kind) ∙ sym q))

apart-HasAttr : (level : ExprKind-F ExprKind Expr) → ((e : Rc Expr Global) (a : RcStr Global) → roll-ExprKind level ≡ HasAttr e a → ⊥) → kind_number level ≡ 11 → ⊥
apart-HasAttr (ExprKind-F.HasAttr e a) h q = h e a (rolls-HasAttr e a)
apart-HasAttr _ h q = omega arith

pub unlike-HasAttr : (kind : ExprKind) (a : Term) (k : Text) → ((e : Rc Expr Global) (a : RcStr Global) → kind ≡ HasAttr e a → ⊥) → term_eq (has_attribute a k) (kind_view kind) ≡ false
unlike-HasAttr kind a k h =
    unlike (has_attribute a k) (kind_view kind) (λ q. apart-HasAttr (out-ExprKind kind) (λ e' a' r. h e' a' (sym (roll-out-ExprKind kind) ∙ r)) (sym (number_of kind) ∙ sym q))

apart-ExtHasAttr : (level : ExprKind-F ExprKind Expr) → ((e : Rc Expr Global) (attrs : Rc (FirstRest (RcStr Global)) Global) → roll-ExprKind level ≡ ExtHasAttr e attrs → ⊥) → kind_number level ≡ 12 → ⊥
apart-ExtHasAttr (ExprKind-F.ExtHasAttr e attrs) h q = h e attrs (rolls-ExtHasAttr e attrs)
apart-ExtHasAttr _ h q = omega arith

pub unlike-ExtHasAttr : (kind : ExprKind) (a : Term) (k : Text) (ks : List Text) → ((e : Rc Expr Global) (attrs : Rc (FirstRest (RcStr Global)) Global) → kind ≡ ExtHasAttr e attrs → ⊥) → term_eq (extended_has a k ks) (kind_view kind) ≡ false
unlike-ExtHasAttr kind a k ks h =
    unlike (extended_has a k ks) (kind_view kind) (λ q. apart-ExtHasAttr (out-ExprKind kind) (λ e' attrs' r. h e' attrs' (sym (roll-out-ExprKind kind) ∙ r)) (sym (number_of kind) ∙ sym q))

apart-Like : (level : ExprKind-F ExprKind Expr) → ((e : Rc Expr Global) (p : Pattern) → roll-ExprKind level ≡ Like e p → ⊥) → kind_number level ≡ 13 → ⊥
apart-Like (ExprKind-F.Like e p) h q = h e p (rolls-Like e p)
apart-Like _ h q = omega arith

pub unlike-Like : (kind : ExprKind) (a : Term) (p : List PatternPart) → ((e : Rc Expr Global) (p : Pattern) → kind ≡ Like e p → ⊥) → term_eq (like a p) (kind_view kind) ≡ false
unlike-Like kind a p h =
    unlike (like a p) (kind_view kind) (λ q. apart-Like (out-ExprKind kind) (λ e' p' r. h e' p' (sym (roll-out-ExprKind kind) ∙ r)) (sym (number_of kind) ∙ sym q))

apart-Is : (level : ExprKind-F ExprKind Expr) → ((e : Rc Expr Global) (t : EntityType) → roll-ExprKind level ≡ Is e t → ⊥) → kind_number level ≡ 14 → ⊥
apart-Is (ExprKind-F.Is e t) h q = h e t (rolls-Is e t)
apart-Is _ h q = omega arith

pub unlike-Is : (kind : ExprKind) (a : Term) (t : Text) → ((e : Rc Expr Global) (t : EntityType) → kind ≡ Is e t → ⊥) → term_eq (is_of_type a t) (kind_view kind) ≡ false
unlike-Is kind a t h =
    unlike (is_of_type a t) (kind_view kind) (λ q. apart-Is (out-ExprKind kind) (λ e' t' r. h e' t' (sym (roll-out-ExprKind kind) ∙ r)) (sym (number_of kind) ∙ sym q))

apart-Set : (level : ExprKind-F ExprKind Expr) → ((es : Rc (Vec Expr Global) Global) → roll-ExprKind level ≡ Set es → ⊥) → kind_number level ≡ 15 → ⊥
apart-Set (ExprKind-F.Set es) h q = h es (rolls-Set es)
apart-Set _ h q = omega arith

pub unlike-Set : (kind : ExprKind) (ts : Terms) → ((es : Rc (Vec Expr Global) Global) → kind ≡ Set es → ⊥) → term_eq (set_of ts) (kind_view kind) ≡ false
unlike-Set kind ts h =
    unlike (set_of ts) (kind_view kind) (λ q. apart-Set (out-ExprKind kind) (λ es' r. h es' (sym (roll-out-ExprKind kind) ∙ r)) (sym (number_of kind) ∙ sym q))

apart-Record : (level : ExprKind-F ExprKind Expr) → ((m : Rc (BTreeMap (RcStr Global) Expr) Global) → roll-ExprKind level ≡ Record m → ⊥) → kind_number level ≡ 16 → ⊥
apart-Record (ExprKind-F.Record m) h q = h m (rolls-Record m)
apart-Record _ h q = omega arith

pub unlike-Record : (kind : ExprKind) (fs : Fields) → ((m : Rc (BTreeMap (RcStr Global) Expr) Global) → kind ≡ Record m → ⊥) → term_eq (record_of fs) (kind_view kind) ≡ false
unlike-Record kind fs h =
    unlike (record_of fs) (kind_view kind) (λ q. apart-Record (out-ExprKind kind) (λ m' r. h m' (sym (roll-out-ExprKind kind) ∙ r)) (sym (number_of kind) ∙ sym q))

pub ruleset kinds = (unlike-Lit, unlike-Var, unlike-Slot, unlike-Unknown, unlike-If, unlike-And, unlike-Or, unlike-UnaryApp, unlike-BinaryApp, unlike-ExtensionFunctionApp, unlike-GetAttr, unlike-HasAttr, unlike-ExtHasAttr, unlike-Like, unlike-Is, unlike-Set, unlike-Record)
