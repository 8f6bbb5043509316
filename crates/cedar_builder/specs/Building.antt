-- Which expression a builder of one stands for.
use Rattle.std.specs.Prelude.{◌≡◌, List, [], ◌∷◌, Option, None, Some, option_map, Result, Ok, Err, IfOk}
use Rattle.std.specs.Rc.{rc_str_bytes}
use Rattle.std.specs.declared.alloc.AllocError.{AllocError}
use Rattle.std.specs.declared.alloc.Global.{Global}
use Rattle.std.specs.declared.rc.RcStr.{RcStr}
use Rattle.cedar_model.specs.Terms.{Text, Term, binary, in_operator, both, is_of_type, call, set_of, record_of, terms_of}
use Rattle.cedar_expressions.specs.Records.{fields_in_order}
use Rattle.cedar_expressions.specs.declared.expr.Expr.{Expr}
use Rattle.cedar_expressions.specs.View.{view}
use Rattle.cedar_builder.specs.declared.expressions.ExprBuilder.{ExprBuilder}
use Rattle.cedar_builder.specs.declared.expressions.lists.FieldBuilder.{FieldBuilder}

-- what was made so far, or that memory ran out: the expression with its place and those of its parts
abbrev pub expression_of : ExprBuilder → Result Expr AllocError
expression_of b = b.built

-- the term of what was made, unless out of memory
abbrev pub term_in : Result Expr AllocError → Option Term
term_in (Ok e) = Some (view e)
term_in (Err x) = None

-- the term of the expression that was said, unless memory ran out on the way
abbrev pub term_of : ExprBuilder → Option Term
term_of b = term_in b.built

-- what is made of both, if both are there
abbrev pub of_two : {A B C : Type 0} → (A → B → C) → Option A → Option B → Option C
of_two f None b = None
of_two f (Some x) b = option_map (f x) b

-- what is made of all three, if they are there
abbrev pub of_three : {A B C D : Type 0} → (A → B → C → D) → Option A → Option B → Option C → Option D
of_three f None b c = None
of_three f (Some x) b c = of_two (f x) b c

-- this was made, or memory ran out
abbrev pub Makes : Result Expr AllocError → Option Term → Type 0
Makes r what = IfOk r (λ e. what ≡ Some (view e))

-- this was said, or memory ran out
abbrev pub Builds : ExprBuilder → Option Term → Type 0
Builds b what = Makes b.built what

-- ---- types

-- `t is ty && t in u`
abbrev pub is_of_type_in : Text → Term → Term → Term
is_of_type_in ty t u = both (is_of_type t ty) (binary in_operator t u)

-- ---- lists

-- the terms of all, if memory ran out for none
abbrev pub terms_of_all : List ExprBuilder → Option (List Term)
terms_of_all [] = Some []
terms_of_all (b ∷ bs) = of_two ◌∷◌ (term_of b) (terms_of_all bs)

-- a term under a key
abbrev pub under : Text → Term → Text × Term
under k t = (k, t)

-- the key and the term of a field, unless out of memory
abbrev pub field_in : Result (RcStr Global × Expr) AllocError → Option (Text × Term)
field_in (Ok p) = Some (under (rc_str_bytes p.0) (view p.1))
field_in (Err x) = None

abbrev pub field_of : FieldBuilder → Option (Text × Term)
field_of f = field_in f.built

-- this field was said, or memory ran out
abbrev pub BuildsField : FieldBuilder → Option (Text × Term) → Type 0
BuildsField f what = IfOk f.built (λ p. what ≡ Some (under (rc_str_bytes p.0) (view p.1)))

-- all fields, if memory ran out for none
abbrev pub fields_of_all : List FieldBuilder → Option (List (Text × Term))
fields_of_all [] = Some []
fields_of_all (f ∷ fs) = of_two ◌∷◌ (field_of f) (fields_of_all fs)

-- the set of these parts
abbrev pub set_term : List Term → Term
set_term ts = set_of (terms_of ts)

-- the call of this function on these arguments
abbrev pub call_term : Text → List Term → Term
call_term f ts = call f (terms_of ts)

-- the record of these parts: of two under one key the later
abbrev pub record_term : List (Text × Term) → Term
record_term fs = record_of (fields_in_order fs)
