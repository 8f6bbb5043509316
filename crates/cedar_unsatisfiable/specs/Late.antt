-- Attributes that are tested after they were read, in one conjunction.
use Rattle.std.specs.Prelude.{Bool, false, cond, not, ◌||◌, ◌&&◌, List, [], ◌∷◌, ◌++◌, map, Option, None, Some}
use Rattle.std.specs.Option.{option_or}
use Rattle.std.specs.Borrow.{Bor}
use Rattle.std.specs.Rc.{rc_str_bytes}
use Rattle.cedar_model.specs.Terms.{Text, Term, literal, variable, slot, unknown, if_then_else, both, either, unary}
use Rattle.cedar_model.specs.Terms.{binary, call, get_attribute, has_attribute, extended_has, like, is_of_type, set_of}
use Rattle.cedar_model.specs.Terms.{record_of, Terms, no_terms, one_term, Fields, no_fields, one_field}
use Rattle.cedar_model.specs.Outcomes.{text_eq}
use Rattle.cedar_names.specs.Equality.{term_eq}
use Rattle.cedar_expressions.specs.declared.expr.Expr.{Expr}
use Rattle.cedar_expressions.specs.View.{view}
use Rattle.cedar_unsatisfiable.specs.declared.late.Attribute as declared

-- an attribute, and of which expression
pub record Attribute : Type 0 where
  pub subject : Term
  pub name : Text

-- the parts of a conjunction, in their order
abbrev pub conjuncts : Term → List Term
conjuncts (both a b) = conjuncts a ++ conjuncts b
conjuncts t = t ∷ []

-- whether the attribute is the one that is read or tested there
abbrev pub is_attribute : Term → Text → Attribute → Bool
is_attribute a k r = term_eq a r.subject && text_eq k r.name

-- whether the expression reads the attribute wherever it comes to a value: in a part that is always reached
abbrev mutual
  pub reads : Attribute → Term → Bool
  reads r (literal l) = false
  reads r (variable v) = false
  reads r (slot s) = false
  reads r (unknown n t) = false
  reads r (if_then_else c a b) = reads r c
  reads r (both a b) = reads r a
  reads r (either a b) = reads r a
  reads r (unary op a) = reads r a
  reads r (binary op a b) = reads r a || reads r b
  reads r (call f ts) = some_reads r ts
  reads r (get_attribute a k) = is_attribute a k r || reads r a
  reads r (has_attribute a k) = reads r a
  reads r (extended_has a k ks) = reads r a
  reads r (like a p) = reads r a
  reads r (is_of_type a t) = reads r a
  reads r (set_of ts) = some_reads r ts
  reads r (record_of fs) = some_field_reads r fs

  pub some_reads : Attribute → Terms → Bool
  some_reads r no_terms = false
  some_reads r (one_term t ts) = reads r t || some_reads r ts

  pub some_field_reads : Attribute → Fields → Bool
  some_field_reads r no_fields = false
  some_field_reads r (one_field k t fs) = reads r t || some_field_reads r fs

-- the attribute that the conjunct tests: of `e has a.b` the first
abbrev pub tested : Term → Option Attribute
tested (has_attribute a k) = Some (record { subject = a; name = k })
tested (extended_has a k ks) = Some (record { subject = a; name = k })
tested t = None

abbrev pub is_of : Attribute → Option Attribute → Bool
is_of r None = false
is_of r (Some s) = is_attribute s.subject s.name r

-- whether one of these conjuncts reads the attribute, and none before it tests it
abbrev pub reads_untested : Attribute → List Term → Bool
reads_untested r [] = false
reads_untested r (t ∷ ts) = not (is_of r (tested t)) && (reads r t || reads_untested r ts)

abbrev pub late_of : List Term → Option Attribute → Option Text
late_of before None = None
late_of before (Some r) = cond (reads_untested r before) (Some r.name) None

-- the name of the attribute that the conjunct tests, if one of those before reads it untested
abbrev pub late_at : List Term → Term → Option Text
late_at before t = late_of before (tested t)

-- the name of the first attribute that a conjunct tests and one before reads untested: these are before, and those left
abbrev pub late_behind : List Term → List Term → Option Text
late_behind before [] = None
late_behind before (t ∷ ts) = option_or (late_at before t) (late_behind (before ++ t ∷ []) ts)

-- the name of the first attribute that the conjunction tests after it was read
abbrev pub late_test : Term → Option Text
late_test t = late_behind [] (conjuncts t)

-- ---- for private clauses

abbrev pub attribute_view : declared.Attribute → Attribute
attribute_view a = record { subject = view a.subject.now; name = rc_str_bytes a.name.now }

abbrev pub terms_seen : List (Bor Expr) → List Term
terms_seen = map (λ e. view e.now)
