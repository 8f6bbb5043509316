-- A context of which some values are kept.
use Rattle.std.proofs.Common.{◌≡◌, Bool, true, false, ◌&&◌, ◌||◌, if◌then◌else◌, List, [], ◌∷◌, map, None, Some, Global, refl, sym, ap, ◌∙◌}
use Rattle.std.specs.Rc.{rc_str_bytes}
use Rattle.std.specs.declared.rc.RcStr.{RcStr}
use Rattle.cedar_model.specs.Terms.{Text, Term, unknown, Fields, no_fields, one_field, terms_of}
use Rattle.cedar_model.specs.Values.{RepresentedFields, no_represented_at, one_represented_at, expression_of, expressions_at}
use Rattle.cedar_model.specs.Operators.{represented_names, field_names}
use Rattle.cedar_model.specs.Shapes.{is_restricted, are_restricted_at, has_unknown, have_unknown_at}
use Rattle.cedar_model.specs.Settings.{ContextPart, absent_context, known_context, residual_context}
use Rattle.cedar_expressions.specs.declared.expr.Expr.{Expr}
use Rattle.cedar_expressions.specs.View.{view, terms_view, fields_view}
use Rattle.cedar_values.specs.Sound.{Placed, whats_at}
use Rattle.cedar_restricted.specs.Keys.{texts_of, fields_named}
use Rattle.cedar_restricted.proofs.Collected.{names_under}
use Rattle.cedar_restricted.proofs.MadeParts.{value_restricted}
use Rattle.cedar_requests.specs.declared.context.pairs.ContextPairs.{ContextPairs}
use Rattle.cedar_requests.specs.declared.context.pairs.ContextPairs.TheVariants as kinds
use Rattle.cedar_requests.specs.Contexts.{ValueMap, ExprMap, context_keys}
use Rattle.cedar_requests.specs.Contexts.{context_pairs_view, pairs_values, pairs_residual}
use Rattle.cedar_reasons.specs.Facts.{KnownFact, of_context_value, is_kept}
use Rattle.cedar_reasons.specs.Names.{context_name}
use Rattle.cedar_reasons.specs.Reduced.{context_terms, reduced_term, reduced_fields, keeps_names}

-- ---- what a context holds

-- the second is of a context of which the first are the values
pub of_values : (p : ContextPairs) (m : ValueMap) → Some m ≡ pairs_values p → known_context (whats_at m.entries) ≡ context_pairs_view p
of_values (kinds.Values n) m h = let same : m ≡ n = cc in ap (λ (v : ValueMap). known_context (whats_at v.entries)) same
of_values (kinds.Residual r) m h = absurd (cc)

pub of_exprs : (p : ContextPairs) (m : ExprMap) → Some m ≡ pairs_residual p → residual_context (fields_view m.entries) ≡ context_pairs_view p
of_exprs (kinds.Values n) m h = absurd (cc)
of_exprs (kinds.Residual r) m h = let same : m ≡ r.pairs = cc in ap (λ (e : ExprMap). residual_context (fields_view e.entries)) same

pub holds_one : (p : ContextPairs) → None ≡ pairs_values p → None ≡ pairs_residual p → ⊥
holds_one (kinds.Values n) h k = absurd (cc)
holds_one (kinds.Residual r) h k = absurd (cc)

-- ---- names

pub value_names : (es : List (RcStr Global × Placed)) → represented_names (whats_at es) ≡ names_under es
unfolding represented_names
value_names [] = refl
value_names (e ∷ es) = ap (λ (ks : List Text). rc_str_bytes e.0 ∷ ks) (value_names es)

pub expr_names : (es : List (RcStr Global × Expr)) → field_names (fields_view es) ≡ names_under es
unfolding field_names
expr_names [] = refl
expr_names (e ∷ es) = ap (λ (ks : List Text). rc_str_bytes e.0 ∷ ks) (expr_names es)

-- the next value is kept, and the others decide; or it is not
pub next_kept : (fs : List KnownFact) (k : Text) (ks : List Text) (all : Bool) → is_kept fs (of_context_value k) ≡ true
    → keeps_names fs (k ∷ ks) ≡ all → keeps_names fs ks ≡ all
next_kept fs k ks all h e = sym (ap (λ (b : Bool). b && keeps_names fs ks) h) ∙ e

pub next_left_out : (fs : List KnownFact) (k : Text) (ks : List Text) (all : Bool) → is_kept fs (of_context_value k) ≡ false
    → keeps_names fs (k ∷ ks) ≡ all → false ≡ all
next_left_out fs k ks all h e = sym (ap (λ (b : Bool). b && keeps_names fs ks) h) ∙ e

-- ---- restricted expressions

both : (a b : Bool) → a ≡ true → b ≡ true → a && b ≡ true
both a b h k = ap (λ (x : Bool). x && b) h ∙ k

first_of : (a b : Bool) → a && b ≡ true → a ≡ true
first_of true b h = refl
first_of false b h = absurd (cc)

second_of : (a b : Bool) → a && b ≡ true → b ≡ true
second_of true b h = h
second_of false b h = absurd (cc)

pub values_restricted : (es : List (RcStr Global × Placed)) → are_restricted_at (expressions_at (whats_at es)) ≡ true
values_restricted [] = refl
values_restricted (e ∷ es) =
    both (is_restricted (expression_of e.1.what)) (are_restricted_at (expressions_at (whats_at es))) (value_restricted e.1) (values_restricted es)

module _ (fs : List KnownFact) where
  term_restricted : (b : Bool) (k : Text) (t : Term) → is_restricted t ≡ true
      → is_restricted (if b then t else unknown (context_name k) None) ≡ true
  term_restricted true k t h = h
  term_restricted false k t h = refl

  pub reduced_restricted : (es : Fields) → are_restricted_at es ≡ true → are_restricted_at (reduced_fields fs es) ≡ true
  reduced_restricted no_fields h = refl
  reduced_restricted (one_field k t es) h =
      both (is_restricted (reduced_term fs k t)) (are_restricted_at (reduced_fields fs es))
      (term_restricted (is_kept fs (of_context_value k)) k t (first_of (is_restricted t) (are_restricted_at es) h))
      (reduced_restricted es (second_of (is_restricted t) (are_restricted_at es) h))

  -- ---- unknowns

  or_second : (a b : Bool) → b ≡ true → a || b ≡ true
  or_second true b h = refl
  or_second false b h = h

  -- where a value is left out an unknown stands
  first_unknown : (b : Bool) (k : Text) (t : Term) (es : Fields) → is_kept fs (of_context_value k) ≡ b
      → (b && keeps_names fs (field_names es)) ≡ false
      → (keeps_names fs (field_names es) ≡ false → have_unknown_at (reduced_fields fs es) ≡ true)
      → has_unknown (if b then t else unknown (context_name k) None) || have_unknown_at (reduced_fields fs es) ≡ true
  first_unknown true k t es e h more = or_second (has_unknown t) (have_unknown_at (reduced_fields fs es)) (more h)
  first_unknown false k t es e h more = refl

  pub reduced_unknown : (es : Fields) → keeps_names fs (field_names es) ≡ false → have_unknown_at (reduced_fields fs es) ≡ true
  unfolding field_names
  reduced_unknown no_fields h = absurd (cc)
  reduced_unknown (one_field k t es) h =
      first_unknown (is_kept fs (of_context_value k)) k t es refl h (reduced_unknown es)

written_names : (vs : RepresentedFields) → field_names (expressions_at vs) ≡ represented_names vs
unfolding field_names represented_names
written_names no_represented_at = refl
written_names (one_represented_at k v vs) = ap (λ (ks : List Text). k ∷ ks) (written_names vs)

pub term_names : (c : ContextPart) → field_names (context_terms c) ≡ context_keys c
unfolding field_names
term_names absent_context = refl
term_names (known_context vs) = written_names vs
term_names (residual_context es) = refl

-- ---- what stands under the names

abbrev pub value_terms : List KnownFact → List (RcStr Global × Placed) → List Term
value_terms fs es = map {B = Term} (λ e. reduced_term fs (rc_str_bytes e.0) (expression_of e.1.what)) es

abbrev pub expr_terms : List KnownFact → List (RcStr Global × Expr) → List Term
expr_terms fs es = map {B = Term} (λ e. reduced_term fs (rc_str_bytes e.0) (view e.1)) es

value_fields : (fs : List KnownFact) (es : List (RcStr Global × Placed))
    → fields_named (names_under es) (terms_of (value_terms fs es)) ≡ reduced_fields fs (expressions_at (whats_at es))
value_fields fs [] = refl
value_fields fs (e ∷ es) = ap (one_field (rc_str_bytes e.0) (reduced_term fs (rc_str_bytes e.0) (expression_of e.1.what))) (value_fields fs es)

expr_fields : (fs : List KnownFact) (es : List (RcStr Global × Expr))
    → fields_named (names_under es) (terms_of (expr_terms fs es)) ≡ reduced_fields fs (fields_view es)
expr_fields fs [] = refl
expr_fields fs (e ∷ es) = ap (one_field (rc_str_bytes e.0) (reduced_term fs (rc_str_bytes e.0) (view e.1))) (expr_fields fs es)

pub fields_of_values : (fs : List KnownFact) (ks : List (RcStr Global)) (es : List Expr) (all : List (RcStr Global × Placed))
    → texts_of ks ≡ names_under all → map view es ≡ value_terms fs all
    → fields_named (texts_of ks) (terms_view es) ≡ reduced_fields fs (expressions_at (whats_at all))
fields_of_values fs ks es all names views =
    ap (λ ts. fields_named ts (terms_view es)) names ∙ ap (λ vs. fields_named (names_under all) (terms_of vs)) views ∙ value_fields fs all

pub fields_of_exprs : (fs : List KnownFact) (ks : List (RcStr Global)) (es : List Expr) (all : List (RcStr Global × Expr))
    → texts_of ks ≡ names_under all → map view es ≡ expr_terms fs all
    → fields_named (texts_of ks) (terms_view es) ≡ reduced_fields fs (fields_view all)
fields_of_exprs fs ks es all names views =
    ap (λ ts. fields_named ts (terms_view es)) names ∙ ap (λ vs. fields_named (names_under all) (terms_of vs)) views ∙ expr_fields fs all
