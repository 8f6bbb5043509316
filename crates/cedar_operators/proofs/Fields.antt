-- A look-up in a map of expressions beside the fields that they are seen as.
use Rattle.std.proofs.lemmas.Map.Text.{is_eq-slice_cmp}
use Rattle.std.proofs.Common.{◌≡◌, Bool, true, false, cond, List, [], ◌∷◌, map, Option, Some, None, option_map}
use Rattle.std.proofs.Common.{option_copied, is_some, Bor, refl, sym, ap, ◌∙◌}
use Rattle.std.specs.Ordering.{nat_cmp}
use Rattle.std.specs.Cmp.Lexicographic.{slice_cmp}
use Rattle.std.specs.Map.{lookup, keys_of}
use Rattle.std.specs.BTreeMap.{is_at}
use Rattle.std.specs.Rc.{rc_str_bytes}
use Rattle.std.specs.declared.alloc.Global.{Global}
use Rattle.std.specs.declared.rc.RcStr.{RcStr}
use Rattle.cedar_model.specs.Terms.{Text, Term, get_attribute}
use Rattle.cedar_model.specs.Shapes.{is_projectable}
use Rattle.cedar_model.specs.Failures.{fails, answers_residual}
use Rattle.cedar_model.specs.Operators.{term_at, field_names, key_is_missing}
use Rattle.cedar_model.specs.Rules.{fields_of_record}
use Rattle.cedar_model.proofs.Injections.{is_some-option_map}
use Rattle.cedar_expressions.specs.declared.expr.Expr.{Expr}
use Rattle.cedar_expressions.specs.View.{view, fields_view}
use Rattle.cedar_operators.specs.Parts.{answered, interpreted_again, projected, projection_of, projection_at}

found_or : (b : Bool) (e : Expr) (rest : Option Expr) (more : Option Term) → option_map view rest ≡ more
    → option_map view (cond b (Some e) rest) ≡ cond b (Some (view e)) more
found_or true e rest more is = refl
found_or false e rest more is = is

-- what a look-up by bytes finds
pub view-lookup : (name : Text) (es : List (RcStr Global × Expr))
    → option_map view (lookup (is_at (λ k. slice_cmp nat_cmp name (rc_str_bytes k))) es)
    ≡ term_at name (fields_view es)
unfolding term_at
view-lookup name [] = refl
view-lookup name (e ∷ es) =
    found_or _ e.1 _ _ (view-lookup name es) ∙ ap (λ b. cond b (Some (view e.1)) (term_at name (fields_view es)))
    (is_eq-slice_cmp name (rc_str_bytes e.0))

-- the keys of a map
pub names-fields : (es : List (RcStr Global × Expr))
    → map (λ k. rc_str_bytes k) (keys_of es) ≡ field_names (fields_view es)
unfolding field_names
names-fields [] = refl
names-fields (e ∷ es) = ap (λ l. rc_str_bytes e.0 ∷ l) (names-fields es)

-- what a record's map has at a key
pub field_at : (name : Text) (es : List (RcStr Global × Expr)) (o : Option Expr)
    → o ≡ lookup (is_at (λ k. slice_cmp nat_cmp name (rc_str_bytes k))) es
    → term_at name (fields_view es) ≡ option_map view o
field_at name es o is = sym (view-lookup name es) ∙ sym (ap (option_map view) is)

pub is_field : (name : Text) (es : List (RcStr Global × Expr)) (r : Option (Bor Expr))
    → option_copied r ≡ lookup (is_at (λ k. slice_cmp nat_cmp name (rc_str_bytes k))) es
    → is_some r ≡ is_some (term_at name (fields_view es))
is_field name es r is =
    sym (is_some-option_map (λ (x : Bor Expr). x.now) r) ∙ sym (is_some-option_map view (option_copied r))
    ∙ sym (ap is_some (field_at name es (option_copied r) is))

-- ---- the attribute of a record that is a residual

module _ (r : Term) (k : Text) (es : List (RcStr Global × Expr)) where
  abbrev FindsField : Option Expr → Type 0
  FindsField o = o ≡ lookup (is_at (λ l. slice_cmp nat_cmp k (rc_str_bytes l))) es

  projects_found : (o : Option Expr) → fields_of_record r ≡ Some (fields_view es) → FindsField o
      → projection_of (option_map view o) (fields_view es) r k ≡ projection_at (fields_of_record r) r k
  unfolding projection_at
  projects_found o is finds =
      ap (λ p. projection_of p (fields_view es) r k) (sym (field_at k es o finds))
      ∙ sym (ap (λ fs. projection_at fs r k) is)

  -- a part of a projectable record is interpreted again
  pub projects_field : (e : Expr) → fields_of_record r ≡ Some (fields_view es) → FindsField (Some e)
      → is_projectable r ≡ true → interpreted_again (view e) ≡ projection_at (fields_of_record r) r k
  unfolding projection_of projected
  projects_field e is finds stands =
      sym (ap (λ b. projected b r k (view e)) stands) ∙ projects_found (Some e) is finds

  -- another record keeps it
  pub keeps_field : (e : Expr) → fields_of_record r ≡ Some (fields_view es) → FindsField (Some e)
      → is_projectable r ≡ false → answered (answers_residual (get_attribute r k)) ≡ projection_at (fields_of_record r) r k
  unfolding projection_of projected
  keeps_field e is finds stands =
      sym (ap (λ b. projected b r k (view e)) stands) ∙ projects_found (Some e) is finds

  -- a record lacks the key
  pub lacks_field : fields_of_record r ≡ Some (fields_view es) → FindsField None
      → answered (fails (key_is_missing k (map (λ l. rc_str_bytes l) (keys_of es))))
      ≡ projection_at (fields_of_record r) r k
  unfolding projection_of
  lacks_field is finds =
      ap (λ names. answered (fails (key_is_missing k names))) (names-fields es) ∙ projects_found None is finds
