-- Lists of parts, which are put behind one another in turn.
use Rattle.std.proofs.Common.{◌≡◌, List, [], ◌∷◌, ◌++◌, append_assoc, Option, None, Some, option_map, Result, Ok, Err, Global, refl, sym, ap, ◌∙◌}
use Rattle.std.specs.declared.alloc.AllocError.{AllocError}
use Rattle.std.specs.declared.rc.RcStr.{RcStr}
use Rattle.cedar_model.specs.Terms.{Text, Term, Fields}
use Rattle.cedar_expressions.specs.declared.expr.Expr.{Expr}
use Rattle.cedar_expressions.specs.Records.{put_field, put_fields}
use Rattle.cedar_expressions.specs.View.{view}
use Rattle.cedar_builder.specs.Building.{term_in, field_in, of_two}
use Rattle.cedar_model.proofs.Injections.{some_inj, none_is_not_some}

-- one part more
pub part_put : (old new : List Term) (r : Result Expr AllocError) (rest : Option (List Term)) → option_map (λ t. old ++ t ∷ []) (term_in r) ≡ Some new
    → option_map (λ ts. new ++ ts) rest ≡ option_map (λ ts. old ++ ts) (of_two ◌∷◌ (term_in r) rest)
part_put old new (Ok e) None h = refl
part_put old new (Ok e) (Some ts) h =
    ap (λ (ns : List Term). Some (ns ++ ts)) (sym (some_inj h)) ∙ ap (λ (us : List Term). Some us) (append_assoc old (view e ∷ []) ts)
part_put old new (Err x) rest h = absurd (none_is_not_some h)

-- one field more
pub field_put : (old new : Fields) (r : Result (RcStr Global × Expr) AllocError) (rest : Option (List (Text × Term)))
    → option_map (λ f. put_field old f.0 f.1) (field_in r) ≡ Some new
    → option_map (put_fields new) rest ≡ option_map (put_fields old) (of_two ◌∷◌ (field_in r) rest)
field_put old new (Ok p) None h = refl
field_put old new (Ok p) (Some ts) h = ap (λ (fs : Fields). Some (put_fields fs ts)) (sym (some_inj h))
field_put old new (Err x) rest h = absurd (none_is_not_some h)
