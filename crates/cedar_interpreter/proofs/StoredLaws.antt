-- What an attribute of a part answers through the map.
use Rattle.std.specs.Prelude.{◌≡◌, ◌≢◌, Bool, true, false, Option, None, Some, Result}
use Rattle.std.proofs.Common.{refl, sym, ap, ◌∙◌, subst}
use Rattle.cedar_model.specs.Terms.{Text, EntityName, Term, literal, variable, slot, unknown, if_then_else, both, either, unary, binary, call, get_attribute, has_attribute, extended_has, like, is_of_type, set_of, record_of, Fields}
use Rattle.cedar_model.specs.Values.{Represented}
use Rattle.cedar_model.specs.Failures.{Failure, PartialValue, value, residual, Answer, answers, fails, answers_residual, out_of_memory}
use Rattle.cedar_model.specs.Settings.{Found, found, not_there, not_known, look_up, part_at, Setting}
use Rattle.cedar_model.specs.Operators.{Container, a_record, an_entity, no_container, container_of, container_expected, stored_attribute, attribute_residual, attribute_found, attribute_in, attribute_answer, value_or_failure, represented_at, represented_names, key_is_missing, term_at}
use Rattle.cedar_model.specs.Shapes.{is_projectable}
use Rattle.cedar_model.specs.Rules.{MayAnswer, AtAttribute, fields_of_record, Then}
use Rattle.cedar_expressions.specs.declared.expr.Expr.{Expr}
use Rattle.cedar_expressions.specs.View.{view}
use Rattle.cedar_expressions.specs.Readers.{IsNoUnknown}
use Rattle.cedar_values.specs.declared.partial_value.PartialValue.{PartialValue as RustPartialValue}
use Rattle.cedar_errors.specs.declared.evaluator.err.EvaluationError.{EvaluationError}
use Rattle.cedar_errors.specs.Answers.{partial_answer}
use Rattle.cedar_operators.specs.Operands.{over}
use Rattle.cedar_operators.specs.declared.partial.attributes.Projected.TheVariants as projections
use Rattle.cedar_operators.specs.Parts.{Projection, answered, interpreted_again, projected, projection_of, projection_at, projection, AnswersProjection, ProjectsTo}
use Rattle.cedar_operators.proofs.Projections.{at_attribute}
use Rattle.cedar_interpreter.specs.Reads.{resolved_in, part_residual}
use Rattle.cedar_interpreter.proofs.ReadLaws.{nothing_resolved, as_stored, as_read}
use Rattle.cedar_interpreter.specs.Stored.{remapped}

-- a value stays
pub value_stays : (map : Text → Option Represented) (v : Represented) (b : Answer) → answers (value v) ≡ b → answers (value v) ≡ remapped map b
unfolding remapped
value_stays map v b is = subst (λ x. answers (value v) ≡ remapped map x) is refl

-- and so does a failure
pub failure_stays : (map : Text → Option Represented) (e : Failure) (b : Answer) → fails e ≡ b → fails e ≡ remapped map b
unfolding remapped
failure_stays map e b is = subst (λ x. fails e ≡ remapped map x) is refl

-- and a residual that is no unknown
pub residual_stays : (map : Text → Option Represented) (t : Term) → IsNoUnknown t
    → remapped map (answers_residual t) ≡ answers_residual t
unfolding remapped
residual_stays map (literal l) h = refl
residual_stays map (variable v) h = refl
residual_stays map (slot i) h = refl
residual_stays map (unknown n ty) h = absurd (h n ty refl)
residual_stays map (if_then_else c a b) h = refl
residual_stays map (both a b) h = refl
residual_stays map (either a b) h = refl
residual_stays map (unary op a) h = refl
residual_stays map (binary op a b) h = refl
residual_stays map (call f ts) h = refl
residual_stays map (get_attribute a k) h = refl
residual_stays map (has_attribute a k) h = refl
residual_stays map (extended_has a k ks) h = refl
residual_stays map (like a p) h = refl
residual_stays map (is_of_type a ty) h = refl
residual_stays map (set_of ts) h = refl
residual_stays map (record_of fs) h = refl

stored : (map : Text → Option Represented) (o : Option PartialValue) (failure : Failure) →
    stored_attribute map o failure ≡ remapped map (stored_attribute (λ n. None) o failure)
unfolding stored_attribute remapped Rattle.cedar_model.specs.Operators.mapped
stored map None failure = refl
stored map (Some (value v)) failure = refl
stored map (Some (residual (literal l))) failure = refl
stored map (Some (residual (variable v))) failure = refl
stored map (Some (residual (slot i))) failure = refl
stored map (Some (residual (unknown n t))) failure = refl
stored map (Some (residual (if_then_else c a b))) failure = refl
stored map (Some (residual (both a b))) failure = refl
stored map (Some (residual (either a b))) failure = refl
stored map (Some (residual (unary op a))) failure = refl
stored map (Some (residual (binary op a b))) failure = refl
stored map (Some (residual (call f ts))) failure = refl
stored map (Some (residual (get_attribute a k))) failure = refl
stored map (Some (residual (has_attribute a k))) failure = refl
stored map (Some (residual (extended_has a k ks))) failure = refl
stored map (Some (residual (like a p))) failure = refl
stored map (Some (residual (is_of_type a t))) failure = refl
stored map (Some (residual (set_of ts))) failure = refl
stored map (Some (residual (record_of fs))) failure = refl

of_found : (map : Text → Option Represented) (f : Found) (e : EntityName) (k : Text) →
    attribute_found map f e k ≡ remapped map (attribute_found (λ n. None) f e k)
unfolding attribute_found remapped
of_found map not_known e k = refl
of_found map not_there e k = refl
of_found map (found x) e k = stored map (part_at k x.attributes) _

of_record : (map : Text → Option Represented) (o : Option Represented) (failure : Failure) →
    value_or_failure o failure ≡ remapped map (value_or_failure o failure)
unfolding value_or_failure remapped
of_record map None failure = refl
of_record map (Some v) failure = refl

of_container : (s : Setting) (c : Container) (failure : Failure) (k : Text) →
    attribute_in s c failure k ≡ remapped s.map (attribute_in (over s s.store) c failure k)
unfolding attribute_in remapped
of_container s (a_record fs) failure k = of_record s.map (represented_at k fs) (key_is_missing k (represented_names fs))
of_container s (an_entity e) failure k = of_found s.map (look_up s.store e) e k
of_container s no_container failure k = refl

-- the attribute of a value
pub of_value : (s : Setting) (v : Represented) (k : Text) → attribute_answer s v k ≡ remapped s.map (attribute_answer (over s s.store) v k)
of_value s v k = of_container s (container_of v) (container_expected v) k

-- what a projection comes to, after the map
unfoldable pub remapped_projection : (Text → Option Represented) → Projection → Projection
remapped_projection map (answered a) = answered (remapped map a)
remapped_projection map (interpreted_again t) = interpreted_again t

of_part : (map : Text → Option Represented) (b : Bool) (r : Term) (k : Text) (part : Term) → projected b r k part ≡ remapped_projection map (projected b r k part)
unfolding projected remapped remapped_projection
of_part map true r k part = refl
of_part map false r k part = refl

of_key : (map : Text → Option Represented) (o : Option Term) (fs : Fields) (r : Term) (k : Text) → projection_of o fs r k ≡ remapped_projection map (projection_of o fs r k)
unfolding projection_of remapped remapped_projection
of_key map None fs r k = refl
of_key map (Some part) fs r k = of_part map (is_projectable r) r k part

of_fields : (map : Text → Option Represented) (o : Option Fields) (r : Term) (k : Text) → projection_at o r k ≡ remapped_projection map (projection_at o r k)
unfolding projection_at remapped remapped_projection
of_fields map None r k = refl
of_fields map (Some fs) r k = of_key map (term_at k fs) fs r k

pub of_projection : (s : Setting) (p : PartialValue) (k : Text) → projection s p k ≡ remapped_projection s.map (projection (over s s.store) p k)
unfolding projection remapped_projection
of_projection s (value v) k = ap answered (of_value s v k)
of_projection s (residual r) k = of_fields s.map (fields_of_record r) r k

module _ (May : MayAnswer) (s : Setting) (p : PartialValue) (k : Text) where
  -- where the attribute reads no stored residual that is evaluated
  pub part_stored : (a : Answer) → resolved_in s.resolution (part_residual s.store p k) ≡ None
      → AnswersProjection May (projection s p k) a → Then (answers p) (AtAttribute May s k) a
  part_stored a none is =
      at_attribute May s p k a (λ v same stored. as_stored May s.resolution (attribute_residual s.store v k) (attribute_answer s v k) a
      (subst (λ x. resolved_in s.resolution (part_residual s.store x k) ≡ None) same none) stored) is

  -- and where it reads one
  pub part_read : (t : Term) (a : Answer) → resolved_in s.resolution (part_residual s.store p k) ≡ Some t → May t a
      → Then (answers p) (AtAttribute May s k) a
  part_read t a some may = by p some
    where
      by : (q : PartialValue) → resolved_in s.resolution (part_residual s.store q k) ≡ Some t → Then (answers q) (AtAttribute May s k) a
      by (value v) h = as_read May s.resolution (attribute_residual s.store v k) t (attribute_answer s v k) a h may
      by (residual r) h = absurd (nothing_resolved s.resolution t h)

  pub stored_uses : (x : Result RustPartialValue EvaluationError) (a : Answer) → a ≢ fails out_of_memory →
      a ≡ remapped s.map (partial_answer x) → ProjectsTo (projections.Answer x) (projection (over s s.store) p k) →
      resolved_in s.resolution (part_residual s.store p k) ≡ None → Then (answers p) (AtAttribute May s k) a
  unfolding remapped remapped_projection
  stored_uses x a never_out_of_memory is h none =
      let not_out_of_memory : partial_answer x ≢ fails out_of_memory = λ w. never_out_of_memory (is ∙ ap (remapped s.map) w) in
      let same : answered (partial_answer x) ≡ projection (over s s.store) p k = h (λ w. not_out_of_memory (cc)) in
      let all : projection s p k ≡ answered (remapped s.map (partial_answer x)) = of_projection s p k ∙ ap (remapped_projection s.map) (sym same) in
      part_stored a none (subst (λ q. AnswersProjection May q a) (sym all) is)

  pub part_uses : (e : Expr) → ProjectsTo (projections.Attribute e) (projection (over s s.store) p k) → (y a : Answer) → May (view e) y →
      a ≡ y → resolved_in s.resolution (part_residual s.store p k) ≡ None → Then (answers p) (AtAttribute May s k) a
  unfolding remapped_projection
  part_uses e h y a may is none =
      let same : interpreted_again (view e) ≡ projection (over s s.store) p k = h (λ w. cc) in
      let all : projection s p k ≡ interpreted_again (view e) = of_projection s p k ∙ ap (remapped_projection s.map) (sym same) in
      part_stored a none (subst (λ q. AnswersProjection May q a) (sym all) (subst (May (view e)) (sym is) may))
