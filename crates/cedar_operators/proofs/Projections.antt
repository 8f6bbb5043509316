-- The attribute of a part by the rules: what a projection comes to, they allow.
use Rattle.std.proofs.Common.{◌≡◌, Bool, true, false, Option, None, Some, refl}
use Rattle.cedar_model.specs.Terms.{Text, Term, Fields}
use Rattle.cedar_model.specs.Failures.{PartialValue, value, residual, Answer, answers}
use Rattle.cedar_model.specs.Values.{Represented}
use Rattle.cedar_model.specs.Settings.{Setting}
use Rattle.cedar_model.specs.Shapes.{is_projectable}
use Rattle.cedar_model.specs.Operators.{term_at, attribute_answer, attribute_residual}
use Rattle.cedar_model.specs.Rules as Rules
use Rattle.cedar_model.specs.Rules.{MayAnswer, Resolves, AtKey, AtFields, AtAttribute, fields_of_record, Then}
use Rattle.cedar_operators.specs.Parts.{AnswersProjection, projected, projection_of, projection_at, projection}

module _ (May : MayAnswer) where
  projects : (b : Bool) (r : Term) (k : Text) (part : Term) (a : Answer) → AnswersProjection May (projected b r k part) a
      → Rules.Projects May b r k part a
  unfolding projected
  projects true r k part a is = is
  projects false r k part a is = is

  at_key : (o : Option Term) (fs : Fields) (r : Term) (k : Text) (a : Answer)
      → AnswersProjection May (projection_of o fs r k) a → AtKey May o fs r k a
  unfolding projection_of
  at_key None fs r k a is = is
  at_key (Some part) fs r k a is = projects (is_projectable r) r k part a is

  -- of a residual
  pub at_fields : (o : Option Fields) (r : Term) (k : Text) (a : Answer) → AnswersProjection May (projection_at o r k) a
      → AtFields May o r k a
  unfolding projection_at
  at_fields None r k a is = is
  at_fields (Some fs) r k a is = at_key (term_at k fs) fs r k a is

  -- of a part, where what a value has is answered as it is stored
  pub at_attribute : (s : Setting) (p : PartialValue) (k : Text) (a : Answer)
      → ((v : Represented) → p ≡ value v → a ≡ attribute_answer s v k
      → Resolves May s.resolution (attribute_residual s.store v k) (attribute_answer s v k) a)
      → AnswersProjection May (projection s p k) a → Then (answers p) (AtAttribute May s k) a
  unfolding projection
  at_attribute s (value v) k a stored is = stored v refl is
  at_attribute s (residual r) k a stored is = at_fields (fields_of_record r) r k a is
