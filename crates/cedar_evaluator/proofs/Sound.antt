-- What an evaluator is given is sound: the types keep it.
use Rattle.std.specs.Prelude.{◌≡◌, ℕ, true, None, Some}
use Rattle.std.proofs.Common.{refl, ap, ◌∙◌}
use Rattle.cedar_model.specs.Terms.{Text, Term, context, record_of}
use Rattle.cedar_model.specs.Values.{Represented, plain_represented, set_represented, record_represented, extension_represented}
use Rattle.cedar_model.specs.World.{Slots}
use Rattle.cedar_model.specs.Shapes.{is_restricted}
use Rattle.cedar_model.specs.Failures as model
use Rattle.cedar_model.specs.Failures.{value, residual, Answer}
use Rattle.cedar_model.specs.Settings.{ContextPart, absent_context, known_context, residual_context, context_value, RequestPart, variable_part}
use Rattle.cedar_model.specs.Rules.{Runs, Meets}
use Rattle.cedar_model.specs.Restricted.{IsSound, IsSoundContext, IsGivenSound}
use Rattle.cedar_model.proofs.Injections.{none_is_not_some}
use Rattle.cedar_values.specs.declared.partial_value.PartialValue.{PartialValue}
use Rattle.cedar_values.specs.declared.partial_value.PartialValue.TheVariants as partials
use Rattle.cedar_values.specs.Residuals.{partial_view, residual_term}
use Rattle.cedar_layers.specs.Parts.{is_restricted_part}
use Rattle.cedar_layers.proofs.Sound.{store_is_sound, mapping_is_sound}
use Rattle.cedar_extensions.specs.StoredLaws.{calls_functional, calls_meet_no_limit, calls_sound}
use Rattle.cedar_interpreter.specs.declared.evaluation.Mapper.{Mapper}
use Rattle.cedar_interpreter.specs.declared.evaluation.Mapper.TheVariants as mappers
use Rattle.cedar_interpreter.specs.Settings.{mapper_view}
use Rattle.cedar_interpreter.specs.Promises.{IsPromised}
use Rattle.cedar_interpreter.proofs.Promised.{promised}
use Rattle.cedar_evaluator.specs.declared.evaluator.Evaluator.{Evaluator}
use Rattle.cedar_evaluator.specs.Evaluations.{setting_of, calls_in}
use Rattle.cedar_evaluator.specs.Variables.{context_of}

-- ---- what stands for the variable `context`

part_is_restricted : (c : ContextPart) → IsSoundContext c → is_restricted_part (context_value c) ≡ true
unfolding context_value
part_is_restricted absent_context h = refl
part_is_restricted (known_context fs) h = refl
part_is_restricted (residual_context fs) h = h

-- that of a request whose context is sound is a value or a restricted expression
pub context_is_restricted : (r : RequestPart) (p : model.PartialValue) → IsSoundContext r.context_part → p ≡ variable_part r context →
    is_restricted_part p ≡ true
unfolding variable_part
context_is_restricted r p h is = ap is_restricted_part is ∙ part_is_restricted r.context_part h

value_is_sound : (v : Represented) → IsSound v → IsSoundContext (context_of (value v))
unfolding context_of
value_is_sound (plain_represented l) h = tt
value_is_sound (set_represented vs) h = tt
value_is_sound (record_represented fs) h = h
value_is_sound (extension_represented t k f ts) h = tt

residual_is_sound : (t : Term) → is_restricted t ≡ true → IsSoundContext (context_of (residual t))
unfolding context_of
residual_is_sound (record_of fs) h = h
residual_is_sound t h = tt

-- where it is a value or a restricted expression, the context is sound
context_is_sound : (p : PartialValue) → is_restricted_part (partial_view p) ≡ true → IsSoundContext (context_of (partial_view p))
context_is_sound (partials.Value v) h = value_is_sound v.what v.sound
context_is_sound (partials.Residual r) h = residual_is_sound (residual_term r) h

-- ---- what is given

mapper_is_sound : (m : Mapper) (n : Text) (v : Represented) → mapper_view m n ≡ Some v → IsSound v
mapper_is_sound mappers.Empty n v h = absurd (none_is_not_some h)
mapper_is_sound (mappers.Values m) n v h = mapping_is_sound m.now.entries n v h

module _ {X : Type 0} {F : X → Type 0} {g : _} (v : Evaluator X F g) (slots : Slots) where
  -- all that an evaluator is given is sound, and so is what its functions answer
  pub evaluator_is_sound : IsGivenSound (calls_in v) (setting_of v slots)
  evaluator_is_sound = record {
    context_sound = context_is_sound v.given.context v.context_restricted;
    stored_sound = store_is_sound v.given.entities.now;
    mapped_sound = mapper_is_sound v.given.mapper;
    answers_sound = calls_sound v.given.extensions.now;
  }

  -- so what runs is as promised
  pub evaluator_promised : (levels : ℕ) (t : Term) (a : Answer) → Runs (setting_of v slots) (calls_in v) levels t a →
      IsPromised (setting_of v slots) (calls_in v) levels t a
  evaluator_promised =
      promised (setting_of v slots) (calls_in v) (calls_functional v.given.extensions.now) (calls_meet_no_limit v.given.extensions.now) evaluator_is_sound

  pub rules_promised : (levels : ℕ) (t : Term) (a : Answer) → Meets (Runs (setting_of v slots) (calls_in v) levels t) a →
      Meets (IsPromised (setting_of v slots) (calls_in v) levels t) a
  rules_promised levels t a runs ok = evaluator_promised levels t a (runs ok)
