-- Values, contexts, stores and maps without extension values are faithful, and written without unknowns.
use Rattle.std.specs.Prelude.{◌≡◌, map, Some}
use Rattle.std.proofs.Common.{sym}
use Rattle.cedar_model.specs.Values.{AbstractValue, abstract_value, abstract_values, abstract_fields}
use Rattle.cedar_model.specs.Values.{Represented, plain_represented, set_represented, record_represented}
use Rattle.cedar_model.specs.Values.{extension_represented, RepresentedValues, no_represented, one_represented}
use Rattle.cedar_model.specs.Values.{RepresentedFields, no_represented_at, one_represented_at}
use Rattle.cedar_model.specs.Values.{expression_of, expressions_of, expressions_at}
use Rattle.cedar_model.specs.World.{Extensions, Functions, FunctionAnswer, function_gives}
use Rattle.cedar_model.specs.Failures.{PartialValue, value, residual, answers}
use Rattle.cedar_model.specs.Settings.{ContextPart, absent_context, known_context, residual_context, Store}
use Rattle.cedar_model.specs.Rules.{StoredCalls}
use Rattle.cedar_model.specs.Agreement.{IsKnown, AreKnown, AreKnownAt, IsFaithful, AreFaithful, AreFaithfulAt}
use Rattle.cedar_model.specs.Agreement.{IsFaithfulPart, IsFaithfulContext, EachStored}
use Rattle.cedar_model.specs.Agreement.{function_answer}
use Rattle.cedar_model.proofs.Injections.{some_inj}
use Rattle.cedar_model.specs.Restricted.{IsSound, AreSound, AreSoundAt, IsSoundPart, IsSoundContext}
use Rattle.cedar_laws.specs.Faithful as faithful
use Rattle.cedar_laws.specs.Faithful.{HoldsNoExtensionValue, HoldNoExtensionValue, HoldNoExtensionValueAt}
use Rattle.cedar_laws.specs.Faithful.{PartHoldsNoExtensionValue, ContextHoldsNoExtensionValue}
use Rattle.cedar_laws.specs.Faithful.{StoreHoldsNoExtensionValue, GivenHoldsNoExtensionValue, AnswerNoExtensionValue}

module _ (X : Extensions) (ans : Functions) where
  mutual
    pub value_faithful : (v : Represented) → IsSound v → HoldsNoExtensionValue v → IsFaithful X ans v
    value_faithful (plain_represented l) s h = tt
    value_faithful (set_represented vs) s h = (s.0, values_faithful vs s.1 h)
    value_faithful (record_represented fs) s h = fields_faithful fs s h
    value_faithful (extension_represented t k f ts) s h = absurd h

    values_faithful : (vs : RepresentedValues) → AreSound vs → HoldNoExtensionValue vs → AreFaithful X ans vs
    values_faithful no_represented s h = tt
    values_faithful (one_represented v vs) s h = (value_faithful v s.0 h.0, values_faithful vs s.1 h.1)

    pub fields_faithful : (fs : RepresentedFields) → AreSoundAt fs → HoldNoExtensionValueAt fs → AreFaithfulAt X ans fs
    fields_faithful no_represented_at s h = tt
    fields_faithful (one_represented_at k v fs) s h = (value_faithful v s.0 h.0, fields_faithful fs s.1 h.1)

  pub part_faithful : (p : PartialValue) → IsSoundPart p → PartHoldsNoExtensionValue p → IsFaithfulPart X ans p
  part_faithful (value v) s h = value_faithful v s h
  part_faithful (residual t) s h = tt

  pub context_faithful : (c : ContextPart) → IsSoundContext c → ContextHoldsNoExtensionValue c
      → IsFaithfulContext X ans c
  context_faithful absent_context s h = tt
  context_faithful (known_context fs) s h = fields_faithful fs s h
  context_faithful (residual_context fs) s h = tt

  -- what holds of each stored part by two facts
  pub store_faithful : (z : Store) → EachStored IsSoundPart z → StoreHoldsNoExtensionValue z
      → EachStored (IsFaithfulPart X ans) z
  store_faithful z s h e x k p at = (
    λ there. part_faithful p ((s e x k p at).0 there) ((h e x k p at).0 there),
    λ there. part_faithful p ((s e x k p at).1 there) ((h e x k p at).1 there),
  )

module _ (ans : Functions) where
  mutual
    pub value_known : (v : Represented) → HoldsNoExtensionValue v → IsKnown ans (expression_of v)
    value_known (plain_represented l) h = tt
    value_known (set_represented vs) h = values_known vs h
    value_known (record_represented fs) h = fields_known fs h
    value_known (extension_represented t k f ts) h = absurd h

    values_known : (vs : RepresentedValues) → HoldNoExtensionValue vs → AreKnown ans (expressions_of vs)
    values_known no_represented h = tt
    values_known (one_represented v vs) h = (value_known v h.0, values_known vs h.1)

    fields_known : (fs : RepresentedFields) → HoldNoExtensionValueAt fs → AreKnownAt ans (expressions_at fs)
    fields_known no_represented_at h = tt
    fields_known (one_represented_at k v fs) h = (value_known v h.0, fields_known fs h.1)

pub given_faithful : (calls : StoredCalls) → faithful.GivenIsFaithful calls
given_faithful calls ans s sound none = record {
  context_faithful =
      context_faithful s.extensions ans s.request.context_part sound.context_sound none.context_holds_none;
  store_faithful = store_faithful s.extensions ans s.store sound.stored_sound none.store_holds_none;
  map_faithful = λ n v e. value_faithful s.extensions ans v (sound.mapped_sound n v e) (none.map_holds_none n v e);
}

pub functions_faithful : (calls : StoredCalls) → faithful.FunctionsAreFaithful calls
functions_faithful calls sound none X ans f vs v given h =
    value_faithful X ans v (sound f vs (value v) h) (none f vs (value v) h)

pub no_function_owes : (calls : StoredCalls) → faithful.NoFunctionOwes calls
no_function_owes calls none = (
  λ f vs p h. absurd (none f vs (answers p) h),
  λ ans. (λ f vs a h. absurd (none f vs a h), λ X f vs v given h. absurd (none f vs (answers (value v)) h)),
)

-- ---- values as equality sees them

mutual
  abstract_holds : (v : Represented) → faithful.IsWithoutExtensions (abstract_value v) → HoldsNoExtensionValue v
  abstract_holds (plain_represented l) h = tt
  abstract_holds (set_represented vs) h = abstract_hold vs h
  abstract_holds (record_represented fs) h = abstract_hold_at fs h
  abstract_holds (extension_represented t k f ts) h = h

  abstract_hold : (vs : RepresentedValues) → faithful.AreWithoutExtensions (abstract_values vs)
      → HoldNoExtensionValue vs
  abstract_hold no_represented h = tt
  abstract_hold (one_represented v vs) h = (abstract_holds v h.0, abstract_hold vs h.1)

  abstract_hold_at : (fs : RepresentedFields) → faithful.AreWithoutExtensionsAt (abstract_fields fs)
      → HoldNoExtensionValueAt fs
  abstract_hold_at no_represented_at h = tt
  abstract_hold_at (one_represented_at k v fs) h = (abstract_holds v h.0, abstract_hold_at fs h.1)

agreed_part : (p : PartialValue) (a : FunctionAnswer)
    → ((v : AbstractValue) → a ≡ function_gives v → faithful.IsWithoutExtensions v)
    → function_answer (answers p) ≡ Some a → PartHoldsNoExtensionValue p
unfolding function_answer
agreed_part (value v) a h e = abstract_holds v (h (abstract_value v) (sym (some_inj e)))
agreed_part (residual t) a h e = tt

pub answer_as_agreed : (calls : StoredCalls) → faithful.FunctionsAnswerAsAgreed calls
answer_as_agreed calls ans agrees gives f vs p h =
    agreed_part p (ans f (map abstract_value vs)) (gives f (map abstract_value vs)) (agrees f vs (answers p) h)
