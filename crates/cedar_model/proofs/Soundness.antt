-- Residual soundness: what an evaluator may answer stands for the meaning, in every world that agrees with what it is
-- given.
use Rattle.std.specs.Prelude.{◌≡◌, ℕ, zero, suc, Option}
use Rattle.std.specs.Prelude.{Some, None}
use Rattle.std.proofs.Common.{refl, sym, ap, ◌∙◌}
use Rattle.cedar_model.specs.Terms.{Text, EntityName, entity_literal}
use Rattle.cedar_model.specs.Terms.{Variable, principal, action, resource, context, Slot}
use Rattle.cedar_model.specs.Terms.{entity_type}
use Rattle.cedar_model.specs.Terms.{Term, literal, variable}
use Rattle.cedar_model.specs.Terms.{slot, unknown, if_then_else, both, either, unary, binary, call, get_attribute}
use Rattle.cedar_model.specs.Terms.{has_attribute, extended_has, like, is_of_type, set_of, record_of}
use Rattle.cedar_model.specs.Values.{plain, record_value}
use Rattle.cedar_model.specs.Values.{Represented}
use Rattle.cedar_model.specs.Outcomes.{Outcome, gives}
use Rattle.cedar_model.specs.Outcomes.{value_type}
use Rattle.cedar_model.specs.World.{World, Functions}
use Rattle.cedar_model.specs.World.{variable_value}
use Rattle.cedar_model.specs.Meaning
use Rattle.cedar_model.specs.Failures.{Failure, failure_kind, FailureKind, of_meaning, of_residual, of_limit, of_memory}
use Rattle.cedar_model.specs.Failures.{value, residual, Answer, answers, fails}
use Rattle.cedar_model.specs.Failures.{limit}
use Rattle.cedar_model.specs.Settings.{Entry, known_entry, unknown_entry, ContextPart, absent_context, known_context}
use Rattle.cedar_model.specs.Settings.{residual_context, Setting, type_annotation}
use Rattle.cedar_model.specs.Settings.{entry_part, context_value, variable_part}
use Rattle.cedar_model.specs.Operators
use Rattle.cedar_model.specs.Rules
use Rattle.cedar_model.specs.Agreement
use Rattle.cedar_model.proofs.Means
use Rattle.cedar_model.proofs.SoundAnswers
use Rattle.cedar_model.proofs.SoundAnswers.{Loose, by_equal, on_part_sound, well, map_well}
use Rattle.cedar_model.proofs.SoundOperands.{guard_sound, and_sound, or_sound, left_sound, is_sound}
use Rattle.cedar_model.proofs.SoundAttributes.{has_sound, attribute_sound, path_sound}
use Rattle.cedar_model.proofs.SoundParts.{parts_sound, set_sound, fields_sound, record_sound, call_sound}

module _ (ans : Functions) (calls : Rules.StoredCalls) (agree : Agreement.AgreesWithFunctions ans calls) (w : World)
    (s : Setting) (done : Agreement.IsCompletion ans w s)
    (faithful : Agreement.AnswerFaithfully s.extensions ans calls) where
  abbrev F : Represented → Type 0
  F v = Agreement.IsFaithful s.extensions ans v

  abbrev N : Term → Outcome
  N = SoundAnswers.N ans w s

  abbrev M : Term → Outcome
  M = SoundAnswers.M ans w s

  abbrev R : Term → Outcome → Type 0
  R = SoundAnswers.R ans w s

  abbrev E : Failure → Outcome → Type 0
  E = SoundAnswers.E ans w s

  abbrev Sound : Answer → Outcome → Type 0
  Sound = SoundAnswers.Sound ans w s

  -- ---- leaves

  slot_sound : (i : Slot) (o : Option EntityName) → Sound (Operators.slot_answer i o) (Meaning.slot_meaning o)
  unfolding Operators.slot_answer Meaning.slot_meaning failure_kind Agreement.outcome_value
  slot_sound i None = refl
  slot_sound i (Some e) = (tt, refl)

  type_is : (n : Text) (t : Option Text) (d : EntityName) → w.sigma n ≡ plain (entity_literal d)
      → Agreement.IsOfType t d → Agreement.HasType w n (type_annotation t)
  unfolding type_annotation value_type
  type_is n None d e h = tt
  type_is n (Some u) d e h = ap value_type e ∙ ap entity_type h

  entry_sound : (e : Entry) (name : Text) (d : EntityName) → Agreement.AgreesWithEntry w name d e
      → Sound (answers (entry_part e name)) (gives (plain (entity_literal d)))
  unfolding entry_part Meaning.meaning
  entry_sound (known_entry c) name d h = (tt, ap (λ x. gives (plain (entity_literal x))) h)
  entry_sound (unknown_entry t) name d h =
      (type_is name t d h.0 h.1, ap (λ v. Agreement.outcome_value (gives v)) h.0)

  context_sound : (c : ContextPart) → Agreement.AgreesWithContext s.extensions ans w c
      → Agreement.IsFaithfulContext s.extensions ans c → Agreement.FitsContext s.extensions ans w c
      → Sound (answers (context_value c)) (gives (record_value w.context_record))
  unfolding context_value Meaning.meaning Meaning.and_then_all
  context_sound absent_context h f g = (tt, ap (λ v. Agreement.outcome_value (gives v)) h)
  context_sound (known_context fs) h f g = (f, ap (λ x. gives (record_value x)) (sym h))
  context_sound (residual_context fs) h f g =
      (g, ap (λ m. Agreement.outcome_value (Meaning.and_then_all m (λ gs. gives (record_value gs)))) h)

  variable_sound : (v : Variable) → Sound (answers (variable_part s.request v)) (gives (variable_value w v))
  unfolding variable_part variable_value
  variable_sound principal =
      entry_sound s.request.principal_entry _ w.principal_entity done.agreement.request_agrees.principal_agrees
  variable_sound action =
      entry_sound s.request.action_entry _ w.action_entity done.agreement.request_agrees.action_agrees
  variable_sound resource =
      entry_sound s.request.resource_entry _ w.resource_entity done.agreement.request_agrees.resource_agrees
  variable_sound context =
      context_sound s.request.context_part done.agreement.request_agrees.context_agrees done.values.context_faithful
      done.agreement.context_fits

  -- ---- a layer

  module _ (G : Rules.MayAnswer) (ih : (t : Term) (x : Answer) → Agreement.Fits ans w t → G t x → Sound x (M t)) where
    rule_sound : (t : Term) (a : Answer) → Agreement.Fits ans w t → Rules.Rule s calls G t a → Sound a (M t)
    unfolding Meaning.meaning
    rule_sound (literal l) a f r = by_equal ans w s a _ _ r (tt, refl)
    rule_sound (variable v) a f r = by_equal ans w s a _ _ r (variable_sound v)
    rule_sound (slot i) a f r = by_equal ans w s a _ _ r (slot_sound i (s.slots i))
    rule_sound (unknown n t) a f r = by_equal ans w s a _ _ r (Means.unknown_means w s F R E (map_well ans w s done) n t f (f, refl))
    rule_sound (if_then_else c t e) a f (x, g, r) = guard_sound ans w s done G ih x (M c) t e a f.1 f.2 (ih c x f.0 g) r
    rule_sound (both t u) a f (x, g, r) = and_sound ans w s done G ih x (M t) u a f.1 (ih t x f.0 g) r
    rule_sound (either t u) a f (x, g, r) = or_sound ans w s done G ih x (M t) u a f.1 (ih t x f.0 g) r
    rule_sound (unary op t) a f (x, g, e) =
        by_equal ans w s a _ _ e (on_part_sound ans w s _ _ _ (λ v k. Means.unary_means ans w s F R E (well ans w s done) op v) (λ r k. k)
        (λ r. refl) x (M t) (ih t x f g))
    rule_sound (binary op t u) a f (x, g, r) = left_sound ans w s done G ih op x (M t) u a f.1 (ih t x f.0 g) r
    rule_sound (call n ts) a f (r, g, h) = call_sound ans w s done G ih calls agree faithful r n ts a f.0 (parts_sound ans w s done G ih ts r f.1 g) h
    rule_sound (get_attribute t l) a f (x, g, r) = attribute_sound ans w s done G ih l x (M t) a (ih t x f g) r
    rule_sound (has_attribute t l) a f (x, g, e) = by_equal ans w s a _ _ e (has_sound ans w s done G ih l x (M t) (ih t x f g))
    rule_sound (extended_has t l ls) a f (x, g, e) = path_sound ans w s done G ih s.resolution x l ls (M t) a (ih t x f g) e
    rule_sound (like t p) a f (x, g, e) =
        by_equal ans w s a _ _ e (on_part_sound ans w s _ _ _ (λ v k. Means.like_means ans w s F R E (well ans w s done) p v) (λ r k. k) (λ r. refl) x
        (M t) (ih t x f g))
    rule_sound (is_of_type t n) a f (x, g, e) = by_equal ans w s a _ _ e (is_sound ans w s done G ih n x (M t) (ih t x f g))
    rule_sound (set_of ts) a f (r, g, e) = by_equal ans w s a _ _ e (set_sound ans w s done G ih r ts (parts_sound ans w s done G ih ts r f g))
    rule_sound (record_of fs) a f (r, g, e) = by_equal ans w s a _ _ e (record_sound ans w s done G ih r fs (fields_sound ans w s done G ih fs r f g))

  pub runs_sound : (n : ℕ) (t : Term) (a : Answer) → Agreement.Fits ans w t → Rules.Runs s calls n t a → Sound a (M t)
  unfolding failure_kind
  runs_sound zero t a f r = by_equal ans w s a limit _ r tt
  runs_sound (suc n) t a f r = rule_sound (Rules.Runs s calls n) (runs_sound n) t a f r

  fails_for : (k : FailureKind) (o : Outcome) → Loose k (Agreement.outcome_value o) → Agreement.FailsFor k o
  fails_for (of_meaning j) o g = g
  fails_for of_residual o g = g
  fails_for of_limit o g = tt
  fails_for of_memory o g = tt

  -- in the words of the definition
  pub sound_stands : (t : Term) (a : Answer) → Sound a (M t) → Agreement.StandsFor s.extensions ans w a (M t)
  sound_stands t (answers (value v)) h = h
  sound_stands t (answers (residual q)) h = h
  sound_stands t (fails e) h = fails_for (failure_kind e) (M t) h

  pub allowed_sound : (t : Term) (a : Answer) → Agreement.Fits ans w t → Rules.Allows s calls t a
      → Agreement.StandsFor s.extensions ans w a (M t)
  allowed_sound t a f (ne, n, r) = sound_stands t a (runs_sound n t a f r)
