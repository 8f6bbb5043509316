-- Contexts that are read, and why there is none.
use Rattle.std.proofs.Common.{◌≡◌, ◌≢◌, ℕ, Bool, true, false, true≢false, [], ◌∷◌, inl, inr, Ok, Err, is_some, sym, ◌∙◌, codes}
use Rattle.cedar_model.specs.Terms.{Term}
use Rattle.cedar_model.specs.World as world
use Rattle.cedar_model.specs.Rules.{StoredCalls}
use Rattle.cedar_model.specs.Restricted.{first_disallowed}
use Rattle.cedar_names.specs.Equality.{term_eq}
use Rattle.cedar_names.specs.EqualityLaws.{term_eq-decides}
use Rattle.cedar_policy_json_reader.specs.Paths.{at_key}
use Rattle.cedar_values.specs.Residuals.{partial_term}
use Rattle.cedar_requests.specs.Contexts.{context_part_value, context_view}
use Rattle.cedar_requests.specs.Creations.{IsCreated}
use Rattle.cedar_requests.specs.declared.context.Context.{Context}
use Rattle.cedar_requests.specs.declared.errors.ContextCreationError.{ContextCreationError}
use Rattle.cedar_requests.specs.declared.errors.ContextCreationError.TheVariants as creations
use Rattle.cedar_response_json_reader.specs.declared.errors.ResponseJsonError.{ResponseJsonError}
use Rattle.cedar_response_json_reader.specs.declared.errors.ResponseJsonError.TheVariants as errors
use Rattle.cedar_response_json_reader.specs.declared.errors.ResponseRefusal.TheVariants as reasons
use Rattle.cedar_response_json_reader.specs.Contexts.{IsNoMemory, IsNoneFor, IsRecordOf, IsNone, IsWhyNone}
use Rattle.cedar_response_json_reader.specs.Refusals.{IsRefusedAt, IsMemory}

pub same_term : (t u : Term) → true ≡ term_eq t u → t ≡ u
same_term t u e = (term_eq-decides t u).0 (sym e)

pub other_term : (t u : Term) → false ≡ term_eq t u → t ≢ u
other_term t u e = λ same. absurd (true≢false (sym ((term_eq-decides t u).1 same) ∙ sym e))

module _ (x : world.Extensions) (calls : StoredCalls) (n : ℕ) (t : Term) where
  -- it is the context, where it is written as this record
  pub is_record : (c : Context) → IsCreated x calls n t (Ok c) → true ≡ term_eq (partial_term (context_part_value c)) t → IsRecordOf x calls n t (context_view c)
  is_record c made same = ((λ s bare. (made s bare).1), same_term (partial_term (context_part_value c)) t same)

  -- a reason is why
  pub because_none : IsNone x calls n t → (e : ResponseJsonError) → IsRefusedAt (at_key (codes "context") ∷ []) reasons.NotAContext e → IsWhyNone x calls n t e
  because_none none errors.Syntax h = h
  because_none none (errors.Refused p r) h = (h.0, h.1, none)
  because_none none (errors.Memory m) h = tt

  memory_none : (e : ResponseJsonError) → IsMemory e → IsWhyNone x calls n t e
  memory_none errors.Syntax h = h
  memory_none (errors.Refused p r) h = absurd h
  memory_none (errors.Memory m) h = tt

  -- it is written in another way
  pub written_otherwise : (c : Context) → IsCreated x calls n t (Ok c) → false ≡ term_eq (partial_term (context_part_value c)) t → (e : ResponseJsonError) → IsRefusedAt (at_key (codes "context") ∷ []) reasons.NotAContext e → IsWhyNone x calls n t e
  written_otherwise c made other e h = because_none (inr (inr (c, made, other_term (partial_term (context_part_value c)) t other))) e h

  -- it is not restricted
  pub unrestricted : is_some (first_disallowed t) ≡ true → (e : ResponseJsonError) → IsRefusedAt (at_key (codes "context") ∷ []) reasons.NotAContext e → IsWhyNone x calls n t e
  unrestricted is e h = because_none (inl is) e h

  -- no context is made
  pub not_created : (why : ContextCreationError) → IsCreated x calls n t (Err why) → (e : ResponseJsonError) → IsNoneFor why e → IsWhyNone x calls n t e
  not_created (creations.NotARecord d) made e h = because_none (inr (inl (creations.NotARecord d, made, tt))) e h
  not_created (creations.Evaluation d) made e h = because_none (inr (inl (creations.Evaluation d, made, tt))) e h
  not_created (creations.ExpressionConstruction d) made e h = because_none (inr (inl (creations.ExpressionConstruction d, made, tt))) e h
  not_created (creations.Memory d) made e h = memory_none e h
