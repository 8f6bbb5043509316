-- What a context, a request and a map of values hold is sound: their types keep it.
use Rattle.std.proofs.Common.{◌≡◌, true, List, Option, Some, None, option_map, subst}
use Rattle.std.specs.Map.{lookup}
use Rattle.std.specs.Rc.{rc_str_bytes}
use Rattle.std.specs.declared.alloc.Global.{Global}
use Rattle.std.specs.declared.rc.RcStr.{RcStr}
use Rattle.cedar_model.specs.Terms.{Text}
use Rattle.cedar_model.specs.Outcomes.{text_eq}
use Rattle.cedar_model.specs.Values.{Represented, expression_of}
use Rattle.cedar_model.specs.Shapes.{is_restricted}
use Rattle.cedar_model.specs.Restricted.{IsSound, IsSoundContext}
use Rattle.cedar_values.specs.Sound.{Placed, AreSoundAt-whats_at, found_is_sound}
use Rattle.cedar_requests.specs.declared.context.Context.{Context}
use Rattle.cedar_requests.specs.declared.context.pairs.ContextPairs.{ContextPairs}
use Rattle.cedar_requests.specs.declared.context.pairs.ContextPairs.TheVariants as kinds
use Rattle.cedar_requests.specs.declared.request.Request.{Request}
use Rattle.cedar_requests.specs.Contexts.{context_pairs_view, context_view}
use Rattle.cedar_requests.specs.Requests.{context_given, request_view}
use Rattle.cedar_requests.specs.Substitutions.{values_for}
use Rattle.cedar_model.proofs.Injections.{some_inj, none_is_not_some}
use Rattle.cedar_model.proofs.RestrictedAnswers.{sound_restricted}

-- ---- contexts and requests

pairs_are_sound : (p : ContextPairs) → IsSoundContext (context_pairs_view p)
pairs_are_sound (kinds.Values m) = AreSoundAt-whats_at m.entries
pairs_are_sound (kinds.Residual r) = r.restricted

-- the values of a context are sound, or its expressions restricted
pub context_is_sound : (c : Context) → IsSoundContext (context_view c)
context_is_sound c = pairs_are_sound c.pairs

-- so are those of a context that may be unknown
pub given_context_is_sound : (c : Option Context) → IsSoundContext (context_given c)
given_context_is_sound None = tt
given_context_is_sound (Some c) = context_is_sound c

-- and those of a request's context
pub request_is_sound : (r : Request) → IsSoundContext (request_view r).context_part
request_is_sound r = given_context_is_sound r.context

-- ---- maps of values

-- each value that a map has for an unknown is sound
pub mapped_value_is_sound : (es : List (RcStr Global × Placed)) (n : Text) (v : Represented)
    → values_for es n ≡ Some v → IsSound v
mapped_value_is_sound es n v h = found_is_sound (lookup (λ (k : RcStr Global). text_eq n (rc_str_bytes k)) es) v h

-- and is written as a restricted expression
pub mapped_value_is_restricted : (es : List (RcStr Global × Placed)) (n : Text) (v : Represented)
    → values_for es n ≡ Some v → is_restricted (expression_of v) ≡ true
mapped_value_is_restricted es n v h = sound_restricted v (mapped_value_is_sound es n v h)
