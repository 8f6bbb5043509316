-- The request that a map makes of one, against the model's steps.
use Rattle.std.specs.Prelude.{◌≡◌, ℕ, ◌≤◌, Option, Some, None, IfSome, codes, Result, Ok, Err}
use Rattle.cedar_model.specs.Terms.{record_of}
use Rattle.cedar_model.specs.Values.{Represented, plain_represented, set_represented, record_represented}
use Rattle.cedar_model.specs.Values.{extension_represented, RepresentedFields}
use Rattle.cedar_model.specs.Settings.{Entry, ContextPart, absent_context, known_context, residual_context, RequestPart}
use Rattle.cedar_model.specs.Settings.{Setting}
use Rattle.cedar_model.specs.World as world
use Rattle.cedar_model.specs.Agreement.{height}
use Rattle.cedar_model.specs.Rules.{StoredCalls}
use Rattle.cedar_model.specs.Refusals.{Refusal, concrete_entry, concrete_context, unless_refused, concrete_request}
use Rattle.cedar_model.specs.Chains.{Mapping, substituted_at, with_context, SubstitutesTo}
use Rattle.cedar_names.specs.declared.names.Loc.{Loc}
use Rattle.cedar_requests.specs.declared.request.Request.{Request}
use Rattle.cedar_requests.specs.Requests.{request_view, request_locs}
use Rattle.cedar_authorizer.specs.declared.reauthorization.err.ConcretizationError.{ConcretizationError}
use Rattle.cedar_authorizer.specs.reauthorization.Errors.{answer_by}

-- the fields of a record, if the value is one
abbrev pub fields_of_represented : Represented → Option RepresentedFields
fields_of_represented (plain_represented l) = None
fields_of_represented (set_represented vs) = None
fields_of_represented (record_represented fs) = Some fs
fields_of_represented (extension_represented t k f ts) = None

-- ---- the parts in turn, as `concrete_request` has them

module _ (m : Mapping) (r : RequestPart) where
  -- what comes of the request where principal, action and resource are these
  abbrev pub after_resource : Entry → Entry → Entry → Result RequestPart Refusal
  after_resource p a e =
      unless_refused (concrete_context (m (codes "context")) r.context_part)
      (λ c. Ok record { principal_entry = p; action_entry = a; resource_entry = e; context_part = c })

  -- and before it where principal and action are these
  abbrev pub after_action : Entry → Entry → Result RequestPart Refusal
  after_action p a =
      unless_refused (concrete_entry (codes "resource") (m (codes "resource")) r.resource_entry) (after_resource p a)

  -- and before that where the principal is this
  abbrev pub after_principal : Entry → Result RequestPart Refusal
  after_principal p =
      unless_refused (concrete_entry (codes "action") (m (codes "action")) r.action_entry) (after_action p)

-- ---- values in the context

-- the request with this context, or the context's refusal
abbrev pub in_context : RequestPart → Result ContextPart Refusal → Result RequestPart Refusal
in_context r (Ok c) = Ok (with_context r c)
in_context r (Err e) = Err e

module _ (s : Setting) (calls : StoredCalls) (levels : ℕ) (m : Mapping) where
  -- the request's context is substituted
  abbrev pub IsWithValues : RequestPart → Result RequestPart Refusal → Type 0
  IsWithValues r x = (c : Result ContextPart Refusal) × SubstitutesTo s calls levels m r.context_part c
      × (x ≡ in_context r c)

  abbrev pub AfterMap : Result RequestPart Refusal → Result RequestPart Refusal → Type 0
  AfterMap (Ok r) x = IsWithValues r x
  AfterMap (Err e) x = x ≡ Err e

  -- the map makes the request concrete, and then its context is substituted
  abbrev pub IsConcrete : RequestPart → Result RequestPart Refusal → Type 0
  IsConcrete r x = AfterMap (concrete_request m r) x

-- in each setting that has these extensions the map makes this of the request, running out of memory aside
abbrev pub IsConcretized : world.Extensions → StoredCalls → ℕ → Mapping → RequestPart →
    Result Request ConcretizationError → Type 0
IsConcretized x calls levels m r result = (s : Setting) → s.extensions ≡ x →
    IfSome (answer_by request_view result) (IsConcrete s calls levels m r)

-- a residual's record with the map's values in it is no higher; any other context is not evaluated
abbrev pub IsResidualNoHigher : Mapping → ℕ → ContextPart → Type 0
IsResidualNoHigher m b absent_context = Unit {0}
IsResidualNoHigher m b (known_context fs) = Unit {0}
IsResidualNoHigher m b (residual_context fs) = height (record_of (substituted_at m fs)) ≤ b

-- ---- places

-- what the map has a value for stands nowhere
abbrev pub concrete_loc : Option Represented → Option Loc → Option Loc
concrete_loc None l = l
concrete_loc (Some v) l = None

-- where a request names its entities
abbrev pub entity_locs : Request → Option Loc × Option Loc × Option Loc
entity_locs r = ((request_locs r).0, (request_locs r).1, (request_locs r).2)

abbrev pub concrete_locs : Mapping → Option Loc × Option Loc × Option Loc → Option Loc × Option Loc × Option Loc
concrete_locs m l = (
  concrete_loc (m (codes "principal")) l.0,
  concrete_loc (m (codes "action")) l.1,
  concrete_loc (m (codes "resource")) l.2,
)
