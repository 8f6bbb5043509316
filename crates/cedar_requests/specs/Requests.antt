-- What a request says, as plain data.
use Rattle.std.specs.Prelude.{List, [], Option, Some, None, option_map}
use Rattle.cedar_model.specs.Terms.{Text, EntityName}
use Rattle.cedar_model.specs.Settings.{Entry, known_entry, unknown_entry, ContextPart, absent_context, RequestPart}
use Rattle.cedar_names.specs.declared.names.EntityType.{EntityType}
use Rattle.cedar_names.specs.declared.names.EntityUID.{EntityUID}
use Rattle.cedar_names.specs.declared.names.Loc.{Loc}
use Rattle.cedar_names.specs.Names.{type_text, uid_name, uid_type}
use Rattle.cedar_names.specs.declared.types.«Type».{«Type» as RType}
use Rattle.cedar_names.specs.declared.types.«Type».TheVariants as types
use Rattle.cedar_expressions.specs.Nodes as node
use Rattle.cedar_expressions.specs.Nodes.{Node, node_of}
use Rattle.cedar_values.specs.declared.partial_value.PartialValue.{PartialValue}
use Rattle.cedar_values.specs.declared.partial_value.PartialValue.TheVariants as partials
use Rattle.cedar_values.specs.Residuals.{partial_loc, residual_expr}
use Rattle.cedar_requests.specs.declared.context.Context.{Context}
use Rattle.cedar_requests.specs.declared.entry.EntityUIDEntry.{EntityUIDEntry}
use Rattle.cedar_requests.specs.declared.entry.EntityUIDEntry.TheVariants.{Known, Unknown}
use Rattle.cedar_requests.specs.declared.request.Request.{Request}
use Rattle.cedar_requests.specs.Contexts.{context_view, context_locs}

-- ---- entries

-- the entity of an entry, where it is known
abbrev pub entry_uid : EntityUIDEntry → Option EntityUID
entry_uid (Known u l) = Some u
entry_uid (Unknown t l) = None

-- the type of its entity as it was handed in, location included, where it is known
abbrev pub entry_entity_type : EntityUIDEntry → Option EntityType
entry_entity_type (Known u l) = Some (uid_type u)
entry_entity_type (Unknown t l) = t

-- the type that its unknown is annotated with
abbrev pub entry_annotation : EntityUIDEntry → Option EntityType
entry_annotation (Known u l) = None
entry_annotation (Unknown t l) = t

-- where an entry names it
abbrev pub entry_loc : EntityUIDEntry → Option Loc
entry_loc (Known u l) = l
entry_loc (Unknown t l) = l

abbrev pub entry_view : EntityUIDEntry → Entry
entry_view (Known u l) = known_entry (uid_name u)
entry_view (Unknown t l) = unknown_entry (option_map type_text t)

-- the name of a known entity
abbrev pub entry_name : Entry → Option EntityName
entry_name (known_entry e) = Some e
entry_name (unknown_entry t) = None

-- the type of an entity, where that is known
abbrev pub entry_type : Entry → Option Text
entry_type (known_entry e) = Some e.type_name
entry_type (unknown_entry t) = t

-- ---- contexts

-- what a context says, where there is one
abbrev pub context_given : Option Context → ContextPart
context_given None = absent_context
context_given (Some c) = context_view c

-- where its values or expressions stand
abbrev pub given_locs : Option Context → List (Option Loc)
given_locs None = []
given_locs (Some c) = context_locs c

-- ---- requests

-- what a request says
abbrev pub request_view : Request → RequestPart
request_view r = record {
  principal_entry = entry_view r.principal;
  action_entry = entry_view r.action;
  resource_entry = entry_view r.resource;
  context_part = context_given r.context;
}

-- the parts of a request as they were handed in, places included: who asks, to do what, with what, and in which context
abbrev pub request_parts : Request → EntityUIDEntry × EntityUIDEntry × EntityUIDEntry × Option Context
request_parts r = (r.principal, r.action, r.resource, r.context)

-- where a request names its entities, and where the parts of its context stand
abbrev pub request_locs : Request → Option Loc × Option Loc × Option Loc × List (Option Loc)
request_locs r = (entry_loc r.principal, entry_loc r.action, entry_loc r.resource, given_locs r.context)

-- ---- variables

-- the entity type that an unknown is annotated with, whole: its location included
abbrev pub annotated_entity_type : Option RType → Option EntityType
annotated_entity_type (Some (types.Entity t)) = Some t
annotated_entity_type other = None

-- that of an expression which is an unknown
abbrev pub node_annotation : Node → Option EntityType
node_annotation (node.Unknown u) = annotated_entity_type u.type_annotation
node_annotation other = None

-- and of an answer which is an unknown
abbrev pub partial_annotation : PartialValue → Option EntityType
partial_annotation (partials.Value v) = None
partial_annotation (partials.Residual r) = node_annotation (node_of (residual_expr r))

-- where the answers of the variables stand: of principal, action, resource and context
abbrev pub AnswerLocs : Type 0
AnswerLocs = Option Loc × Option Loc × Option Loc × Option Loc

abbrev pub answer_locs : PartialValue × PartialValue × PartialValue × PartialValue → AnswerLocs
answer_locs p = (partial_loc p.0, partial_loc p.1, partial_loc p.2, partial_loc p.3)

-- an entity stands where its entry names it, and a context nowhere
abbrev pub variable_locs : Request → AnswerLocs
variable_locs r = (entry_loc r.principal, entry_loc r.action, entry_loc r.resource, None)

-- the entity types that the answers of principal, action and resource are annotated with
abbrev pub AnswerAnnotations : Type 0
AnswerAnnotations = Option EntityType × Option EntityType × Option EntityType

abbrev pub answer_annotations : PartialValue × PartialValue × PartialValue × PartialValue → AnswerAnnotations
answer_annotations p = (partial_annotation p.0, partial_annotation p.1, partial_annotation p.2)

-- those of the entries, as they were handed in
abbrev pub variable_annotations : Request → AnswerAnnotations
variable_annotations r = (entry_annotation r.principal, entry_annotation r.action, entry_annotation r.resource)
