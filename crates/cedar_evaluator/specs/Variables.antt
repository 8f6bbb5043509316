-- The request that what stands for its variables says.
use Rattle.std.specs.Prelude.{Bool, true, false, ◌&&◌, Some, None, codes}
use Rattle.cedar_model.specs.Terms.{Text, entity_literal, principal, action, resource, context, entity_type, unknown, record_of, Variable}
use Rattle.cedar_model.specs.Values.{plain_represented, record_represented}
use Rattle.cedar_model.specs.Outcomes.{text_eq}
use Rattle.cedar_model.specs.Failures.{PartialValue, value, residual}
use Rattle.cedar_model.specs.Settings.{Entry, known_entry, unknown_entry, ContextPart, absent_context, known_context, residual_context, RequestPart}

-- the entry that this stands for
unfoldable pub entry_of : PartialValue → Entry
entry_of (value (plain_represented (entity_literal e))) = known_entry e
entry_of (residual (unknown n (Some (entity_type t)))) = unknown_entry (Some t)
entry_of p = unknown_entry None

-- an entity, or the unknown of this name, perhaps annotated with an entity type
unfoldable pub is_entry : Text → PartialValue → Bool
is_entry name (value (plain_represented (entity_literal e))) = true
is_entry name (residual (unknown n None)) = text_eq n name
is_entry name (residual (unknown n (Some (entity_type t)))) = text_eq n name
is_entry name p = false

-- the context that this stands for
unfoldable pub context_of : PartialValue → ContextPart
context_of (value (record_represented fs)) = known_context fs
context_of (residual (record_of fs)) = residual_context fs
context_of p = absent_context

-- a record, of values or not, or the unknown `context`
unfoldable pub is_context : PartialValue → Bool
is_context (value (record_represented fs)) = true
is_context (residual (record_of fs)) = true
is_context (residual (unknown n None)) = text_eq n (codes "context")
is_context p = false

-- the request that these stand for
abbrev pub request_given : (Variable → PartialValue) → RequestPart
request_given given =
    record {
      principal_entry = entry_of (given principal);
      action_entry = entry_of (given action);
      resource_entry = entry_of (given resource);
      context_part = context_of (given context);
    }

-- they stand for the variables of a request
abbrev pub are_of_request : (Variable → PartialValue) → Bool
are_of_request given =
    is_entry (codes "principal") (given principal) && (is_entry (codes "action") (given action)
    && (is_entry (codes "resource") (given resource) && is_context (given context)))
