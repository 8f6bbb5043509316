-- The texts of requests, in bytes of UTF-8.
use Rattle.std.specs.Prelude.{◌++◌, Option, Some, None, codes}
use Rattle.cedar_model.specs.Terms.{Text, record_of}
use Rattle.cedar_model.specs.Values.{expressions_at}
use Rattle.cedar_model.specs.Settings.{Entry, known_entry, unknown_entry, ContextPart, absent_context, known_context}
use Rattle.cedar_model.specs.Settings.{residual_context, RequestPart}
use Rattle.cedar_names.specs.Texts.{entity_text, shown}

-- that an entity is unknown, with its type where that is known
abbrev pub unknown_entry_text : Option Text → Text
unknown_entry_text None = codes "unknown"
unknown_entry_text (Some t) = codes "unknown of type " ++ t

-- an entity
abbrev pub entry_text : Entry → Text
entry_text (known_entry e) = entity_text e
entry_text (unknown_entry t) = unknown_entry_text t

-- a context: the record that it is, or that it is unknown
abbrev pub context_text : ContextPart → Text
context_text absent_context = codes "unknown"
context_text (known_context fs) = shown None (record_of (expressions_at fs))
context_text (residual_context fs) = shown None (record_of fs)

abbrev pub request_text : RequestPart → Text
request_text r =
    (codes "request with principal " ++ entry_text r.principal_entry)
    ++ ((codes ", action " ++ entry_text r.action_entry)
    ++ ((codes ", resource " ++ entry_text r.resource_entry)
    ++ (codes ", and context " ++ context_text r.context_part)))
