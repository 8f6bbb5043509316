-- Why a step of a chain is refused, and the request that a map makes of the one before.
use Rattle.std.specs.Prelude.{◌≡◌, cond, if◌then◌else◌, List, [], ◌∷◌, ◌++◌, Option, Some, None, Result, Ok, Err, codes}
use Rattle.std.specs.List.{list_any}
use Rattle.cedar_model.specs.Terms.{Text, EntityName, literal, variable, slot, unknown, if_then_else, both, either}
use Rattle.cedar_model.specs.Terms.{unary, binary, call, get_attribute, has_attribute, extended_has, like, is_of_type}
use Rattle.cedar_model.specs.Terms.{set_of, record_of}
use Rattle.cedar_model.specs.Values.{Represented, plain_represented, set_represented, record_represented}
use Rattle.cedar_model.specs.Values.{extension_represented, RepresentedFields, abstract_value}
use Rattle.cedar_model.specs.Outcomes.{entity_of, text_eq}
use Rattle.cedar_model.specs.Policies.{ErrorHandling}
use Rattle.cedar_model.specs.Failures.{Failure, PartialValue, value, residual, Answer, answers, fails}
use Rattle.cedar_model.specs.Settings.{Entry, known_entry, unknown_entry, ContextPart, absent_context, known_context}
use Rattle.cedar_model.specs.Settings.{residual_context, RequestPart, entry_part, context_value}

-- another mode, of the response and of the step; a duplicate id; a value where an entity or a record is
-- expected, with the name that is mapped to it; what is there already, beside the value; the type of an unknown
-- entry, beside an entity of another; or the error of the context with the map's values in it
pub data Refusal : Type 0 where
  mode_is_other : ErrorHandling → ErrorHandling → Refusal
  id_comes_again : Text → Refusal
  value_is_wrong : Text → Text → Represented → Refusal
  is_there_already : Text → PartialValue → Represented → Refusal
  type_is_other : Text → Text → Represented → Refusal
  context_fails : Failure → Refusal

-- ---- ids

-- the first text of a list that is a duplicate, or that is among those seen before
abbrev pub first_repeated_after : List Text → List Text → Option Text
first_repeated_after seen [] = None
first_repeated_after seen (t ∷ ts) =
    if list_any (text_eq t) seen then Some t else first_repeated_after (seen ++ t ∷ []) ts

-- the first text of a list that is a duplicate
abbrev pub first_repeated : List Text → Option Text
first_repeated ts = first_repeated_after [] ts

-- ---- entries

-- an unknown entry becomes an entity of its type
unfoldable pub typed_entry : Text → Represented → EntityName → Option Text → Result Entry Refusal
typed_entry name v d None = Ok (known_entry d)
typed_entry name v d (Some t) = cond (text_eq t d.type_name) (Ok (known_entry d)) (Err (type_is_other name t v))

-- a known entry stays as it is, so that an entity beside it is refused, be it the same
unfoldable pub entry_beside : Text → Represented → EntityName → Entry → Result Entry Refusal
entry_beside name v d (known_entry e) = Err (is_there_already name (entry_part (known_entry e) name) v)
entry_beside name v d (unknown_entry t) = typed_entry name v d t

unfoldable pub entry_by : Text → Represented → Option EntityName → Entry → Result Entry Refusal
entry_by name v None e = Err (value_is_wrong name (codes "entity") v)
entry_by name v (Some d) e = entry_beside name v d e

-- the entry, where its name is mapped to this or to nothing
unfoldable pub concrete_entry : Text → Option Represented → Entry → Result Entry Refusal
concrete_entry name None e = Ok e
concrete_entry name (Some v) e = entry_by name v (entity_of (abstract_value v)) e

-- ---- the context

-- only an absent context becomes a record
unfoldable pub context_beside : Represented → RepresentedFields → ContextPart → Result ContextPart Refusal
context_beside v fs absent_context = Ok (known_context fs)
context_beside v fs (known_context gs) =
    Err (is_there_already (codes "context") (context_value (known_context gs)) v)
context_beside v fs (residual_context gs) =
    Err (is_there_already (codes "context") (context_value (residual_context gs)) v)

abbrev pub no_record : Represented → Result ContextPart Refusal
no_record v = Err (value_is_wrong (codes "context") (codes "record") v)

unfoldable pub context_by : Represented → ContextPart → Result ContextPart Refusal
context_by (plain_represented l) c = no_record (plain_represented l)
context_by (set_represented vs) c = no_record (set_represented vs)
context_by (record_represented fs) c = context_beside (record_represented fs) fs c
context_by (extension_represented t k f ts) c = no_record (extension_represented t k f ts)

-- the context, where its name is mapped to this or to nothing
unfoldable pub concrete_context : Option Represented → ContextPart → Result ContextPart Refusal
concrete_context None c = Ok c
concrete_context (Some v) c = context_by v c

-- ---- the request

-- goes on unless it is refused
unfoldable pub unless_refused : {A B : Type 0} → Result A Refusal → (A → Result B Refusal) → Result B Refusal
unless_refused (Ok x) next = next x
unless_refused (Err e) next = Err e

-- principal, action, resource and context in turn: the request that the map makes, or the first refusal
abbrev pub concrete_request : (Text → Option Represented) → RequestPart → Result RequestPart Refusal
concrete_request m r =
    unless_refused (concrete_entry (codes "principal") (m (codes "principal")) r.principal_entry)
    (λ p. unless_refused (concrete_entry (codes "action") (m (codes "action")) r.action_entry)
    (λ a. unless_refused (concrete_entry (codes "resource") (m (codes "resource")) r.resource_entry)
    (λ e. unless_refused (concrete_context (m (codes "context")) r.context_part)
    (λ c. Ok record { principal_entry = p; action_entry = a; resource_entry = e; context_part = c }))))

-- ---- the context that an answer is

-- a record, or the error
abbrev pub IsContext : Answer → Result ContextPart Refusal → Type 0
IsContext (answers (value (plain_represented l))) r = ⊥
IsContext (answers (value (set_represented vs))) r = ⊥
IsContext (answers (value (record_represented fs))) r = r ≡ Ok (known_context fs)
IsContext (answers (value (extension_represented t k f ts))) r = ⊥
IsContext (answers (residual (literal l))) r = ⊥
IsContext (answers (residual (variable v))) r = ⊥
IsContext (answers (residual (slot i))) r = ⊥
IsContext (answers (residual (unknown n t))) r = ⊥
IsContext (answers (residual (if_then_else c a b))) r = ⊥
IsContext (answers (residual (both a b))) r = ⊥
IsContext (answers (residual (either a b))) r = ⊥
IsContext (answers (residual (unary op a))) r = ⊥
IsContext (answers (residual (binary op a b))) r = ⊥
IsContext (answers (residual (call f ts))) r = ⊥
IsContext (answers (residual (get_attribute a k))) r = ⊥
IsContext (answers (residual (has_attribute a k))) r = ⊥
IsContext (answers (residual (extended_has a k ks))) r = ⊥
IsContext (answers (residual (like a p))) r = ⊥
IsContext (answers (residual (is_of_type a t))) r = ⊥
IsContext (answers (residual (set_of ts))) r = ⊥
IsContext (answers (residual (record_of fs))) r = r ≡ Ok (residual_context fs)
IsContext (fails e) r = r ≡ Err (context_fails e)
