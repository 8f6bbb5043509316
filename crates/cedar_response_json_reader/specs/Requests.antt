-- What the JSON of a response says of its request.
use Rattle.std.specs.Prelude.{ℕ, Option, Some, None, option_map, if◌then◌else◌, bytes_eq, Ok, codes}
use Rattle.std.specs.Borrow.{Bor}
use Rattle.std.specs.Rc.{rc_str_bytes}
use Rattle.json.specs.Json.{Json}
use Rattle.cedar_model.specs.Terms.{Text, Literal, bool_literal, long_literal, text_literal, entity_literal}
use Rattle.cedar_model.specs.Terms.{ValueType, bool_type, long_type, string_type, set_type, record_type, entity_type}
use Rattle.cedar_model.specs.Terms.{extension_type, Term, literal, variable, slot, unknown, if_then_else, both, either}
use Rattle.cedar_model.specs.Terms.{unary, binary, call, get_attribute, has_attribute, extended_has, like, is_of_type}
use Rattle.cedar_model.specs.Terms.{set_of, record_of}
use Rattle.cedar_model.specs.Settings.{Entry, known_entry, unknown_entry}
use Rattle.cedar_names.specs.Leaves.{type_view}
use Rattle.cedar_names.specs.declared.types.Unknown.{Unknown}
use Rattle.cedar_functions.specs.Functions.{Knowledge}
use Rattle.cedar_policy_json_reader.specs.Expressions.{expression_said}
use Rattle.cedar_response_json_reader.specs.declared.errors.ResponseRefusal.TheVariants as reasons
use Rattle.cedar_response_json_reader.specs.Refusals.{Said, refused, and_then, of_policies}
use Rattle.cedar_response_json_reader.specs.Shapes.{part_at}

-- ---- literals and unknowns

-- the literal that an expression is
abbrev pub literal_in : Term → Option Literal
literal_in (literal l) = Some l
literal_in (variable v) = None
literal_in (slot x) = None
literal_in (unknown n t) = None
literal_in (if_then_else c t u) = None
literal_in (both t u) = None
literal_in (either t u) = None
literal_in (unary op t) = None
literal_in (binary op t u) = None
literal_in (call f ts) = None
literal_in (get_attribute t k) = None
literal_in (has_attribute t k) = None
literal_in (extended_has t k ks) = None
literal_in (like t p) = None
literal_in (is_of_type t n) = None
literal_in (set_of ts) = None
literal_in (record_of fs) = None

-- the unknown that it is: its name, and its type where that is known
abbrev pub unknown_in : Term → Option (Text × Option ValueType)
unknown_in (literal l) = None
unknown_in (variable v) = None
unknown_in (slot x) = None
unknown_in (unknown n t) = Some (n, t)
unknown_in (if_then_else c t u) = None
unknown_in (both t u) = None
unknown_in (either t u) = None
unknown_in (unary op t) = None
unknown_in (binary op t u) = None
unknown_in (call f ts) = None
unknown_in (get_attribute t k) = None
unknown_in (has_attribute t k) = None
unknown_in (extended_has t k ks) = None
unknown_in (like t p) = None
unknown_in (is_of_type t n) = None
unknown_in (set_of ts) = None
unknown_in (record_of fs) = None

-- an unknown as it is held
abbrev pub unknown_view : Bor Unknown → Text × Option ValueType
unknown_view u = (rc_str_bytes u.now.name, option_map type_view u.now.type_annotation)

-- ---- principal, action and resource

abbrev pub entry_of_literal : Literal → Said Entry
entry_of_literal (bool_literal b) = refused reasons.NotAnEntity
entry_of_literal (long_literal n) = refused reasons.NotAnEntity
entry_of_literal (text_literal t) = refused reasons.NotAnEntity
entry_of_literal (entity_literal e) = Ok (known_entry e)

-- an unknown entity, of this type where one is known
abbrev pub entry_of_type : Option ValueType → Said Entry
entry_of_type None = Ok (unknown_entry None)
entry_of_type (Some bool_type) = refused reasons.NotAnEntity
entry_of_type (Some long_type) = refused reasons.NotAnEntity
entry_of_type (Some string_type) = refused reasons.NotAnEntity
entry_of_type (Some set_type) = refused reasons.NotAnEntity
entry_of_type (Some record_type) = refused reasons.NotAnEntity
entry_of_type (Some (entity_type n)) = Ok (unknown_entry (Some n))
entry_of_type (Some (extension_type n)) = refused reasons.NotAnEntity

-- it is named as the variable is
abbrev pub entry_of_unknown : Text → Option (Text × Option ValueType) → Said Entry
entry_of_unknown name None = refused reasons.NotAnEntity
entry_of_unknown name (Some u) =
    if bytes_eq u.0 name then entry_of_type u.1 else refused reasons.NotAnEntity

abbrev pub entry_by : Text → Option Literal → Option (Text × Option ValueType) → Said Entry
entry_by name None u = entry_of_unknown name u
entry_by name (Some l) u = entry_of_literal l

-- an entity, or the unknown of the variable
abbrev pub entry_of : Text → Term → Said Entry
entry_of name t = entry_by name (literal_in t) (unknown_in t)

module _ (fs : Knowledge) (n : ℕ) where
  abbrev pub entry_said : Text → Json → Said Entry
  entry_said name j = and_then (entry_of name) (of_policies (expression_said fs n j))

  -- what stands there for a variable
  abbrev pub entry_at : Text → Json → Said Entry
  entry_at name j = part_at name (entry_said name) j

  -- ---- the context

  abbrev pub context_said : Json → Said Term
  context_said j = of_policies (expression_said fs n j)

  -- the context's expression
  abbrev pub context_at : Json → Said Term
  context_at j = part_at (codes "context") context_said j
