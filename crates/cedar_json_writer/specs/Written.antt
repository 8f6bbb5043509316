-- What a restricted expression is in Cedar's JSON.
use Rattle.std.specs.Prelude.{codes}
use Rattle.std.specs.Fmt.{signed_decimal}
use Rattle.json.specs.Json.{Json, null, boolean, number, string, array, object, Items, no_items, item, Members, no_members, member}
use Rattle.cedar_model.specs.Terms.{Text, EntityName, Literal, bool_literal, long_literal, text_literal, entity_literal}
use Rattle.cedar_model.specs.Terms.{Term, literal, variable, slot, unknown, if_then_else, both, either, unary, binary, call}
use Rattle.cedar_model.specs.Terms.{get_attribute, has_attribute, extended_has, like, is_of_type, set_of, record_of}
use Rattle.cedar_model.specs.Terms.{Terms, no_terms, one_term, Fields, no_fields, one_field}

abbrev pub sole_member : Text → Json → Json
sole_member k j = object (member k j no_members)

abbrev pub two_members : Text → Json → Text → Json → Json
two_members k j l i = object (member k j (member l i no_members))

-- ---- leaves

abbrev pub written_text : Text → Json
written_text t = string t

-- a type and an id
abbrev pub written_uid : EntityName → Json
written_uid e = two_members (codes "type") (string e.type_name) (codes "id") (string e.id)

abbrev pub written_entity : EntityName → Json
written_entity e = sole_member (codes "__entity") (written_uid e)

abbrev pub written_literal : Literal → Json
written_literal (bool_literal b) = boolean b
written_literal (long_literal n) = number (signed_decimal n)
written_literal (text_literal t) = string t
written_literal (entity_literal e) = written_entity e

-- ---- calls

-- the call of the function on what stands at the key
abbrev pub written_call_of : Json → Text → Json → Json
written_call_of f k j = sole_member (codes "__extn") (two_members (codes "fn") f k j)

abbrev pub written_unknown : Text → Json
written_unknown n = written_call_of (string (codes "unknown")) (codes "arg") (string n)

-- one argument stands at `arg`, fewer or more at `args`
abbrev pub written_call : Text → Items → Json
written_call f no_items = written_call_of (string f) (codes "args") (array no_items)
written_call f (item j no_items) = written_call_of (string f) (codes "arg") j
written_call f (item j (item i js)) = written_call_of (string f) (codes "args") (array (item j (item i js)))

-- ---- all of them; what is not restricted is null

abbrev mutual
  pub written : Term → Json
  written (literal l) = written_literal l
  written (variable v) = null
  written (slot s) = null
  written (unknown n t) = written_unknown n
  written (if_then_else c t u) = null
  written (both t u) = null
  written (either t u) = null
  written (unary op t) = null
  written (binary op t u) = null
  written (call f ts) = written_call f (written_items ts)
  written (get_attribute t k) = null
  written (has_attribute t k) = null
  written (extended_has t k ks) = null
  written (like t p) = null
  written (is_of_type t n) = null
  written (set_of ts) = array (written_items ts)
  written (record_of fs) = object (written_members fs)

  pub written_items : Terms → Items
  written_items no_terms = no_items
  written_items (one_term t ts) = item (written t) (written_items ts)

  pub written_members : Fields → Members
  written_members no_fields = no_members
  written_members (one_field k t fs) = member k (written t) (written_members fs)

abbrev pub written_set : Terms → Json
written_set ts = array (written_items ts)

abbrev pub written_record : Fields → Json
written_record fs = object (written_members fs)
