-- Which constraints stand in the scope of a policy, and how they are written there.
use Rattle.std.specs.Prelude.{Bool, true, false, ◌&&◌, ◌||◌, [], ◌++◌, is_some, if◌then◌else◌, codes}
use Rattle.cedar_model.specs.Terms.{Text, Literal, bool_literal, entity_literal, Variable, principal, action, resource, context, Slot, principal_slot, resource_slot, BinaryOperator, eq_operator, in_operator, Term, literal, variable, slot, both, binary, is_of_type, set_of, Terms, no_terms, one_term}
use Rattle.cedar_model.specs.World.{Slots}
use Rattle.cedar_names.specs.Equality.{variable_eq}
use Rattle.cedar_names.specs.Texts.{variable_text}
use Rattle.cedar_text_printer.specs.Texts.{written}

abbrev pub is_true_literal : Literal → Bool
is_true_literal (bool_literal b) = b
is_true_literal l = false

-- `true`: no constraint
abbrev pub is_true : Term → Bool
is_true (literal l) = is_true_literal l
is_true t = false

abbrev pub is_variable : Variable → Term → Bool
is_variable v (variable w) = variable_eq v w
is_variable v t = false

abbrev pub is_entity_literal : Literal → Bool
is_entity_literal (entity_literal e) = true
is_entity_literal l = false

-- `?principal` stands beside the principal, and `?resource` beside the resource
abbrev pub is_own_slot : Variable → Slot → Bool
is_own_slot principal principal_slot = true
is_own_slot principal resource_slot = false
is_own_slot resource principal_slot = false
is_own_slot resource resource_slot = true
is_own_slot action s = false
is_own_slot context s = false

abbrev pub is_entity_slot : Slots → Variable → Slot → Bool
is_entity_slot s v x = is_some (s x) || is_own_slot v x

-- an entity, a slot that is linked to one, or the variable's own slot
abbrev pub is_entity : Slots → Variable → Term → Bool
is_entity s v (literal l) = is_entity_literal l
is_entity s v (slot x) = is_entity_slot s v x
is_entity s v t = false

abbrev pub are_entities : Slots → Variable → Terms → Bool
are_entities s v no_terms = true
are_entities s v (one_term t ts) = is_entity s v t && are_entities s v ts

-- the variable that may be `in` a set
abbrev pub takes_set : Variable → Bool
takes_set principal = false
takes_set action = true
takes_set resource = false
takes_set context = false

-- the variables that may be `is` of a type
abbrev pub takes_type : Variable → Bool
takes_type principal = true
takes_type action = false
takes_type resource = true
takes_type context = false

abbrev pub are_all_entities : Slots → Variable → Terms → Bool
are_all_entities s v ts = takes_set v && are_entities s v ts

-- a set of entities, beside the action
abbrev pub is_entity_set : Slots → Variable → Term → Bool
is_entity_set s v (set_of ts) = are_all_entities s v ts
is_entity_set s v t = false

-- what stands behind `==` and behind `in`
abbrev pub is_operand : Slots → Variable → BinaryOperator → Term → Bool
is_operand s v eq_operator t = is_entity s v t
is_operand s v in_operator t = is_entity s v t || is_entity_set s v t
is_operand s v op t = false

abbrev pub is_typed_variable : Variable → Term → Bool
is_typed_variable v e = takes_type v && is_variable v e

-- `v is T`
abbrev pub is_type_test : Variable → Term → Bool
is_type_test v (is_of_type e t) = is_typed_variable v e
is_type_test v t = false

abbrev pub is_in : BinaryOperator → Bool
is_in in_operator = true
is_in op = false

abbrev pub are_in : Slots → Variable → BinaryOperator → Term → Term → Bool
are_in s v op a b = is_in op && (is_variable v a && is_entity s v b)

-- `v in E`
abbrev pub is_in_test : Slots → Variable → Term → Bool
is_in_test s v (binary op a b) = are_in s v op a b
is_in_test s v t = false

abbrev pub are_plain : Slots → Variable → BinaryOperator → Term → Term → Bool
are_plain s v op a b = is_variable v a && is_operand s v op b

-- `v == E`, `v in E`, `v in [E, ..]` or `v is T`: what stands in a scope as it stands anywhere
abbrev pub is_plain : Slots → Variable → Term → Bool
is_plain s v (binary op a b) = are_plain s v op a b
is_plain s v (is_of_type e t) = is_typed_variable v e
is_plain s v t = false

abbrev pub are_typed : Slots → Variable → Term → Term → Bool
are_typed s v a b = is_type_test v a && is_in_test s v b

-- `v is T && v in E`, which a scope has as `v is T in E`
abbrev pub is_typed : Slots → Variable → Term → Bool
is_typed s v (both a b) = are_typed s v a b
is_typed s v t = false

-- whether a constraint stands in the scope
unfoldable pub is_scope : Slots → Variable → Term → Bool
is_scope s v t = is_true t || (is_plain s v t || is_typed s v t)

-- ` in E`, of `v in E`
abbrev pub ancestor_text : Slots → Term → Text
ancestor_text s (binary op a b) = codes " in " ++ written s b
ancestor_text s t = []

abbrev pub typed_text : Slots → Term → Text
typed_text s (both a b) = written s a ++ ancestor_text s b
typed_text s t = []

-- a constraint on this variable in the scope
unfoldable pub scope_text : Slots → Variable → Term → Text
scope_text s v t =
    if is_plain s v t then written s t else (
    if is_typed s v t then typed_text s t else
    variable_text v)
