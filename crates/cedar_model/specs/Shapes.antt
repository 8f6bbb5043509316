-- Tests on the shape of an expression.
use Rattle.std.specs.Prelude.{Bool, true, false, ◌&&◌, ◌||◌}
use Rattle.cedar_model.specs.Terms.{Term, literal, variable, slot, unknown, if_then_else, both, either, unary, binary}
use Rattle.cedar_model.specs.Terms.{call, get_attribute, has_attribute, extended_has, like, is_of_type, set_of}
use Rattle.cedar_model.specs.Terms.{record_of, Terms, no_terms, one_term, Fields, no_fields, one_field}

-- whether an unknown stands in the expression
abbrev mutual
  pub has_unknown : Term → Bool
  has_unknown (literal l) = false
  has_unknown (variable v) = false
  has_unknown (slot s) = false
  has_unknown (unknown n t) = true
  has_unknown (if_then_else c a b) = has_unknown c || (has_unknown a || has_unknown b)
  has_unknown (both a b) = has_unknown a || has_unknown b
  has_unknown (either a b) = has_unknown a || has_unknown b
  has_unknown (unary op a) = has_unknown a
  has_unknown (binary op a b) = has_unknown a || has_unknown b
  has_unknown (call f ts) = have_unknown ts
  has_unknown (get_attribute e a) = has_unknown e
  has_unknown (has_attribute e a) = has_unknown e
  has_unknown (extended_has e a others) = has_unknown e
  has_unknown (like e p) = has_unknown e
  has_unknown (is_of_type e t) = has_unknown e
  has_unknown (set_of ts) = have_unknown ts
  has_unknown (record_of fs) = have_unknown_at fs

  pub have_unknown : Terms → Bool
  have_unknown no_terms = false
  have_unknown (one_term t ts) = has_unknown t || have_unknown ts

  pub have_unknown_at : Fields → Bool
  have_unknown_at no_fields = false
  have_unknown_at (one_field k t fs) = has_unknown t || have_unknown_at fs

-- whether the expression is restricted: a literal, an unknown, or a set, a record or a call of restricted ones
abbrev mutual
  pub is_restricted : Term → Bool
  is_restricted (literal l) = true
  is_restricted (variable v) = false
  is_restricted (slot s) = false
  is_restricted (unknown n t) = true
  is_restricted (if_then_else c a b) = false
  is_restricted (both a b) = false
  is_restricted (either a b) = false
  is_restricted (unary op a) = false
  is_restricted (binary op a b) = false
  is_restricted (call f ts) = are_restricted ts
  is_restricted (get_attribute e a) = false
  is_restricted (has_attribute e a) = false
  is_restricted (extended_has e a others) = false
  is_restricted (like e p) = false
  is_restricted (is_of_type e t) = false
  is_restricted (set_of ts) = are_restricted ts
  is_restricted (record_of fs) = are_restricted_at fs

  pub are_restricted : Terms → Bool
  are_restricted no_terms = true
  are_restricted (one_term t ts) = is_restricted t && are_restricted ts

  pub are_restricted_at : Fields → Bool
  are_restricted_at no_fields = true
  are_restricted_at (one_field k t fs) = is_restricted t && are_restricted_at fs

-- whether the expression and all its parts are literals, unknowns, sets, variables or records
abbrev mutual
  pub is_projectable : Term → Bool
  is_projectable (literal l) = true
  is_projectable (variable v) = true
  is_projectable (slot s) = false
  is_projectable (unknown n t) = true
  is_projectable (if_then_else c a b) = false
  is_projectable (both a b) = false
  is_projectable (either a b) = false
  is_projectable (unary op a) = false
  is_projectable (binary op a b) = false
  is_projectable (call f ts) = false
  is_projectable (get_attribute e a) = false
  is_projectable (has_attribute e a) = false
  is_projectable (extended_has e a others) = false
  is_projectable (like e p) = false
  is_projectable (is_of_type e t) = false
  is_projectable (set_of ts) = are_projectable ts
  is_projectable (record_of fs) = are_projectable_at fs

  pub are_projectable : Terms → Bool
  are_projectable no_terms = true
  are_projectable (one_term t ts) = is_projectable t && are_projectable ts

  pub are_projectable_at : Fields → Bool
  are_projectable_at no_fields = true
  are_projectable_at (one_field k t fs) = is_projectable t && are_projectable_at fs
