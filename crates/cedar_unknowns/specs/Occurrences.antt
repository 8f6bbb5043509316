-- The unknowns of an expression, of a request and of a response, in the order in which they stand there.
use Rattle.std.specs.Prelude.{◌≡◌, Bool, ◌&&◌, ◌||◌, if◌then◌else◌, true, false, List, [], ◌∷◌, ◌++◌, map, Option, option_map}
use Rattle.std.specs.Rc.{rc_str_bytes}
use Rattle.cedar_model.specs.Terms.{Text, ValueType, principal, action, resource, context, Term, literal, variable, slot}
use Rattle.cedar_model.specs.Terms.{unknown, if_then_else, both, either, unary, binary, call, get_attribute}
use Rattle.cedar_model.specs.Terms.{has_attribute, extended_has, like, is_of_type, set_of, record_of}
use Rattle.cedar_model.specs.Terms.{Terms, no_terms, one_term, Fields, no_fields, one_field}
use Rattle.cedar_model.specs.Failures.{PartialValue, value, residual}
use Rattle.cedar_model.specs.Settings.{RequestPart, variable_part}
use Rattle.cedar_model.specs.Responses.{Reported, reported_true, reported_false, reported_residual, Row}
use Rattle.cedar_names.specs.declared.types.Unknown as unknowns
use Rattle.cedar_model.specs.Outcomes.{text_eq}
use Rattle.cedar_names.specs.Equality.{annotation_eq}
use Rattle.cedar_names.specs.Leaves.{type_view}

-- an unknown: its name, and the type that its value must have, if it is annotated with one
abbrev pub Asked : Type 0
Asked = Text × Option ValueType

abbrev pub asked : unknowns.Unknown → Asked
asked u = (rc_str_bytes u.name, option_map type_view u.type_annotation)

abbrev pub asked_each : List unknowns.Unknown → List Asked
asked_each us = map asked us

-- the unknowns that stand in an expression, in the order of its text, each as often as it stands there
abbrev mutual
  pub occurrences : Term → List Asked
  occurrences (literal l) = []
  occurrences (variable v) = []
  occurrences (slot s) = []
  occurrences (unknown n t) = (n, t) ∷ []
  occurrences (if_then_else c a b) = occurrences c ++ (occurrences a ++ occurrences b)
  occurrences (both a b) = occurrences a ++ occurrences b
  occurrences (either a b) = occurrences a ++ occurrences b
  occurrences (unary op a) = occurrences a
  occurrences (binary op a b) = occurrences a ++ occurrences b
  occurrences (call f ts) = occurrences_each ts
  occurrences (get_attribute e a) = occurrences e
  occurrences (has_attribute e a) = occurrences e
  occurrences (extended_has e a others) = occurrences e
  occurrences (like e p) = occurrences e
  occurrences (is_of_type e t) = occurrences e
  occurrences (set_of ts) = occurrences_each ts
  occurrences (record_of fs) = occurrences_at fs

  pub occurrences_each : Terms → List Asked
  occurrences_each no_terms = []
  occurrences_each (one_term t ts) = occurrences t ++ occurrences_each ts

  pub occurrences_at : Fields → List Asked
  occurrences_at no_fields = []
  occurrences_at (one_field k t fs) = occurrences t ++ occurrences_at fs

-- those of what a variable answers
abbrev pub part_occurrences : PartialValue → List Asked
part_occurrences (value v) = []
part_occurrences (residual t) = occurrences t

-- those of what the variables of a request answer: of principal, action, resource and context
abbrev pub request_occurrences : RequestPart → List Asked
request_occurrences r =
    part_occurrences (variable_part r principal) ++ (part_occurrences (variable_part r action)
    ++ (part_occurrences (variable_part r resource) ++ part_occurrences (variable_part r context)))

-- those of what is left of a policy
abbrev pub report_occurrences : Reported → List Asked
report_occurrences reported_true = []
report_occurrences (reported_false e) = []
report_occurrences (reported_residual t) = occurrences t

abbrev pub row_occurrences : List Row → List Asked
row_occurrences [] = []
row_occurrences (r ∷ rs) = report_occurrences r.reported ++ row_occurrences rs

-- ---- each once

-- unknowns of one name and of one annotation
abbrev pub asked_eq : Asked → Asked → Bool
asked_eq a b = text_eq a.0 b.0 && annotation_eq a.1 b.1

unfoldable pub is_listed : Asked → List Asked → Bool
is_listed a [] = false
is_listed a (b ∷ bs) = asked_eq a b || is_listed a bs

-- these unknowns, with this one behind them unless it is one of them
abbrev pub noted : Asked → List Asked → List Asked
noted a bs = if is_listed a bs then bs else bs ++ a ∷ []

-- these unknowns, with each of the first list noted in turn
abbrev pub noted_each : List Asked → List Asked → List Asked
noted_each [] bs = bs
noted_each (a ∷ more) bs = noted_each more (noted a bs)

-- each once, where it stands first
abbrev pub each_once : List Asked → List Asked
each_once all = noted_each all []

-- whether there is one
abbrev pub stands : List Asked → Bool
stands [] = false
stands (a ∷ more) = true

-- no unknown is a duplicate
abbrev pub AreDistinct : List Asked → Type 0
AreDistinct [] = Unit {0}
AreDistinct (a ∷ more) = (is_listed a more ≡ false) × AreDistinct more
