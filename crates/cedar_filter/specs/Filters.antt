-- A filter: the expression that it stands for, and what an entity tells of it.
use Rattle.std.specs.Prelude.{◌≡◌, true, false, Option, Some, option_map}
use Rattle.std.specs.Rc.{rc_str_bytes}
use Rattle.std.specs.declared.alloc.Global.{Global}
use Rattle.std.specs.declared.rc.Rc.{Rc}
use Rattle.cedar_model.specs.Terms.{Text, EntityName, Literal, entity_literal, Term, unknown}
use Rattle.cedar_model.specs.Outcomes.{Outcome, gives_bool, errs}
use Rattle.cedar_model.specs.Settings.{StoredEntity}
use Rattle.cedar_model.specs.World.{World, Slots, Extensions, Functions}
use Rattle.cedar_model.specs.Meaning.{meaning, and_then_bool}
use Rattle.cedar_names.specs.declared.names.EntityUID.{EntityUID}
use Rattle.cedar_names.specs.Names.{uid_name}
use Rattle.cedar_names.specs.Leaves.{type_view}
use Rattle.cedar_names.specs.UnknownFields.{UnknownFields}
use Rattle.cedar_expressions.specs.View.{view}
use Rattle.cedar_filter.specs.declared.conditions.Condition.{Condition}
use Rattle.cedar_filter.specs.declared.filters.Filter.{Filter}
use Rattle.cedar_filter.specs.declared.filters.NoFilter.{NoFilter}
use Rattle.cedar_filter.specs.declared.filters.NoFilter.TheVariants as refusals
use Rattle.cedar_filter.specs.declared.truths.Truth.{Truth}
use Rattle.cedar_filter.specs.declared.truths.Truth.TheVariants.{Holds, Fails, Errs, Untold}
use Rattle.cedar_filter.specs.Conditions.{condition_term}
use Rattle.cedar_filter.specs.Rows.{HasRow}
use Rattle.cedar_filter.specs.Truths.{error_kind}

-- the unknown that the rows stand for, as an expression
abbrev pub row_term : UnknownFields → Term
row_term u = unknown (rc_str_bytes u.name) (option_map type_view u.type_annotation)

-- the unknown that the rows of a filter stand for
abbrev pub filter_row : Filter → UnknownFields
filter_row f = f.row

-- its condition
abbrev pub filter_condition : Filter → Condition
filter_condition f = f.condition

-- the expression that it stands for
abbrev pub filter_term : Filter → Term
filter_term f = condition_term (row_term f.row) f.condition

-- the refusal names this part; out of memory names none
abbrev pub IsFault : Option Term → NoFilter → Type 0
IsFault fault (refusals.Part p) = fault ≡ Some (view p.now)
IsFault fault refusals.Memory = Unit {0}

-- what a truth says of an outcome, as that of a condition: what is no boolean is a type error
abbrev pub TruthIs : Truth → Outcome → Type 0
TruthIs Holds o = and_then_bool o gives_bool ≡ gives_bool true
TruthIs Fails o = and_then_bool o gives_bool ≡ gives_bool false
TruthIs (Errs k) o = and_then_bool o gives_bool ≡ errs (error_kind k)
TruthIs Untold o = Unit {0}

-- the truth is what the expression means in each world where the unknown `n` stands for the entity `e`, with exactly
-- these attributes, tags and ancestors
abbrev pub IsToldOf : Text → EntityName → StoredEntity → Term → Truth → Type 0
IsToldOf n e x t truth =
    (X : Extensions) (ans : Functions) (w : World) (slots : Slots) → HasRow X ans w n e x
    → TruthIs truth (meaning X ans w slots t)

-- ---- literals of entities

abbrev pub uid_literal : Rc EntityUID Global → Literal
uid_literal u = entity_literal (uid_name u.value)
