-- Which unknown the rows of a table stand for.
use Rattle.std.specs.Prelude.{Bool, true, false, Option, Some, None, option_map, codes}
use Rattle.cedar_model.specs.Terms.{Text, Term, unknown, ValueType, entity_type}
use Rattle.cedar_model.specs.Terms.{bool_type, long_type, string_type, set_type, record_type, extension_type}
use Rattle.cedar_model.specs.Outcomes.{text_eq}
use Rattle.cedar_model.specs.Settings.{Entry, known_entry, unknown_entry, RequestPart}
use Rattle.cedar_names.specs.Names.{type_text}
use Rattle.cedar_names.specs.Leaves.{type_view}
use Rattle.cedar_names.specs.UnknownFields.{UnknownFields}
use Rattle.cedar_sql.specs.declared.columns.RowType.{RowType}
use Rattle.cedar_sql.specs.declared.columns.RowType.TheVariants.{One, Several}

-- the unknown of an entry with this name, if the entry is not known
abbrev pub unknown_of : Text → Entry → Option Term
unknown_of n (known_entry e) = None
unknown_of n (unknown_entry t) = Some (unknown n (option_map entity_type t))

abbrev pub or_else : Option Term → Option Term → Option Term
or_else None o = o
or_else (Some t) o = Some t

-- the unknown that rows stand for: the resource or, where that is known, the principal
abbrev pub row_in : RequestPart → Option Term
row_in r = or_else (unknown_of (codes "resource") r.resource_entry) (unknown_of (codes "principal") r.principal_entry)

-- entities of the table can stand for an unknown of this type: the table has entities of this type alone, or of several
-- types, or the unknown is of any
abbrev pub fits : Option ValueType → RowType → Bool
fits None r = true
fits (Some bool_type) r = false
fits (Some long_type) r = false
fits (Some string_type) r = false
fits (Some set_type) r = false
fits (Some record_type) r = false
fits (Some (entity_type t)) (One u) = text_eq (type_text u) t
fits (Some (entity_type t)) (Several n) = true
fits (Some (extension_type t)) r = false

abbrev pub row_fits : UnknownFields → RowType → Bool
row_fits u r = fits (option_map type_view u.type_annotation) r
