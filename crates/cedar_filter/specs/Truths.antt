-- What is told by an operand that was read of a row, and by a truth.
use Rattle.std.specs.Prelude.{true, false}
use Rattle.cedar_model.specs.Terms.{EntityName, entity_literal}
use Rattle.cedar_model.specs.Values.{plain, abstract_value}
use Rattle.cedar_model.specs.Outcomes.{ErrorKind, entity_attribute_does_not_exist, record_attribute_does_not_exist}
use Rattle.cedar_model.specs.Outcomes.{type_error, gives, errs}
use Rattle.cedar_filter.specs.declared.rows.Seen.{Seen}
use Rattle.cedar_filter.specs.declared.rows.Seen.TheVariants as seen
use Rattle.cedar_filter.specs.declared.truths.RowError.{RowError}
use Rattle.cedar_filter.specs.declared.truths.RowError.TheVariants.{AttributeDoesNotExist, KeyDoesNotExist, TypeError}
use Rattle.cedar_filter.specs.declared.truths.Truth.{Truth}
use Rattle.cedar_filter.specs.declared.truths.Truth.TheVariants.{Holds, Fails, Errs, Untold}
use Rattle.cedar_filter.specs.Rows.{Told, tells, untold, tells_bool}

abbrev pub error_kind : RowError → ErrorKind
error_kind AttributeDoesNotExist = entity_attribute_does_not_exist
error_kind KeyDoesNotExist = record_attribute_does_not_exist
error_kind TypeError = type_error

abbrev pub truth_told : Truth → Told
truth_told Holds = tells_bool true
truth_told Fails = tells_bool false
truth_told (Errs k) = tells (errs (error_kind k))
truth_told Untold = untold

-- `e` is the row
abbrev pub seen_told : EntityName → Seen → Told
seen_told e (seen.Value v) = tells (gives (abstract_value v.now.what))
seen_told e seen.Row = tells (gives (plain (entity_literal e)))
seen_told e (seen.Errs k) = tells (errs (error_kind k))
seen_told e seen.Untold = untold
