-- Rows on a sheet, for private clauses.
use Rattle.std.specs.Prelude.{◌≡◌, true, List, None}
use Rattle.cedar_model.specs.Terms.{Text}
use Rattle.cedar_model.specs.Failures.{Failure}
use Rattle.cedar_model.specs.Responses.{Row, reported_false}
use Rattle.cedar_layers.specs.Policies.{PolicyView}
use Rattle.cedar_authorizer.specs.declared.responses.sheet.Sheet.{Sheet}
use Rattle.cedar_authorizer.specs.responses.Rows.{Located, located, rows_in}
use Rattle.cedar_authorizer.specs.responses.Sheets.{sheet_view, sorted, noted_also}

-- these rows and errors are on the sheet
abbrev pub AreNoted : List Row → List (Text × Failure) → Sheet → Type 0
AreNoted rows errors s = (ls : List Located) × (rows_in ls ≡ rows) × (sheet_view s ≡ sorted ls errors)

-- the row of a policy that erred
abbrev pub erring : PolicyView → Located
erring p = located p.effect p.id p.annotations (reported_false true) None

-- one row more is on it
abbrev pub NotesRow : Row → Sheet → Sheet → Type 0
NotesRow row old new = (l : Located) × (l.row ≡ row) × (sheet_view new ≡ noted_also (sheet_view old) l None)
