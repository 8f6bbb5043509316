-- Rows that are noted one by one.
use Rattle.std.proofs.Common.{◌≡◌, List, [], ◌∷◌, ◌++◌, map, None, refl, sym, ap, ◌∙◌, subst}
use Rattle.std.proofs.lemmas.List.{map-append}
use Rattle.cedar_model.specs.Terms.{Text}
use Rattle.cedar_model.specs.Failures.{Failure}
use Rattle.cedar_model.specs.Responses.{Row, with_error}
use Rattle.cedar_model.specs.Refusals.{first_repeated}
use Rattle.cedar_authorizer.specs.declared.responses.partial_response.PartialResponse.{PartialResponse}
use Rattle.cedar_authorizer.specs.declared.responses.sheet.Sheet.{Sheet}
use Rattle.cedar_authorizer.specs.responses.Responses.{errors_view}
use Rattle.cedar_authorizer.specs.Running.{errors_of, HoldsRows, KeepsSheet}
use Rattle.cedar_authorizer.proofs.Distinct.{located_ids}
use Rattle.cedar_authorizer.proofs.Noting.{holds_rows}
use Rattle.cedar_authorizer.specs.responses.Rows.{Located, rows_in}
use Rattle.cedar_authorizer.specs.responses.Sheets.{Noted, sheet_view, sorted, nothing_noted, noted_also}
use Rattle.cedar_authorizer.proofs.Noted.{sorted_none, sorted_more}
use Rattle.cedar_response_json_reader.specs.Sheets.{AreNoted, NotesRow}

pub none_noted : (s : Sheet) → sheet_view s ≡ nothing_noted → AreNoted [] [] s
none_noted s e = ([], refl, e ∙ sym sorted_none)

pub one_noted : (rows : List Row) (row : Row) (old new : Sheet) → AreNoted rows [] old → NotesRow row old new → AreNoted (rows ++ row ∷ []) [] new
unfolding with_error
one_noted rows row old new (ls, same, on) (l, is, noted) = (
  ls ++ l ∷ [],
  map-append (λ (x : Located). x.row) ls (l ∷ []) ∙ ap (λ (rs : List Row). rs ++ l.row ∷ []) same ∙ ap (λ (r : Row). rows ++ r ∷ []) is,
  noted ∙ ap (λ (n : Noted). noted_also n l None) on ∙ sym (sorted_more ls [] l None),
)

ids_of : (ls : List Located) → located_ids ls ≡ map (λ (r : Row). r.id) (rows_in ls)
ids_of [] = refl
ids_of (l ∷ ls) = ap (λ (ts : List Text). l.row.id ∷ ts) (ids_of ls)

-- what a response keeps of the sheet holds the rows, where no id comes twice
pub holds : (rows : List Row) (errors : List (Text × Failure)) (s : Sheet) (r : PartialResponse) → first_repeated (map (λ (x : Row). x.id) rows) ≡ None → AreNoted rows errors s → KeepsSheet s r → HoldsRows rows r
holds rows errors s r apart (ls, same, on) k =
    subst (λ (rs : List Row). HoldsRows rs r) same
    (holds_rows ls (ap first_repeated (ids_of ls ∙ ap (map (λ (x : Row). x.id)) same) ∙ apart) s r errors k on)

pub keeps_errors : (rows : List Row) (errors : List (Text × Failure)) (s : Sheet) (r : PartialResponse) → AreNoted rows errors s → KeepsSheet s r → errors_of r ≡ errors
keeps_errors rows errors s r (ls, same, on) k = ap errors_view k.errors ∙ ap (λ (n : Noted). n.errors) on

pub ruleset sheets = (none_noted)
