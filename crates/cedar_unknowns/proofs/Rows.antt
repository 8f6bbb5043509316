-- The unknowns of a response's rows are those of its residuals.
use Rattle.std.proofs.Common.{◌≡◌, List, [], ◌∷◌, ◌++◌, append_assoc, refl, sym, ap, ◌∙◌}
use Rattle.cedar_model.specs.Policies.{Effect, permit, forbid}
use Rattle.cedar_authorizer.specs.declared.responses.partial_response.PartialResponse.{PartialResponse}
use Rattle.cedar_authorizer.specs.responses.Rows.{TrueEntry, FalseEntry, ResidualEntry, Located, true_rows, false_rows}
use Rattle.cedar_authorizer.specs.responses.Rows.{residual_rows}
use Rattle.cedar_authorizer.specs.responses.Rows.{located_view, rows_in, rows_view}
use Rattle.cedar_expressions.specs.View.{view}
use Rattle.cedar_unknowns.specs.Occurrences.{Asked, occurrences, report_occurrences, row_occurrences}
use Rattle.cedar_unknowns.specs.Residuals.{entry_occurrences}

-- those of these rows
abbrev those : List Located → List Asked
those ls = row_occurrences (rows_in ls)

those-append : (ls ms : List Located) → those (ls ++ ms) ≡ those ls ++ those ms
those-append [] ms = refl
those-append (l ∷ ls) ms =
    ap (λ (rest : List Asked). report_occurrences l.row.reported ++ rest) (those-append ls ms) ∙ sym (append_assoc (report_occurrences l.row.reported) (those ls) (those ms))

none_true : (effect : Effect) (es : List TrueEntry) → those (true_rows effect es) ≡ []
none_true effect [] = refl
none_true effect (e ∷ es) = none_true effect es

none_false : (effect : Effect) (es : List FalseEntry) → those (false_rows effect es) ≡ []
none_false effect [] = refl
none_false effect (e ∷ es) = none_false effect es

of_residuals : (effect : Effect) (es : List ResidualEntry) → those (residual_rows effect es) ≡ entry_occurrences es
of_residuals effect [] = refl
of_residuals effect (e ∷ es) =
    ap (λ (rest : List Asked). occurrences (view e.1.0.value) ++ rest) (of_residuals effect es)

-- the first two of three lists of rows have none
of_effect : (effect : Effect) (ts : List TrueEntry) (fs : List FalseEntry) (ls : List Located) → those (true_rows effect ts ++ (false_rows effect fs ++ ls)) ≡ those ls
of_effect effect ts fs ls =
    those-append (true_rows effect ts) (false_rows effect fs ++ ls) ∙ ap (λ (some : List Asked). some ++ those (false_rows effect fs ++ ls)) (none_true effect ts) ∙ those-append (false_rows effect fs) ls ∙ ap (λ (some : List Asked). some ++ those ls) (none_false effect fs)

pub rows_occurrences : (r : PartialResponse) → row_occurrences (rows_view r) ≡ entry_occurrences r.residual_permits.entries ++ entry_occurrences r.residual_forbids.entries
unfolding located_view
rows_occurrences r =
    let forbids : List Located = true_rows forbid r.satisfied_forbids.entries ++ (false_rows forbid r.false_forbids.entries ++ residual_rows forbid r.residual_forbids.entries) in
    let permits : List Asked = entry_occurrences r.residual_permits.entries in
    of_effect permit r.satisfied_permits.entries r.false_permits.entries (residual_rows permit r.residual_permits.entries ++ forbids)
    ∙ those-append (residual_rows permit r.residual_permits.entries) forbids
    ∙ ap (λ (some : List Asked). some ++ those forbids) (of_residuals permit r.residual_permits.entries)
    ∙ ap (λ (some : List Asked). permits ++ some) (of_effect forbid r.satisfied_forbids.entries r.false_forbids.entries (residual_rows forbid r.residual_forbids.entries) ∙ of_residuals forbid r.residual_forbids.entries)

pub ruleset rows = (rows_occurrences)
