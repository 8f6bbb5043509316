-- A partial response as rows: those of its six maps, each in the map's order, true, false and residual permits and then
-- forbids.
use Rattle.std.specs.Prelude.{Bool, true, false, cond, ◌&&◌, List, [], ◌∷◌, ◌++◌, map, Option, None, Some}
use Rattle.std.specs.declared.alloc.Global.{Global}
use Rattle.std.specs.declared.rc.Rc.{Rc}
use Rattle.cedar_model.specs.Terms.{Text}
use Rattle.cedar_model.specs.Policies.{Effect, permit, forbid, ErrorHandling}
use Rattle.cedar_model.specs.Responses.{Reported, reported_true, reported_false, reported_residual, Row}
use Rattle.cedar_model.specs.Chains.{has_effect}
use Rattle.cedar_decisions.specs.Decisions.{mode_view}
use Rattle.cedar_names.specs.declared.names.Loc.{Loc}
use Rattle.cedar_expressions.specs.declared.expr.Expr.{Expr}
use Rattle.cedar_expressions.specs.View.{view, expr_loc}
use Rattle.cedar_layers.specs.declared.policies.policy.Annotations.{Annotations}
use Rattle.cedar_layers.specs.declared.policies.policy.PolicyID.{PolicyID}
use Rattle.cedar_layers.specs.Policies.{policy_id_text, annotations_view}
use Rattle.cedar_authorizer.specs.declared.responses.partial_response.ErrorState.{ErrorState}
use Rattle.cedar_authorizer.specs.declared.responses.partial_response.ErrorState.TheVariants as states
use Rattle.cedar_authorizer.specs.declared.responses.partial_response.PartialResponse.{PartialResponse}

-- an entry of a map of true, of false and of residual policies
abbrev pub TrueEntry : Type 0
TrueEntry = PolicyID × Rc Annotations Global

abbrev pub FalseEntry : Type 0
FalseEntry = PolicyID × (ErrorState × Rc Annotations Global)

abbrev pub ResidualEntry : Type 0
ResidualEntry = PolicyID × (Rc Expr Global × Rc Annotations Global)

-- a row, and the residual that is its clause, whole: with its own place and those of its parts
pub record Located : Type 0 where
  pub row : Row
  pub residual : Option Expr

abbrev pub loc_of : Option Expr → Option Loc
loc_of None = None
loc_of (Some e) = expr_loc e

-- where the clause stands: a residual at its own place, `true` and `false` at none
abbrev pub clause_loc : Located → Option Loc
clause_loc l = loc_of l.residual

abbrev pub is_error : ErrorState → Bool
is_error states.NoError = false
is_error states.Error = true

abbrev pub located : Effect → Text → List (Text × Text) → Reported → Option Expr → Located
located effect id annotations reported residual = record {
  row = record { id = id; effect = effect; annotations = annotations; reported = reported };
  residual = residual;
}

abbrev pub located_true : Effect → TrueEntry → Located
located_true effect e = located effect (policy_id_text e.0) (annotations_view e.1.value) reported_true None

abbrev pub located_false : Effect → FalseEntry → Located
located_false effect e =
    located effect (policy_id_text e.0) (annotations_view e.1.1.value) (reported_false (is_error e.1.0)) None

abbrev pub located_residual : Effect → ResidualEntry → Located
located_residual effect e =
    located effect (policy_id_text e.0) (annotations_view e.1.1.value) (reported_residual (view e.1.0.value))
    (Some e.1.0.value)

abbrev pub true_rows : Effect → List TrueEntry → List Located
true_rows effect es = map (located_true effect) es

abbrev pub false_rows : Effect → List FalseEntry → List Located
false_rows effect es = map (located_false effect) es

abbrev pub residual_rows : Effect → List ResidualEntry → List Located
residual_rows effect es = map (located_residual effect) es

-- the rows of six such lists
abbrev pub six_rows : List TrueEntry → List FalseEntry → List ResidualEntry → List TrueEntry → List FalseEntry → List ResidualEntry → List Located
six_rows tp fp rp tf ff rf =
    true_rows permit tp ++ (false_rows permit fp ++ (residual_rows permit rp
    ++ (true_rows forbid tf ++ (false_rows forbid ff ++ residual_rows forbid rf))))

-- the rows of a response, and their residuals whole
unfoldable pub located_view : PartialResponse → List Located
located_view r =
    six_rows r.satisfied_permits.entries r.false_permits.entries r.residual_permits.entries
    r.satisfied_forbids.entries r.false_forbids.entries r.residual_forbids.entries

abbrev pub rows_in : List Located → List Row
rows_in ls = map (λ l. l.row) ls

abbrev pub locs_in : List Located → List (Option Loc)
locs_in ls = map clause_loc ls

-- how errors are handled in a response
abbrev pub mode_of : PartialResponse → ErrorHandling
mode_of r = mode_view r.error_handling

-- the rows of a response
abbrev pub rows_view : PartialResponse → List Row
rows_view r = rows_in (located_view r)

-- the rows of an effect that are reported so, in order
unfoldable pub located_of : Effect → (Reported → Bool) → List Located → List Located
located_of effect such [] = []
located_of effect such (l ∷ ls) =
    cond (has_effect effect l.row.effect && such l.row.reported) (l ∷ located_of effect such ls)
    (located_of effect such ls)
