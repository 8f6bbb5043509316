-- What the readers of a partial response give.
use Rattle.std.specs.Prelude.{◌≡◌, cond, List, [], ◌∷◌, ◌++◌, map, All, Contains, Option, Some, None, MatchOption}
use Rattle.std.specs.Prelude.{Result, IfOk, option_map}
use Rattle.std.specs.Borrow.{Bor}
use Rattle.std.specs.declared.alloc.AllocError.{AllocError}
use Rattle.cedar_model.specs.Terms.{Text, Term, both}
use Rattle.cedar_model.specs.Outcomes.{text_eq}
use Rattle.cedar_model.specs.Agreement.{no_slots}
use Rattle.cedar_model.specs.Policies as model
use Rattle.cedar_model.specs.Policies.{permit, forbid}
use Rattle.cedar_model.specs.Responses.{Row, truth, carried}
use Rattle.cedar_model.specs.Chains.{is_true, is_false, is_residual}
use Rattle.cedar_model.specs.Reports.{trues, falses, residuals}
use Rattle.cedar_names.specs.declared.names.Loc.{Loc}
use Rattle.cedar_layers.specs.declared.policies.policy.Policy.{Policy}
use Rattle.cedar_layers.specs.declared.policies.policy.PolicyID.{PolicyID}
use Rattle.cedar_expressions.specs.declared.expr.Expr.{Expr}
use Rattle.cedar_expressions.specs.View.{expr_loc}
use Rattle.cedar_layers.specs.Policies.{policy_id_text, policy_view, policy_location, policy_parts, decides_as}
use Rattle.cedar_authorizer.specs.declared.responses.partial_response.ids.ReportedIds.{ReportedIds}
use Rattle.cedar_authorizer.specs.declared.responses.partial_response.policies.Kinds.{Kinds}
use Rattle.cedar_authorizer.specs.declared.responses.partial_response.policies.ReportedPolicies.{ReportedPolicies}
use Rattle.cedar_authorizer.specs.responses.Rows.{FalseEntry, ResidualEntry, Located, clause_loc, is_error, six_rows}
use Rattle.cedar_authorizer.specs.responses.Rows.{rows_in}
use Rattle.cedar_authorizer.specs.responses.Rows.{located_of}

-- ---- policies

-- a policy as it decides, and its location
abbrev pub made_view : Policy → model.Policy × Option Loc
made_view p = (decides_as (policy_view p), policy_location p)

-- the policy of these, with constraints that are true and no slots, at its clause's location
abbrev pub made : model.Effect → Text → List (Text × Text) → Term → Option Loc → model.Policy × Option Loc
made effect id annotations clause loc = (
  record {
    id = id;
    effect = effect;
    annotations = annotations;
    condition = both (both (both truth truth) truth) clause;
    slots = no_slots;
  },
  loc,
)

-- the policy that a row is carried on as, at its clause's location
abbrev pub made_of : Located → model.Policy × Option Loc
made_of l = (carried l.row, clause_loc l)

-- the clause is the residual whole, where one is left, and else stands nowhere
abbrev pub IsClause : Option Expr → Expr → Type 0
IsClause None clause = expr_loc clause ≡ None
IsClause (Some residual) clause = clause ≡ residual

-- a row is carried on as this policy, at its clause's location, with its residual whole as its clause
pub record IsCarriedOn (l : Located) (p : Policy) : Type 0 where
  pub policy : made_view p ≡ made_of l
  pub clause : IsClause l.residual (policy_parts p).when

-- a call of `next` at s gave r and left t: the first row as a policy; or, if out of memory, the refusal in its place
abbrev pub TakesPolicy : List Located → Option (Result Policy AllocError) → List Located → Type 0
TakesPolicy s r t =
    MatchOption r ((s ≡ []) × (t ≡ [])) (λ item. (l : Located) × (s ≡ l ∷ t) × IfOk item (IsCarriedOn l))

-- the rows that an iterator of policies has left
abbrev pub left : ReportedPolicies → List Located
left s =
    six_rows s.true_permits s.false_permits s.residual_permits s.true_forbids s.false_forbids s.residual_forbids

abbrev pub rows_left : ReportedPolicies → List Row
rows_left s = rows_in (left s)

-- the policies that it has left
abbrev pub policies_left : ReportedPolicies → List model.Policy
policies_left s = map carried (rows_left s)

-- each is one of those, at the same location
abbrev pub AreAmong : List Located → List Located → Type 0
AreAmong ls ms = All (λ l. Contains ms l) ls

-- the rows of these kinds
abbrev pub of_kinds : Kinds → List Row → List Row
of_kinds k rows =
    cond k.true_permits (trues permit rows) [] ++ (cond k.false_permits (falses permit rows) []
    ++ (cond k.residual_permits (residuals permit rows) [] ++ (cond k.true_forbids (trues forbid rows) []
    ++ (cond k.false_forbids (falses forbid rows) [] ++ cond k.residual_forbids (residuals forbid rows) []))))

-- ---- one policy

-- the first row of an id
unfoldable pub first_at : Text → List Located → Option Located
first_at id [] = None
first_at id (l ∷ ls) = cond (text_eq id l.row.id) (Some l) (first_at id ls)

abbrev pub in_order_of_get : model.Effect → List Located → List Located
in_order_of_get effect ls =
    located_of effect is_residual ls ++ (located_of effect is_true ls ++ located_of effect is_false ls)

-- the row that stands for an id: among residual, true, false permits, then the same of forbids
abbrev pub located_at : Text → List Located → Option Located
located_at id ls = first_at id (in_order_of_get permit ls ++ in_order_of_get forbid ls)

-- a policy that is found, as it decides
abbrev pub found_policy : Option Policy → Option model.Policy
found_policy o = option_map (λ p. decides_as (policy_view p)) o

-- a policy is what the row is carried on as, and there is none where there is no row
abbrev pub IsPolicyFound : Option Located → Option Policy → Type 0
IsPolicyFound None None = Unit {0}
IsPolicyFound None (Some p) = ⊥
IsPolicyFound (Some l) None = ⊥
IsPolicyFound (Some l) (Some p) = IsCarriedOn l p

-- ---- ids

-- a call of `next` at s gave r and left t
abbrev pub TakesID : List Text → Option (Bor PolicyID) → List Text → Type 0
TakesID s r t = MatchOption r ((s ≡ []) × (t ≡ [])) (λ id. s ≡ policy_id_text id.now ∷ t)

-- the ids of the entries that say so
unfoldable pub errored_ids : List FalseEntry → List Text
errored_ids [] = []
errored_ids (e ∷ es) = cond (is_error e.1.0) (policy_id_text e.0 ∷ errored_ids es) (errored_ids es)

abbrev pub entry_ids : List ResidualEntry → List Text
entry_ids es = map (λ e. policy_id_text e.0) es

-- the ids that an iterator of ids has left
abbrev pub ids_left : ReportedIds → List Text
ids_left s =
    errored_ids s.false_permits ++ (errored_ids s.false_forbids
    ++ (entry_ids s.residual_permits ++ entry_ids s.residual_forbids))
