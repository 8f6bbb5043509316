-- What is put of a row is its JSON.
use Rattle.std.proofs.Common.{◌≡◌, true, List, [], ◌∷◌, ◌++◌, refl, ap, ◌∙◌}
use Rattle.json.specs.Json.{Json}
use Rattle.cedar_model.specs.Terms.{Term, literal, bool_literal}
use Rattle.cedar_model.specs.Agreement.{no_slots}
use Rattle.cedar_model.specs.Responses.{Reported, reported_true, reported_residual, clause_of}
use Rattle.cedar_expressions.specs.declared.expr.Expr.{Expr}
use Rattle.cedar_expressions.specs.View.{view}
use Rattle.cedar_layers.specs.declared.policies.policy.Annotations.{Annotations}
use Rattle.cedar_layers.specs.declared.policies.policy.Effect.{Effect}
use Rattle.cedar_layers.specs.declared.policies.policy.PolicyID.{PolicyID}
use Rattle.cedar_layers.specs.Policies.{policy_when, policy_id_text, annotations_view, effect_view}
use Rattle.cedar_response_json.specs.Responses.{reported_json, report_word, row_json}

pub clause_true : literal (bool_literal true) ≡ clause_of reported_true
unfolding clause_of
clause_true = refl

pub clause_residual : (t : Term) → t ≡ clause_of (reported_residual t)
unfolding clause_of
clause_residual t = refl

pub put_row : (old new : List Json) (effect : Effect) (id : PolicyID) (ann : Annotations) (e : Expr) (r : Reported)
    → new ≡ old ++ reported_json (report_word r) (policy_when effect id ann e) ∷ [] → view e ≡ clause_of r
    → new ≡ old ++ row_json (record { id = policy_id_text id; effect = effect_view effect; annotations = annotations_view ann; reported = r }) ∷ []
put_row old new effect id ann e r is same =
    is ∙ ap (λ (t : Term). old ++ reported_json (report_word r) (record {
      effect = effect_view effect;
      id = policy_id_text id;
      annotations = annotations_view ann;
      principal_constraint = literal (bool_literal true);
      action_constraint = literal (bool_literal true);
      resource_constraint = literal (bool_literal true);
      when_clause = t;
      slots = no_slots;
    }) ∷ []) same
