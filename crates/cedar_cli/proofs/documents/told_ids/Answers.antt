use Rattle.std.proofs.Common.{◌≡◌, ◌||◌, ap, ◌∙◌, ◌++◌}
use Rattle.cedar_model.specs.Outcomes.{has_text}
use Rattle.cedar_model.specs.Policies.{permit, forbid}
use Rattle.cedar_model.specs.Reports.{residuals, must_determine, may_determine, ids}
use Rattle.cedar_authorizer.specs.responses.Rows.{rows_view}
use Rattle.cedar_json_writer.specs.Reading.{policy_ids}
use Rattle.cedar_json_writer.proofs.Carried.{ids_carried}
use Rattle.cedar_cli.proofs.Naming.{among, three_named}
use Rattle.cedar_cli.proofs.documents.told_ids.Goals as goal

pub returns : goal.returns
returns c = λ t.
    let rows = rows_view c.args.response.now in
    three_named t _ _ _ _ _ _ _ _ _ _
    (ap policy_ids c.may_be_determining.ensures.policies ∙ ids_carried (may_determine rows))
    (ap policy_ids c.must_be_determining.ensures.policies ∙ ids_carried (must_determine rows))
    (ap policy_ids c.nontrivial_residuals.ensures.policies ∙ ids_carried (residuals permit rows ++ residuals forbid rows))
    (c.in_ok-name_policies.ensures t) (c.in_ok-name_policies-2.ensures t) (c.in_ok-name_policies-3.ensures t)
    (ap (λ ks. among t ks) c.new-told.ensures.empty)
