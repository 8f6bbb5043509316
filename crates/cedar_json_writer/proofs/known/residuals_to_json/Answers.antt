use Rattle.std.proofs.Common.{◌++◌, ap, ◌∙◌}
use Rattle.cedar_model.specs.Policies.{permit, forbid}
use Rattle.cedar_model.specs.Reports.{residuals}
use Rattle.cedar_authorizer.specs.responses.Rows.{rows_view}
use Rattle.cedar_json_writer.specs.Texts.{object_of}
use Rattle.cedar_json_writer.specs.Reading.{policy_members}
use Rattle.cedar_json_writer.proofs.Carried.{members_carried}
use Rattle.cedar_json_writer.proofs.known.residuals_to_json.Goals as goal

pub returns : goal.returns
returns c =
    let rows = rows_view c.args.response.now in
    c.in_ok-residuals.ensures
    ∙ ap object_of (ap policy_members c.nontrivial_residuals.ensures.policies ∙ members_carried (residuals permit rows ++ residuals forbid rows))
