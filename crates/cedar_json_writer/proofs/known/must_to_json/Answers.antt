use Rattle.std.proofs.Common.{ap, ◌∙◌}
use Rattle.cedar_model.specs.Reports.{must_determine}
use Rattle.cedar_authorizer.specs.responses.Rows.{rows_view}
use Rattle.cedar_json_writer.specs.Texts.{texts_json}
use Rattle.cedar_json_writer.specs.Reading.{policy_ids}
use Rattle.cedar_json_writer.proofs.Carried.{ids_carried}
use Rattle.cedar_json_writer.proofs.known.must_to_json.Goals as goal

pub returns : goal.returns
returns c =
    c.in_ok-ids.ensures
    ∙ ap texts_json (ap policy_ids c.must_be_determining.ensures.policies ∙ ids_carried (must_determine (rows_view c.args.response.now)))
