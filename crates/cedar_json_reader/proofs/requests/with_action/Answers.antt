use Rattle.json.specs.Value.{value_view}
use Rattle.cedar_names.specs.Names.{uid_name}
use Rattle.cedar_json_reader.proofs.RequestLemmas.{action_unnamed}
use Rattle.cedar_json_reader.proofs.requests.with_action.Goals as goal

pub returns-in-Err-clause-refused : goal.returns-in-Err-clause-refused
returns-in-Err-clause-refused c =
    action_unnamed (value_view c.args.value.now) (uid_name c.args.principal) c.in-Err.error c.requires c.in-Err.ensures.refused
