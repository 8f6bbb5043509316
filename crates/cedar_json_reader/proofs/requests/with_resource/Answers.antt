use Rattle.json.specs.Value.{value_view}
use Rattle.cedar_names.specs.Names.{uid_name}
use Rattle.cedar_json_reader.proofs.RequestLemmas.{resource_unnamed}
use Rattle.cedar_json_reader.proofs.requests.with_resource.Goals as goal

pub returns-in-Err-clause-refused : goal.returns-in-Err-clause-refused
returns-in-Err-clause-refused c =
    resource_unnamed (value_view c.args.value.now) (uid_name c.args.principal) (uid_name c.args.action) c.in-Err.error
    c.requires.principal c.requires.action c.in-Err.ensures.refused
