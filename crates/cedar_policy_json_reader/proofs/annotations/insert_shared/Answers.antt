use Rattle.std.proofs.Common.{ap, ◌∙◌}
use Rattle.cedar_policy_json_reader.specs.Annotations.{texts_under}
use Rattle.cedar_policy_json_reader.proofs.Annotated.{inserted}
use Rattle.cedar_policy_json_reader.proofs.annotations.insert_shared.Goals as goal

pub returns-in-Ok-clause-said : goal.returns-in-Ok-clause-said
returns-in-Ok-clause-said c = ap texts_under c.in-Ok.ensures.entries ∙ inserted c.args.map.now.entries c.args.key c.args.text
