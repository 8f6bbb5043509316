use Rattle.std.proofs.Common.{map, ap, ◌∙◌, string_bytes}
use Rattle.cedar_json_writer.specs.Texts.{texts_json}
use Rattle.cedar_policy_tests.proofs.Lists.{all_left}
use Rattle.cedar_policy_tests.proofs.failures.texts_to_json.Goals as goal

pub returns : goal.returns
returns c = c.in_ok-all.ensures ∙ ap texts_json (all_left (map string_bytes c.args.texts.now))
