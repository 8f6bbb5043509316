use Rattle.json.specs.Value.{value_view}
use Rattle.cedar_template_links.specs.LinkFiles.{IsUnasked}
use Rattle.cedar_template_links.proofs.FileTexts.{if_err, unasked_then}
use Rattle.cedar_template_links.proofs.files.link_from_arguments.Goals as goal

pub returns-in-Ok-clause-refused : goal.returns-in-Ok-clause-refused
returns-in-Ok-clause-refused c =
    if_err _ (IsUnasked (value_view c.args.arguments.now)) c.parse_one.result (λ e h. unasked_then (value_view c.args.arguments.now) _ e c.in-Ok.ensures.said h) c.parse_one.ensures.refused
