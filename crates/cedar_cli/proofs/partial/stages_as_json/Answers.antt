use Rattle.cedar_layers.specs.PolicySets.{policies_view}
use Rattle.cedar_json_writer.specs.Trees.{json_view}
use Rattle.cedar_cli.proofs.Staged.{in_document}
use Rattle.cedar_cli.proofs.partial.stages_as_json.Goals as goal

pub returns : goal.returns
returns c =
    in_document c.args.deciding.places.now.source.text.now (policies_view c.args.deciding.policies.now) c.args.stages.now.first c.args.stages.now.later.items c.last-last.result.now c.last-last.ensures _
    c.decision.ensures.given (json_view c.in_ok-document.document) c.in_ok-document.ensures c.print_document-printed.result
    c.print_document-printed.ensures.status c.print_document-printed.ensures.output
