use Rattle.std.proofs.Common.{[], drop, map}
use Rattle.cedar_json_writer.specs.Trees.{json_view}
use Rattle.cedar_layers.specs.PolicySets.{policies_view}
use Rattle.cedar_cli.specs.Stages.{AreDocuments}
use Rattle.cedar_cli.proofs.Staged.{AreDocumentsSoFar}
use Rattle.cedar_cli.proofs.documents.put_stages.Given as goal

abbrev pub invariant-later : goal.invariant-later
invariant-later l =
    AreDocuments l.fn.deciding.places.now.source.text.now (policies_view l.fn.deciding.policies.now) l.fn.first []
    (map json_view l.fn.all.items)
    → AreDocumentsSoFar l.fn.deciding.places.now.source.text.now (policies_view l.fn.deciding.policies.now) l.fn.first
    l.fn.later (drop l.taken-index l.later) l.response (map json_view l.all.items)
