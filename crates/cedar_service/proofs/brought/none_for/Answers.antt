use Rattle.std.proofs.Common.{sym, ◌∙◌, codes}
use Rattle.json.specs.Find.{get}
use Rattle.json.specs.Value.{value_view}
use Rattle.cedar_service.specs.Brought.{IsNotTaken}
use Rattle.cedar_service.specs.Faults.{IsFault}
use Rattle.cedar_service.proofs.Composed.{because}
use Rattle.cedar_service.proofs.brought.none_for.Goals as goal

pub returns-then-brings_entities-clause-refused : goal.returns-then-brings_entities-clause-refused
returns-then-brings_entities-clause-refused c =
    because (IsFault (codes "$.entities") (codes "not taken (--request-entities)"))
    (IsNotTaken (get (codes "entities") (value_view c.args.value.now)))
    (λ t h. (sym c.brings_entities.ensures ∙ c.if-brings_entities.true, h)) c.refuse.result c.refuse.ensures
