use Rattle.cedar_overlay.specs.Bases.{base_entities}
use Rattle.cedar_service.proofs.Over.{has_added, not_over}
use Rattle.cedar_service.proofs.brought.add_entities.Goals as goal

pub returns-in-Ok-clause-over : goal.returns-in-Ok-clause-over
returns-in-Ok-clause-over c =
    has_added (base_entities c.args.base.now) c.args.entities.items c.in-Ok.store c.requires (record {
      addable = c.in-Ok.ensures.accepted;
      acyclic = c.in-Ok.ensures.acyclic;
      entities = c.in-Ok.ensures.entities;
      ancestors = c.in-Ok.ensures.ancestors;
      closed = c.in-Ok.ensures.closed;
      partial = c.in-Ok.ensures.partial;
    })

pub returns-in-Err-clause-refused : goal.returns-in-Err-clause-refused
returns-in-Err-clause-refused c =
    not_over (base_entities c.args.base.now) c.args.entities.items c.in-Err.error c.in-Err.ensures.refused
    c.refuse_entities-refusal.result c.refuse_entities-refusal.ensures.reason c.refuse_entities-refusal.ensures.fault
