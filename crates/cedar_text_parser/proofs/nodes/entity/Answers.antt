use Rattle.std.proofs.Common.{subst, sym}
use Rattle.cedar_names.specs.declared.names.EntityUID.{EntityUID}
use Rattle.cedar_text_parser.specs.Wording.{IsEntityAt}
use Rattle.cedar_text_parser.specs.Building.{entity_node}
use Rattle.cedar_text_parser.proofs.nodes.entity.Goals as goal

pub returns-clause-ok : goal.returns-clause-ok
returns-clause-ok c =
    rw c.val.ensures.kind
    (entity_node {u = c.in_ok-uid-2.uid}
    (subst
    (λ (x : EntityUID). IsEntityAt c.args.source.now c.args.from c.args.to c.args.loc.start
    c.args.loc.end x)
    (sym c.in_ok-uid-2.ensures.ok) c.in_ok-uid.ensures.ok))
