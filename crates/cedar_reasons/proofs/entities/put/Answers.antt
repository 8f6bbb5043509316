use Rattle.std.proofs.Common.{ap, ◌∙◌}
use Rattle.cedar_values.proofs.Written.{key_cmp}
use Rattle.cedar_layers.specs.Parts.{parts_view, are_restricted_parts}
use Rattle.cedar_layers.proofs.Parts.{restricted_insert}
use Rattle.cedar_reasons.proofs.Parts.{view_insert}
use Rattle.cedar_reasons.proofs.entities.put.Goals as goal

pub returns-clause-parts : goal.returns-clause-parts
returns-clause-parts c =
    ap parts_view c.in_ok-insert.ensures.entries ∙ view_insert c.args.parts.now.entries c.args.name c.args.part

pub returns-clause-restricted : goal.returns-clause-restricted
returns-clause-restricted c = λ r h.
    ap (λ es. are_restricted_parts (parts_view es)) c.in_ok-insert.ensures.entries
    ∙ restricted_insert key_cmp c.args.parts.now.entries c.args.name c.args.part r h
