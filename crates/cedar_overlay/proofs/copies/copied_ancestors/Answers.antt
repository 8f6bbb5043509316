use Rattle.std.proofs.Common.{map, ap, ◌∙◌, rules}
use Rattle.cedar_names.specs.Names.{uid_name}
use Rattle.cedar_overlay.proofs.Parts.{names_copied}
use Rattle.cedar_overlay.proofs.copies.copied_ancestors.Goals as goal

pub returns : goal.returns
returns c =
    names_copied _ c.ancestors.result.now.keys c.in_ok-clone.field-0.keys c.in_ok-clone.ensures.cases (λ u v h. search rules)
    ∙ ap (map uid_name) c.ancestors.ensures.whole
