use Rattle.std.proofs.Common.{◌≡◌, ◌++◌, map, drop}
use Rattle.cedar_layers.specs.Policies.{policy_view}
use Rattle.cedar_linked_text.specs.LinkedTexts.{named}
use Rattle.cedar_linked_text.proofs.named.named_templates.Given as goal

-- those that have their names, and those that are left
abbrev pub invariant-templates : goal.invariant-templates
invariant-templates l =
    map policy_view l.all.items ++ map named (map policy_view (drop l.template-index l.fn.templates)) ≡ map named (map policy_view l.fn.templates)
