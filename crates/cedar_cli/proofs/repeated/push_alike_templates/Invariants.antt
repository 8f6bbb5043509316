use Rattle.std.proofs.Common.{map, drop, string_bytes}
use Rattle.cedar_cli.proofs.Stating.{AreAlikeSoFar}
use Rattle.cedar_cli.proofs.repeated.push_alike_templates.Given as goal

abbrev pub invariant-templates : goal.invariant-templates
invariant-templates l =
    AreAlikeSoFar l.fn.places.source l.fn.templates (map (λ p. p.now) l.before.items)
    (drop l.template-index l.fn.templates) (string_bytes l.fn.warnings) (string_bytes l.warnings)
