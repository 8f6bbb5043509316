use Rattle.std.proofs.Common.{drop, string_bytes}
use Rattle.cedar_cli.specs.Strict.{finding_view}
use Rattle.cedar_cli.proofs.Stating.{AreFoundSoFar}
use Rattle.cedar_cli.proofs.strictness.push_of_templates.Given as goal

abbrev pub invariant-templates : goal.invariant-templates
invariant-templates l =
    AreFoundSoFar (finding_view l.fn.finding) l.fn.places.source l.fn.templates (drop l.template-index l.fn.templates)
    (string_bytes l.fn.warnings) (string_bytes l.warnings)
