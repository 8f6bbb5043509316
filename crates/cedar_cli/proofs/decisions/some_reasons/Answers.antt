use Rattle.std.proofs.Common.{◌++◌, codes, ap, ◌∙◌, string_bytes}
use Rattle.cedar_cli.proofs.decisions.some_reasons.Goals as goal

pub returns : goal.returns
returns c = (
  string_bytes c.in_ok-names.names,
  c.in_ok-names.ensures,
  c.in_ok-push_str.ensures.bytes
      ∙ ap (λ l. l ++ c.as_str.result.now) c.in_ok-lines.ensures.ok
      ∙ ap (λ l. codes "\nnote: this decision was due to the following policies:\n" ++ l) c.as_str.ensures.value,
)
