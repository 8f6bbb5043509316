-- What is told is what the status is of.
use Rattle.std.proofs.Common.{◌∙◌, ap}
use Rattle.cedar_cli.specs.Strict.{strict_status}
use Rattle.cedar_cli.proofs.strictness.check_strictly.Goals as goal

pub returns-clause-checked : goal.returns-clause-checked
returns-clause-checked c = record {
  parsed = c.in_ok-parsed.parsed;
  policies_are = c.in_ok-parsed.ensures.read;
  told = c.in_ok-warnings.ensures;
  output_is = c.new.ensures.bytes;
  status_is = c.strict_status-status.ensures ∙ ap (strict_status c.args.is_denied) c.as_str.ensures.value;
}
