use Rattle.std.proofs.Common.{ap, ◌∙◌}
use Rattle.cedar_builder.proofs.Saying.{texts_under, put_text-entries}
use Rattle.cedar_builder.proofs.policies.annotations.with_text.Goals as goal

pub returns : goal.returns
returns c = ap texts_under c.in_ok-map.ensures ∙ put_text-entries c.args.annotations.0.entries c.args.key c.args.value
