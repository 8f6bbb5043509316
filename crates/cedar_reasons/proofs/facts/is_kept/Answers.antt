use Rattle.std.proofs.Common.{◌∙◌}
use Rattle.cedar_reasons.specs.Facts.{fact_view, is_same}
use Rattle.cedar_reasons.proofs.Listed.{any_map}
use Rattle.cedar_reasons.proofs.facts.is_kept.Goals as goal

pub returns : goal.returns
returns c = c.is_one_of.ensures ∙ any_map fact_view (is_same (fact_view c.args.wanted)) c.args.facts.now
