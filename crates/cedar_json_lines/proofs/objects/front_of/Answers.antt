use Rattle.cedar_json_lines.proofs.Cutting.{cut_end}
use Rattle.cedar_json_lines.proofs.objects.front_of.Goals as goal

pub returns : goal.returns
returns c = cut_end c.args.line.now c.strip_suffix.result c.strip_suffix.ensures.cases
