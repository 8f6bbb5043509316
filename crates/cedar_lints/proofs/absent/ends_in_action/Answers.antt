use Rattle.std.proofs.Common.{codes}
use Rattle.std.proofs.lemmas.Str.Pattern.{ends_text}
use Rattle.cedar_lints.proofs.absent.ends_in_action.Goals as goal

pub returns : goal.returns
returns c = ends_text c.ends_with.result (codes "::Action") c.args.text.now c.ends_with.ensures.cases
