use Rattle.std.proofs.Common.{◌∙◌}
use Rattle.cedar_interpreter.proofs.Types.{decided_type}
use Rattle.cedar_interpreter.proofs.stored.same_type.Goals as goal

pub returns : goal.returns
returns c = c.eq.ensures ∙ decided_type _ _ _ (c.leaves_are_equal_by_view.ensures.types c.args.ty.now c.args.other.now)
