use Rattle.std.proofs.Common.{◌∙◌}
use Rattle.cedar_names.proofs.Derived.{texts_equal}
use Rattle.cedar_names.proofs.leaf_equality.same_texts.Goals as goal

pub returns : goal.returns
returns c = c.eq.ensures ∙ texts_equal c.args.texts.now.items c.args.other.now.items
