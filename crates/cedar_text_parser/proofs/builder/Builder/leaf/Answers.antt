use Rattle.cedar_text_parser.proofs.Kept.{leaf_kept}
use Rattle.cedar_text_parser.proofs.builder.Builder.leaf.Goals as goal

pub returns-clause-ok : goal.returns-clause-ok
returns-clause-ok c = leaf_kept c.args.leaf c.in_ok-made.ensures.ok c.in_ok-put.ensures
