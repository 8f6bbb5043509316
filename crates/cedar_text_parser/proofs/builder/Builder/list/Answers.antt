use Rattle.cedar_text_parser.proofs.Kept.{bracketed_kept}
use Rattle.cedar_text_parser.proofs.builder.Builder.list.Goals as goal

pub returns-clause-ok : goal.returns-clause-ok
returns-clause-ok c =
    bracketed_kept c.in_ok-parts.parts.items c.args.count c.args.bracketed c.in_ok-parts.ensures.parts
    c.in_ok-parts.ensures.count c.in_ok-made.ensures.ok c.in_ok-put.ensures
