use Rattle.std.proofs.Common.{sym, ◌∙◌}
use Rattle.cedar_text_parser.proofs.Read.{one_annotated}
use Rattle.cedar_text_parser.proofs.annotations.annotate.Goals as goal

pub returns-clause-ok : goal.returns-clause-ok
returns-clause-ok c =
    λ xs h.
    one_annotated c.args.annotation c.in_ok-key.key c.in_ok-value.value c.in_ok-token.ensures.is
    (c.in_ok-key.ensures.ok ∙ (rw c.text.ensures.is at c.word.ensures))
    (sym c.contains_key.ensures ∙ c.if-contains_key.false)
    c.in_ok-value.ensures.ok c.in_ok-insert.ensures.entries h
