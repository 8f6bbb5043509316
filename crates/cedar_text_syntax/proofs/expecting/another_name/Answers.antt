use Rattle.std.proofs.Common.{sym, ◌∙◌}
use Rattle.cedar_text_syntax.proofs.Members.{name_more}
use Rattle.cedar_text_syntax.proofs.expecting.another_name.Goals as goal

pub returns-then-is_name_at : goal.returns-then-is_name_at
returns-then-is_name_at c =
    λ i s e h.
    name_more c.in_ok-name.ensures.is c.in_ok-name.ensures.next
    (sym c.is_name_at.ensures.is ∙ c.if-is_name_at.true) c.end_at.ensures h
