use Rattle.cedar_text_syntax.proofs.Parts.{opened_count}
use Rattle.std.proofs.Common.{sym, ◌∙◌}
use Rattle.cedar_text_syntax.proofs.Listed.{empty_closed}
use Rattle.cedar_text_syntax.proofs.machine.work.Work.close_none.Goals as goal

pub returns-in_ok-make-clause-ok : goal.returns-in_ok-make-clause-ok
returns-in_ok-make-clause-ok c =
    empty_closed c.requires.opened.1 (sym c.closes_at.ensures ∙ c.if-closes_at.true) c.end_at-end.ensures
    c.in_ok-make.ensures.look

pub make-requires : goal.make-requires
make-requires c = opened_count c.requires.opened.1
