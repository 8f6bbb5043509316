use Rattle.std.proofs.Common.{sym, ap, ◌∙◌}
use Rattle.cedar_expressions.specs.View.{terms_view}
use Rattle.cedar_values.specs.Residuals.{partial_view}
use Rattle.cedar_restricted.proofs.Collected.{term_added, still_mixed}
use Rattle.cedar_restricted.proofs.answers.adding.mixed_with.Goals as goal

pub returns-clause-answers : goal.returns-clause-answers
returns-clause-answers c ps h = (
  term_added ps c.args.mixed.exprs.items (partial_view c.args.answer) c.in_ok-expr.expr h.0 c.in_ok-expr.ensures.view ∙
      ap terms_view (sym c.in_ok-with.ensures),
  still_mixed ps (partial_view c.args.answer) h.1,
)
