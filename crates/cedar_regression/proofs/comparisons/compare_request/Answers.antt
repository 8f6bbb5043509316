use Rattle.std.proofs.Common.{subst}
use Rattle.cedar_extensions.specs.Extensions.{extensions_view, calls_of}
use Rattle.cedar_expectations.specs.Answers.{answer_view}
use Rattle.cedar_cli.specs.declared.asked.Asked.{Asked}
use Rattle.cedar_cli.specs.Reasons.{IsToldFor, IsRequestUnread}
use Rattle.cedar_regression.specs.Answered.{IsAnswerOver}
use Rattle.cedar_regression.proofs.Lines.{line_compared, line_refused}
use Rattle.cedar_regression.proofs.comparisons.compare_request.Goals as goal

pub returns-in-Ok : goal.returns-in-Ok
returns-in-Ok g c =
    let x = c.args.extensions.now in
    let s = c.args.entities.now in
    let old = answer_view c.in-Ok.both.old in
    let new = answer_view c.in-Ok.both.new in
    line_compared (IsAnswerOver (extensions_view x) (calls_of x) c.args.old.now s c.args.way)
    (IsAnswerOver (extensions_view x) (calls_of x) c.args.new.now s c.args.way)
    (IsRequestUnread (extensions_view x) (calls_of x)) c.args.asked.now (record { name = _; text = c.args.request })
    c.args.number old new c.compare_both.result
    (subst (λ (q : Asked). IsAnswerOver (extensions_view x) (calls_of x) c.args.old.now s c.args.way q old)
    c.ask-asked_of_line.ensures c.in-Ok.ensures.answered.old_is)
    (subst (λ (q : Asked). IsAnswerOver (extensions_view x) (calls_of x) c.args.new.now s c.args.way q new)
    c.ask-asked_of_line.ensures c.in-Ok.ensures.answered.new_is)
    c.compare_both.ensures

pub returns-in-Err : goal.returns-in-Err
returns-in-Err g c =
    let x = c.args.extensions.now in
    let s = c.args.entities.now in
    line_refused (IsAnswerOver (extensions_view x) (calls_of x) c.args.old.now s c.args.way)
    (IsAnswerOver (extensions_view x) (calls_of x) c.args.new.now s c.args.way)
    (IsRequestUnread (extensions_view x) (calls_of x)) c.args.asked.now (record { name = c.args.request; text = c.args.request })
    c.args.number c.in-Err.refusal c.refused.result
    (subst (λ (q : Asked). IsToldFor (IsRequestUnread (extensions_view x) (calls_of x) q) c.in-Err.refusal)
    c.ask-asked_of_line.ensures c.in-Err.ensures.refused)
    c.refused.ensures.told c.refused.ensures.refused c.refused.ensures.same c.refused.ensures.line
