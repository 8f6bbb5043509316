use Rattle.std.proofs.Common.{◌∙◌, Ok, subst, ap}
use Rattle.cedar_model.specs.Rules.{Meets}
use Rattle.cedar_values.specs.Residuals.{residual_term}
use Rattle.cedar_errors.specs.Failures.{failure_of}
use Rattle.cedar_extensions.specs.Extensions.{extensions_view, calls_of}
use Rattle.cedar_restricted.specs.Views.{borrowed_term}
use Rattle.cedar_restricted.specs.Evaluations.{partial_answer, IsAnswerWithin, IsKnownExactly}
use Rattle.cedar_restricted.proofs.Promises.{value_within, residual_within, failure_within, residual_known}
use Rattle.cedar_restricted.proofs.evaluator.RestrictedEvaluator.interpret.Goals as goal

pub returns-in-Ok-Value-clause-answer : goal.returns-in-Ok-Value-clause-answer
returns-in-Ok-Value-clause-answer g c s b ok =
    let calls = calls_of c.args.self.now.extensions.now in
    let levels = c.args.self.now.limit in
    let t = borrowed_term c.args.e in
    let is = c.in-Ok-Value.is ∙ ap Ok c.in-Ok-Value.field-0-is in
    value_within s calls levels t
    c.in-Ok-Value.value.what (subst (λ r. Meets (IsAnswerWithin s calls levels t) (partial_answer r)) is
    (c.partial_interpret.ensures.answer s b))

pub returns-in-Ok-Residual-clause-answer : goal.returns-in-Ok-Residual-clause-answer
returns-in-Ok-Residual-clause-answer g c s b ok =
    let calls = calls_of c.args.self.now.extensions.now in
    let levels = c.args.self.now.limit in
    let t = borrowed_term c.args.e in
    let is = c.in-Ok-Residual.is ∙ ap Ok c.in-Ok-Residual.field-0-is in
    residual_within s calls levels t (residual_term c.in-Ok-Residual.residual)
    (failure_of c.residual_left.result)
    c.residual_left.ensures (subst (λ r. Meets (IsAnswerWithin s calls levels t) (partial_answer r)) is
    (c.partial_interpret.ensures.answer s b))

pub returns-in-Err-clause-answer : goal.returns-in-Err-clause-answer
returns-in-Err-clause-answer g c s b ok =
    let calls = calls_of c.args.self.now.extensions.now in
    let levels = c.args.self.now.limit in
    let t = borrowed_term c.args.e in
    failure_within s calls levels t (failure_of c.in-Err.error) ok
    (subst (λ r. Meets (IsAnswerWithin s calls levels t) (partial_answer r))
    c.in-Err.is (c.partial_interpret.ensures.answer s b))

pub returns-in-Ok-Value-clause-known : goal.returns-in-Ok-Value-clause-known
returns-in-Ok-Value-clause-known g c =
    let stored = c.args.self.now.extensions.now in
    let t = borrowed_term c.args.e in
    let is = c.in-Ok-Value.is ∙ ap Ok c.in-Ok-Value.field-0-is in
    subst (λ r. Meets (IsKnownExactly (extensions_view stored) (calls_of stored) t) (partial_answer r)) is
    c.partial_interpret.ensures.known

pub returns-in-Ok-Residual-clause-known : goal.returns-in-Ok-Residual-clause-known
returns-in-Ok-Residual-clause-known g c =
    let stored = c.args.self.now.extensions.now in
    let t = borrowed_term c.args.e in
    let is = c.in-Ok-Residual.is ∙ ap Ok c.in-Ok-Residual.field-0-is in
    residual_known (extensions_view stored) (calls_of stored) t (residual_term c.in-Ok-Residual.residual)
    (failure_of c.residual_left.result)
    (subst (λ r. Meets (IsKnownExactly (extensions_view stored) (calls_of stored) t) (partial_answer r)) is
    c.partial_interpret.ensures.known)

pub returns-in-Err-clause-known : goal.returns-in-Err-clause-known
returns-in-Err-clause-known g c =
    let stored = c.args.self.now.extensions.now in
    let t = borrowed_term c.args.e in
    subst (λ r. Meets (IsKnownExactly (extensions_view stored) (calls_of stored) t) (partial_answer r)) c.in-Err.is
    c.partial_interpret.ensures.known
