use Rattle.std.proofs.Common.{◌≡◌, ◌≢◌, ◌≤◌, true, ap, ◌∙◌, subst}
use Rattle.cedar_model.specs.Agreement.{height}
use Rattle.cedar_model.specs.Failures.{limit}
use Rattle.cedar_model.specs.Shapes.{is_restricted}
use Rattle.cedar_model.specs.Rules.{Meets}
use Rattle.cedar_expressions.specs.View.{view}
use Rattle.cedar_extensions.specs.Extensions.{extensions_view, calls_of}
use Rattle.cedar_extensions.specs.StoredLaws.{calls_functional, calls_meet_no_limit, calls_sound}
use Rattle.cedar_restricted.specs.Evaluations.{partial_answer, IsAnswerWithin, IsKnownExactly}
use Rattle.cedar_expressions.specs.Nodes.{parts_of}
use Rattle.cedar_restricted.specs.Views.{borrowed_expr}
use Rattle.cedar_restricted.specs.Elements.{answer_for}
use Rattle.cedar_restricted.specs.Frames.{IsRight}
use Rattle.cedar_restricted.proofs.Promises.{promised, low_enough, known_exact, sound_part}
use Rattle.cedar_restricted.proofs.evaluator.RestrictedEvaluator.partial_interpret.Goals as goal

pub returns-in-Ok-clause-answer : goal.returns-in-Ok-clause-answer
returns-in-Ok-clause-answer g c s b ok =
    let stored = c.args.self.now.extensions.now in
    let x = extensions_view stored in
    let calls = calls_of stored in
    let levels = c.args.self.now.limit in
    let r = c.evaluate_within.result in
    let is_r : is_restricted (view c.from-expr.result) ≡ true = ap (λ e. is_restricted (view e)) c.from-expr.ensures ∙
    c.in-Ok.restricted.restricted in
    let right : IsRight x calls levels c.from-expr.result r =
    record { answer = c.evaluate_within.ensures.right.answer; place = c.evaluate_within.ensures.right.place } in
    let seen = ap view c.from-expr.ensures ∙ c.in-Ok.ensures.view in
    subst (λ t. IsAnswerWithin s calls levels t (partial_answer r)) seen
    (promised x calls levels c.from-expr.result r is_r right (calls_functional stored) s b ok)

pub returns-in-Ok-clause-restricted : goal.returns-in-Ok-clause-restricted
returns-in-Ok-clause-restricted g c =
    let stored = c.args.self.now.extensions.now in
    let x = extensions_view stored in
    let calls = calls_of stored in
    let levels = c.args.self.now.limit in
    let r = c.evaluate_within.result in
    let is_r : is_restricted (view c.from-expr.result) ≡ true = ap (λ e. is_restricted (view e)) c.from-expr.ensures ∙
    c.in-Ok.restricted.restricted in
    let right : IsRight x calls levels c.from-expr.result r =
    record { answer = c.evaluate_within.ensures.right.answer; place = c.evaluate_within.ensures.right.place } in
    sound_part x calls levels c.from-expr.result r is_r right (calls_sound stored)

pub returns-in-Ok-clause-low : goal.returns-in-Ok-clause-low
returns-in-Ok-clause-low g c =
    let stored = c.args.self.now.extensions.now in
    let x = extensions_view stored in
    let calls = calls_of stored in
    let levels = c.args.self.now.limit in
    let r = c.evaluate_within.result in
    let is_r : is_restricted (view c.from-expr.result) ≡ true = ap (λ e. is_restricted (view e)) c.from-expr.ensures ∙
    c.in-Ok.restricted.restricted in
    let right : IsRight x calls levels c.from-expr.result r =
    record { answer = c.evaluate_within.ensures.right.answer; place = c.evaluate_within.ensures.right.place } in
    let seen = ap view c.from-expr.ensures ∙ c.in-Ok.ensures.view in
    subst (λ t. height t ≤ levels → partial_answer r ≢ limit) seen
    (low_enough x calls levels c.from-expr.result r is_r right (calls_meet_no_limit stored))

pub returns-in-Ok-clause-known : goal.returns-in-Ok-clause-known
returns-in-Ok-clause-known g c =
    let stored = c.args.self.now.extensions.now in
    let x = extensions_view stored in
    let calls = calls_of stored in
    let levels = c.args.self.now.limit in
    let r = c.evaluate_within.result in
    let is_r : is_restricted (view c.from-expr.result) ≡ true = ap (λ e. is_restricted (view e)) c.from-expr.ensures ∙
    c.in-Ok.restricted.restricted in
    let right : IsRight x calls levels c.from-expr.result r =
    record { answer = c.evaluate_within.ensures.right.answer; place = c.evaluate_within.ensures.right.place } in
    let seen = ap view c.from-expr.ensures ∙ c.in-Ok.ensures.view in
    subst (λ t. Meets (IsKnownExactly x calls t) (partial_answer r)) seen
    (known_exact x calls levels c.from-expr.result r is_r right)

pub returns-in-Ok-clause-elements : goal.returns-in-Ok-clause-elements
returns-in-Ok-clause-elements g c n =
    answer_for n c.from-expr.result (borrowed_expr c.args.e) c.evaluate_within.result
    (ap view c.from-expr.ensures ∙ c.in-Ok.ensures.view) (ap parts_of c.from-expr.ensures ∙ c.in-Ok.ensures.parts)
    (c.evaluate_within.ensures.elements n)
