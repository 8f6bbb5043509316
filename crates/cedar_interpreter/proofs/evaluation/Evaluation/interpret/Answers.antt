use Rattle.std.proofs.Common.{subst}
use Rattle.cedar_model.specs.Rules.{Meets}
use Rattle.cedar_expressions.specs.View.{view}
use Rattle.cedar_errors.specs.Answers.{partial_answer}
use Rattle.cedar_extensions.specs.StoredLaws.{calls_functional, calls_meet_no_limit}
use Rattle.cedar_interpreter.specs.Settings.{evaluation_setting, calls_in}
use Rattle.cedar_restricted.specs.Elements.{answer_for}
use Rattle.cedar_interpreter.specs.Promises.{IsPromised, RunsIn}
use Rattle.cedar_interpreter.proofs.Promised.{meets_promised}
use Rattle.cedar_interpreter.proofs.evaluation.Evaluation.interpret.Goals as goal

pub returns-in-Ok-clause-runs : goal.returns-in-Ok-clause-runs
returns-in-Ok-clause-runs g c =
    subst (λ t. RunsIn c.args.self.now c.args.limit t (partial_answer c.evaluate_owned.result)) c.in-Ok.ensures.view c.evaluate_owned.ensures.answer

pub returns-in-Ok-clause-promised : goal.returns-in-Ok-clause-promised
returns-in-Ok-clause-promised g c r speaks sound =
    let s = evaluation_setting r c.args.self.now in
    let stored = c.args.self.now.given.now.extensions.now in
    let answer = partial_answer c.evaluate_owned.result in
    subst (λ t. Meets (IsPromised s (calls_in c.args.self.now) c.args.limit t) answer) c.in-Ok.ensures.view
    (meets_promised s (calls_in c.args.self.now) c.args.limit (view c.in-Ok.expr.value) (calls_functional stored) (calls_meet_no_limit stored) sound answer (c.evaluate_owned.ensures.answer r speaks))

pub returns-in-Ok-clause-elements : goal.returns-in-Ok-clause-elements
returns-in-Ok-clause-elements g c n =
    answer_for n c.in-Ok.expr.value c.args.e.now c.evaluate_owned.result c.in-Ok.ensures.view c.in-Ok.ensures.parts
    (c.evaluate_owned.ensures.elements n)
