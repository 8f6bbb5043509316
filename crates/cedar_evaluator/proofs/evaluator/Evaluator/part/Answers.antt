use Rattle.std.proofs.Common.{sym, ap, ◌∙◌, subst}
use Rattle.cedar_model.specs.Failures.{answers}
use Rattle.cedar_model.specs.Rules.{Runs}
use Rattle.cedar_expressions.specs.View.{view}
use Rattle.cedar_layers.specs.Policies.{slots_view}
use Rattle.cedar_evaluator.specs.Evaluations.{variables_of, request_in, setting_of, calls_in}
use Rattle.cedar_evaluator.proofs.Requests.{says}
use Rattle.cedar_evaluator.proofs.evaluator.Evaluator.part.Goals as goal

pub returns-in-Some : goal.returns-in-Some
returns-in-Some g c ok =
    let slots = slots_view c.args.slots.now in
    subst (Runs (setting_of c.args.self.now slots) (calls_in c.args.self.now) c.args.levels (view c.args.e.now))
    (sym (c.answer_at.ensures.answer ∙ ap answers c.bool_part.ensures)) (c.in-Some.ensures c.args.levels c.requires)

pub returns-in-None : goal.returns-in-None
returns-in-None g c = c.interpret.ensures.runs (request_in c.args.self.now) (says (variables_of c.args.self.now.given) c.args.self.now.of_request)
