use Rattle.cedar_expressions.specs.View.{view}
use Rattle.cedar_layers.specs.Policies.{slots_view}
use Rattle.cedar_errors.specs.Answers.{partial_answer}
use Rattle.cedar_evaluator.specs.Evaluations.{variables_of, request_in, limit_of}
use Rattle.cedar_evaluator.proofs.Requests.{says}
use Rattle.cedar_evaluator.proofs.Sound.{rules_promised}
use Rattle.cedar_evaluator.proofs.evaluator.Evaluator.partial_interpret.Goals as goal

pub returns-clause-rules : goal.returns-clause-rules
returns-clause-rules g c =
    c.interpret.ensures.runs (request_in c.args.self.now) (says (variables_of c.args.self.now.given) c.args.self.now.of_request)

pub returns-clause-limit : goal.returns-clause-limit
returns-clause-limit g c ok =
    (rules_promised c.args.self.now (slots_view c.args.slots.now) (limit_of c.args.self.now) (view c.args.e.now) (partial_answer c.interpret.result)
    (c.interpret.ensures.runs (request_in c.args.self.now) (says (variables_of c.args.self.now.given) c.args.self.now.of_request)) ok).limited

pub returns-clause-allowed : goal.returns-clause-allowed
returns-clause-allowed g c ok =
    (rules_promised c.args.self.now (slots_view c.args.slots.now) (limit_of c.args.self.now) (view c.args.e.now) (partial_answer c.interpret.result)
    (c.interpret.ensures.runs (request_in c.args.self.now) (says (variables_of c.args.self.now.given) c.args.self.now.of_request)) ok).allowed

pub returns-clause-known : goal.returns-clause-known
returns-clause-known g c ok =
    (rules_promised c.args.self.now (slots_view c.args.slots.now) (limit_of c.args.self.now) (view c.args.e.now) (partial_answer c.interpret.result)
    (c.interpret.ensures.runs (request_in c.args.self.now) (says (variables_of c.args.self.now.given) c.args.self.now.of_request)) ok).known

pub returns-clause-sound : goal.returns-clause-sound
returns-clause-sound g c ok =
    (rules_promised c.args.self.now (slots_view c.args.slots.now) (limit_of c.args.self.now) (view c.args.e.now) (partial_answer c.interpret.result)
    (c.interpret.ensures.runs (request_in c.args.self.now) (says (variables_of c.args.self.now.given) c.args.self.now.of_request)) ok).sound

pub returns-clause-deep_enough : goal.returns-clause-deep_enough
returns-clause-deep_enough g c ok =
    (rules_promised c.args.self.now (slots_view c.args.slots.now) (limit_of c.args.self.now) (view c.args.e.now) (partial_answer c.interpret.result)
    (c.interpret.ensures.runs (request_in c.args.self.now) (says (variables_of c.args.self.now.given) c.args.self.now.of_request)) ok).deep_enough
