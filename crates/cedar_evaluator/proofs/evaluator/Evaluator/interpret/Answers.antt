use Rattle.cedar_expressions.specs.View.{view}
use Rattle.cedar_layers.specs.Policies.{slots_view}
use Rattle.cedar_errors.specs.Answers.{partial_answer, value_answer}
use Rattle.cedar_evaluator.specs.Evaluations.{setting_of, calls_in, limit_of}
use Rattle.cedar_evaluator.proofs.Knowing.{only_promised, known_value}
use Rattle.cedar_evaluator.proofs.Sound.{rules_promised}
use Rattle.cedar_evaluator.proofs.evaluator.Evaluator.interpret.Goals as goal

pub returns-clause-answer : goal.returns-clause-answer
returns-clause-answer g c =
    let t = view c.args.e.now in
    let slots = slots_view c.args.slots.now in
    let answer = partial_answer c.partial_interpret.result in
    only_promised (setting_of c.args.self.now slots) (calls_in c.args.self.now) (limit_of c.args.self.now) t answer (value_answer c.only_value.result)
    (rules_promised c.args.self.now slots (limit_of c.args.self.now) t answer c.partial_interpret.ensures.rules) c.only_value.ensures.answer

pub returns-clause-known : goal.returns-clause-known
returns-clause-known g c =
    let t = view c.args.e.now in
    let slots = slots_view c.args.slots.now in
    let s = setting_of c.args.self.now slots in
    let answer = partial_answer c.partial_interpret.result in
    known_value s (calls_in c.args.self.now) (limit_of c.args.self.now) t (value_answer c.only_value.result)
    (only_promised s (calls_in c.args.self.now) (limit_of c.args.self.now) t answer (value_answer c.only_value.result)
    (rules_promised c.args.self.now slots (limit_of c.args.self.now) t answer c.partial_interpret.ensures.rules) c.only_value.ensures.answer)

pub returns-clause-elements : goal.returns-clause-elements
returns-clause-elements g c n =
    c.only_value.ensures.elements n c.args.e.now (c.partial_interpret.ensures.elements n)
