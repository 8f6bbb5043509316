-- The answer is not out of memory, so it is as promised.
use Rattle.cedar_expressions.specs.View.{view}
use Rattle.cedar_layers.specs.Policies.{slots_view}
use Rattle.cedar_errors.specs.Answers.{value_answer}
use Rattle.cedar_explain.proofs.Answered.{reached}
use Rattle.cedar_explain.proofs.parts.evaluated.Goals as goal

pub returns-clause-reached : goal.returns-clause-reached
returns-clause-reached g c =
    reached c.args.evaluator.now (slots_view c.args.slots.now) (view c.args.expr.now) (value_answer c.interpret.result) c.part_of.result
    c.part_of.ensures.term c.part_of.ensures.answer c.part_of.ensures.memory c.interpret.ensures.answer c.interpret.ensures.known
