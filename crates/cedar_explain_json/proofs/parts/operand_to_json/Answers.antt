-- The answer is not out of memory, so it is as promised.
use Rattle.cedar_errors.specs.Answers.{value_answer}
use Rattle.cedar_expressions.specs.View.{view}
use Rattle.cedar_layers.specs.Policies.{slots_view}
use Rattle.cedar_explain_json.proofs.Answering.{operand_answered}
use Rattle.cedar_explain_json.proofs.parts.operand_to_json.Goals as goal

pub returns : goal.returns
returns g c =
    operand_answered c.args.evaluator.now (slots_view c.args.slots.now) (view c.args.operand.now)
    (value_answer c.interpret-answer.result) c.answered_to_json-item.result c.answered_to_json-item.ensures.written
    c.answered_to_json-item.ensures.memory c.interpret-answer.ensures.answer c.interpret-answer.ensures.known
