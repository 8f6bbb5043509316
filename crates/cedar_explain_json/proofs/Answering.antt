-- What an evaluator answers for an operand is what it promises, since it is not out of memory.
use Rattle.std.proofs.Common.{◌≡◌, ◌≢◌, Result, Ok, Err, IfOk}
use Rattle.cedar_model.specs.Terms.{Term}
use Rattle.cedar_model.specs.World.{Slots}
use Rattle.cedar_model.specs.Failures.{Answer, fails, out_of_memory}
use Rattle.cedar_evaluator.specs.declared.evaluator.Evaluator.{Evaluator}
use Rattle.cedar_evaluator.specs.Evaluations.{AnswersValue, MeansWhereKnown}
use Rattle.cedar_explain.specs.Reached.{IsReached}
use Rattle.cedar_json_writer.specs.declared.tree.JsonValue.{JsonValue}
use Rattle.cedar_json_writer.specs.Trees.{json_view}
use Rattle.cedar_explain_json.specs.Documents.{operand_json, IsOperandJson}

pub operand_answered : {X : Type 0} {F : X → Type 0} {g : _} {E : Type 0} (v : Evaluator X F g) (slots : Slots) (t : Term)
    (a : Answer) (r : Result JsonValue E) → IfOk r (λ j. json_view j ≡ operand_json t a)
    → IfOk r (λ j. a ≢ fails out_of_memory) → AnswersValue v slots t a → MeansWhereKnown v slots t a
    → IfOk r (λ j. IsOperandJson (IsReached v slots) t (json_view j))
operand_answered v slots t a (Ok j) so room promised known =
    (a, record { promised = promised room; known = known room }, so)
operand_answered v slots t a (Err e) so room promised known = tt
