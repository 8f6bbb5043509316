use Rattle.std.proofs.Common.{ap, ◌∙◌, subst, IfOk, Ok}
use Rattle.cedar_model.specs.Failures.{value, residual, out_of_memory}
use Rattle.cedar_model.proofs.Injections.{answers_is_not_fails}
use Rattle.cedar_expressions.specs.View.{expr_loc}
use Rattle.cedar_values.specs.Residuals.{residual_term}
use Rattle.cedar_errors.specs.Answers.{AnswersWith}
use Rattle.cedar_interpreter.specs.Settings.{mapper_view}
use Rattle.cedar_interpreter.specs.Stored.{remapped}
use Rattle.cedar_interpreter.proofs.StoredLaws.{value_stays, failure_stays}
use Rattle.cedar_interpreter.specs.Tasks.{Gives}
use Rattle.cedar_interpreter.proofs.Laws.{or_out_of_memory_gives}
use Rattle.cedar_interpreter.proofs.stored.stored_in.Goals as goal

pub returns-in-Ok-Residual : goal.returns-in-Ok-Residual
returns-in-Ok-Residual c b with_b =
    let m = mapper_view c.args.mapper.now in
    let r = residual_term c.in-Ok-Residual.residual in
    let same = subst (λ a. AnswersWith a b) (c.in-Ok-Residual.is ∙ ap Ok c.in-Ok-Residual.field-0-is) with_b (answers_is_not_fails (residual r) out_of_memory) in
    or_out_of_memory_gives (expr_loc c.args.whole.now.value) (remapped m b) c.stored_residual.result c.or_out_of_memory.result
    (subst (λ x. IfOk c.stored_residual.result (λ n. Gives (expr_loc c.args.whole.now.value) n (remapped m x))) same c.stored_residual.ensures) c.or_out_of_memory.ensures

pub returns-in-Ok-Value : goal.returns-in-Ok-Value
returns-in-Ok-Value c b with_b =
    let m = mapper_view c.args.mapper.now in
    let v = c.in-Ok-Value.value.what in
    let same = subst (λ a. AnswersWith a b) (c.in-Ok-Value.is ∙ ap Ok c.in-Ok-Value.field-0-is) with_b (answers_is_not_fails (value v) out_of_memory) in
    c.answer_result_in.ensures (remapped m b) (λ ok. value_stays m v b same)

pub returns-in-Err : goal.returns-in-Err
returns-in-Err c b with_b =
    let m = mapper_view c.args.mapper.now in
    c.answer_result_in-in-Err.ensures (remapped m b) (λ ok. failure_stays m _ b (subst (λ a. AnswersWith a b) c.in-Err.is with_b ok))
