use Rattle.std.proofs.Common.{◌≢◌, subst}
use Rattle.cedar_model.specs.Failures.{out_of_memory}
use Rattle.cedar_errors.specs.Failures.{failure_of}
use Rattle.cedar_errors.specs.Answers.{value_answer}
use Rattle.cedar_extensions.specs.Extensions.{extensions_view, calls_of}
use Rattle.cedar_cli.specs.Evaluated.{IsAnswerBy, IsUnvaluedOver, for_error}
use Rattle.cedar_cli.proofs.Reasoned.{because}
use Rattle.cedar_cli.proofs.evaluations.evaluated_over.Goals as goal

pub returns-in-Err-clause-refused : goal.returns-in-Err-clause-refused
returns-in-Err-clause-refused g c =
    let x = c.args.extensions.now in
    let s = c.args.store.now.entities in
    let r = c.in_ok-request.request in
    let n = c.limit_or-within.result in
    let answer = subst (λ v. IsAnswerBy (extensions_view x) (calls_of x) c.args.expr.now s r n (value_answer v)) c.in-Err.is c.value_of.ensures in
    because (failure_of c.in-Err.error ≢ out_of_memory)
    (IsUnvaluedOver (extensions_view x) (calls_of x) c.args.expr.now s c.args.asked.now c.args.limit)
    (λ final. for_error (record {
      error = failure_of c.in-Err.error;
      is_final = final;
      answer = record {
        request = r;
        within = n;
        request_is = c.in_ok-request.ensures.asked;
        limit_is = c.limit_or-within.ensures;
        answer_is = answer;
      };
    }))
    c.refuse_evaluation.result c.refuse_evaluation.ensures
