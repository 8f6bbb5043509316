use Rattle.std.proofs.Common.{ℕ, subst}
use Rattle.cedar_extensions.specs.Extensions.{extensions_view, calls_of}
use Rattle.cedar_restricted.specs.Evaluators.{limit_of}
use Rattle.cedar_json_reader.specs.StatedEntities.{stated_views}
use Rattle.cedar_json_reader.specs.Evaluated.{AreEvaluated}
use Rattle.cedar_json_reader.specs.FailedEntities.{AreFailedEntities, IsEvaluationError}
use Rattle.cedar_json_reader.proofs.evaluation.evaluated_entities.Goals as goal

pub returns-in-Ok-clause-evaluated : goal.returns-in-Ok-clause-evaluated
returns-in-Ok-clause-evaluated g c =
    let es = stated_views c.args.stated.items in
    let ds = c.evaluate_all.new.entities.items in
    subst (λ (m : ℕ). AreEvaluated (extensions_view c.args.extensions.now) (calls_of c.args.extensions.now) m es ds) c.new-evaluator.ensures.limit
    (subst (λ y. AreEvaluated (extensions_view y) (calls_of y) (limit_of c.new-evaluator.result) es ds) c.new-evaluator.ensures.extensions c.in-Ok.ensures.evaluated)

pub returns-in-Err-clause-failed : goal.returns-in-Err-clause-failed
returns-in-Err-clause-failed g c =
    let es = stated_views c.args.stated.items in
    let e = c.in-Err.error in
    subst (λ (m : ℕ). IsEvaluationError (AreFailedEntities (extensions_view c.args.extensions.now) (calls_of c.args.extensions.now) m es) e) c.new-evaluator.ensures.limit
    (subst (λ y. IsEvaluationError (AreFailedEntities (extensions_view y) (calls_of y) (limit_of c.new-evaluator.result) es) e) c.new-evaluator.ensures.extensions c.in-Err.ensures.failed)
