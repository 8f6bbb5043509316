use Rattle.std.proofs.Common.{◌≡◌, ℕ, [], ◌∷◌, ◌++◌, List, sym, ◌∙◌, subst, rules}
use Rattle.cedar_layers.specs.declared.policies.entities.Entity.{Entity}
use Rattle.cedar_restricted.specs.Evaluators.{extensions_read, calls_in, limit_of}
use Rattle.cedar_json_reader.specs.StatedEntities.{stated_view}
use Rattle.cedar_json_reader.specs.Evaluated.{AreEvaluated}
use Rattle.cedar_json_reader.specs.Paths.{at_index}
use Rattle.cedar_json_reader.specs.FailedEntities.{Below, IsFailedEntity, IsEvaluationError}
use Rattle.cedar_json_reader.proofs.Answered.{one_more_evaluated}
use Rattle.cedar_json_reader.proofs.Failed.{failed_under}
use Rattle.cedar_json_reader.proofs.evaluation.put_evaluated.Goals as goal

pub returns-in-Ok-push-clause-adds : goal.returns-in-Ok-push-clause-adds
returns-in-Ok-push-clause-adds g c =
    let x = extensions_read c.args.evaluator.now in
    let calls = calls_in c.args.evaluator.now in
    let n = limit_of c.args.evaluator.now in
    let e = stated_view c.args.stated in
    let pushed : c.push.new.self.items ≡ c.args.entities.now.items ++ c.in-Ok.entity ∷ [] = search rules in
    λ es h. subst (λ (ds : List Entity). AreEvaluated x calls n (es ++ e ∷ []) ds) (sym pushed) (one_more_evaluated x calls n es c.args.entities.now.items e c.in-Ok.entity h c.in-Ok.ensures.evaluated)

pub returns-in-Err-clause-failed : goal.returns-in-Err-clause-failed
returns-in-Err-clause-failed g c =
    let P = IsFailedEntity (extensions_read c.args.evaluator.now) (calls_in c.args.evaluator.now) (limit_of c.args.evaluator.now) (stated_view c.args.stated) in
    subst (λ (i : ℕ). IsEvaluationError (Below (at_index i) P) c.under_index.result) (c.len-index.ensures ∙ c.args.entities.now.ok.0)
    (failed_under (at_index c.len-index.result) P c.in-Err.error c.under_index.result c.in-Err.ensures.failed c.under_index.ensures)
