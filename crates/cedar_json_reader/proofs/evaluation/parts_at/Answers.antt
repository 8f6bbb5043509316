use Rattle.cedar_restricted.specs.Evaluators.{extensions_read, calls_in, limit_of}
use Rattle.cedar_json_reader.specs.Lists.{pairs_said}
use Rattle.cedar_json_reader.specs.Paths.{at_key}
use Rattle.cedar_json_reader.specs.FailedEntities.{AreFailedParts}
use Rattle.cedar_json_reader.proofs.Failed.{failed_under}
use Rattle.cedar_json_reader.proofs.evaluation.parts_at.Goals as goal

pub returns-in-Err-clause-failed : goal.returns-in-Err-clause-failed
returns-in-Err-clause-failed g c =
    failed_under (at_key c.args.key.now) (AreFailedParts (extensions_read c.args.evaluator.now) (calls_in c.args.evaluator.now) (limit_of c.args.evaluator.now) (pairs_said c.args.pairs.items))
    c.in-Err.error c.under_key.result c.in-Err.ensures.failed c.under_key.ensures
