use Rattle.std.proofs.Common.{sym, subst}
use Rattle.cedar_model.specs.Settings.{StoredEntity}
use Rattle.cedar_restricted.specs.Evaluators.{extensions_read, calls_in, limit_of}
use Rattle.cedar_json_reader.specs.StatedEntities.{stated_view}
use Rattle.cedar_json_reader.specs.Evaluated.{IsFacts}
use Rattle.cedar_json_reader.proofs.evaluation.evaluate.Goals as goal

pub returns-clause-evaluated : goal.returns-clause-evaluated
returns-clause-evaluated g c = (
  c.new.ensures.name,
  subst (λ (f : StoredEntity). IsFacts (extensions_read c.args.evaluator.now) (calls_in c.args.evaluator.now) (limit_of c.args.evaluator.now) (stated_view c.args.stated) f) (sym c.new.ensures.view)
      (record { attributes = c.in_ok-attrs.ensures.answered; tags = c.in_ok-tags.ensures.answered; parents = c.in_ok-parents.ensures.among }),
)
