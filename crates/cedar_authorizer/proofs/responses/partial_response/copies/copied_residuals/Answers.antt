use Rattle.std.proofs.Common.{Some}
use Rattle.std.proofs.lemmas.Result.{MatchResult-weaker}
use Rattle.cedar_model.specs.Responses.{reported_residual}
use Rattle.cedar_expressions.specs.View.{view}
use Rattle.cedar_layers.specs.Policies.{annotations_view}
use Rattle.cedar_authorizer.specs.responses.Rows.{located, located_residual}
use Rattle.cedar_authorizer.proofs.Copies.{zip_map}
use Rattle.cedar_authorizer.proofs.responses.partial_response.copies.copied_residuals.Goals as goal

pub returns : goal.returns
returns c =
    MatchResult-weaker c.clone.result c.clone.ensures.cases (λ m h effect. zip_map (located_residual effect) _ c.args.entries.now.entries m.entries h
    (λ p q r. λ j. located effect (r.0 j) (annotations_view (r.1.1 j)) (reported_residual (view (r.1.0 j))) (Some (r.1.0 j)))) (λ _ _. tt)
