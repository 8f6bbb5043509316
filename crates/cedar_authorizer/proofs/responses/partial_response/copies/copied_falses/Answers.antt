use Rattle.std.proofs.Common.{None}
use Rattle.std.proofs.lemmas.Result.{MatchResult-weaker}
use Rattle.cedar_model.specs.Responses.{reported_false}
use Rattle.cedar_layers.specs.Policies.{annotations_view}
use Rattle.cedar_authorizer.specs.responses.Rows.{is_error, located, located_false}
use Rattle.cedar_authorizer.proofs.Copies.{zip_map}
use Rattle.cedar_authorizer.proofs.responses.partial_response.copies.copied_falses.Goals as goal

pub returns : goal.returns
returns c =
    MatchResult-weaker c.clone.result c.clone.ensures.cases (λ m h effect. zip_map (located_false effect) _ c.args.entries.now.entries m.entries h
    (λ p q r. λ j. located effect (r.0 j) (annotations_view (r.1.1 j)) (reported_false (is_error (r.1.0 j))) None)) (λ _ _. tt)
