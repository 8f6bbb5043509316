use Rattle.std.proofs.lemmas.Result.{MatchResult-weaker}
use Rattle.cedar_authorizer.proofs.Copies.{errors_view-copied, error_places-copied}
use Rattle.cedar_authorizer.proofs.responses.partial_response.copies.copied_errors.Goals as goal

pub returns-clause-errors : goal.returns-clause-errors
returns-clause-errors c =
    MatchResult-weaker c.clone.result c.clone.ensures.cases (λ es h. errors_view-copied c.args.errors.now.items es.items h.0) (λ _ _. tt)

pub returns-clause-places : goal.returns-clause-places
returns-clause-places c =
    MatchResult-weaker c.clone.result c.clone.ensures.cases (λ es h. error_places-copied c.args.errors.now.items es.items h.0) (λ _ _. tt)
