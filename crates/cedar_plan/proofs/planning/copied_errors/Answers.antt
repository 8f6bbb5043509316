use Rattle.std.proofs.lemmas.Result.{MatchResult-weaker}
use Rattle.cedar_authorizer.proofs.Copies.{errors_view-copied}
use Rattle.cedar_plan.proofs.planning.copied_errors.Goals as goal

pub returns : goal.returns
returns c =
    MatchResult-weaker c.clone.result c.clone.ensures.cases (λ es h. errors_view-copied c.args.errors.now.items es.items h.0) (λ _ _. tt)
