use Rattle.cedar_requests.proofs.Copies.{whats_at-copied}
use Rattle.cedar_service.proofs.properties.copied.Goals as goal

pub returns-in-Ok-clause-values : goal.returns-in-Ok-clause-values
returns-in-Ok-clause-values c =
    whats_at-copied c.args.values.now.entries c.in-Ok.copy.entries c.in-Ok.ensures.cases
