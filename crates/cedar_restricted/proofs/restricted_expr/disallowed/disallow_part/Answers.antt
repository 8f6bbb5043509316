use Rattle.cedar_restricted.specs.Refusals.{itself}
use Rattle.cedar_restricted.proofs.restricted_expr.disallowed.disallow_part.Goals as goal

pub returns-clause-whole : goal.returns-clause-whole
returns-clause-whole c = itself c.args.part.now c.requires
