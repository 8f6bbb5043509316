use Rattle.std.proofs.Common.{drop}
use Rattle.cedar_sql.specs.Terms.{sql_term}
use Rattle.cedar_sql_plan.proofs.Adding.{Chain}
use Rattle.cedar_sql_plan.proofs.effects.counts.Given as goal

-- what the chain is worth, and what is left, is what all are
abbrev pub invariant-policies : goal.invariant-policies
invariant-policies l =
    Chain l.columns l.errs_count l.fn.policies (drop l.policy-index l.fn.policies) (sql_term l.chain)
