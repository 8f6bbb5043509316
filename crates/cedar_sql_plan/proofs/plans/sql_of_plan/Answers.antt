use Rattle.std.proofs.Common.{IfOk, subst}
use Rattle.cedar_sql.specs.Terms.{sql_term}
use Rattle.cedar_sql_plan.specs.Meaning.{IsAllowedTerm, IsCandidateTerm, ShowsAllowed, LeavesOutDenied}
use Rattle.cedar_sql_plan.proofs.plans.sql_of_plan.Goals as goal

pub returns-clause-allowed : goal.returns-clause-allowed
returns-clause-allowed c =
    subst (λ r. IfOk r (λ t. IsAllowedTerm c.args.plan.now c.args.columns.now (sql_term t))) c.in_ok-allowed.ensures.first
    c.allowed_term-allowed.ensures.allowed

pub returns-clause-candidates : goal.returns-clause-candidates
returns-clause-candidates c =
    subst (λ r. IfOk r (λ t. IsCandidateTerm c.args.plan.now c.args.columns.now (sql_term t))) c.in_ok-allowed.ensures.second
    c.candidates_term-candidates.ensures.candidates

pub returns-clause-shown : goal.returns-clause-shown
returns-clause-shown c =
    subst (λ r. IfOk r (λ t. ShowsAllowed c.args.plan.now c.args.columns.now (sql_term t))) c.in_ok-allowed.ensures.first
    c.allowed_term-allowed.ensures.shown

pub returns-clause-left_out : goal.returns-clause-left_out
returns-clause-left_out c =
    subst (λ r. IfOk r (λ t. LeavesOutDenied c.args.plan.now c.args.columns.now (sql_term t))) c.in_ok-allowed.ensures.second
    c.candidates_term-candidates.ensures.left_out
