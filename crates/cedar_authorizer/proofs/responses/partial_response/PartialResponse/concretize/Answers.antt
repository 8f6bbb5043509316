use Rattle.std.proofs.Common.{ap, subst, sym, ◌∙◌}
use Rattle.cedar_model.proofs.Concrete.{given_is_concrete}
use Rattle.cedar_authorizer.specs.responses.Promises.{IsDecidedByPolicies}
use Rattle.cedar_authorizer.specs.responses.Responses.{errors_view}
use Rattle.cedar_authorizer.specs.responses.Rows.{mode_of, rows_view}
use Rattle.cedar_authorizer.proofs.Concretes.{of_ok, concrete, concrete_at, decided_by_policies}
use Rattle.cedar_authorizer.proofs.responses.partial_response.PartialResponse.concretize.Goals as goal

pub returns-clause-response : goal.returns-clause-response
returns-clause-response c =
    concrete c.args.self _ _ _ _ _ c.may_forbid-may_forbid.ensures c.concrete_decision-decision.ensures (of_ok _ _ _ c.in_ok-diagnostics.ensures.reason c.reasons-reason.ensures) (of_ok _ _ _ c.in_ok-diagnostics.ensures.errors c.all_errors-errors.ensures.errors)

pub returns-clause-places : goal.returns-clause-places
returns-clause-places c = concrete_at c.args.self _ _ (of_ok _ _ _ c.in_ok-diagnostics.ensures.errors c.all_errors-errors.ensures.places)

pub returns-clause-given : goal.returns-clause-given
returns-clause-given c d h = ap (λ r. r.decided_as) (returns-clause-response c) ∙ given_is_concrete (mode_of c.args.self) (rows_view c.args.self) d h

pub returns-clause-decided : goal.returns-clause-decided
returns-clause-decided c =
    subst (IsDecidedByPolicies (rows_view c.args.self)) (sym (returns-clause-response c)) (decided_by_policies (mode_of c.args.self) (rows_view c.args.self) (errors_view c.args.self.errors.items))
