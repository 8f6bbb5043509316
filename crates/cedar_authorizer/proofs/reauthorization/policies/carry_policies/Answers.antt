use Rattle.std.proofs.Common.{List, ◌++◌, Some, Ok, ap, ◌∙◌, sym, subst}
use Rattle.std.proofs.lemmas.List.Elements.{All-nil, All-same}
use Rattle.cedar_layers.specs.declared.policies.policy.Policy.{Policy}
use Rattle.cedar_authorizer.specs.declared.responses.partial_response.policies.ReportedPolicies.{ReportedPolicies}
use Rattle.cedar_authorizer.specs.responses.Rows.{located_view}
use Rattle.cedar_authorizer.specs.responses.Readers.{left, AreAmong, TakesPolicy}
use Rattle.cedar_authorizer.specs.reauthorization.Policies.{IsCarriedFrom}
use Rattle.cedar_authorizer.proofs.Carrying.{decided, carried_on, one_more, one_from, no_more}
use Rattle.cedar_authorizer.proofs.reauthorization.policies.carry_policies.Goals as goal

pub policies-init : goal.policies-init
policies-init c =
    let rows = located_view c.args.response.now in
    let none = c.new-policies.ensures.items in
    let gives = c.into_iter-policy-iterator.ensures.into_iter_gives in (
      ap (λ (ps : List Policy). decided ps ++ carried_on (left c.into_iter-policy-iterator.result)) none
          ∙ ap (λ (s : ReportedPolicies). carried_on (left s)) gives ∙ c.all_residuals-policy-items.ensures.policies,
      All-same (IsCarriedFrom rows) _ _ none (All-nil (IsCarriedFrom rows)),
      subst (λ (s : ReportedPolicies). AreAmong (left s) rows) (sym gives) c.all_residuals-policy-items.ensures.located,
    )

pub policies-preserved : goal.policies-preserved
policies-preserved c =
    let rows = located_view c.args.response.now in
    let items = c.policies.policies.items in
    let policy = c.in_ok-policy.field-0 in
    let old = left c.policies.policy-iterator in
    let new = left c.next.new.self in
    let taken : TakesPolicy old (Some (Ok policy)) new = subst (λ r. TakesPolicy old (Some r) new) c.in_ok-policy.was c.in-Some.ensures.steps in
    let from = one_from rows items policy old new taken c.policies.invariant.2 c.policies.invariant.1 in (
      ap (λ (ps : List Policy). decided ps ++ carried_on new) c.in_ok-push.ensures.items
          ∙ one_more items policy old new _ taken c.policies.invariant.0,
      All-same (IsCarriedFrom rows) _ _ c.in_ok-push.ensures.items from.0,
      from.1,
    )

pub returns-clause-policies : goal.returns-clause-policies
returns-clause-policies c =
    no_more (decided c.policies.policies.items) (left c.policies.policy-iterator) _ c.in-None.ensures.steps.0
    c.policies.invariant.0

pub returns-clause-places : goal.returns-clause-places
returns-clause-places c = c.policies.invariant.1
