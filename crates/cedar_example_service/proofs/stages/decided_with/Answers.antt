use Rattle.std.proofs.Common.{sym, subst, [], ◌∷◌}
use Rattle.cedar_policy_core.specs.Ast.Names.{uid_name}
use Rattle.cedar_policy_core.specs.Extensions.StandardFunctions.{standard_answers}
use Rattle.cedar_policy_core.specs.Extensions.Extensions.{extensions_view, calls_of}
use Rattle.cedar_policy_core.specs.Ast.PolicySets.{policies_view}
use Rattle.cedar_policy_core.specs.Entities.Stores.{store_view}
use Rattle.cedar_policy_core.specs.Ast.Requests.{request_view}
use Rattle.cedar_policy_core.specs.Ast.Substitutions.{values_for}
use Rattle.cedar_policy_core.specs.Authorizer.Configured.{configuration, asked, extensions_of, limit_of, mode_of, resolution_of}
use Rattle.cedar_policy_core.specs.Authorizer.Owed.{NothingIsOwedOf}
use Rattle.cedar_policy_core.specs.Authorizer.Responding.{considered}
use Rattle.cedar_example_service.specs.Stages.{IsDecidedIn, IsDecidedFor}
use Rattle.cedar_example_service.proofs.Decided.{a_step, decided_for_owner, each_decision}
use Rattle.cedar_example_service.proofs.stages.decided_with.Goals as goal

pub returns : goal.returns
returns c =
    let authorizer = c.new-authorizer.result in
    let extensions = extensions_of authorizer in
    let own = sym c.new-authorizer.ensures.extensions in
    let owed : NothingIsOwedOf (calls_of extensions) (extensions_view extensions) standard_answers =
    subst (λ x. NothingIsOwedOf (calls_of x) (extensions_view x) standard_answers) own
    (c.nothing_is_owed_of_functions.ensures.standard c.all_available-extensions.ensures.extensions
    c.all_available-extensions.ensures.standard) in
    let request = request_view c.in_ok-request.request in
    let store = store_view c.new-none.result in
    let policies = policies_view c.args.policies.now in
    let values = values_for c.args.values.now.entries in
    each_decision
    (IsDecidedIn (configuration authorizer) (asked authorizer c.in_ok-request.request c.new-none.result)
    (considered c.args.policies.now) (a_step (resolution_of authorizer) values store ∷ []))
    (IsDecidedFor policies values)
    (λ d. decided_for_owner (mode_of authorizer) (resolution_of authorizer) (extensions_view extensions) (calls_of extensions) owed (limit_of authorizer) d
    request store policies values (uid_name c.args.action.now) (uid_name c.args.resource.now)
    c.in_ok-request.ensures c.new-none.ensures)
    c.decided_after-decision.result c.decided_after-decision.ensures
