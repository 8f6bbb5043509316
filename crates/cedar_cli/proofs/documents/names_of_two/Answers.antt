use Rattle.std.proofs.Common.{◌++◌, ◌||◌, map, ap, ◌∙◌}
use Rattle.cedar_model.specs.Terms.{Text}
use Rattle.cedar_layers.specs.Policies.{policy_view}
use Rattle.cedar_layers.specs.PolicySets.{policies_left}
use Rattle.cedar_authorizer.specs.responses.Responses.{has_id}
use Rattle.cedar_json_writer.specs.Texts.{object_of}
use Rattle.cedar_json_writer.specs.Trees.{members_seen}
use Rattle.cedar_json_writer.proofs.Listed.{no_more}
use Rattle.cedar_json_writer.proofs.Trees.{view_object}
use Rattle.cedar_cli.specs.Documents.{name_where, names_where}
use Rattle.cedar_cli.proofs.Naming.{goes_on}
use Rattle.cedar_cli.proofs.documents.names_of_two.Goals as goal

pub policies-preserved : goal.policies-preserved
policies-preserved c =
    let is : Text → _ = λ t. has_id c.args.erred.now t || has_id c.args.some.now t in
    let p = policy_view c.in-Some.policy.now in
    let rest = map policy_view (policies_left c.next.new.self) in
    goes_on (members_seen c.policies.names.items) _ _ (name_where is p) (names_where is rest) _
    c.in_ok-put_name_of.ensures (ap (λ ps. names_where is (map policy_view ps)) c.in-Some.ensures.steps)
    c.policies.invariant

pub returns : goal.returns
returns c =
    let is : Text → _ = λ t. has_id c.args.erred.now t || has_id c.args.some.now t in
    view_object c.policies.names
    ∙ ap object_of (no_more _ _ _ (ap (λ ps. names_where is (map policy_view ps)) c.in-None.ensures.steps.0)
    c.policies.invariant)
