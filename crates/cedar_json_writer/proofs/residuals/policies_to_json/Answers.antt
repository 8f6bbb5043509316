use Rattle.std.proofs.Common.{List, ap, ◌∙◌}
use Rattle.cedar_authorizer.specs.responses.Rows.{Located}
use Rattle.cedar_authorizer.specs.responses.Readers.{left}
use Rattle.cedar_json_writer.proofs.Trees.{view_object}
use Rattle.cedar_json_writer.specs.Texts.{object_of}
use Rattle.cedar_json_writer.specs.Reading.{policy_members}
use Rattle.cedar_json_writer.proofs.Listed.{no_more}
use Rattle.cedar_json_writer.proofs.Carried.{carried_on, residual_added}
use Rattle.cedar_json_writer.proofs.residuals.policies_to_json.Goals as goal

pub policies-preserved : goal.policies-preserved
policies-preserved c =
    let (l, is, on) = c.in-Some.ensures.steps in
    residual_added c.in-Some.policy l (left c.policies.policy-iterator) (left c.next.new.self) _ _ _ is on c.in_ok-put_next_policy.ensures c.policies.invariant

pub returns : goal.returns
returns c =
    view_object c.policies.members
    ∙ ap object_of (no_more _ _ _ (ap (λ (ls : List Located). policy_members (carried_on ls)) c.in-None.ensures.steps.0) c.policies.invariant)
