use Rattle.std.proofs.Common.{◌≡◌, sym, ap, ◌∙◌, map, string_bytes}
use Rattle.cedar_layers.specs.Policies.{policy_view, policy_id_text}
use Rattle.cedar_layers.specs.PolicySets.{policies_left, policies_view}
use Rattle.cedar_expectations.specs.Named.{policy_name}
use Rattle.cedar_expectations.proofs.Texts.{of_ok}
use Rattle.cedar_expectations.specs.Named.{name_under}
use Rattle.cedar_expectations.proofs.Texts.{name_here, name_not_here}
use Rattle.cedar_expectations.proofs.names.name_under.Goals as goal

pub returns-then-is_of : goal.returns-then-is_of
returns-then-is_of c =
    let id = policy_id_text c.args.id.now in
    let p = policy_view c.in-Some.policy.now in
    of_ok (λ s. string_bytes s ≡ policy_name p) (λ s. string_bytes s ≡ name_under id (policies_view c.args.policies.now))
    (λ s h. h ∙ sym (name_here id p (map policy_view (policies_left c.policies.policy-iterator))
    (map policy_view (policies_left c.next.new.self)) (ap (λ ps. map policy_view ps) c.in-Some.ensures.steps)
    (sym c.is_of.ensures ∙ c.if-is_of.true)) ∙ c.policies.invariant)
    c.name_of.result c.name_of.ensures

pub policies-preserved : goal.policies-preserved
policies-preserved c =
    let id = policy_id_text c.args.id.now in
    let p = policy_view c.in-Some.policy.now in
    sym (name_not_here id p (map policy_view (policies_left c.policies.policy-iterator))
    (map policy_view (policies_left c.next.new.self)) (ap (λ ps. map policy_view ps) c.in-Some.ensures.steps)
    (sym c.is_of.ensures ∙ c.if-is_of.false)) ∙ c.policies.invariant

pub returns : goal.returns
returns c =
    let id = policy_id_text c.args.id.now in
    of_ok (λ s. string_bytes s ≡ id) (λ s. string_bytes s ≡ name_under id (policies_view c.args.policies.now))
    (λ s h. h ∙ ap (λ ps. name_under id (map policy_view ps)) (sym c.in-None.ensures.steps.0) ∙ c.policies.invariant)
    c.id_text.result c.id_text.ensures
