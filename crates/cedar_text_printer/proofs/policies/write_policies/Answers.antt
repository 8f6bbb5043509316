use Rattle.std.proofs.Common.{[], true, map, ap, ◌∙◌, rules}
use Rattle.std.proofs.Output.{has_written_append, has_written_of_eq, writes_in_calls_nil}
use Rattle.cedar_layers.specs.Policies.{policy_view}
use Rattle.cedar_layers.specs.PolicySets.{policies_left}
use Rattle.cedar_text_printer.specs.Policies.{policies_text}
use Rattle.cedar_text_printer.proofs.Loops.{policies_left_over, policies_end}
use Rattle.cedar_text_printer.proofs.policies.write_policies.Goals as goal

pub policies-init : goal.policies-init
policies-init g c = λ plain.
    let same = ap (λ it. policies_text true (map policy_view (policies_left it))) c.into_iter-policy-iterator.ensures.into_iter_gives ∙ ap (policies_text true) c.policies-policy-items.ensures.view in
    ([], record { wrote = writes_in_calls_nil _ _; plain = plain }, same)

pub policies-preserved : goal.policies-preserved
policies-preserved g c = λ plain.
    let (done, wrote, whole) = c.policies.invariant plain in
    let step = c.write_next.ensures wrote.plain (search rules) in
    (_, has_written_append _ _ _ _ _ _ wrote step, policies_left_over c.policies.is_first _ _ _ done _ (ap (λ ps. map policy_view ps) c.in-Some.ensures.steps) whole)

pub returns : goal.returns
returns g c = λ plain ok.
    let (done, wrote, whole) = c.policies.invariant plain in
    has_written_of_eq _ _ _ _ _ (policies_end c.policies.is_first _ done _ (ap (λ ps. map policy_view ps) c.in-None.ensures.steps.0) whole) wrote
