-- One policy after another.
use Rattle.std.proofs.Common.{◌≡◌, suc, ◌+◌, ◌∷◌, ◌++◌, map, flat_map, drop, sym, ap, ◌∙◌, arith, List}
use Rattle.std.proofs.Math.Seq.{drop-cons}
use Rattle.std.proofs.lemmas.List.{drop_all}
use Rattle.cedar_explain.specs.declared.requests.ExplainedPolicy.{ExplainedPolicy}
use Rattle.cedar_explain_printer.specs.Lines.{Line, line_view, policy_lines}
use Rattle.cedar_explain_printer.proofs.Listing.{goes_on, no_more}
use Rattle.cedar_explain_printer.proofs.policies.add_policies.Goals as goal

pub policies-preserved : goal.policies-preserved
policies-preserved c =
    let f : ExplainedPolicy → List Line = policy_lines c.args.has_values in
    let items = c.args.explained.now in
    let i = c.policies.policy-index in
    let item = c.policy-item.result in
    let more : suc i ≡ i + 1 = omega arith in
    let next : drop i items ≡ item ∷ drop (i + 1) items =
    drop-cons items i item c.policies-test.true ∙ ap (λ p. p ∷ drop (suc i) items) (sym c.policy-item.is)
    ∙ ap (λ j. item ∷ drop j items) more in
    goes_on _ _ _ (f item) (flat_map f (drop (i + 1) items)) _ c.in_ok-add_policy.ensures
    (ap (λ (xs : List ExplainedPolicy). flat_map f xs) next) c.policies.invariant

pub returns : goal.returns
returns c =
    let f : ExplainedPolicy → List Line = policy_lines c.args.has_values in
    no_more _ _ _
    (ap (λ (xs : List ExplainedPolicy). flat_map f xs) (drop_all c.policies.policy-index c.args.explained.now c.policies-test.false))
    c.policies.invariant
