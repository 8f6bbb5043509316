use Rattle.std.proofs.Common.{ap, sym, ◌∙◌}
use Rattle.cedar_requests.specs.Substitutions.{values_for}
use Rattle.cedar_cli.specs.Steps.{with_values}
use Rattle.cedar_cli.proofs.steps.put_each.Goals as goal

pub pairs-preserved : goal.pairs-preserved
pairs-preserved c =
    ap (with_values c.next.new.self) c.in_ok-put_value.ensures
    ∙ ap (λ es. with_values es (values_for c.pairs.values.entries)) (sym c.in-Some.ensures.steps) ∙ c.pairs.invariant

pub returns : goal.returns
returns c =
    sym (ap (λ es. with_values es (values_for c.pairs.values.entries)) c.in-None.ensures.steps.0) ∙ c.pairs.invariant
