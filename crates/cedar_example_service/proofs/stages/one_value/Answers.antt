use Rattle.std.proofs.Common.{refl}
use Rattle.cedar_example_service.proofs.Decided.{one_value-put}
use Rattle.cedar_example_service.proofs.stages.one_value.Goals as goal

pub returns : goal.returns
returns c =
    one_value-put _ (λ x y. refl) _ _ c.args.name c.args.value c.new-values.ensures.empty
    c.in_ok-insert.ensures.updates.1 c.in_ok-insert.ensures.updates.3
