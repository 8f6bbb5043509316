use Rattle.std.proofs.Common.{◌∙◌, ap, map, Global}
use Rattle.std.specs.declared.rc.Rc.{Rc}
use Rattle.cedar_requests.specs.ContextValues.{ValueMap}
use Rattle.cedar_requests.specs.Walks.{value_attribute}
use Rattle.cedar_requests.proofs.Copies.{attributes-copied}
use Rattle.cedar_requests.proofs.context.values.unshare_values.Goals as goal

pub returns-in-Ok-clone-clause-values : goal.returns-in-Ok-clone-clause-values
returns-in-Ok-clone-clause-values c =
    attributes-copied c.as_ref.result.now.entries c.in-Ok-clone.copy.entries c.in-Ok-clone.ensures.cases
    ∙ ap (λ (m : ValueMap). map value_attribute m.entries) c.as_ref.ensures
    ∙ ap (λ (m : Rc ValueMap Global). map value_attribute m.value.entries) c.in-Err.ensures.err
