use Rattle.std.proofs.Common.{sym, subst}
use Rattle.cedar_endpoints.specs.declared.bounds.Excess.{Excess}
use Rattle.cedar_service.specs.Brought.{IsTooMuch, IsUnbroughtSo}
use Rattle.cedar_service.proofs.brought.refuse_excess.Goals as goal

pub returns-in-Entities : goal.returns-in-Entities
returns-in-Entities c =
    subst (λ (x : Excess). IsUnbroughtSo (λ _. ⊥) (IsTooMuch x) c.too_large.result) (sym c.in-Entities.is)
    c.too_large.ensures

pub returns-in-Parents : goal.returns-in-Parents
returns-in-Parents c =
    subst (λ (x : Excess). IsUnbroughtSo (λ _. ⊥) (IsTooMuch x) c.too_large-in-Parents.result) (sym c.in-Parents.is)
    c.too_large-in-Parents.ensures
