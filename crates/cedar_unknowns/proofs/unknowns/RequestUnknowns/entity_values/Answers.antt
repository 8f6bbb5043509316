use Rattle.std.proofs.Common.{List, IfOk, subst}
use Rattle.cedar_requests.specs.Substitutions.{values_for}
use Rattle.cedar_unknowns.specs.Occurrences.{Asked}
use Rattle.cedar_unknowns.specs.Entities.{entities_asked}
use Rattle.cedar_unknowns.specs.Themselves.{IsCompletedByThem}
use Rattle.cedar_unknowns.proofs.unknowns.RequestUnknowns.entity_values.Goals as goal

pub returns-clause-completed : goal.returns-clause-completed
returns-clause-completed c =
    let claim : List Asked → Type 0 = λ as_found. IfOk c.values_of.result (λ m. IsCompletedByThem (entities_asked as_found) (values_for m.entries)) in
    subst claim c.in_ok-found.ensures c.values_of.ensures.completed
