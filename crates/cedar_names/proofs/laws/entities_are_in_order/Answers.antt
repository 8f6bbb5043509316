use Rattle.std.proofs.Common.{sym}
use Rattle.cedar_names.specs.contracts.names.EntityUIDOrd.TheImpl.Laws.{total-law, matches_eq-law}
use Rattle.cedar_names.proofs.laws.entities_are_in_order.Goals as goal

pub returns-clause-total : goal.returns-clause-total
returns-clause-total c = total-law

pub returns-clause-ties : goal.returns-clause-ties
returns-clause-ties c = λ a b. sym (matches_eq-law a b)
