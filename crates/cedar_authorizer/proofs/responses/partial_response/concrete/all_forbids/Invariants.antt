use Rattle.cedar_authorizer.proofs.Naming.{AreNamedSoFar}
use Rattle.cedar_authorizer.specs.responses.Concrete.{id_texts}
use Rattle.cedar_authorizer.specs.responses.Readers.{entry_ids}
use Rattle.cedar_authorizer.proofs.responses.partial_response.concrete.all_forbids.Given as goal

-- the ids so far and those that are still to come
abbrev pub invariant-residuals : goal.invariant-residuals
invariant-residuals l = AreNamedSoFar (id_texts l.fn.forbids.entries) (entry_ids l.fn.residual_forbids.entries) l.ids.keys l.id-iterator
