use Rattle.std.proofs.Common.{◌∙◌}
use Rattle.cedar_authorizer.specs.responses.Concrete.{id_texts}
use Rattle.cedar_authorizer.specs.responses.Readers.{entry_ids}
use Rattle.cedar_authorizer.proofs.Naming.{named_none, named_more}
use Rattle.cedar_authorizer.proofs.responses.partial_response.concrete.all_forbids.Goals as goal

pub residuals-init : goal.residuals-init
residuals-init c =
    named_none (id_texts c.args.forbids.entries) c.args.residual_forbids.now.entries c.in_ok-ids.ids.keys _ c.in_ok-ids.ensures (c.into_iter-id-iterator.ensures.into_iter_gives ∙ c.keys-id-items.ensures.rest)

pub residuals-preserved : goal.residuals-preserved
residuals-preserved c =
    named_more (id_texts c.args.forbids.entries) (entry_ids c.args.residual_forbids.now.entries) c.residuals.ids.keys c.insert.new.self.keys c.residuals.id-iterator c.next.new.self c.in-Some.id.now c.in_ok-clone.field-0 c.in-Some.ensures.steps c.in_ok-clone.ensures.cases (λ q. c.in_ok-insert.ensures.updates.0 q) c.residuals.invariant
