use Rattle.std.proofs.Common.{◌++◌, sym, ◌∙◌}
use Rattle.cedar_authorizer.specs.responses.Readers.{errored_ids, entry_ids}
use Rattle.cedar_authorizer.proofs.Naming.{residuals_named}
use Rattle.cedar_authorizer.proofs.responses.partial_response.PartialResponse.nontrivial_residual_ids.Goals as goal

pub returns : goal.returns
unfolding errored_ids
returns c =
    (λ i. errored_ids ((c.iter.ensures.rest ∙ c.new.ensures) i) ++ (errored_ids ((c.iter-2.ensures.rest ∙ c.new-2.ensures) i)
    ++ (entry_ids (c.iter-3.ensures.rest i) ++ entry_ids (c.iter-4.ensures.rest i))))
    ∙ sym (residuals_named c.args.self.now)
