use Rattle.std.proofs.Common.{◌++◌, sym, ap, ◌∙◌}
use Rattle.std.proofs.lemmas.List.{append-nil}
use Rattle.cedar_authorizer.specs.responses.Readers.{errored_ids, entry_ids}
use Rattle.cedar_authorizer.proofs.Naming.{errored_named}
use Rattle.cedar_authorizer.proofs.responses.partial_response.PartialResponse.definitely_errored.Goals as goal

pub returns : goal.returns
returns c =
    let r = c.args.self.now in
    (λ i. errored_ids (c.iter.ensures.rest i) ++ (errored_ids (c.iter-2.ensures.rest i)
    ++ (entry_ids ((c.iter-3.ensures.rest ∙ c.new.ensures) i) ++ entry_ids ((c.iter-4.ensures.rest ∙ c.new-2.ensures) i))))
    ∙ ap (λ ts. errored_ids r.false_permits.entries ++ ts) (append-nil (errored_ids r.false_forbids.entries))
    ∙ sym (errored_named r)
