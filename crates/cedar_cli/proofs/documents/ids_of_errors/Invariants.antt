use Rattle.std.proofs.Common.{[], drop}
use Rattle.cedar_authorizer.specs.responses.Responses.{has_id, errors_view}
use Rattle.cedar_cli.specs.Named.{erred_ids}
use Rattle.cedar_cli.proofs.Naming.{NamedWith, among}
use Rattle.cedar_cli.proofs.documents.ids_of_errors.Given as goal

-- those that are left to be named, and those that are
abbrev pub invariant-errors : goal.invariant-errors
invariant-errors l =
    NamedWith (erred_ids (errors_view (drop l.error-index l.errors))) (has_id l.ids)
    (erred_ids (errors_view l.fn.errors)) (λ t. among t [])
