use Rattle.std.proofs.Common.{Ok, Err, subst}
use Rattle.cedar_expressions.specs.View.{view}
use Rattle.cedar_extensions.specs.Extensions.{extensions_view, calls_of}
use Rattle.cedar_requests.specs.Creations.{IsCreated}
use Rattle.cedar_restricted.specs.Views.{restricted_term}
use Rattle.cedar_response_json_reader.proofs.Contexted.{not_created}
use Rattle.cedar_response_json_reader.proofs.contexts.evaluated.Goals as goal

pub as_written-requires : goal.as_written-requires
as_written-requires g c =
    let x = c.args.extensions.now in
    subst (λ e. IsCreated (extensions_view x) (calls_of x) c.args.limit (view e) (Ok c.in-Ok.context)) c.as_borrowed.ensures
    c.in-Ok.ensures.created

pub returns-in-Err-clause-refused : goal.returns-in-Err-clause-refused
returns-in-Err-clause-refused g c =
    let x = c.args.extensions.now in
    not_created (extensions_view x) (calls_of x) c.args.limit (restricted_term c.args.expr) c.in-Err.error
    (subst (λ e. IsCreated (extensions_view x) (calls_of x) c.args.limit (view e) (Err c.in-Err.error)) c.as_borrowed.ensures
    c.in-Err.ensures.created)
    c.refusal.result c.refusal.ensures
