use Rattle.std.proofs.Common.{IfOk, subst}
use Rattle.std.specs.Prelude.{IfErr}
use Rattle.cedar_expressions.specs.View.{view}
use Rattle.cedar_extensions.specs.Extensions.{extensions_view, calls_of}
use Rattle.cedar_requests.specs.Requests.{context_given}
use Rattle.cedar_response_json_reader.specs.Contexts.{IsRecordOf, IsWhyNone}
use Rattle.cedar_response_json_reader.proofs.contexts.restricted.Goals as goal

pub returns-in-Ok-clause-said : goal.returns-in-Ok-clause-said
returns-in-Ok-clause-said g c =
    let x = c.args.extensions.now in
    subst (λ e. IfOk c.evaluated.result (λ k. IsRecordOf (extensions_view x) (calls_of x) c.args.limit (view e) (context_given k)))
    c.in-Ok.ensures.expr c.evaluated.ensures.said

pub returns-in-Ok-clause-refused : goal.returns-in-Ok-clause-refused
returns-in-Ok-clause-refused g c =
    let x = c.args.extensions.now in
    subst (λ e. IfErr c.evaluated.result (IsWhyNone (extensions_view x) (calls_of x) c.args.limit (view e)))
    c.in-Ok.ensures.expr c.evaluated.ensures.refused
