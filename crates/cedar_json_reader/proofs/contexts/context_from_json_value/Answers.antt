use Rattle.std.proofs.Common.{◌≡◌, Ok, Err, ap, subst}
use Rattle.json.specs.Find.{as_object}
use Rattle.json.specs.Value.{value_view}
use Rattle.cedar_expressions.specs.View.{view}
use Rattle.cedar_model.specs.Terms.{Term}
use Rattle.cedar_extensions.specs.Extensions.{extensions_view, calls_of}
use Rattle.cedar_requests.specs.Creations.{IsCreated}
use Rattle.cedar_restricted.specs.Views.{restricted_term, borrowed_term}
use Rattle.cedar_json_reader.specs.SaidContexts.{context_said}
use Rattle.cedar_json_reader.proofs.ContextLemmas.{in_record, context_made, context_uncreated}
use Rattle.cedar_json_reader.proofs.contexts.context_from_json_value.Goals as goal

pub returns-in-Ok-from_expr-clause-made : goal.returns-in-Ok-from_expr-clause-made
returns-in-Ok-from_expr-clause-made g c =
    let x = extensions_view c.args.extensions.now in
    let calls = calls_of c.args.extensions.now in
    let same : borrowed_term c.as_borrowed.result ≡ restricted_term c.in-Ok.record = ap view c.as_borrowed.ensures in
    context_made x calls c.args.limit (context_said (value_view c.args.value.now)) (restricted_term c.in-Ok.record) c.in-Ok-from_expr.context c.in-Ok.ensures.said
    (subst (λ (t : Term). IsCreated x calls c.args.limit t (Ok c.in-Ok-from_expr.context)) same c.in-Ok-from_expr.ensures.created)

pub returns-in-Ok-clause-refused : goal.returns-in-Ok-clause-refused
returns-in-Ok-clause-refused g c =
    let x = extensions_view c.args.extensions.now in
    let calls = calls_of c.args.extensions.now in
    let t = restricted_term c.in-Ok.record in
    let same : borrowed_term c.as_borrowed.result ≡ t = ap view c.as_borrowed.ensures in
    context_uncreated x calls c.args.limit (context_said (value_view c.args.value.now)) t c.in-Err-from_expr.error c.refuse_context.result c.in-Ok.ensures.said
    (in_record (as_object (value_view c.args.value.now)) t c.in-Ok.ensures.said)
    (subst (λ (u : Term). IsCreated x calls c.args.limit u (Err c.in-Err-from_expr.error)) same c.in-Err-from_expr.ensures.created) c.refuse_context.ensures
