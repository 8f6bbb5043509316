use Rattle.std.proofs.Common.{sym, subst}
use Rattle.cedar_extensions.specs.Extensions.{extensions_view, calls_of}
use Rattle.cedar_response_json_reader.specs.Held.{IsRequestOf}
use Rattle.cedar_response_json_reader.proofs.whole.made.Goals as goal

pub returns-in-Ok-response_to-clause-read : goal.returns-in-Ok-response_to-clause-read
returns-in-Ok-response_to-clause-read g c =
    let x = c.args.extensions.now in
    let e = c.in-Ok-response_to.ensures in
    let q = subst (λ r. IsRequestOf (extensions_view x) (calls_of x) c.args.limit c.args.parts r) (sym e.request)
    c.in-Ok.ensures.request in
    record {
      mode_is = e.mode;
      principal_is = q.principal_is;
      action_is = q.action_is;
      resource_is = q.resource_is;
      context_is = q.context_is;
      held = e.held;
      errors_are = e.errors;
    }
