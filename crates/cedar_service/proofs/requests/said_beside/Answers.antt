use Rattle.cedar_extensions.specs.Extensions.{extensions_view, calls_of}
use Rattle.std.proofs.Common.{sym, subst}
use Rattle.json.specs.Value.{value_view}
use Rattle.cedar_service.specs.Asked.{IsSaidBy, IsUnsaidBy, IsSaidBeside, IsUnsaidBeside}
use Rattle.cedar_service.specs.Documents.{IsTextFor, without_beside}
use Rattle.cedar_service.specs.Faults.{IsToldAs}
use Rattle.cedar_service.proofs.Composed.{of_ok, of_err, because}
use Rattle.cedar_service.proofs.requests.said_beside.Goals as goal

pub returns-in-Ok-clause-said : goal.returns-in-Ok-clause-said
returns-in-Ok-clause-said g c =
    let x = c.args.extensions.now in
    let j = value_view c.args.value in
    let u = c.as_str.result.now in
    let is : IsTextFor (without_beside j) u =
    subst (IsTextFor (without_beside j)) (sym c.as_str.ensures.value) c.in-Ok.ensures in
    of_ok (IsSaidBy (extensions_view x) (calls_of x) u) (IsSaidBeside (extensions_view x) (calls_of x) j)
    (λ r h. (u, is, h)) c.said_by-said.result c.said_by-said.ensures.said

pub returns-in-Ok-clause-refused : goal.returns-in-Ok-clause-refused
returns-in-Ok-clause-refused g c =
    let x = c.args.extensions.now in
    let j = value_view c.args.value in
    let u = c.as_str.result.now in
    let is : IsTextFor (without_beside j) u =
    subst (IsTextFor (without_beside j)) (sym c.as_str.ensures.value) c.in-Ok.ensures in
    let By = IsUnsaidBeside (extensions_view x) (calls_of x) j in
    of_err (IsToldAs (IsUnsaidBy (extensions_view x) (calls_of x) u)) (IsToldAs By) (because (IsUnsaidBy (extensions_view x) (calls_of x) u) By (λ s h. (u, is, h)))
    c.said_by-said.result c.said_by-said.ensures.refused
