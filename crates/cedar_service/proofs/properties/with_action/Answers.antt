use Rattle.cedar_extensions.specs.Extensions.{extensions_view, calls_of}
use Rattle.std.proofs.Common.{codes}
use Rattle.cedar_endpoints.specs.Asked.{evaluation_view}
use Rattle.cedar_service.specs.Brought.{laid_or}
use Rattle.cedar_service.specs.Faults.{IsToldAs}
use Rattle.cedar_service.specs.Properties.{IsNamedAs, IsActionNamed, IsWithProperties, AreWrongProperties, AreWrongOfNamed}
use Rattle.cedar_service.specs.Properties.{IsAskedWithAction, IsActionUnlaid, of_action, of_resource}
use Rattle.cedar_service.specs.Ways.{ways_view}
use Rattle.cedar_service.proofs.Composed.{of_ok, of_err, because}
use Rattle.cedar_service.proofs.properties.with_action.Goals as goal

pub returns-in-Ok-clause-laid : goal.returns-in-Ok-clause-laid
returns-in-Ok-clause-laid g c =
    let x = c.args.extensions.now in
    let s = c.args.stored.now in
    let w = ways_view c.args.ways in
    let q = evaluation_view c.args.question.now in
    let b = laid_or s c.args.laid in
    let t = laid_or s c.in-Ok.laid in
    of_ok (λ o. IsWithProperties (extensions_view x) (calls_of x) w.properties t (IsNamedAs q.resource) q.properties.resource (laid_or s o))
    (λ o. IsAskedWithAction (extensions_view x) (calls_of x) w b q (laid_or s o))
    (λ o h. record { with_action = t; action = c.in-Ok.ensures.laid; resource = h }) c.with_named.result
    c.with_named.ensures.laid

pub returns-in-Ok-clause-refused : goal.returns-in-Ok-clause-refused
returns-in-Ok-clause-refused g c =
    let x = c.args.extensions.now in
    let s = c.args.stored.now in
    let w = ways_view c.args.ways in
    let q = evaluation_view c.args.question.now in
    let b = laid_or s c.args.laid in
    let t = laid_or s c.in-Ok.laid in
    let Wrong = AreWrongOfNamed (extensions_view x) (calls_of x) w.properties t q.resource (codes "$.resource.type") q.properties.resource
    (codes "$.resource.properties") in
    of_err (IsToldAs Wrong) (IsToldAs (IsActionUnlaid (extensions_view x) (calls_of x) w b q))
    (because Wrong (IsActionUnlaid (extensions_view x) (calls_of x) w b q) (λ u h. of_resource t c.in-Ok.ensures.laid h))
    c.with_named.result c.with_named.ensures.refused

pub returns-in-Err-clause-refused : goal.returns-in-Err-clause-refused
returns-in-Err-clause-refused g c =
    let x = c.args.extensions.now in
    let s = c.args.stored.now in
    let w = ways_view c.args.ways in
    let q = evaluation_view c.args.question.now in
    let b = laid_or s c.args.laid in
    because (AreWrongProperties (extensions_view x) (calls_of x) w.properties b (IsActionNamed w.action_type q.action) q.properties.action (codes "$.action.properties"))
    (IsActionUnlaid (extensions_view x) (calls_of x) w b q) (λ u h. of_action h) c.in-Err.refusal c.in-Err.ensures.refused
