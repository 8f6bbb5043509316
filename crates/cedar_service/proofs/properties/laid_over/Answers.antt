use Rattle.cedar_extensions.specs.Extensions.{extensions_view, calls_of}
use Rattle.cedar_endpoints.specs.Asked.{evaluation_view}
use Rattle.cedar_service.specs.Brought.{laid_or}
use Rattle.cedar_service.specs.Faults.{IsToldAs}
use Rattle.cedar_service.specs.Properties.{IsAskedOver, IsAskedWithAction, IsActionUnlaid, AreUnlaid, AreWrongOfNamed}
use Rattle.cedar_service.specs.Properties.{of_subject, of_others}
use Rattle.cedar_service.specs.Ways.{ways_view}
use Rattle.cedar_service.proofs.Composed.{of_ok, of_err, because}
use Rattle.cedar_service.proofs.properties.laid_over.Goals as goal
use Rattle.std.proofs.Common.{codes}

pub returns-in-Ok-clause-laid : goal.returns-in-Ok-clause-laid
returns-in-Ok-clause-laid g c =
    let x = c.args.extensions.now in
    let s = c.args.stored.now in
    let w = ways_view c.args.ways in
    let q = evaluation_view c.args.question.now in
    let t = laid_or s c.in-Ok.laid in
    of_ok (λ o. IsAskedWithAction (extensions_view x) (calls_of x) w t q (laid_or s o)) (λ o. IsAskedOver (extensions_view x) (calls_of x) w s q (laid_or s o))
    (λ o h. record { with_subject = t; subject = c.in-Ok.ensures.laid; others = h }) c.with_action.result
    c.with_action.ensures.laid

pub returns-in-Ok-clause-refused : goal.returns-in-Ok-clause-refused
returns-in-Ok-clause-refused g c =
    let x = c.args.extensions.now in
    let s = c.args.stored.now in
    let w = ways_view c.args.ways in
    let q = evaluation_view c.args.question.now in
    let t = laid_or s c.in-Ok.laid in
    of_err (IsToldAs (IsActionUnlaid (extensions_view x) (calls_of x) w t q)) (IsToldAs (AreUnlaid (extensions_view x) (calls_of x) w s q))
    (because (IsActionUnlaid (extensions_view x) (calls_of x) w t q) (AreUnlaid (extensions_view x) (calls_of x) w s q) (λ u h. of_others t c.in-Ok.ensures.laid h))
    c.with_action.result c.with_action.ensures.refused

pub returns-in-Err-clause-refused : goal.returns-in-Err-clause-refused
returns-in-Err-clause-refused g c =
    let x = c.args.extensions.now in
    let s = c.args.stored.now in
    let w = ways_view c.args.ways in
    let q = evaluation_view c.args.question.now in
    because (AreWrongOfNamed (extensions_view x) (calls_of x) w.properties s q.subject (codes "$.subject.type") q.properties.subject
    (codes "$.subject.properties")) (AreUnlaid (extensions_view x) (calls_of x) w s q) (λ u h. of_subject h) c.in-Err.refusal c.in-Err.ensures.refused
