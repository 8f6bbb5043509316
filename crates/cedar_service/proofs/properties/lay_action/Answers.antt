use Rattle.cedar_extensions.specs.Extensions.{extensions_view, calls_of}
use Rattle.std.proofs.Common.{codes}
use Rattle.json.specs.Value.{value_view}
use Rattle.cedar_names.specs.Names.{uid_name}
use Rattle.cedar_service.specs.Brought.{laid_or}
use Rattle.cedar_service.specs.Faults.{IsToldAs}
use Rattle.cedar_service.specs.Properties.{IsActionNamed, AreLaid, AreWrong, IsLaidAs, IsUnlaid}
use Rattle.cedar_service.proofs.Composed.{of_ok, of_err, because}
use Rattle.cedar_service.proofs.properties.lay_action.Goals as goal

pub returns-in-Ok-clause-laid : goal.returns-in-Ok-clause-laid
returns-in-Ok-clause-laid g c =
    let x = c.args.extensions.now in
    let s = c.args.stored.now in
    let w = c.args.ways.properties in
    let b = laid_or s c.args.laid in
    let j = value_view c.args.given.now in
    let n = uid_name c.in-Ok.uid in
    of_ok (λ o. IsLaidAs (extensions_view x) (calls_of x) w b n j (laid_or s o))
    (λ o. AreLaid (extensions_view x) (calls_of x) w b (IsActionNamed c.args.ways.action_type.now c.args.name.now) j (laid_or s o))
    (λ o h. (n, c.in-Ok.ensures, h)) c.lay_over.result c.lay_over.ensures.laid

pub returns-in-Ok-clause-refused : goal.returns-in-Ok-clause-refused
returns-in-Ok-clause-refused g c =
    let x = c.args.extensions.now in
    let w = c.args.ways.properties in
    let b = laid_or c.args.stored.now c.args.laid in
    let j = value_view c.args.given.now in
    let n = uid_name c.in-Ok.uid in
    let Un = IsUnlaid (extensions_view x) (calls_of x) w b n j (codes "$.action.properties") in
    let Wrong = AreWrong (extensions_view x) (calls_of x) w b (IsActionNamed c.args.ways.action_type.now c.args.name.now) j (codes "$.action.properties") in
    of_err (IsToldAs Un) (IsToldAs Wrong) (because Un Wrong (λ u h. (n, c.in-Ok.ensures, h)))
    c.lay_over.result c.lay_over.ensures.refused
