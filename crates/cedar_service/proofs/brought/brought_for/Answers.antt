use Rattle.std.proofs.Common.{◌≡◌, IfOk, IfErr, sym, subst, codes}
use Rattle.json.specs.Find.{get}
use Rattle.json.specs.Value.{value_view}
use Rattle.cedar_extensions.specs.Extensions.{extensions_view, calls_of}
use Rattle.cedar_overlay.specs.Bases.{base_entities}
use Rattle.cedar_service.specs.declared.ways.RequestEntities.{RequestEntities}
use Rattle.cedar_service.specs.Brought.{laid_or, IsBroughtFor, IsUnbroughtFor, IsExcess, IsNoneBrought, IsNotTaken, IsUnbroughtSo}
use Rattle.cedar_service.proofs.Composed.{of_ok, of_err}
use Rattle.cedar_service.proofs.Taken.{none_laid, so_because}
use Rattle.cedar_service.proofs.brought.brought_for.Goals as goal

pub returns-in-None-clause-brought : goal.returns-in-None-clause-brought
returns-in-None-clause-brought g c =
    let x = c.args.extensions.now in
    let s = base_entities c.args.base.now in
    let b = c.args.ways.bounds in
    let e = get (codes "entities") (value_view c.args.value.now) in
    of_ok (λ o. IsNoneBrought e o)
    (λ o. IsBroughtFor c.args.ways.entities b (extensions_view x) (calls_of x) s e (laid_or s o))
    (λ o h. subst (λ (r : RequestEntities). IsBroughtFor r b (extensions_view x) (calls_of x) s e (laid_or s o))
    (sym c.in-None.is) (h.0, none_laid s e o h)) c.none_for.result c.none_for.ensures.none

pub returns-in-None-clause-refused : goal.returns-in-None-clause-refused
returns-in-None-clause-refused g c =
    let x = c.args.extensions.now in
    let s = base_entities c.args.base.now in
    let b = c.args.ways.bounds in
    let e = get (codes "entities") (value_view c.args.value.now) in
    subst (λ (r : RequestEntities). IfErr c.none_for.result (IsUnbroughtSo
    (IsUnbroughtFor r b (extensions_view x) (calls_of x) s e) (IsExcess r b e)))
    (sym c.in-None.is) c.none_for.ensures.refused

pub returns-in-Allowed-clause-brought : goal.returns-in-Allowed-clause-brought
returns-in-Allowed-clause-brought g c =
    let x = c.args.extensions.now in
    let s = base_entities c.args.base.now in
    let b = c.args.ways.bounds in
    let e = get (codes "entities") (value_view c.args.value.now) in
    subst (λ (r : RequestEntities). IfOk c.some_for.result
    (λ o. IsBroughtFor r b (extensions_view x) (calls_of x) s e (laid_or s o)))
    (sym c.in-Allowed.is) c.some_for.ensures.brought

pub returns-in-Allowed-clause-refused : goal.returns-in-Allowed-clause-refused
returns-in-Allowed-clause-refused g c =
    let x = c.args.extensions.now in
    let s = base_entities c.args.base.now in
    let b = c.args.ways.bounds in
    let e = get (codes "entities") (value_view c.args.value.now) in
    subst (λ (r : RequestEntities). IfErr c.some_for.result (IsUnbroughtSo
    (IsUnbroughtFor r b (extensions_view x) (calls_of x) s e) (IsExcess r b e)))
    (sym c.in-Allowed.is) c.some_for.ensures.refused
