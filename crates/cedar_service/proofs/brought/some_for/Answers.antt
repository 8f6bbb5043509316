use Rattle.std.proofs.Common.{◌≡◌, IfOk, IfErr, sym, subst, codes}
use Rattle.json.specs.Find.{get}
use Rattle.json.specs.Value.{value_view}
use Rattle.cedar_extensions.specs.Extensions.{extensions_view, calls_of}
use Rattle.cedar_overlay.specs.Bases.{base_entities}
use Rattle.cedar_service.specs.declared.ways.RequestEntities.TheVariants as claims
use Rattle.cedar_service.specs.Brought.{laid_or, IsBroughtOver, IsBroughtFor, IsUnbrought, IsUnbroughtFor, IsExcess, IsTooMuch, IsUnbroughtSo}
use Rattle.cedar_service.proofs.Composed.{of_ok, of_err}
use Rattle.cedar_service.proofs.Taken.{so_because}
use Rattle.cedar_service.proofs.brought.some_for.Goals as goal

pub returns-in-Some-clause-refused : goal.returns-in-Some-clause-refused
returns-in-Some-clause-refused g c =
    let x = c.args.extensions.now in
    let s = base_entities c.args.base.now in
    let b = c.args.bounds in
    let e = get (codes "entities") (value_view c.args.value.now) in
    so_because (λ _. ⊥) (IsTooMuch c.in-Some.excess)
    (IsUnbroughtFor claims.Allowed b (extensions_view x) (calls_of x) s e) (IsExcess claims.Allowed b e)
    (λ t h. absurd h) (λ t h. (c.in-Some.excess, sym c.in-Some.ensures, h))
    c.refuse_excess.result c.refuse_excess.ensures

pub returns-in-None-clause-brought : goal.returns-in-None-clause-brought
returns-in-None-clause-brought g c =
    let x = c.args.extensions.now in
    let s = base_entities c.args.base.now in
    let b = c.args.bounds in
    let e = get (codes "entities") (value_view c.args.value.now) in
    of_ok (λ o. IsBroughtOver (extensions_view x) (calls_of x) s e (laid_or s o))
    (λ o. IsBroughtFor claims.Allowed b (extensions_view x) (calls_of x) s e (laid_or s o))
    (λ o h. (sym c.in-None.ensures, h)) c.fit_over.result c.fit_over.ensures.brought

pub returns-in-None-clause-refused : goal.returns-in-None-clause-refused
returns-in-None-clause-refused g c =
    let x = c.args.extensions.now in
    let s = base_entities c.args.base.now in
    let b = c.args.bounds in
    let e = get (codes "entities") (value_view c.args.value.now) in
    let Un = IsUnbrought (extensions_view x) (calls_of x) s e in
    let For = IsUnbroughtFor claims.Allowed b (extensions_view x) (calls_of x) s e in
    let Ex = IsExcess claims.Allowed b e in
    of_err (IsUnbroughtSo Un (λ _. ⊥)) (IsUnbroughtSo For Ex)
    (so_because Un (λ _. ⊥) For Ex (λ t h. (sym c.in-None.ensures, h)) (λ t h. absurd h))
    c.fit_over.result c.fit_over.ensures.refused
