use Rattle.cedar_extensions.specs.Extensions.{extensions_view, calls_of}
use Rattle.std.proofs.Common.{codes}
use Rattle.json.specs.Find.{get}
use Rattle.json.specs.Value.{value_view}
use Rattle.cedar_overlay.specs.Bases.{base_entities}
use Rattle.cedar_service.specs.Brought.{laid_or, IsBroughtFor, IsBroughtBy, IsUnbroughtFor, IsUnbroughtBy, IsExcess, IsExcessBy, IsUnbroughtSo}
use Rattle.cedar_service.specs.Ways.{ways_view}
use Rattle.cedar_service.proofs.Composed.{of_ok, of_err}
use Rattle.cedar_service.proofs.Over.{brought_of_document, unbrought_of_document, excess_of_document, unread_document}
use Rattle.cedar_service.proofs.Taken.{so_because}
use Rattle.cedar_service.proofs.brought.brought_by.Goals as goal

pub brought_for-requires : goal.brought_for-requires
brought_for-requires g c = c.in-Ok.ensures.read.writable

pub returns-in-Ok-clause-brought : goal.returns-in-Ok-clause-brought
returns-in-Ok-clause-brought g c =
    let x = c.args.extensions.now in
    let s = base_entities c.args.base.now in
    let t = c.args.text.now in
    let w = ways_view c.args.ways in
    let j = value_view c.in-Ok.value in
    of_ok (λ o. IsBroughtFor w.entities w.bounds (extensions_view x) (calls_of x) s (get (codes "entities") j) (laid_or s o))
    (λ o. IsBroughtBy (extensions_view x) (calls_of x) w s t (laid_or s o))
    (λ o h. brought_of_document (extensions_view x) (calls_of x) w s t j (laid_or s o) c.in-Ok.ensures.read h)
    c.brought_for.result c.brought_for.ensures.brought

pub returns-in-Ok-clause-refused : goal.returns-in-Ok-clause-refused
returns-in-Ok-clause-refused g c =
    let x = c.args.extensions.now in
    let s = base_entities c.args.base.now in
    let t = c.args.text.now in
    let w = ways_view c.args.ways in
    let j = value_view c.in-Ok.value in
    let Un = IsUnbroughtFor w.entities w.bounds (extensions_view x) (calls_of x) s (get (codes "entities") j) in
    let Ex = IsExcess w.entities w.bounds (get (codes "entities") j) in
    let By = IsUnbroughtBy (extensions_view x) (calls_of x) w s t in
    of_err (IsUnbroughtSo Un Ex) (IsUnbroughtSo By (IsExcessBy w t))
    (so_because Un Ex By (IsExcessBy w t)
    (λ u h. unbrought_of_document (extensions_view x) (calls_of x) w s t j u c.in-Ok.ensures.read h)
    (λ u h. excess_of_document w t j u c.in-Ok.ensures.read h)) c.brought_for.result
    c.brought_for.ensures.refused

pub returns-clause-refused : goal.returns-clause-refused
returns-clause-refused g c =
    let x = c.args.extensions.now in
    unread_document (extensions_view x) (calls_of x) (ways_view c.args.ways) (base_entities c.args.base.now) c.args.text.now
    c.in-Err.error c.in-Err.ensures.unread c.refuse_json-refusal.result c.refuse_json-refusal.ensures.json
    c.refuse_json-refusal.ensures.fault
