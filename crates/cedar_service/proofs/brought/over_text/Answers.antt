use Rattle.cedar_extensions.specs.Extensions.{extensions_view, calls_of}
use Rattle.cedar_overlay.specs.Bases.{base_entities}
use Rattle.cedar_service.specs.Brought.{laid_or, IsOver, IsBroughtAs, IsNotOver, IsUnbroughtAs, none_added}
use Rattle.cedar_service.specs.Faults.{IsToldAs}
use Rattle.cedar_service.proofs.Composed.{of_ok, of_err, because}
use Rattle.cedar_service.proofs.Over.{said_known, unread_entities}
use Rattle.cedar_service.proofs.brought.over_text.Goals as goal

pub returns-in-Ok-clause-brought : goal.returns-in-Ok-clause-brought
returns-in-Ok-clause-brought g c =
    let x = c.args.extensions.now in
    let s = base_entities c.args.base.now in
    let es = c.in-Ok.entities.items in
    of_ok (λ o. IsOver s es (laid_or s o)) (λ o. IsBroughtAs (extensions_view x) (calls_of x) s c.args.text.now (laid_or s o))
    (λ o h. (es, said_known (extensions_view x) (calls_of x) s c.args.text.now es c.in-Ok.ensures.made c.in-Ok.ensures.known, h)) c.over_entities.result c.over_entities.ensures.over

pub returns-in-Ok-clause-refused : goal.returns-in-Ok-clause-refused
returns-in-Ok-clause-refused g c =
    let x = c.args.extensions.now in
    let s = base_entities c.args.base.now in
    let es = c.in-Ok.entities.items in
    let As = IsUnbroughtAs (extensions_view x) (calls_of x) s c.args.text.now in
    of_err (IsToldAs (IsNotOver s es)) (IsToldAs As) (because (IsNotOver s es) As (λ u h. none_added es c.in-Ok.ensures.made h))
    c.over_entities.result c.over_entities.ensures.refused

pub returns-in-Err-clause-refused : goal.returns-in-Err-clause-refused
returns-in-Err-clause-refused g c =
    let x = c.args.extensions.now in
    unread_entities (extensions_view x) (calls_of x) (base_entities c.args.base.now) c.args.text.now c.in-Err.error c.in-Err.ensures.refused
    c.refuse_json-refusal.result c.refuse_json-refusal.ensures.json c.refuse_json-refusal.ensures.fault
