use Rattle.cedar_extensions.specs.Extensions.{extensions_view, calls_of}
use Rattle.std.proofs.Common.{Some, sym, subst}
use Rattle.json.specs.Value.{value_view}
use Rattle.cedar_overlay.specs.Bases.{base_entities}
use Rattle.cedar_service.specs.Brought.{laid_or, IsBroughtAs, IsBroughtOver, IsUnbroughtAs, IsUnbrought}
use Rattle.cedar_service.specs.Documents.{IsTextFor}
use Rattle.cedar_service.specs.Faults.{IsToldAs}
use Rattle.cedar_service.proofs.Composed.{of_ok, of_err, because}
use Rattle.cedar_service.proofs.Over.{brought_as_json}
use Rattle.cedar_service.proofs.brought.over_json.Goals as goal

pub returns-in-Ok-clause-brought : goal.returns-in-Ok-clause-brought
returns-in-Ok-clause-brought g c =
    let x = c.args.extensions.now in
    let s = base_entities c.args.base.now in
    let j = value_view c.args.entities.now in
    let t = c.as_str.result.now in
    let is : IsTextFor j t = subst (IsTextFor j) (sym c.as_str.ensures.value) c.in-Ok.ensures in
    of_ok (λ o. IsBroughtAs (extensions_view x) (calls_of x) s t (laid_or s o)) (λ o. IsBroughtOver (extensions_view x) (calls_of x) s (Some j) (laid_or s o))
    (λ o h. brought_as_json (extensions_view x) (calls_of x) s t j (laid_or s o) is h) c.over_text-laid.result c.over_text-laid.ensures.brought

pub returns-in-Ok-clause-refused : goal.returns-in-Ok-clause-refused
returns-in-Ok-clause-refused g c =
    let x = c.args.extensions.now in
    let s = base_entities c.args.base.now in
    let j = value_view c.args.entities.now in
    let t = c.as_str.result.now in
    let is : IsTextFor j t = subst (IsTextFor j) (sym c.as_str.ensures.value) c.in-Ok.ensures in
    of_err (IsToldAs (IsUnbroughtAs (extensions_view x) (calls_of x) s t)) (IsToldAs (IsUnbrought (extensions_view x) (calls_of x) s (Some j)))
    (because (IsUnbroughtAs (extensions_view x) (calls_of x) s t) (IsUnbrought (extensions_view x) (calls_of x) s (Some j)) (λ u h. (t, is, h)))
    c.over_text-laid.result c.over_text-laid.ensures.refused
