use Rattle.cedar_extensions.specs.Extensions.{extensions_view, calls_of}
use Rattle.std.proofs.Common.{Some, codes, Bool, subst, sym}
use Rattle.json.specs.Value.{value_view}
use Rattle.cedar_names.specs.Names.{uid_name}
use Rattle.cedar_endpoints.specs.Asked.{named_view}
use Rattle.cedar_service.specs.Asked.{IsUnnamed}
use Rattle.cedar_service.specs.Brought.{laid_or}
use Rattle.cedar_service.specs.Faults.{IsFault, IsToldAs}
use Rattle.cedar_service.specs.Properties.{IsNamedAs, AreLaid, AreWrongUnless, AreWrongOfNamed, IsLaidAs, IsUnlaid, no_name, wrong}
use Rattle.cedar_service.proofs.Composed.{of_ok, of_err, because}
use Rattle.cedar_service.proofs.properties.lay_named.Goals as goal

pub returns-in-Ok-clause-laid : goal.returns-in-Ok-clause-laid
returns-in-Ok-clause-laid g c =
    let x = c.args.extensions.now in
    let s = c.args.stored.now in
    let w = c.args.claims in
    let b = laid_or s c.args.laid in
    let j = value_view c.args.given.now in
    let n = uid_name c.in-Ok.uid in
    of_ok (λ o. IsLaidAs (extensions_view x) (calls_of x) w b n j (laid_or s o))
    (λ o. AreLaid (extensions_view x) (calls_of x) w b (IsNamedAs (named_view c.args.named)) j (laid_or s o))
    (λ o h. (n, c.in-Ok.ensures.said, h)) c.lay_over.result c.lay_over.ensures.laid

pub returns-in-Ok-clause-refused : goal.returns-in-Ok-clause-refused
returns-in-Ok-clause-refused g c =
    let x = c.args.extensions.now in
    let w = c.args.claims in
    let b = laid_or c.args.stored.now c.args.laid in
    let j = value_view c.args.given.now in
    let n = uid_name c.in-Ok.uid in
    let Un = IsUnlaid (extensions_view x) (calls_of x) w b n j c.args.path.now in
    let Wrong = AreWrongOfNamed (extensions_view x) (calls_of x) w b (named_view c.args.named) c.args.type_path.now (Some j) c.args.path.now in
    of_err (IsToldAs Un) (IsToldAs Wrong) (because Un Wrong (λ u h. wrong (subst (λ (e : Bool). AreWrongUnless e (extensions_view x) (calls_of x) w b (IsNamedAs (named_view c.args.named)) j c.args.path.now u) (sym c.requires) (n, c.in-Ok.ensures.said, h))))
    c.lay_over.result c.lay_over.ensures.refused

pub returns-in-Err-clause-refused : goal.returns-in-Err-clause-refused
returns-in-Err-clause-refused g c =
    let x = c.args.extensions.now in
    let w = c.args.claims in
    let b = laid_or c.args.stored.now c.args.laid in
    let q = named_view c.args.named in
    because (λ t. IsUnnamed q × IsFault c.args.type_path.now (codes "not a name") t)
    (AreWrongOfNamed (extensions_view x) (calls_of x) w b q c.args.type_path.now (Some (value_view c.args.given.now)) c.args.path.now)
    (λ u h. no_name h.0 h.1) c.in-Err.refusal c.in-Err.ensures.refused
