use Rattle.std.proofs.Common.{subst, sym}
use Rattle.cedar_extensions.specs.Extensions.{extensions_view, calls_of}
use Rattle.json.specs.Value.{value_view}
use Rattle.cedar_names.specs.Names.{uid_name}
use Rattle.cedar_service.specs.Faults.{IsToldAs}
use Rattle.cedar_service.specs.Ways.{wins}
use Rattle.cedar_service.specs.Properties.{IsLaidOver, IsLaidAs, AreTaken, AreNoAttributes, IsUnlaid, no_attributes, taken}
use Rattle.cedar_service.proofs.Composed.{of_ok, of_err, because}
use Rattle.cedar_service.proofs.properties.lay_taken.Goals as goal

pub returns-in-Ok-clause-laid : goal.returns-in-Ok-clause-laid
returns-in-Ok-clause-laid g c =
    let x = c.args.extensions.now in
    let w = c.args.claims in
    let s = c.args.store.now in
    let n = uid_name c.args.uid in
    let m = c.in-Ok.attributes in
    of_ok (IsLaidOver c.wins.result s n m) (IsLaidAs (extensions_view x) (calls_of x) w s n (value_view c.args.given.now))
    (λ o h. (m, c.in-Ok.ensures.said, c.requires, subst (λ b. IsLaidOver b s n m o) c.wins.ensures h)) c.put.result c.put.ensures.laid

pub returns-in-Ok-clause-refused : goal.returns-in-Ok-clause-refused
returns-in-Ok-clause-refused g c =
    let x = c.args.extensions.now in
    let w = c.args.claims in
    let s = c.args.store.now in
    let n = uid_name c.args.uid in
    let m = c.in-Ok.attributes in
    let Un = IsUnlaid (extensions_view x) (calls_of x) w s n (value_view c.args.given.now) c.args.path.now in
    of_err (IsToldAs (AreTaken c.wins.result s n m c.args.path.now)) (IsToldAs Un)
    (because (AreTaken c.wins.result s n m c.args.path.now) Un
    (λ u h. taken m c.in-Ok.ensures.said (subst (λ b. AreTaken b s n m c.args.path.now u) c.wins.ensures h)))
    c.put.result c.put.ensures.refused

pub returns-in-Err-clause-refused : goal.returns-in-Err-clause-refused
returns-in-Err-clause-refused g c =
    let x = c.args.extensions.now in
    let w = c.args.claims in
    let s = c.args.store.now in
    let n = uid_name c.args.uid in
    let j = value_view c.args.given.now in
    because (AreNoAttributes (extensions_view x) (calls_of x) j c.args.path.now) (IsUnlaid (extensions_view x) (calls_of x) w s n j c.args.path.now)
    (λ u h. no_attributes h) c.in-Err.refusal c.in-Err.ensures.refused
