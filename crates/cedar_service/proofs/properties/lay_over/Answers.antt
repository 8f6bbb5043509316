use Rattle.cedar_extensions.specs.Extensions.{extensions_view, calls_of}
use Rattle.std.proofs.Common.{subst}
use Rattle.json.specs.Value.{value_view}
use Rattle.cedar_layers.specs.declared.policies.entities.Entities.{Entities}
use Rattle.cedar_names.specs.Names.{uid_name}
use Rattle.cedar_service.specs.Faults.{IsToldAs}
use Rattle.cedar_service.specs.Properties.{IsLaidAs, IsUnlaid}
use Rattle.cedar_service.proofs.properties.lay_over.Goals as goal

pub returns-in-Ok-clause-laid : goal.returns-in-Ok-clause-laid
returns-in-Ok-clause-laid g c =
    let x = c.args.extensions.now in
    subst (λ (b : Entities). IsLaidAs (extensions_view x) (calls_of x) c.args.claims b (uid_name c.args.uid) (value_view c.args.given.now)
    c.in-Ok.store) c.store_of.ensures c.in-Ok.ensures.laid

pub returns-in-Err-clause-refused : goal.returns-in-Err-clause-refused
returns-in-Err-clause-refused g c =
    let x = c.args.extensions.now in
    subst (λ (b : Entities). IsToldAs (IsUnlaid (extensions_view x) (calls_of x) c.args.claims b (uid_name c.args.uid)
    (value_view c.args.given.now) c.args.path.now) c.in-Err.refusal) c.store_of.ensures c.in-Err.ensures.refused
