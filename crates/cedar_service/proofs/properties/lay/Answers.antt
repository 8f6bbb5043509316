use Rattle.std.proofs.Common.{sym, ◌∙◌, codes}
use Rattle.cedar_extensions.specs.Extensions.{extensions_view, calls_of}
use Rattle.json.specs.Value.{value_view}
use Rattle.cedar_names.specs.Names.{uid_name}
use Rattle.cedar_service.specs.Faults.{IsFault}
use Rattle.cedar_service.specs.Properties.{IsUnlaid, none_taken}
use Rattle.cedar_service.proofs.Composed.{because}
use Rattle.cedar_service.proofs.properties.lay.Goals as goal

pub lay_taken-requires : goal.lay_taken-requires
lay_taken-requires g c = sym c.is_taken.ensures ∙ c.if-is_taken.true

pub returns-else-is_taken-clause-refused : goal.returns-else-is_taken-clause-refused
returns-else-is_taken-clause-refused g c =
    let x = c.args.extensions.now in
    because (IsFault c.args.path.now (codes "not taken (--request-properties)"))
    (IsUnlaid (extensions_view x) (calls_of x) c.args.claims c.args.store.now (uid_name c.args.uid)
    (value_view c.args.given.now) c.args.path.now)
    (λ u h. none_taken (sym c.is_taken.ensures ∙ c.if-is_taken.false) h) c.refuse.result c.refuse.ensures
