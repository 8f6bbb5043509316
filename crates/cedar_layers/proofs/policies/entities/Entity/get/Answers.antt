use Rattle.std.proofs.Common.{ap, ◌∙◌, option_map}
use Rattle.cedar_values.specs.Residuals.{partial_view}
use Rattle.cedar_layers.proofs.Parts.{option_map-lookup, restricted_result}
use Rattle.cedar_layers.proofs.policies.entities.Entity.get.Goals as goal

pub returns-clause-value : goal.returns-clause-value
returns-clause-value c = ap (option_map partial_view) c.get.ensures.value ∙ option_map-lookup _ c.args.self.now.attrs.entries

pub returns-clause-restricted : goal.returns-clause-restricted
returns-clause-restricted c =
    restricted_result _ _ c.get.result c.args.self.now.attrs_restricted (ap (option_map partial_view) c.get.ensures.value ∙ option_map-lookup _ c.args.self.now.attrs.entries)
