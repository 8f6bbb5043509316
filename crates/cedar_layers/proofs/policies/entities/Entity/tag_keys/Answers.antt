use Rattle.std.proofs.Common.{ap, ◌∙◌, map}
use Rattle.std.specs.Rc.{rc_str_bytes}
use Rattle.cedar_layers.proofs.Parts.{names-parts_view, names_in_order}
use Rattle.cedar_layers.proofs.policies.entities.Entity.tag_keys.Goals as goal

pub returns-clause-names : goal.returns-clause-names
returns-clause-names c = ap (map rc_str_bytes) c.keys.ensures.rest ∙ names-parts_view c.args.self.now.tags.entries

pub returns-clause-in_order : goal.returns-clause-in_order
returns-clause-in_order c = names_in_order c.args.self.now.tags.entries c.keys.ensures.ordered
