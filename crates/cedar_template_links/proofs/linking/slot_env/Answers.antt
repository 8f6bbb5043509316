use Rattle.std.proofs.Common.{option_map}
use Rattle.std.specs.Borrow.{Bor}
use Rattle.cedar_names.specs.declared.names.EntityUID.{EntityUID}
use Rattle.cedar_names.specs.Names.{uid_name}
use Rattle.cedar_template_links.proofs.Filling.{both_filled}
use Rattle.cedar_template_links.proofs.linking.slot_env.Goals as goal

pub returns : goal.returns
returns c =
    both_filled (option_map (λ (u : Bor EntityUID). uid_name u.now) c.args.principal) (option_map (λ (u : Bor EntityUID). uid_name u.now) c.args.resource)
    c.new-env.result c.fill_slot.new.env c.fill_slot-2.new.env c.new-env.ensures.empty c.in_ok-fill_slot.ensures c.in_ok-fill_slot-2.ensures
