use Rattle.std.proofs.Common.{ap, map}
use Rattle.cedar_names.specs.Names.{uid_name}
use Rattle.cedar_hierarchy.specs.Listed.{listed_parents}
use Rattle.cedar_hierarchy.proofs.Walking.{none_part}
use Rattle.cedar_hierarchy.proofs.walk.all_led_to.Goals as goal

pub led_to-requires : goal.led_to-requires
led_to-requires c =
    none_part (listed_parents c.args.parents.now.entries) (uid_name c.args.uid.now) (map uid_name c.new-none.result.keys) (ap (map uid_name) c.new-none.ensures.empty)
