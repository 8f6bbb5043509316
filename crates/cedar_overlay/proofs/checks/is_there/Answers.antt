use Rattle.std.proofs.Common.{◌||◌, ap, ◌∙◌}
use Rattle.std.specs.Option.{is_some}
use Rattle.cedar_names.specs.Names.{uid_name}
use Rattle.cedar_layers.proofs.Stores.{list_any-uids}
use Rattle.cedar_hierarchy.specs.Sorting.{named_in}
use Rattle.cedar_overlay.proofs.checks.is_there.Goals as goal

pub returns-in-Some : goal.returns-in-Some
returns-in-Some c =
    ap (λ o. is_some o || named_in c.args.names.now.keys (uid_name c.args.uid.now)) c.in-Some.ensures.whole

pub returns-in-None : goal.returns-in-None
returns-in-None c =
    c.contains.ensures ∙ list_any-uids c.args.uid.now c.args.names.now.keys
    ∙ ap (λ o. is_some o || named_in c.args.names.now.keys (uid_name c.args.uid.now)) c.in-None.ensures.whole
