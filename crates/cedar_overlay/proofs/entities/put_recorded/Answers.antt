use Rattle.std.proofs.Common.{Option, ap, ◌∙◌, map}
use Rattle.cedar_names.specs.Names.{uid_name}
use Rattle.cedar_layers.specs.declared.policies.entities.Entity.{Entity}
use Rattle.cedar_hierarchy.specs.Ancestry.{recorded}
use Rattle.cedar_hierarchy.specs.Sorting.{named_in}
use Rattle.cedar_overlay.specs.Adding.{with_names}
use Rattle.cedar_overlay.proofs.entities.put_recorded.Goals as goal

pub returns-in_ok-put_uids-in-Some : goal.returns-in_ok-put_uids-in-Some
returns-in_ok-put_uids-in-Some c =
    c.in_ok-put_uids-in-Some.ensures
    ∙ ap (λ us. with_names (named_in c.args.all.now.keys) (map uid_name us)) c.ancestors.ensures.whole
    ∙ ap (λ (o : Option Entity). with_names (named_in c.args.all.now.keys) (recorded o)) c.in-Some.ensures.whole

pub returns-in-None : goal.returns-in-None
returns-in-None c =
    ap (λ (o : Option Entity). with_names (named_in c.args.all.now.keys) (recorded o)) c.in-None.ensures.whole
