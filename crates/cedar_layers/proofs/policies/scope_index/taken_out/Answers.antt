use Rattle.std.proofs.Common.{ap, sym, ◌∙◌}
use Rattle.cedar_layers.specs.Scopes.{items_or_none}
use Rattle.cedar_layers.proofs.Placing.{under_uid, others_stay_under}
use Rattle.cedar_layers.proofs.policies.scope_index.taken_out.Goals as goal

pub returns-in-Some-clause-items : goal.returns-in-Some-clause-items
returns-in-Some-clause-items c =
    sym (ap items_or_none c.in-Some.is) ∙ ap items_or_none c.remove.ensures.value ∙ under_uid c.args.uid.now c.args.groups.now.entries

pub returns-in-Some-clause-others : goal.returns-in-Some-clause-others
returns-in-Some-clause-others c n h = others_stay_under _ _ c.args.uid.now c.remove.ensures.updates.3 n h

pub returns-in-None-clause-items : goal.returns-in-None-clause-items
returns-in-None-clause-items c =
    c.new.ensures.items ∙ sym (ap items_or_none c.in-None.is) ∙ ap items_or_none c.remove.ensures.value ∙ under_uid c.args.uid.now c.args.groups.now.entries
