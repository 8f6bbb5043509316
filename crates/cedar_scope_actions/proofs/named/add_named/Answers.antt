use Rattle.std.proofs.Common.{ap, ◌∙◌, map}
use Rattle.cedar_model.specs.Settings.{is_among}
use Rattle.cedar_names.specs.Names.{uid_name}
use Rattle.cedar_layers.specs.Policies.{policy_view}
use Rattle.cedar_layers.specs.Scopes.{names_at}
use Rattle.cedar_scope_actions.specs.Named.{actions_named}
use Rattle.cedar_scope_actions.proofs.Naming.{names_none, names_each, by_equal}
use Rattle.cedar_scope_actions.proofs.named.add_named.Goals as goal

pub returns-in-None : goal.returns-in-None
returns-in-None c =
    λ n. names_none (policy_view c.args.policy.now) c.in_ok-uids.field-0 n (is_among n (map uid_name c.args.actions.now.keys)) c.in_ok-uids.ensures c.in-None.is

pub returns-in-Some : goal.returns-in-Some
returns-in-Some c =
    let asked = names_each (policy_view c.args.policy.now) c.in_ok-uids.field-0 c.in-Some.uids c.in_ok-uids.ensures c.in-Some.is in
    by_equal _ c.add_each.result (map uid_name c.args.actions.now.keys) (map uid_name c.add_each.new.actions.keys) (names_at c.as_slice.result.now) (actions_named (policy_view c.args.policy.now)) (ap names_at c.as_slice.ensures.value ∙ asked) c.add_each.ensures
