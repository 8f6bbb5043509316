use Rattle.std.proofs.Common.{◌≡◌, ◌∙◌, sym, rules}
use Rattle.cedar_names.specs.Names.{uid_name}
use Rattle.cedar_layers.proofs.Stores.{shown-put, shown-stays, not_shown}
use Rattle.cedar_layers.proofs.policies.entities.Entities.list.Goals as goal

pub returns-in_ok-insert : goal.returns-in_ok-insert
returns-in_ok-insert c =
    let name : uid_name c.in_ok-key.key ≡ uid_name c.args.uid.now = search rules in
    let none = not_shown c.args.listed.now.entries c.args.uid.now (uid_name c.in_ok-key.key) name (sym c.contains_key.ensures ∙ c.if-not-contains_key.true) in
    shown-put _ _ c.in_ok-key.key c.args.entity c.in_ok-insert.ensures.updates.1 c.in_ok-insert.ensures.updates.3 none (uid_name c.args.uid.now) name

pub returns-else-not-contains_key : goal.returns-else-not-contains_key
returns-else-not-contains_key c =
    shown-stays c.args.listed.now.entries c.args.uid.now c.args.entity.now (sym c.contains_key.ensures ∙ c.if-not-contains_key.false)
