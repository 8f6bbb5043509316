use Rattle.std.proofs.Common.{◌≡◌, ◌||◌, map}
use Rattle.std.specs.BTreeMap.{keys}
use Rattle.cedar_model.specs.Terms.{EntityName}
use Rattle.cedar_model.specs.Settings.{is_among}
use Rattle.cedar_names.specs.Names.{uid_name}
use Rattle.cedar_scope_actions.proofs.listed.add_keys.Given as goal

-- what is in, and what is left, is what is to be in
abbrev pub invariant-uids : goal.invariant-uids
invariant-uids l =
    (n : EntityName) → (is_among n (map uid_name l.uids.keys) || is_among n (map uid_name l.uid-iterator))
    ≡ (is_among n (map uid_name l.fn.uids.keys) || is_among n (map uid_name (keys l.fn.stored)))
