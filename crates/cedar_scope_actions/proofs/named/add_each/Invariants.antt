use Rattle.std.proofs.Common.{◌≡◌, ◌||◌, map, drop}
use Rattle.cedar_model.specs.Terms.{EntityName}
use Rattle.cedar_model.specs.Settings.{is_among}
use Rattle.cedar_names.specs.Names.{uid_name}
use Rattle.cedar_layers.specs.Scopes.{names_at}
use Rattle.cedar_scope_actions.proofs.named.add_each.Given as goal

-- what is in, and what is left, is what is to be in
abbrev pub invariant-uids : goal.invariant-uids
invariant-uids l =
    (n : EntityName) → (is_among n (map uid_name l.actions.keys) || is_among n (names_at (drop l.uid-index l.uids)))
    ≡ (is_among n (map uid_name l.fn.actions.keys) || is_among n (names_at l.fn.uids))
