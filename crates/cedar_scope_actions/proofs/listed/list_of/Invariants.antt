use Rattle.std.proofs.Common.{◌≡◌, ◌++◌, map}
use Rattle.cedar_names.specs.Names.{uid_name}
use Rattle.cedar_scope_actions.proofs.listed.list_of.Given as goal

-- what is listed, and what is left, are the uids
abbrev pub invariant-uids : goal.invariant-uids
invariant-uids l = map uid_name l.list.items ++ map uid_name l.uid-iterator ≡ map uid_name l.fn.uids.keys
