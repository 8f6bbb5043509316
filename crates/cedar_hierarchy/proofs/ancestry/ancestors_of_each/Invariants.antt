use Rattle.cedar_hierarchy.specs.Listed.{listed_parents, KnowsAncestors}
use Rattle.cedar_hierarchy.proofs.ancestry.ancestors_of_each.Given as goal

abbrev pub invariant-uids : goal.invariant-uids
invariant-uids l = KnowsAncestors (listed_parents l.parents.entries) l.known.entries
