use Rattle.std.proofs.Common.{◌≡◌, ◌++◌, length, map}
use Rattle.cedar_expressions.specs.View.{view}
use Rattle.cedar_restricted.specs.Keys.{texts_of}
use Rattle.cedar_restricted.proofs.Collected.{names_under}
use Rattle.cedar_requests.specs.Contexts.{expr_locs, entry_locs}
use Rattle.cedar_requests.specs.Substitutions.{values_for}
use Rattle.cedar_requests.proofs.ByParts.{views_with}
use Rattle.cedar_requests.proofs.context.substitution.parts_with.Given as goal

abbrev pub invariant-fields : goal.invariant-fields
invariant-fields l = record {
  names : texts_of l.keys.items ++ names_under l.key-iterator ≡ names_under l.fn.pairs.entries;
  views : map view l.parts.items ++ views_with (values_for l.fn.map.entries) l.key-iterator ≡
      views_with (values_for l.fn.map.entries) l.fn.pairs.entries;
  places : expr_locs l.parts.items ++ entry_locs l.key-iterator ≡ entry_locs l.fn.pairs.entries;
  lengths : length l.keys.items ≡ length l.parts.items;
}
