use Rattle.std.proofs.Common.{◌≡◌, ◌++◌, length, map}
use Rattle.cedar_expressions.specs.View.{view}
use Rattle.cedar_restricted.specs.Keys.{texts_of}
use Rattle.cedar_restricted.proofs.Collected.{names_under, views_under}
use Rattle.cedar_restricted.proofs.parts.keys_and_parts.Given as goal

abbrev pub invariant-fields : goal.invariant-fields
invariant-fields l = record {
  names : texts_of l.keys.items ++ names_under l.key-iterator ≡ names_under l.fn.pairs.entries;
  views : map view l.parts.items ++ views_under l.key-iterator ≡ views_under l.fn.pairs.entries;
  lengths : length l.keys.items ≡ length l.parts.items;
}
