use Rattle.std.proofs.Common.{◌≡◌, ◌++◌, length, map}
use Rattle.cedar_expressions.specs.View.{view}
use Rattle.cedar_restricted.specs.Keys.{texts_of}
use Rattle.cedar_restricted.proofs.Collected.{names_under}
use Rattle.cedar_reasons.specs.Facts.{facts_view}
use Rattle.cedar_reasons.proofs.KeptNames.{value_terms}
use Rattle.cedar_reasons.proofs.contexts.value_parts.Given as goal

abbrev pub invariant-values : goal.invariant-values
invariant-values l = record {
  names : texts_of l.keys.items ++ names_under l.key-iterator ≡ names_under l.fn.values.entries;
  views : map view l.parts.items ++ value_terms (facts_view l.fn.facts) l.key-iterator ≡ value_terms (facts_view l.fn.facts) l.fn.values.entries;
  lengths : length l.keys.items ≡ length l.parts.items;
}
