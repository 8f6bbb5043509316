use Rattle.std.proofs.Common.{◌≡◌, ◌++◌, length, map}
use Rattle.cedar_expressions.specs.View.{view}
use Rattle.cedar_restricted.specs.Keys.{texts_of}
use Rattle.cedar_restricted.proofs.Collected.{names_under}
use Rattle.cedar_reasons.specs.Facts.{facts_view}
use Rattle.cedar_reasons.proofs.KeptNames.{expr_terms}
use Rattle.cedar_reasons.proofs.contexts.expr_parts.Given as goal

abbrev pub invariant-exprs : goal.invariant-exprs
invariant-exprs l = record {
  names : texts_of l.keys.items ++ names_under l.key-iterator ≡ names_under l.fn.pairs.entries;
  views : map view l.parts.items ++ expr_terms (facts_view l.fn.facts) l.key-iterator ≡ expr_terms (facts_view l.fn.facts) l.fn.pairs.entries;
  lengths : length l.keys.items ≡ length l.parts.items;
}
