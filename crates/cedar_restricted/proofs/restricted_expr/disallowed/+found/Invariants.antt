use Rattle.std.proofs.Common.{◌≡◌, drop}
use Rattle.cedar_model.specs.Restricted.{first_disallowed_of, first_disallowed_at}
use Rattle.cedar_expressions.specs.declared.expr.Expr.{Expr}
use Rattle.cedar_expressions.specs.View.{terms_view, fields_view}
use Rattle.cedar_restricted.specs.Refusals.{IsFirstAmong, entry_parts}
use Rattle.cedar_restricted.proofs.restricted_expr.disallowed.+found.Given as goal

-- none of the parts seen so far is disallowed, so that the first among those left is the first of all
abbrev pub invariant-first_found_of-parts : goal.invariant-first_found_of-parts
invariant-first_found_of-parts l = record {
  seen : first_disallowed_of (terms_view (drop l.part-index l.parts.items))
      ≡ first_disallowed_of (terms_view l.parts.items);
  whole : (p : Expr) → IsFirstAmong (drop l.part-index l.parts.items) p → IsFirstAmong l.parts.items p;
}

abbrev pub invariant-first_found_at-pairs : goal.invariant-first_found_at-pairs
invariant-first_found_at-pairs l = record {
  seen : first_disallowed_at (fields_view l.part-iterator) ≡ first_disallowed_at (fields_view l.pairs.entries);
  whole : (p : Expr) → IsFirstAmong (entry_parts l.part-iterator) p → IsFirstAmong (entry_parts l.pairs.entries) p;
}
