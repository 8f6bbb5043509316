use Rattle.std.proofs.Common.{◌≡◌, take, map}
use Rattle.cedar_expressions.specs.View.{view, expr_loc}
use Rattle.cedar_values.proofs.Written.{written}
use Rattle.cedar_restricted.proofs.answers.exprs_of.Given as goal

abbrev pub invariant-values : goal.invariant-values
invariant-values l = record {
  views : map view l.exprs.items ≡ written (take l.value-index l.values);
  places : map expr_loc l.exprs.items ≡ map (λ v. v.loc) (take l.value-index l.values);
}
