-- Which orders a comparison asks for.
use Rattle.std.specs.Prelude.{Bool}
use Rattle.std.specs.declared.cmp.Ordering.{Ordering}
use Rattle.std.specs.Ordering.{is_lt, is_le, is_gt, is_ge}
use Rattle.cedar_decimal_functions.specs.declared.comparisons.Comparison.{Comparison}
use Rattle.cedar_decimal_functions.specs.declared.comparisons.Comparison.TheVariants as by

abbrev pub such : Comparison → Ordering → Bool
such by.Less o = is_lt o
such by.AtMost o = is_le o
such by.Greater o = is_gt o
such by.AtLeast o = is_ge o
