use Rattle.std.proofs.Common.{◌≡◌, max}
use Rattle.cedar_heights.specs.Capped.{capped}
use Rattle.cedar_heights.specs.Heights.{greatest_value}
use Rattle.cedar_heights.proofs.values.mapped_height.Given as goal

-- what is found and what is left are together as high as all
abbrev pub invariant-pairs : goal.invariant-pairs
invariant-pairs l = max (capped (greatest_value l.value-iterator)) l.found ≡ capped (greatest_value l.fn.map.entries)
