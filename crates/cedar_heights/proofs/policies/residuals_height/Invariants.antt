use Rattle.std.proofs.Common.{◌≡◌, max}
use Rattle.cedar_heights.specs.Capped.{capped}
use Rattle.cedar_heights.specs.Heights.{greatest_residual}
use Rattle.cedar_heights.proofs.policies.residuals_height.Given as goal

-- what is found and what is left are together as high as all
abbrev pub invariant-residuals : goal.invariant-residuals
invariant-residuals l =
    max (capped (greatest_residual l.residual-iterator)) l.found ≡ capped (greatest_residual l.fn.residuals.entries)
