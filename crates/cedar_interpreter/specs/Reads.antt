-- The stored residuals that are evaluated.
use Rattle.std.specs.Prelude.{List, Option, None}
use Rattle.cedar_model.specs.Terms.{Text, Term}
use Rattle.cedar_model.specs.Failures.{PartialValue, value, residual}
use Rattle.cedar_model.specs.Settings.{Resolution, shallow, deep, Store}
use Rattle.cedar_model.specs.Operators.{attribute_residual}
use Rattle.cedar_operators.specs.StoredResiduals.{path_residual}

-- with deep resolution what is read is evaluated, with shallow resolution nothing is
abbrev pub resolved_in : {A : Type 0} → Resolution → Option A → Option A
resolved_in shallow o = None
resolved_in deep o = o

-- the stored residual that an attribute of a part reads
abbrev pub part_residual : Store → PartialValue → Text → Option Term
part_residual store (value v) k = attribute_residual store v k
part_residual store (residual r) k = None

-- the first stored residual that an extended `has` on a part reads, with the attributes after it
abbrev pub part_path : Store → PartialValue → Text → List Text → Option (Term × Text × List Text)
part_path store (value v) k ks = path_residual store v k ks
part_path store (residual r) k ks = None
