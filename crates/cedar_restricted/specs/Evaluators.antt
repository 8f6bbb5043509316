-- What an evaluator of restricted expressions is given.
use Rattle.std.specs.Prelude.{ℕ}
use Rattle.cedar_model.specs.World as model
use Rattle.cedar_model.specs.Rules.{StoredCalls}
use Rattle.cedar_extensions.specs.declared.extensions.Extensions.{Extensions}
use Rattle.cedar_extensions.specs.Extensions.{extensions_view, calls_of}
use Rattle.cedar_restricted.specs.declared.evaluator.RestrictedEvaluator.{RestrictedEvaluator}

-- its extensions
abbrev pub extensions_of : {X : Type 0} {F : X → Type 0} {g : _} → RestrictedEvaluator X F g → Extensions X F g
extensions_of v = v.extensions.now

-- the same as plain data
abbrev pub extensions_read : {X : Type 0} {F : X → Type 0} {g : _} → RestrictedEvaluator X F g → model.Extensions
extensions_read v = extensions_view v.extensions.now

-- what their functions may answer
abbrev pub calls_in : {X : Type 0} {F : X → Type 0} {g : _} → RestrictedEvaluator X F g → StoredCalls
calls_in v = calls_of v.extensions.now

-- how many levels deep it goes
abbrev pub limit_of : {X : Type 0} {F : X → Type 0} {g : _} → RestrictedEvaluator X F g → ℕ
limit_of v = v.limit
