-- What an evaluator answers for a part.
use Rattle.std.specs.Prelude.{◌≡◌, []}
use Rattle.cedar_model.specs.Terms.{Term}
use Rattle.cedar_model.specs.World.{Slots}
use Rattle.cedar_evaluator.specs.declared.evaluator.Evaluator.{Evaluator}
use Rattle.cedar_evaluator.specs.Evaluations.{setting_of, calls_in, limit_of, IsPromisedValue}
use Rattle.cedar_interpreter.specs.Promises.{IsKnownExactly}
use Rattle.cedar_explain.specs.declared.explanations.Explanation.{Explanation}
use Rattle.cedar_explain.specs.Outcomes.{Came, as_side}
use Rattle.cedar_explain.specs.Explained.{Told, Walked}
use Rattle.cedar_explain.specs.Views.{named_parts, told_outcome}

-- the answer is as the evaluator promises for the part, with all of its levels, and it is exact where all is known
pub record IsReached {X : Type 0} {F : X → Type 0} {g : _} (v : Evaluator X F g) (slots : Slots) (p : Told) : Type 0 where
  pub promised : IsPromisedValue (setting_of v slots) (calls_in v) (limit_of v) p.term p.answer
  pub known : IsKnownExactly (setting_of v slots) (calls_in v) (limit_of v) p.term p.answer

-- a walk through the condition put the parts of the explanation, and came to its outcome
pub record IsExplained (Is : Told → Type 0) (t : Term) (x : Explanation) : Type 0 where
  pub came : Came
  pub walked : Walked Is t [] (named_parts x) came
  pub so : told_outcome x ≡ as_side came
