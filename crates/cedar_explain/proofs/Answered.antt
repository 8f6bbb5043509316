-- What an evaluator answers for a part is what it promises, since it is not out of memory.
use Rattle.std.proofs.Common.{◌≡◌, ◌≢◌, Result, Ok, Err, IfOk, sym, subst, subst₂}
use Rattle.cedar_model.specs.Terms.{Term}
use Rattle.cedar_model.specs.World.{Slots}
use Rattle.cedar_model.specs.Failures.{Answer, fails, out_of_memory}
use Rattle.cedar_evaluator.specs.declared.evaluator.Evaluator.{Evaluator}
use Rattle.cedar_evaluator.specs.Evaluations.{setting_of, calls_in, limit_of, IsPromisedValue, AnswersValue, MeansWhereKnown}
use Rattle.cedar_interpreter.specs.Promises.{IsKnownExactly}
use Rattle.cedar_explain.specs.declared.parts.Part.{Part}
use Rattle.cedar_explain.specs.Views.{part_told}
use Rattle.cedar_explain.specs.Reached.{IsReached}

pub reached : {X : Type 0} {F : X → Type 0} {g : _} {E : Type 0} (v : Evaluator X F g) (slots : Slots) (t : Term) (a : Answer)
    (r : Result Part E) → IfOk r (λ p. (part_told p).term ≡ t) → IfOk r (λ p. (part_told p).answer ≡ a) →
    IfOk r (λ p. (part_told p).answer ≢ fails out_of_memory) → AnswersValue v slots t a → MeansWhereKnown v slots t a →
    IfOk r (λ p. IsReached v slots (part_told p))
reached v slots t a (Ok p) same so none promised known =
    let room : a ≢ fails out_of_memory = subst (λ (b : Answer). b ≢ fails out_of_memory) so none in
    record {
      promised =
          subst₂ (λ (u : Term) (b : Answer). IsPromisedValue (setting_of v slots) (calls_in v) (limit_of v) u b) (sym same) (sym so) (promised room);
      known =
          subst₂ (λ (u : Term) (b : Answer). IsKnownExactly (setting_of v slots) (calls_in v) (limit_of v) u b) (sym same) (sym so) (known room);
    }
reached v slots t a (Err e) same so none promised known = same
