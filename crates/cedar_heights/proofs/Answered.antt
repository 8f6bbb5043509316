-- How high what functions answer is, the standard ones first.
use Rattle.std.specs.Prelude.{◌≡◌, ℕ, ◌≤◌, max, List, [], map, Option, Some, None, is_some}
use Rattle.std.proofs.Common.{sym, ap, ◌∙◌, arith, true≢false}
use Rattle.cedar_model.specs.Terms.{Text}
use Rattle.cedar_model.specs.Values.{Represented, abstract_value}
use Rattle.cedar_model.specs.Failures.{PartialValue, answers, part_expression}
use Rattle.cedar_model.specs.Agreement.{height}
use Rattle.cedar_extensions.specs.declared.extensions.Extensions.{Extensions}
use Rattle.cedar_extensions.specs.Extension.{all_functions}
use Rattle.cedar_extensions.specs.Extensions.{extensions_in, standard_of, func_of, made_calls_of, calls_of}
use Rattle.cedar_extensions.specs.Functions.{function_among}
use Rattle.cedar_extensions.specs.Standard.{StandardFirst}
use Rattle.cedar_standard_functions.specs.StandardLaws.{are_lawful}
use Rattle.cedar_standard_functions.specs.declared.function.StandardFunction.{StandardFunction}
use Rattle.cedar_heights.specs.Limits.{AnswersAreNoHigher}

below_greater : (m n : ℕ) → m ≤ 3 → m ≤ max 3 n
below_greater m n h = omega (arith, h)

below_other : (m n : ℕ) → m ≤ n → m ≤ max 3 n
below_other m n h = omega (arith, h)

first_low : (o : Option StandardFunction) (Own : Type 0) (vs : List Represented) (p : PartialValue) (n : ℕ)
    → StandardFirst o Own vs (answers p) → (Own → height (part_expression p) ≤ n)
    → height (part_expression p) ≤ max 3 n
first_low None Own vs p n h own = below_other (height (part_expression p)) n (own h)
first_low (Some f) Own vs p n h own =
    below_greater (height (part_expression p)) n ((are_lawful f (map abstract_value vs)).low p (sym h))

module _ {X : Type 0} {F : X → Type 0} {g : _} (x : Extensions X F g) where
  pub beside_low : (n : ℕ) → AnswersAreNoHigher (made_calls_of x) n → AnswersAreNoHigher (calls_of x) (max 3 n)
  beside_low n low f vs p h =
      first_low (standard_of x f) (made_calls_of x f vs (answers p)) vs p n h (low f vs p)

  none_made : extensions_in x ≡ [] → AnswersAreNoHigher (made_calls_of x) 0
  none_made none f vs p (g, found, can) =
      absurd (true≢false (sym (ap is_some (sym (ap (λ es. function_among f (all_functions es)) none) ∙ found))))

  pub alone_low : extensions_in x ≡ [] → AnswersAreNoHigher (calls_of x) 3
  alone_low none = beside_low 0 (none_made none)
