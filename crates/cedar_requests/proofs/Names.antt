-- How many names the pairs have.
use Rattle.std.proofs.Common.{◌≡◌, List, [], ◌∷◌, length, refl, ap, suc}
use Rattle.cedar_model.specs.Operators.{represented_names, field_names}
use Rattle.cedar_expressions.specs.View.{fields_view}
use Rattle.cedar_values.specs.Sound.{whats_at}
use Rattle.cedar_requests.proofs.Copies.{ValuePair, ExprPair}

pub represented_names-count : (fs : List ValuePair) → length (represented_names (whats_at fs)) ≡ length fs
unfolding represented_names
represented_names-count [] = refl
represented_names-count (f ∷ fs) = ap suc (represented_names-count fs)

pub field_names-count : (fs : List ExprPair) → length (field_names (fields_view fs)) ≡ length fs
unfolding field_names
field_names-count [] = refl
field_names-count (f ∷ fs) = ap suc (field_names-count fs)
