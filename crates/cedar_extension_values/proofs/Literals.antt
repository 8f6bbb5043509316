-- Functions that answer a literal: it is computed, asks nothing, and is faithful.
use Rattle.std.specs.Prelude.{◌≡◌, ◌≢◌, Option, Some}
use Rattle.std.proofs.Common.{refl, subst}
use Rattle.cedar_model.specs.Terms.{Text, Literal, ValueType}
use Rattle.cedar_model.specs.Values.{plain, Represented, plain_represented}
use Rattle.cedar_model.specs.World.{Extensions, Functions, function_gives, function_asks}
use Rattle.cedar_model.specs.Failures.{answers_value}
use Rattle.cedar_model.specs.Agreement.{function_answer, IsFaithful}

pub literal_computes : (l : Literal) → function_answer (answers_value (plain_represented l)) ≡ Some (function_gives (plain l))
unfolding function_answer
literal_computes l = refl

pub literal_asks : (l : Literal) (n : Text) (t : Option ValueType) → function_gives (plain l) ≢ function_asks n t
literal_asks l n t e = cc

same_values : (v w : Represented) → answers_value v ≡ answers_value w → v ≡ w
same_values v w e = cc

pub literal_faithful : (X : Extensions) (ans : Functions) (l : Literal) (v : Represented)
    → answers_value (plain_represented l) ≡ answers_value v → IsFaithful X ans v
literal_faithful X ans l v e = subst (IsFaithful X ans) (same_values (plain_represented l) v e) tt
