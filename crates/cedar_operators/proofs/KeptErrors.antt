-- Errors whose kind a meaning can have keep the original expression.
use Rattle.std.proofs.Common.{◌≡◌, true, false, refl}
use Rattle.cedar_model.specs.Terms.{Term}
use Rattle.cedar_model.specs.Failures.{Failure, FailureKind, of_meaning, of_residual, of_limit, of_memory}
use Rattle.cedar_model.specs.Rules.{best_of_kind, kept, handed_up}
use Rattle.cedar_model.specs.Chains.{is_limit}
use Rattle.cedar_errors.specs.Finals.{is_of_memory, is_final_kind}

pub keeps : (k : FailureKind) (e : Failure) (t : Term) → is_final_kind k ≡ false → best_of_kind k e t ≡ kept t
unfolding best_of_kind is_limit is_of_memory
keeps (of_meaning k) e t is = refl
keeps of_residual e t is = refl
keeps of_limit e t is = absurd (cc)
keeps of_memory e t is = absurd (cc)

pub hands_up : (k : FailureKind) (e : Failure) (t : Term) → is_final_kind k ≡ true → best_of_kind k e t ≡ handed_up e
unfolding best_of_kind is_limit is_of_memory
hands_up (of_meaning k) e t is = absurd (cc)
hands_up of_residual e t is = absurd (cc)
hands_up of_limit e t is = refl
hands_up of_memory e t is = refl
