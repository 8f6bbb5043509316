-- A failure that is not out of memory by its kind is not the failure of that name.
use Rattle.std.specs.Prelude.{◌≡◌, ◌≢◌, false}
use Rattle.std.proofs.Common.{ap}
use Rattle.cedar_model.specs.Failures.{Failure, out_of_memory, failure_kind}
use Rattle.cedar_errors.specs.Finals.{is_of_memory}
use Rattle.cedar_model.proofs.Injections.{true_is_not_false}

pub is_not_memory : (f : Failure) → is_of_memory (failure_kind f) ≡ false → f ≢ out_of_memory
unfolding is_of_memory failure_kind
is_not_memory f h same = true_is_not_false (ap (λ x. is_of_memory (failure_kind x)) same) h
