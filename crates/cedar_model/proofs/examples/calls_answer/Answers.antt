use Rattle.cedar_model.proofs.Computed.{computed, opened}
use Rattle.std.proofs.Common.{refl}
use Rattle.std.specs.Prelude.{false}
use Rattle.cedar_model.proofs.examples.calls_answer.Goals as goal

pub returns-clause-argument_errs_first : goal.returns-clause-argument_errs_first
unfolding opened
returns-clause-argument_errs_first c = computed false 6 _ _ refl (λ e. cc)

pub returns-clause-no_such_function : goal.returns-clause-no_such_function
unfolding opened
returns-clause-no_such_function c = computed false 6 _ _ refl (λ e. cc)

pub returns-clause-unknown_argument : goal.returns-clause-unknown_argument
unfolding opened
returns-clause-unknown_argument c = computed false 6 _ _ refl (λ e. cc)

pub returns-clause-too_many_arguments : goal.returns-clause-too_many_arguments
unfolding opened
returns-clause-too_many_arguments c = computed false 6 _ _ refl (λ e. cc)

pub returns-clause-too_few_arguments : goal.returns-clause-too_few_arguments
unfolding opened
returns-clause-too_few_arguments c = computed false 6 _ _ refl (λ e. cc)

pub returns-clause-function_answers : goal.returns-clause-function_answers
unfolding opened
returns-clause-function_answers c = computed false 6 _ _ refl (λ e. cc)
