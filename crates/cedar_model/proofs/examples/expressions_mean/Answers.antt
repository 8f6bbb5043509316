use Rattle.std.proofs.Common.{refl}
use Rattle.cedar_model.proofs.Computed.{meaning_opened}
use Rattle.cedar_model.proofs.examples.expressions_mean.Goals as goal

pub returns-clause-means_overflow_above : goal.returns-clause-means_overflow_above
unfolding meaning_opened
returns-clause-means_overflow_above c = refl

pub returns-clause-means_overflow_below : goal.returns-clause-means_overflow_below
unfolding meaning_opened
returns-clause-means_overflow_below c = refl

pub returns-clause-means_least_long : goal.returns-clause-means_least_long
unfolding meaning_opened
returns-clause-means_least_long c = refl

pub returns-clause-means_first_error_by_key : goal.returns-clause-means_first_error_by_key
unfolding meaning_opened
returns-clause-means_first_error_by_key c = refl

pub returns-clause-means_left_error_first : goal.returns-clause-means_left_error_first
unfolding meaning_opened
returns-clause-means_left_error_first c = refl

pub returns-clause-means_operands_before_types : goal.returns-clause-means_operands_before_types
unfolding meaning_opened
returns-clause-means_operands_before_types c = refl

pub returns-clause-means_missing_has : goal.returns-clause-means_missing_has
unfolding meaning_opened
returns-clause-means_missing_has c = refl

pub returns-clause-means_missing_attribute_of : goal.returns-clause-means_missing_attribute_of
unfolding meaning_opened
returns-clause-means_missing_attribute_of c = refl

pub returns-clause-means_attribute : goal.returns-clause-means_attribute
unfolding meaning_opened
returns-clause-means_attribute c = refl

pub returns-clause-means_attribute_missing : goal.returns-clause-means_attribute_missing
unfolding meaning_opened
returns-clause-means_attribute_missing c = refl

pub returns-clause-means_key_missing : goal.returns-clause-means_key_missing
unfolding meaning_opened
returns-clause-means_key_missing c = refl

pub returns-clause-means_tag_missing : goal.returns-clause-means_tag_missing
unfolding meaning_opened
returns-clause-means_tag_missing c = refl

pub returns-clause-means_in_ancestor : goal.returns-clause-means_in_ancestor
unfolding meaning_opened
returns-clause-means_in_ancestor c = refl

pub returns-clause-means_in_itself : goal.returns-clause-means_in_itself
unfolding meaning_opened
returns-clause-means_in_itself c = refl

pub returns-clause-means_in_mixed_set : goal.returns-clause-means_in_mixed_set
unfolding meaning_opened
returns-clause-means_in_mixed_set c = refl

pub returns-clause-means_path_stops : goal.returns-clause-means_path_stops
unfolding meaning_opened
returns-clause-means_path_stops c = refl

pub returns-clause-means_path_of_long : goal.returns-clause-means_path_of_long
unfolding meaning_opened
returns-clause-means_path_of_long c = refl

pub returns-clause-means_slot_not_reached : goal.returns-clause-means_slot_not_reached
unfolding meaning_opened
returns-clause-means_slot_not_reached c = refl

pub returns-clause-means_slot_unlinked : goal.returns-clause-means_slot_unlinked
unfolding meaning_opened
returns-clause-means_slot_unlinked c = refl

pub returns-clause-means_unknown : goal.returns-clause-means_unknown
unfolding meaning_opened
returns-clause-means_unknown c = refl

pub returns-clause-means_set_once : goal.returns-clause-means_set_once
unfolding meaning_opened
returns-clause-means_set_once c = refl

pub returns-clause-means_argument_errs_first : goal.returns-clause-means_argument_errs_first
unfolding meaning_opened
returns-clause-means_argument_errs_first c = refl

pub returns-clause-means_no_such_function : goal.returns-clause-means_no_such_function
unfolding meaning_opened
returns-clause-means_no_such_function c = refl

pub returns-clause-means_too_few_arguments : goal.returns-clause-means_too_few_arguments
unfolding meaning_opened
returns-clause-means_too_few_arguments c = refl

pub returns-clause-means_function : goal.returns-clause-means_function
unfolding meaning_opened
returns-clause-means_function c = refl

pub returns-clause-means_is : goal.returns-clause-means_is
unfolding meaning_opened
returns-clause-means_is c = refl
