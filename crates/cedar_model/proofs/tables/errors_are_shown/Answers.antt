use Rattle.cedar_model.proofs.Tabled.{shown}
use Rattle.cedar_model.proofs.Computed.{opened}
use Rattle.std.proofs.Common.{refl}
use Rattle.std.specs.Prelude.{false}
use Rattle.cedar_model.proofs.tables.errors_are_shown.Goals as goal

pub returns-clause-tag_of_missing : goal.returns-clause-tag_of_missing
unfolding opened
returns-clause-tag_of_missing c = shown false 6 _ _ refl (λ e. cc)

pub returns-clause-five_names_shown : goal.returns-clause-five_names_shown
unfolding opened
returns-clause-five_names_shown c = shown false 6 _ _ refl (λ e. cc)

pub returns-clause-other_kind_shown : goal.returns-clause-other_kind_shown
unfolding opened
returns-clause-other_kind_shown c = shown false 6 _ _ refl (λ e. cc)

pub returns-clause-key_missing : goal.returns-clause-key_missing
unfolding opened
returns-clause-key_missing c = shown false 6 _ _ refl (λ e. cc)

pub returns-clause-sub_overflows : goal.returns-clause-sub_overflows
unfolding opened
returns-clause-sub_overflows c = shown false 6 _ _ refl (λ e. cc)

pub returns-clause-mul_overflows : goal.returns-clause-mul_overflows
unfolding opened
returns-clause-mul_overflows c = shown false 6 _ _ refl (λ e. cc)

pub returns-clause-function_fails : goal.returns-clause-function_fails
unfolding opened
returns-clause-function_fails c = shown false 6 _ _ refl (λ e. cc)

pub returns-clause-extensions_compared : goal.returns-clause-extensions_compared
unfolding opened
returns-clause-extensions_compared c = shown false 6 _ _ refl (λ e. cc)

pub returns-clause-extensions_compared_back : goal.returns-clause-extensions_compared_back
unfolding opened
returns-clause-extensions_compared_back c = shown false 6 _ _ refl (λ e. cc)
