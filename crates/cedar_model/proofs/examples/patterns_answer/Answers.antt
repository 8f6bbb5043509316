use Rattle.std.proofs.Common.{refl}
use Rattle.std.specs.Prelude.{false}
use Rattle.std.specs.Str.{chars}
use Rattle.cedar_model.proofs.Computed.{computed, opened}
use Rattle.cedar_model.proofs.examples.patterns_answer.Goals as goal

pub returns-clause-matches : goal.returns-clause-matches
unfolding opened chars
returns-clause-matches c = computed false 6 _ _ refl (λ e. cc)

pub returns-clause-fails : goal.returns-clause-fails
unfolding opened chars
returns-clause-fails c = computed false 6 _ _ refl (λ e. cc)

pub returns-clause-long : goal.returns-clause-long
unfolding opened chars
returns-clause-long c = computed false 6 _ _ refl (λ e. cc)
