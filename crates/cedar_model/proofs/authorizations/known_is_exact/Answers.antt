use Rattle.std.specs.Prelude.{false}
use Rattle.cedar_model.specs.Terms.{bool_literal}
use Rattle.cedar_model.specs.Values.{plain}
use Rattle.cedar_model.proofs.Exactly.{answer_exact, decision_exact, response_exact, low_conditions}
use Rattle.cedar_model.proofs.authorizations.known_is_exact.Goals as goal

pub returns-clause-answers : goal.returns-clause-answers
returns-clause-answers g i = λ ans s k sigma. answer_exact _ ans k.functions_agree s k.nothing_unknown sigma

pub returns-clause-conditions : goal.returns-clause-conditions
returns-clause-conditions g i = λ ans s k sigma. decision_exact _ ans k.functions_agree s k.nothing_unknown sigma

pub returns-clause-responses : goal.returns-clause-responses
returns-clause-responses g i = λ mode ans s k sigma levels.
    response_exact _ ans k.functions_agree s k.nothing_unknown sigma levels mode

pub returns-clause-limit : goal.returns-clause-limit
returns-clause-limit g i = λ mode ans s k levels.
    low_conditions _ ans k.functions_agree s k.nothing_unknown (λ n. plain (bool_literal false)) levels mode
