use Rattle.std.proofs.Common.{sym, subst}
use Rattle.cedar_model.specs.Failures.{value}
use Rattle.cedar_model.specs.Rules.{binary_of_parts}
use Rattle.cedar_names.specs.Leaves.{binary_view}
use Rattle.cedar_values.specs.Residuals.{partial_view}
use Rattle.cedar_layers.specs.Stores.{store_view}
use Rattle.cedar_errors.specs.Answers.{AnswersWith}
use Rattle.cedar_extensions.specs.Extensions.{extensions_view}
use Rattle.cedar_operators.specs.Operands.{given}
use Rattle.cedar_operators.proofs.partial.binary.binary_of_parts.Goals as goal

pub returns-in-Value-second : goal.returns-in-Value-second
unfolding binary_of_parts
returns-in-Value-second g c = λ s.
    let before = given s (store_view c.args.entities.now) (extensions_view c.args.extensions.now) in
    let op = binary_view c.args.op in
    subst (λ p. AnswersWith c.binary_app.result (binary_of_parts before op (partial_view p) (partial_view c.args.second))) (sym c.in-Value.is)
    (subst (λ q. AnswersWith c.binary_app.result (binary_of_parts before op (value c.in-Value.a.what) (partial_view q))) (sym c.in-Value-second.is) (c.binary_app.ensures s))
