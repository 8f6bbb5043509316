-- Answers as plain data.
use Rattle.std.specs.Prelude.{List, map, string_bytes}
use Rattle.cedar_model.specs.Terms.{Text}
use Rattle.cedar_model.specs.Policies.{Decision}
use Rattle.cedar_decisions.specs.Decisions.{decision_view}
use Rattle.cedar_expectations.specs.declared.answers.Answer.{Answer}

-- the decision, the names of the policies that determined it, and the texts of the errors
pub record AnswerView : Type 0 where
  pub decision : Decision
  pub reasons : List Text
  pub errors : List Text

abbrev pub answer_view : Answer → AnswerView
answer_view a = record {
  decision = decision_view a.decision;
  reasons = map string_bytes a.reasons.items;
  errors = map string_bytes a.errors.items;
}
