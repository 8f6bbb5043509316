-- The word, and then the value.
use Rattle.std.proofs.Common.{[], ◌∷◌, codes}
use Rattle.cedar_errors.specs.Answers.{value_answer}
use Rattle.cedar_json_writer.specs.Trees.{members_seen}
use Rattle.cedar_explain_json.specs.Words.{outcome, value_if}
use Rattle.cedar_explain_json.proofs.Ordered.{two_put}
use Rattle.cedar_explain_json.proofs.words.put_other.Goals as goal

pub returns : goal.returns
returns c =
    two_put (members_seen c.args.members.now.items) _ _ (outcome (codes "otherValue") ∷ [])
    (value_if c.args.has_values (value_answer c.args.answer.now)) c.in_ok-put_text.ensures c.in_ok-put_if_value.ensures
