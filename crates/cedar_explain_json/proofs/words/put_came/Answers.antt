use Rattle.std.proofs.Common.{◌≡◌, ◌++◌, OnOk, sym, subst}
use Rattle.cedar_errors.specs.Answers.{value_answer}
use Rattle.cedar_json_writer.specs.Trees.{members_seen}
use Rattle.cedar_explain.specs.Views.{part_came}
use Rattle.cedar_explain.specs.declared.outcomes.PartOutcome.{PartOutcome}
use Rattle.cedar_explain_json.specs.Words.{came_outcome, other_outcome}
use Rattle.cedar_explain_json.proofs.words.put_came.Goals as goal

pub returns-in-False : goal.returns-in-False
returns-in-False c =
    subst (λ (o : PartOutcome). OnOk c.put_text-in-False.result (members_seen c.put_text-in-False.new.members.items
    ≡ members_seen c.args.members.now.items
    ++ came_outcome (part_came o) (other_outcome c.args.has_values (value_answer c.args.answer.now))))
    (sym c.in-False.is) c.put_text-in-False.ensures
