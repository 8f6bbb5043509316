use Rattle.std.proofs.Common.{subst, codes, string_bytes}
use Rattle.cedar_model.specs.Terms.{Text}
use Rattle.cedar_json_writer.specs.Trees.{json_view}
use Rattle.cedar_json_lines.specs.Objects.{IsOneMore}
use Rattle.cedar_cli_explain.proofs.answers.put_beside.Goals as goal

pub returns-clause-output : goal.returns-clause-output
returns-clause-output c =
    subst (λ (t : Text). IsOneMore t (codes "explanation") (json_view c.args.explanation.now) (string_bytes c.in_ok-joined.joined))
    c.as_str.ensures.value c.in_ok-joined.ensures
