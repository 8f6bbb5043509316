-- The first, and then the second.
use Rattle.cedar_expressions.specs.View.{view}
use Rattle.cedar_explain_json.specs.Operands.{unless_literal, terms_seen}
use Rattle.cedar_explain_json.proofs.Ordered.{two_put}
use Rattle.cedar_explain_json.proofs.operands.put_two.Goals as goal

pub returns : goal.returns
returns c =
    two_put (terms_seen c.args.found.now.items) _ _ (unless_literal (view c.args.first.now))
    (unless_literal (view c.args.second.now)) c.in_ok-put_operand.ensures c.in_ok-put_operand-2.ensures
