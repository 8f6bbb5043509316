-- It is put behind the others.
use Rattle.cedar_explain.specs.Requests.{IsWellExplained}
use Rattle.cedar_explain.proofs.Listed.{ok_more, ok_pushed}
use Rattle.cedar_explain.proofs.requests.add_explained.Goals as goal

pub returns-clause-policies : goal.returns-clause-policies
returns-clause-policies g c =
    ok_more c.add_last.result c.args.explained.now.items c.add_last.new.items.items c.in_ok-policy.policy c.args.policy.now
    c.add_last.ensures.ok c.in_ok-policy.ensures.policy

pub returns-clause-each : goal.returns-clause-each
returns-clause-each g c =
    ok_pushed c.add_last.result (IsWellExplained c.args.evaluator.now) c.args.explained.now.items c.add_last.new.items.items
    c.in_ok-policy.policy c.add_last.ensures.ok c.in_ok-policy.ensures.each
