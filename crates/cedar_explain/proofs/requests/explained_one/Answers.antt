-- It is as `explain_policy` promises it.
use Rattle.cedar_explain.proofs.requests.explained_one.Goals as goal

pub returns-clause-each : goal.returns-clause-each
returns-clause-each g c = record {
  parts = c.in_ok-explanation.ensures.parts;
  reached = c.in_ok-explanation.ensures.reached;
  decided = c.in_ok-explanation.ensures.decides;
  needed = c.in_ok-explanation.ensures.needed;
}
