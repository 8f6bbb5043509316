use Rattle.cedar_text_syntax.proofs.PolicyTurns.{first_clause, clauses_one}
use Rattle.cedar_text_syntax.proofs.written.Written.clauses.Goals as goal

pub loop-init : goal.loop-init
loop-init c =
    record {
      start = c.start_at-start.ensures;
      low = c.in_ok-read.ensures.low;
      ok = first_clause c.in_ok-read.ensures.ok c.start_at-start.ensures;
    }

pub another_clause-requires : goal.another_clause-requires
another_clause-requires c = clauses_one c.loop.invariant.ok
