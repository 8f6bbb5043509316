use Rattle.cedar_text_syntax.proofs.PolicyTurns.{joined_clauses, clause_two}
use Rattle.cedar_text_syntax.proofs.written.Written.another_clause.Goals as goal

pub put-requires : goal.put-requires
put-requires c = clause_two c.requires c.in_ok-more.ensures.ok

pub returns-clause-ok : goal.returns-clause-ok
returns-clause-ok c =
    λ i ts h. joined_clauses h c.in_ok-more.ensures.ok c.max-below.ensures c.in_ok-put.ensures.ok
