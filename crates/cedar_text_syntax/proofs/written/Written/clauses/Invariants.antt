use Rattle.std.proofs.Common.{◌≡◌, ◌≤◌}
use Rattle.cedar_text_lexer.specs.Sequence.{start_at}
use Rattle.cedar_text_syntax.specs.Trees.{trees}
use Rattle.cedar_text_syntax.specs.PolicyReading.{PutsClauses}
use Rattle.cedar_text_syntax.proofs.written.Written.clauses.Given as goal

abbrev pub invariant-loop : goal.invariant-loop
invariant-loop l =
    record {
      start : l.start ≡ start_at l.tokens l.index;
      low : l.read.height ≤ l.limit;
      ok : PutsClauses l.tokens l.index l.start l.read.next l.read.end l.read.height (trees l.fn.self.steps.items)
          (trees l.self.steps.items);
    }
