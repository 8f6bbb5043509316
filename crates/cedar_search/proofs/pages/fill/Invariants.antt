use Rattle.std.proofs.Common.{drop, length, ◌≤◌, []}
use Rattle.cedar_search.specs.Questions.{question, names_of, candidates_of}
use Rattle.cedar_search.proofs.Walking.{AreFoundUpTo}
use Rattle.cedar_search.proofs.pages.fill.Given as goal

abbrev pub invariant-candidates : goal.invariant-candidates
invariant-candidates g l =
    record {
      found : AreFoundUpTo (question l.fn.authorizer l.fn.search) (drop l.fn.after (candidates_of l.fn.search)) (drop l.index (candidates_of l.fn.search)) [] (names_of l.found.items);
      within : length (names_of l.found.items) ≤ l.fn.count;
    }
