use Rattle.std.proofs.Common.{drop}
use Rattle.cedar_search.specs.Questions.{question, names_of, candidates_of}
use Rattle.cedar_search.proofs.Walking.{AreFoundUpTo}
use Rattle.cedar_search.proofs.searches.add_permitted.Given as goal

abbrev pub invariant-candidates : goal.invariant-candidates
invariant-candidates g l =
    AreFoundUpTo (question l.fn.authorizer l.fn.search) (candidates_of l.fn.search) (names_of (drop l.candidate-index l.candidate-items)) (names_of l.fn.found.items) (names_of l.found.items)
