use Rattle.std.proofs.Common.{◌≡◌, ◌+◌, map, drop}
use Rattle.cedar_extensions.specs.Extensions.{extensions_view, calls_of}
use Rattle.cedar_policy_tests.specs.Views.{test_view}
use Rattle.cedar_cli_tests.specs.Results.{IsVerdictBy}
use Rattle.cedar_cli_tests.proofs.Following.{AreSoFar}
use Rattle.cedar_cli_tests.proofs.runs.run_each.Given as goal

-- the tests so far, and those that are left; each is counted
abbrev pub invariant-tests : goal.invariant-tests
invariant-tests g l = record {
  so_far : AreSoFar (IsVerdictBy (extensions_view l.fn.extensions) (calls_of l.fn.extensions) l.fn.tested.policies.now
      l.fn.tested.way l.fn.asked) (map test_view l.fn.tests) (map test_view (drop l.i l.fn.tests)) (l.i + 1) l.results;
  counted : l.results.passed + l.results.failed ≡ l.i;
}
