use Rattle.std.proofs.Common.{sym, subst, List, map, ap}
use Rattle.cedar_extensions.specs.Extensions.{extensions_view, calls_of}
use Rattle.cedar_policy_tests.specs.Said.{SaidTest}
use Rattle.cedar_policy_tests.specs.Views.{test_view}
use Rattle.cedar_policy_tests.specs.Written.{AreWritable}
use Rattle.cedar_cli_tests.specs.Results.{AreTestedBy}
use Rattle.cedar_cli_tests.proofs.Judging.{all_printed}
use Rattle.cedar_cli_tests.proofs.runs.run_all.Goals as goal

pub run_each-results-requires-clause-writable : goal.run_each-results-requires-clause-writable
run_each-results-requires-clause-writable g c =
    subst (λ ts. AreWritable (map test_view ts)) (sym c.deref.ensures.value) c.requires.writable

pub returns-clause-tested : goal.returns-clause-tested
returns-clause-tested g c =
    let x = c.args.extensions.now in
    let e = c.args.tested in
    subst (λ (ts : List SaidTest). AreTestedBy (extensions_view x) (calls_of x) e.policies.now e.way c.args.asked.now ts
    c.in_ok-printed.printed) (ap (map test_view) c.deref.ensures.value)
    (all_printed (extensions_view x) (calls_of x) e.policies.now e.way c.args.asked.now _ c.in_ok-all.all
    c.in_ok-printed.printed c.in_ok-all.ensures c.in_ok-printed.ensures.output c.in_ok-printed.ensures.status)
