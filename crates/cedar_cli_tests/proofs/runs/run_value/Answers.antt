use Rattle.std.proofs.Common.{sym, subst, ap, ◌∙◌, IfSome, option_map}
use Rattle.json.specs.Tree.{HasNumbers}
use Rattle.json.specs.Value.{value_view}
use Rattle.cedar_extensions.specs.Extensions.{extensions_view, calls_of}
use Rattle.cedar_policy_tests.specs.Views.{tests_view}
use Rattle.cedar_policy_tests.specs.Written.{AreWritable}
use Rattle.cedar_cli.proofs.Composed.{of_ok, of_err}
use Rattle.cedar_cli.proofs.Reasoned.{because}
use Rattle.cedar_cli_tests.specs.Results.{AreTestedBy, AreReadTestedBy}
use Rattle.cedar_cli_tests.proofs.Judging.{told_as}
use Rattle.cedar_cli_tests.proofs.runs.run_value.Goals as goal

pub run_all-requires-clause-writable : goal.run_all-requires-clause-writable
run_all-requires-clause-writable g c =
    subst (λ o. IfSome o (λ v. HasNumbers (value_view c.args.value.now) → AreWritable (tests_view v))) c.in-Some.is
    c.in_ok-read.ensures.writable c.requires.writable

pub returns-in-Some-clause-tested : goal.returns-in-Some-clause-tested
returns-in-Some-clause-tested g c =
    let x = c.args.extensions.now in
    let e = c.args.tested in
    let q = c.args.asked.now in
    let j = value_view c.args.value.now in
    let ts = tests_view c.in-Some.all in
    of_ok (AreTestedBy (extensions_view x) (calls_of x) e.policies.now e.way q ts)
    (AreReadTestedBy (extensions_view x) (calls_of x) e.policies.now e.way q j)
    (λ p h. record {
      said = ts;
      tests_are = sym c.in_ok-read.ensures.said ∙ ap (option_map tests_view) c.in-Some.is;
      tested = h;
    })
    c.run_all.result c.run_all.ensures.tested

pub returns-in-Some-clause-refused : goal.returns-in-Some-clause-refused
returns-in-Some-clause-refused g c =
    of_err _ _ (λ r. because ⊥ _ (λ h. absurd h) r) c.run_all.result c.run_all.ensures.refused

pub returns-in-None-clause-refused : goal.returns-in-None-clause-refused
returns-in-None-clause-refused g c =
    told_as _ c.no_tests.result (sym c.in_ok-read.ensures.said ∙ ap (option_map tests_view) c.in-None.is)
