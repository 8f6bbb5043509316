use Rattle.std.proofs.Common.{◌≡◌, List, Option, option_map, IfOk, ap, subst}
use Rattle.std.specs.Option.{option_and_then}
use Rattle.json.specs.Value.{value_view}
use Rattle.cedar_policy_tests.specs.Said.{SaidTest, item_tests}
use Rattle.cedar_policy_tests.specs.Views.{tests_view}
use Rattle.cedar_policy_tests.proofs.Lists.{read_writable_ok}
use Rattle.cedar_policy_tests.proofs.arrays.tests_in.Goals as goal

pub returns-in-Some-clause-writable : goal.returns-in-Some-clause-writable
returns-in-Some-clause-writable c =
    let r = c.tests_of.result in
    read_writable_ok tests_view (value_view c.args.value.now) r
    (subst (λ (x : Option (List SaidTest)). IfOk r (λ o. option_map tests_view o ≡ x))
    (ap (option_and_then item_tests) c.in-Some.ensures) c.tests_of.ensures)
