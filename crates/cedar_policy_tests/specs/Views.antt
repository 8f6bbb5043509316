-- Tests as plain data.
use Rattle.std.specs.Prelude.{List, map, option_map, Vec}
use Rattle.std.specs.Borrow.{Bor}
use Rattle.std.specs.declared.alloc.Global.{Global}
use Rattle.json.specs.Json.{Json}
use Rattle.json.specs.Value.{value_view, items_view}
use Rattle.json.specs.declared.value.Value.{Value}
use Rattle.cedar_model.specs.Terms.{Text}
use Rattle.cedar_decisions.specs.Decisions.{decision_view}
use Rattle.cedar_policy_tests.specs.declared.reading.PolicyTest.{PolicyTest}
use Rattle.cedar_policy_tests.specs.Said.{SaidTest, text_list}

abbrev pub reason_view : Bor (Vec (Value Global) Global) → List Text
reason_view names = text_list (items_view names.now.items)

abbrev pub text_seen : Bor Text → Text
text_seen t = t.now

abbrev pub json_seen : Bor (Value Global) → Json
json_seen v = value_view v.now

abbrev pub test_view : PolicyTest → SaidTest
test_view t = record {
  name = t.name.now;
  request = value_view t.request.now;
  entities = option_map json_seen t.entities;
  decision = decision_view t.decision;
  reason = option_map reason_view t.reason;
  num_errors = t.num_errors;
}

abbrev pub tests_view : Vec PolicyTest Global → List SaidTest
tests_view v = map test_view v.items
