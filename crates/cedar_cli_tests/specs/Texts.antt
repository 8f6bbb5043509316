-- The texts of the parts of a test.
use Rattle.std.specs.Prelude.{◌≡◌, option_map, string_bytes}
use Rattle.cedar_policy_tests.specs.Said.{SaidTest}
use Rattle.cedar_cli_tests.specs.declared.texts.TestTexts.{TestTexts}
use Rattle.cedar_cli_tests.specs.Tested.{json_text}

-- they are those of the test's request and, if it has its own, entities
pub record AreTexts (t : SaidTest) (x : TestTexts) : Type 0 where
  pub request_is : string_bytes x.request ≡ json_text t.request
  pub entities_are : option_map string_bytes x.entities ≡ option_map json_text t.entities
