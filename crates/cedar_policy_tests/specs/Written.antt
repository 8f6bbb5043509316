-- Tests whose parts can be written as JSON.
use Rattle.std.specs.Prelude.{List, All, IfSome}
use Rattle.json.specs.Tree.{HasNumbers}
use Rattle.cedar_policy_tests.specs.Said.{SaidTest}

-- in the request, and in the entities, if there are any, each number is one
pub record IsWritable (t : SaidTest) : Type 0 where
  pub request : HasNumbers t.request
  pub entities : IfSome t.entities HasNumbers

abbrev pub AreWritable : List SaidTest → Type 0
AreWritable ts = All IsWritable ts
