use Rattle.std.proofs.Common.{List, ◌++◌, drop, map, string_bytes}
use Rattle.cedar_model.specs.Terms.{Text}
use Rattle.cedar_layers.specs.PolicySets.{policies_view}
use Rattle.cedar_expectations.specs.Named.{AreErrorTexts}
use Rattle.cedar_expectations.proofs.names.error_texts.Given as goal

-- what is written is all, once those that are left stand behind it
abbrev pub invariant-errors : goal.invariant-errors
invariant-errors l =
    (ts : List Text) → AreErrorTexts (policies_view l.fn.policies) (drop l.error-index l.fn.errors) ts
    → AreErrorTexts (policies_view l.fn.policies) l.fn.errors (map string_bytes l.texts.items ++ ts)
