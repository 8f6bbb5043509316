-- Texts that are no JSON.
use Rattle.std.specs.Prelude.{◌≡◌, ⊤, None, IsSomeAnd}
use Rattle.json.specs.Json.{document}
use Rattle.json.specs.Strict.{HasUniqueKeys}
use Rattle.cedar_model.specs.Terms.{Text}
use Rattle.cedar_policy_tests.specs.declared.values.TestsError.{TestsError}
use Rattle.cedar_policy_tests.specs.declared.values.TestsError.TheVariants as errors

-- the text is no JSON; or an object in it has a key twice; or memory ran out
abbrev pub IsUnread : Text → TestsError → Type 0
IsUnread text errors.Syntax = document text ≡ None
IsUnread text errors.DuplicateKey = IsSomeAnd (document text) (λ j. ¬ HasUniqueKeys j)
IsUnread text errors.Memory = ⊤
