-- Why there is no decision, as it is told.
use Rattle.std.specs.Prelude.{◌≡◌, ⊤, ◌++◌, codes, string_bytes}
use Rattle.json.specs.Json.{Json, object, member, no_members, string}
use Rattle.json.specs.Print.{print}
use Rattle.json.specs.Tree.{json_tokens}
use Rattle.cedar_model.specs.Terms.{Text}
use Rattle.cedar_json_reader.specs.declared.errors.JsonError.{JsonError}
use Rattle.cedar_json_reader.specs.declared.errors.JsonError.TheVariants as errors
use Rattle.cedar_service.specs.declared.faults.Refusal.{Refusal}
use Rattle.cedar_service.specs.declared.faults.Refusal.TheVariants as refusals

-- where something is wrong, and why: a path and a reason
abbrev pub fault_json : Text → Text → Json
fault_json path reason =
    object (member (codes "path") (string path) (member (codes "reason") (string reason) no_members))

-- the same as text
abbrev pub fault_text : Text → Text → Text
fault_text path reason = print (json_tokens (fault_json path reason))

-- it is that what stands there is wrong, for this reason
abbrev pub IsFault : Text → Text → Text → Type 0
IsFault path reason t = t ≡ fault_text path reason

-- it is that something is wrong there or below, for some reason
pub record IsFaultBelow (path : Text) (t : Text) : Type 0 where
  pub rest : Text
  pub reason : Text
  pub told : t ≡ fault_text (path ++ rest) reason

-- what is told is so; else memory ran out
abbrev pub IsToldAs : (Text → Type 0) → Refusal → Type 0
IsToldAs Is refusals.Memory = ⊤
IsToldAs Is (refusals.Told t) = Is (string_bytes t)

-- the error is not that memory ran out
abbrev pub IsOfJson : JsonError → Type 0
IsOfJson errors.Syntax = ⊤
IsOfJson errors.DuplicateKey = ⊤
IsOfJson (errors.Refused p r) = ⊤
IsOfJson (errors.Evaluation p e) = ⊤
IsOfJson (errors.Memory e) = ⊥
