-- What the JSON of a response says, or why a part of it is refused, and where that stands.
use Rattle.std.specs.Prelude.{◌≡◌, ⊤, List, [], ◌∷◌, ◌++◌, Option, Some, None, Result, Ok, Err}
use Rattle.cedar_policy_json_reader.specs.declared.errors.PolicyJsonError.{PolicyJsonError}
use Rattle.cedar_policy_json_reader.specs.declared.errors.PolicyJsonError.TheVariants as policies
use Rattle.cedar_policy_json_reader.specs.declared.paths.JsonPath.{JsonPath}
use Rattle.cedar_policy_json_reader.specs.Paths.{Step, path_view}
use Rattle.cedar_policy_json_reader.specs.Refusals as json
use Rattle.cedar_response_json_reader.specs.declared.errors.ResponseJsonError.{ResponseJsonError}
use Rattle.cedar_response_json_reader.specs.declared.errors.ResponseJsonError.TheVariants as errors
use Rattle.cedar_response_json_reader.specs.declared.errors.ResponseRefusal.{ResponseRefusal}
use Rattle.cedar_response_json_reader.specs.declared.errors.ResponseRefusal.TheVariants as reasons

pub record Refusal : Type 0 where
  pub path : List Step
  pub reason : ResponseRefusal

-- what a JSON value says, or why it says nothing
abbrev pub Said : Type 0 → Type 0
Said T = Result T Refusal

-- the whole value is refused
abbrev pub refused : {T : Type 0} → ResponseRefusal → Said T
refused r = Err (record { path = []; reason = r })

-- the part of this step is refused
abbrev pub refused_there : {T : Type 0} → Step → ResponseRefusal → Said T
refused_there s r = Err (record { path = s ∷ []; reason = r })

-- the same of a part, seen from the value that it is a part of
abbrev pub under : {T : Type 0} → Step → Said T → Said T
under s (Ok t) = Ok t
under s (Err r) = Err (record { path = s ∷ r.path; reason = r.reason })

-- what the part says and the others, or the first refusal
abbrev pub before : {T : Type 0} → Said T → Said (List T) → Said (List T)
before (Ok t) (Ok ts) = Ok (t ∷ ts)
before (Ok t) (Err r) = Err r
before (Err r) ts = Err r

-- both, or the first refusal
abbrev pub both_said : {T U : Type 0} → Said T → Said U → Said (T × U)
both_said (Ok t) (Ok u) = Ok (t, u)
both_said (Ok t) (Err r) = Err r
both_said (Err r) u = Err r

-- what is made of what was said
abbrev pub made_of : {T U : Type 0} → (T → U) → Said T → Said U
made_of f (Ok t) = Ok (f t)
made_of f (Err r) = Err r

-- what is said of what was said
abbrev pub and_then : {T U : Type 0} → (T → Said U) → Said T → Said U
and_then f (Ok t) = f t
and_then f (Err r) = Err r

-- what is said, unless there is a reason to refuse it
abbrev pub unless : {T : Type 0} → Option ResponseRefusal → Said T → Said T
unless None s = s
unless (Some r) s = refused r

-- what was looked for, or this refusal
abbrev pub or_refused : {T : Type 0} → ResponseRefusal → Option T → Said T
or_refused r None = refused r
or_refused r (Some t) = Ok t

-- what Cedar's JSON of policies says, or the refusal of it
abbrev pub of_policies : {T : Type 0} → json.Said T → Said T
of_policies (Ok t) = Ok t
of_policies (Err r) = Err (record { path = r.path; reason = reasons.InPolicy r.reason })

-- the error is that refusal, or out of memory
abbrev pub IsRefusal : {T : Type 0} → Said T → ResponseJsonError → Type 0
IsRefusal said errors.Syntax = ⊥
IsRefusal said (errors.Refused path reason) = said ≡ Err (record { path = path_view path; reason = reason })
IsRefusal said (errors.Memory error) = ⊤

-- the error is that refusal of a part there, or out of memory
abbrev pub IsRefusedAt : List Step → ResponseRefusal → ResponseJsonError → Type 0
IsRefusedAt path reason errors.Syntax = ⊥
IsRefusedAt path reason (errors.Refused p r) = (path_view p ≡ path) × (r ≡ reason)
IsRefusedAt path reason (errors.Memory e) = ⊤

-- the way is one step longer in front, and the reason is the same
abbrev pub IsRefusedBelow : Step → ResponseJsonError → JsonPath → ResponseRefusal → Type 0
IsRefusedBelow s errors.Syntax path reason = ⊥
IsRefusedBelow s (errors.Refused p r) path reason = (path_view path ≡ s ∷ path_view p) × (reason ≡ r)
IsRefusedBelow s (errors.Memory e) path reason = ⊥

-- the second error is the first, of a part that this step leads to; or out of memory
abbrev pub IsUnder : Step → ResponseJsonError → ResponseJsonError → Type 0
IsUnder s e errors.Syntax = e ≡ errors.Syntax
IsUnder s e (errors.Refused path reason) = IsRefusedBelow s e path reason
IsUnder s e (errors.Memory error) = ⊤

-- memory ran out
abbrev pub IsMemory : ResponseJsonError → Type 0
IsMemory errors.Syntax = ⊥
IsMemory (errors.Refused path reason) = ⊥
IsMemory (errors.Memory error) = ⊤

-- the error is this one of Cedar's JSON of policies
abbrev pub IsOfPolicies : PolicyJsonError → ResponseJsonError → Type 0
IsOfPolicies policies.Syntax e = e ≡ errors.Syntax
IsOfPolicies policies.DuplicateKey e = e ≡ errors.Syntax
IsOfPolicies (policies.Refused path reason) e = IsRefusedAt (path_view path) (reasons.InPolicy reason) e
IsOfPolicies (policies.Memory error) e = IsMemory e

-- the new list has one more at its end, which is what was said
abbrev pub IsOneMore : {T : Type 0} → List T → Said T → List T → Type 0
IsOneMore old s new = made_of (λ t. old ++ t ∷ []) s ≡ Ok new
