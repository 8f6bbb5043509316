-- What a JSON value says, or why a part of it is refused, and where that stands.
use Rattle.std.specs.Prelude.{◌≡◌, ⊤, List, [], ◌∷◌, Result, Ok, Err}
use Rattle.cedar_sql_columns.specs.declared.errors.ColumnsError.{ColumnsError}
use Rattle.cedar_sql_columns.specs.declared.errors.ColumnsError.TheVariants as errors
use Rattle.cedar_sql_columns.specs.declared.errors.RefusalReason.{RefusalReason}
use Rattle.cedar_sql_columns.specs.Paths.{Step, path_view}
use Rattle.cedar_sql_columns.specs.declared.paths.JsonPath.{JsonPath}

pub record Refusal : Type 0 where
  pub path : List Step
  pub reason : RefusalReason

-- what a JSON value says, or why it says nothing
abbrev pub Said : Type 0 → Type 0
Said T = Result T Refusal

-- the whole value is refused
abbrev pub refused : {T : Type 0} → RefusalReason → Said T
refused r = Err (record { path = []; reason = r })

-- the part of this step is refused
abbrev pub refused_there : {T : Type 0} → Step → RefusalReason → Said T
refused_there s r = Err (record { path = s ∷ []; reason = r })

-- the same of a part, seen from the value that it is a part of
abbrev pub under : {T : Type 0} → Step → Said T → Said T
under s (Ok t) = Ok t
under s (Err r) = Err (record { path = s ∷ r.path; reason = r.reason })

-- what is made of what was said
abbrev pub made_of : {T U : Type 0} → (T → U) → Said T → Said U
made_of f (Ok t) = Ok (f t)
made_of f (Err r) = Err r

-- what is said of what was said
abbrev pub and_then : {T U : Type 0} → (T → Said U) → Said T → Said U
and_then f (Ok t) = f t
and_then f (Err r) = Err r

-- the error is that refusal, or out of memory
abbrev pub IsRefusal : {T : Type 0} → Said T → ColumnsError → Type 0
IsRefusal said errors.Syntax = ⊥
IsRefusal said errors.DuplicateKey = ⊥
IsRefusal said (errors.Refused path reason) = said ≡ Err (record { path = path_view path; reason = reason })
IsRefusal said (errors.Memory error) = ⊤

-- the error is that refusal of a part there, or out of memory
abbrev pub IsRefusedAt : List Step → RefusalReason → ColumnsError → Type 0
IsRefusedAt path reason errors.Syntax = ⊥
IsRefusedAt path reason errors.DuplicateKey = ⊥
IsRefusedAt path reason (errors.Refused p r) = (path_view p ≡ path) × (r ≡ reason)
IsRefusedAt path reason (errors.Memory e) = ⊤

-- the way is one step longer in front, and the reason is the same
abbrev pub IsRefusedBelow : Step → ColumnsError → JsonPath → RefusalReason → Type 0
IsRefusedBelow s errors.Syntax path reason = ⊥
IsRefusedBelow s errors.DuplicateKey path reason = ⊥
IsRefusedBelow s (errors.Refused p r) path reason = (path_view path ≡ s ∷ path_view p) × (reason ≡ r)
IsRefusedBelow s (errors.Memory e) path reason = ⊥

-- the second error is the first, of a part that this step leads to; or out of memory
abbrev pub IsUnder : Step → ColumnsError → ColumnsError → Type 0
IsUnder s e errors.Syntax = e ≡ errors.Syntax
IsUnder s e errors.DuplicateKey = e ≡ errors.DuplicateKey
IsUnder s e (errors.Refused path reason) = IsRefusedBelow s e path reason
IsUnder s e (errors.Memory error) = ⊤

-- memory ran out
abbrev pub IsMemory : ColumnsError → Type 0
IsMemory errors.Syntax = ⊥
IsMemory errors.DuplicateKey = ⊥
IsMemory (errors.Refused path reason) = ⊥
IsMemory (errors.Memory error) = ⊤
