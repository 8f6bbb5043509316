-- What functions of the standard extensions read of their arguments. One that is missing is `false`, and those beyond
-- are not looked at: functions are called on as many as they take.
use Rattle.std.specs.Prelude.{ℕ, Bool, false, cond, List, [], ◌∷◌, Option, Some, None}
use Rattle.cedar_model.specs.Terms.{Text, bool_literal}
use Rattle.cedar_model.specs.Values.{AbstractValue, plain, set_value, record_value, extension_value}
use Rattle.cedar_model.specs.Outcomes.{text_eq}

-- the key of a value of this extension type
unfoldable pub key_in : Text → AbstractValue → Option (List ℕ)
key_in type_name (plain l) = None
key_in type_name (set_value vs) = None
key_in type_name (record_value fs) = None
key_in type_name (extension_value t k) = cond (text_eq t type_name) (Some k) None

abbrev pub missing : AbstractValue
missing = plain (bool_literal false)

unfoldable pub first_of : List AbstractValue → AbstractValue
first_of [] = missing
first_of (v ∷ vs) = v

unfoldable pub second_of : List AbstractValue → AbstractValue
second_of [] = missing
second_of (v ∷ vs) = first_of vs
