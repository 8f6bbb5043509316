-- The shapes of objects: their one member, or the values at keys that they have, and no others.
use Rattle.std.specs.Prelude.{ℕ, ◌==◌, length, if◌then◌else◌, Option, Some, None, Ok, option_map}
use Rattle.json.specs.Json.{Json}
use Rattle.json.specs.Find.{as_object, as_str, get}
use Rattle.json.specs.Strict.{keys}
use Rattle.cedar_model.specs.Terms.{Text}
use Rattle.cedar_sql_columns.specs.declared.errors.RefusalReason.TheVariants as reasons
use Rattle.cedar_sql_columns.specs.Paths.{at_key}
use Rattle.cedar_sql_columns.specs.Refusals.{Said, refused, refused_there}

-- how many members an object has
abbrev pub member_count : Json → Option ℕ
member_count j = option_map (λ ms. length (keys ms)) (as_object j)

-- no object has another member than those that were asked for, where it has as many
abbrev pub exactly : {T : Type 0} → ℕ → ℕ → T → Said T
exactly asked has t = if has == asked then Ok t else refused reasons.UnexpectedMember

abbrev pub missing : {T : Type 0} → Text → Said T
missing k = refused_there (at_key k) reasons.MissingMember

-- ---- one member

abbrev pub one_found : Text → ℕ → Option Json → Said Json
one_found k n None = missing k
one_found k n (Some a) = exactly 1 n a

abbrev pub one_counted : Text → Json → Option ℕ → Said Json
one_counted k j None = refused reasons.NotAnObject
one_counted k j (Some n) = one_found k n (get k j)

-- what stands at this key, the one that the object has
abbrev pub one_at : Text → Json → Said Json
one_at k j = one_counted k j (member_count j)

-- ---- two members

abbrev pub two_found : Text → Text → ℕ → Option Json → Option Json → Said (Json × Json)
two_found k l n None b = missing k
two_found k l n (Some a) None = missing l
two_found k l n (Some a) (Some b) = exactly 2 n (a, b)

abbrev pub two_counted : Text → Text → Json → Option ℕ → Said (Json × Json)
two_counted k l j None = refused reasons.NotAnObject
two_counted k l j (Some n) = two_found k l n (get k j) (get l j)

-- what stands at these two keys, the only ones that the object has
abbrev pub two_at : Text → Text → Json → Said (Json × Json)
two_at k l j = two_counted k l j (member_count j)

-- ---- four members

abbrev pub four_found : Text → Text → Text → Text → ℕ → Option Json → Option Json → Option Json → Option Json
    → Said (Json × Json × Json × Json)
four_found k l m o n None b c d = missing k
four_found k l m o n (Some a) None c d = missing l
four_found k l m o n (Some a) (Some b) None d = missing m
four_found k l m o n (Some a) (Some b) (Some c) None = missing o
four_found k l m o n (Some a) (Some b) (Some c) (Some d) = exactly 4 n (a, b, c, d)

abbrev pub four_counted : Text → Text → Text → Text → Json → Option ℕ → Said (Json × Json × Json × Json)
four_counted k l m o j None = refused reasons.NotAnObject
four_counted k l m o j (Some n) = four_found k l m o n (get k j) (get l j) (get m j) (get o j)

-- what stands at these four keys, the only ones that the object has
abbrev pub four_at : Text → Text → Text → Text → Json → Said (Json × Json × Json × Json)
four_at k l m o j = four_counted k l m o j (member_count j)

-- ---- texts

abbrev pub text_in : Option Text → Said Text
text_in None = refused reasons.NotAText
text_in (Some t) = Ok t

-- the text that a value is
abbrev pub text_said : Json → Said Text
text_said j = text_in (as_str j)
