-- The shapes of the objects that stand for something else than a record.
use Rattle.std.specs.Prelude.{◌&&◌, if◌then◌else◌, Option, Some, None, option_map, bytes_eq, codes}
use Rattle.std.specs.Option.{option_and_then}
use Rattle.std.specs.Borrow.{Bor}
use Rattle.json.specs.Json.{Json, Members, no_members, member}
use Rattle.json.specs.Find.{as_object, as_str}
use Rattle.json.specs.Value.{value_view}
use Rattle.cedar_model.specs.Terms.{Text}
use Rattle.cedar_json_reader.specs.declared.shapes.CallShape.{CallShape}
use Rattle.cedar_json_reader.specs.declared.shapes.Two as twos

-- a key with its value
abbrev pub Member : Type 0
Member = Text × Json

-- the one member
abbrev pub sole : Members → Option Member
sole no_members = None
sole (member k j no_members) = Some (k, j)
sole (member k j (member l i ms)) = None

-- the members, where there are two
abbrev pub two_in : Members → Option (Member × Member)
two_in no_members = None
two_in (member k a no_members) = None
two_in (member k a (member l b no_members)) = Some ((k, a), (l, b))
two_in (member k a (member l b (member m c ms))) = None

abbrev pub two_of : Json → Option (Member × Member)
two_of j = option_and_then two_in (as_object j)

abbrev pub two_view : twos.Two → Member × Member
two_view t = ((t.first_key.now, value_view t.first.now), (t.second_key.now, value_view t.second.now))

-- ---- entities

abbrev pub text_in : Option (Bor Text) → Option Text
text_in t = option_map (λ b. b.now) t

abbrev pub texts_in : Option (Bor Text × Bor Text) → Option (Text × Text)
texts_in p = option_map (λ b. (b.0.now, b.1.now)) p

abbrev pub both_texts : Option Text → Option Text → Option (Text × Text)
both_texts (Some t) (Some i) = Some (t, i)
both_texts (Some t) None = None
both_texts None i = None

-- a type and an id, in either order
abbrev pub uid_of : Member × Member → Option (Text × Text)
uid_of p =
    if bytes_eq p.0.0 (codes "type") && bytes_eq p.1.0 (codes "id") then both_texts (as_str p.0.1) (as_str p.1.1) else (
    if bytes_eq p.0.0 (codes "id") && bytes_eq p.1.0 (codes "type") then both_texts (as_str p.1.1) (as_str p.0.1) else
    None)

abbrev pub uid_shape : Json → Option (Text × Text)
uid_shape j = option_and_then uid_of (two_of j)

-- ---- calls

-- what stands at `fn`, and the key and the value of the other member
pub record Parts : Type 0 where
  pub function : Json
  pub key : Text
  pub argument : Json

-- the function and the argument of a call, in either order
abbrev pub call_of : Member × Member → Option Parts
call_of p =
    if bytes_eq p.0.0 (codes "fn") then Some (record { function = p.0.1; key = p.1.0; argument = p.1.1 }) else (
    if bytes_eq p.1.0 (codes "fn") then Some (record { function = p.1.1; key = p.0.0; argument = p.0.1 }) else
    None)

abbrev pub call_shape : Json → Option Parts
call_shape j = option_and_then call_of (two_of j)

abbrev pub parts_view : CallShape → Parts
parts_view s = record { function = value_view s.function.now; key = s.key.now; argument = value_view s.argument.now }
