-- What a JSON value is.
use Rattle.std.specs.Prelude.{List, [], ◌∷◌, map}
use Rattle.std.specs.Fmt.{signed_decimal}
use Rattle.std.specs.Rc.{rc_str_bytes}
use Rattle.std.specs.declared.alloc.Global.{Global}
use Rattle.std.specs.declared.rc.RcStr.{RcStr}
use Rattle.json.specs.Json.{Json, null, boolean, number, string, array, object, Items, Members, no_members, member}
use Rattle.json.specs.Value.{items_of}
use Rattle.cedar_model.specs.Terms.{Text}
use Rattle.cedar_json_writer.specs.declared.tree.JsonValue.{JsonValue, fold-JsonValue}
use Rattle.cedar_json_writer.specs.declared.tree.JsonValue.TheOpen.{JsonValue-F}

abbrev pub members_under : List (RcStr Global × Json) → Members
members_under [] = no_members
members_under (m ∷ ms) = member (rc_str_bytes m.0) m.1 (members_under ms)

-- one level, with each value inside already seen
abbrev pub json_step : JsonValue-F Json → Json
json_step JsonValue-F.Null = null
json_step (JsonValue-F.Bool b) = boolean b
json_step (JsonValue-F.Long n) = number (signed_decimal n)
json_step (JsonValue-F.String t) = string (rc_str_bytes t)
json_step (JsonValue-F.Array v) = array (items_of v.items)
json_step (JsonValue-F.Object v) = object (members_under v.items)

abbrev pub json_view : JsonValue → Json
json_view = fold-JsonValue Json json_step

abbrev pub items_view : List JsonValue → Items
items_view vs = items_of (map json_view vs)

-- the members as pairs
abbrev pub members_seen : List (RcStr Global × JsonValue) → List (Text × Json)
members_seen = map (λ m. (rc_str_bytes m.0, json_view m.1))

abbrev pub members_of : List (Text × Json) → Members
members_of [] = no_members
members_of (m ∷ ms) = member m.0 m.1 (members_of ms)

abbrev pub members_view : List (RcStr Global × JsonValue) → Members
members_view ms = members_of (members_seen ms)
