-- JSON values, kind by kind.
use Rattle.std.proofs.Common.{◌≡◌, List, [], ◌∷◌, map, ℤ, Bool, refl, ap, ◌∙◌, rules, Vec, Global, Result, Ok, Err, OnOk}
use Rattle.std.specs.Fmt.{signed_decimal}
use Rattle.std.specs.Rc.{rc_str_bytes}
use Rattle.std.specs.declared.rc.RcStr.{RcStr}
use Rattle.json.specs.Json.{null, boolean, number, string, array, object, member}
use Rattle.cedar_json_writer.specs.Trees.{json_view, items_view, members_under, members_view}
use Rattle.cedar_json_writer.specs.declared.tree.JsonValue.{JsonValue, Null, Bool as Flag, Long, String, Array, Object, the_lemmas}

pub view_null : json_view Null ≡ null
view_null = search (rules, the_lemmas)

pub view_bool : (b : Bool) → json_view (Flag b) ≡ boolean b
view_bool b = search (rules, the_lemmas)

pub view_long : (n : ℤ) → json_view (Long n) ≡ number (signed_decimal n)
view_long n = search (rules, the_lemmas)

pub view_string : (t : RcStr Global) → json_view (String t) ≡ string (rc_str_bytes t)
view_string t = search (rules, the_lemmas)

pub view_array : (v : Vec JsonValue Global) → json_view (Array v) ≡ array (items_view v.items)
view_array v = search (rules, the_lemmas)

members_same : (ms : List (RcStr Global × JsonValue)) → members_under (map (λ m. (m.0, json_view m.1)) ms) ≡ members_view ms
members_same [] = refl
members_same (m ∷ ms) = ap (member (rc_str_bytes m.0) (json_view m.1)) (members_same ms)

object_under : (v : Vec (RcStr Global × JsonValue) Global) → json_view (Object v) ≡ object (members_under (map (λ m. (m.0, json_view m.1)) v.items))
object_under v = search (rules, the_lemmas)

pub view_object : (v : Vec (RcStr Global × JsonValue) Global) → json_view (Object v) ≡ object (members_view v.items)
view_object v = object_under v ∙ ap object (members_same v.items)

pub ruleset trees = (view_null, view_bool, view_long, view_string, view_array, view_object)

-- what holds anyway holds where nothing failed
pub on_ok : {E : Type 0} (P : Type 0) (r : Result (Unit {0}) E) → P → OnOk r P
on_ok P (Ok u) h = h
on_ok P (Err e) h = tt

pub held : {X E : Type 0} (P : Type 0) (r : Result X E) → P → OnOk r P
held P (Ok x) h = h
held P (Err e) h = tt
