-- JSON values, kind by kind.
use Rattle.std.proofs.Common.{◌≡◌, List, ℕ, Bool, rules, Vec}
use Rattle.std.specs.Borrow.{Bor}
use Rattle.json.specs.Json.{null, boolean, number, string, array, object}
use Rattle.json.specs.Value.{value_view, items_view, members_view}
use Rattle.json.specs.declared.value.Value.{Value, Null, Bool as Flag, Number, String, Array, Object, the_lemmas}

pub view_null : (A : Type 0) → value_view {A = A} Null ≡ null
view_null A = search (rules, the_lemmas)

pub view_bool : (A : Type 0) (b : Bool) → value_view {A = A} (Flag b) ≡ boolean b
view_bool A b = search (rules, the_lemmas)

pub view_number : (A : Type 0) (s : Bor (List ℕ)) → value_view {A = A} (Number s) ≡ number s.now
view_number A s = search (rules, the_lemmas)

pub view_string : (A : Type 0) (s : Bor (List ℕ)) → value_view {A = A} (String s) ≡ string s.now
view_string A s = search (rules, the_lemmas)

pub view_array : {A : Type 0} → (v : Vec (Value A) A) → value_view (Array v) ≡ array (items_view v.items)
view_array v = search (rules, the_lemmas)

pub view_object : {A : Type 0} → (v : Vec (Bor (List ℕ) × Value A) A) → value_view (Object v) ≡ object (members_view v.items)
view_object v = search (rules, the_lemmas)

pub ruleset views = (view_null, view_bool, view_number, view_string, view_array, view_object)
