-- Members: how many there are, and the one.
use Rattle.std.proofs.Common.{◌≡◌, ℕ, suc, List, [], ◌∷◌, length, get_or, Some, None, refl, ap, arith}
use Rattle.std.specs.Borrow.{Bor}
use Rattle.json.specs.Strict.{keys}
use Rattle.json.specs.Value.{value_view, items_view, members_view}
use Rattle.json.specs.declared.value.Value.{Value}
use Rattle.std.specs.declared.alloc.Global.{Global}
use Rattle.std.specs.declared.rc.RcStr.{RcStr}
use Rattle.cedar_policy_json_reader.specs.Annotations.{texts_under}
use Rattle.cedar_policy_json_reader.specs.Expressions.{item_count}
use Rattle.cedar_policy_json_reader.specs.Shapes.{sole}

pub sole_one : {A : Type 0} (ms : List (Bor (List ℕ) × Value A)) (m : Bor (List ℕ) × Value A) → length ms ≡ 1 → Some ((get_or ms 0 m).0.now, value_view (get_or ms 0 m).1) ≡ sole (members_view ms)
sole_one [] m h = absurd (omega (arith, h))
sole_one (n ∷ []) m h = refl
sole_one (n ∷ o ∷ ms) m h = absurd (omega (arith, h))

pub sole_other : {A : Type 0} (ms : List (Bor (List ℕ) × Value A)) → (length ms ≡ 1 → ⊥) → None ≡ sole (members_view ms)
sole_other [] h = refl
sole_other (n ∷ []) h = absurd (h refl)
sole_other (n ∷ o ∷ ms) h = refl

pub keys_count : {A : Type 0} (ms : List (Bor (List ℕ) × Value A)) → length (keys (members_view ms)) ≡ length ms
keys_count [] = refl
keys_count (m ∷ ms) = ap suc (keys_count ms)

pub items_count : {A : Type 0} (js : List (Value A)) → item_count (items_view js) ≡ length js
items_count [] = refl
items_count (j ∷ js) = ap suc (items_count js)

pub texts_count : (es : List (RcStr Global × RcStr Global)) → length (texts_under es) ≡ length es
texts_count [] = refl
texts_count (e ∷ es) = ap suc (texts_count es)

pub ruleset members = (keys_count, items_count, texts_count)
