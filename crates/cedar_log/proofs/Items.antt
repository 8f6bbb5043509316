-- Items, counted and told one after another.
use Rattle.std.proofs.Common.{◌≡◌, refl, ap, subst, ◌+◌, ◌++◌, ℕ, suc, List, [], ◌∷◌, length, arith, Option, Some}
use Rattle.std.specs.Borrow.{Bor}
use Rattle.json.specs.Json.{Json}
use Rattle.json.specs.Value.{items_view, members_view}
use Rattle.json.specs.declared.value.Value.{Value}
use Rattle.cedar_log.specs.Lines.{Text, nth, member_count}
use Rattle.cedar_log.specs.Exchanges.{count, items_text, item_text}

pub counted : {A : Type 0} (vs : List (Value A)) → count (items_view vs) ≡ length vs
counted [] = refl
counted (v ∷ vs) = ap suc (counted vs)

pub members_counted : {A : Type 0} (ms : List (Bor (List ℕ) × Value A)) → member_count (members_view ms) ≡ length ms
members_counted [] = refl
members_counted ((k, v) ∷ ms) = ap suc (members_counted ms)

pub no_text : (s : Text) (all : Json) (asked : Option Json) (answers : Json) → items_text s all asked answers 0 ≡ []
unfolding items_text
no_text s all asked answers = refl

next_of : (s : Text) (all : Json) (asked : Option Json) (answers : Json) (i : ℕ)
    → items_text s all asked answers (suc i)
    ≡ items_text s all asked answers i ++ item_text s all (nth i asked) (nth i (Some answers))
unfolding items_text
next_of s all asked answers i = refl

pub next_text : (s : Text) (all : Json) (asked : Option Json) (answers : Json) (i : ℕ)
    → items_text s all asked answers (i + 1)
    ≡ items_text s all asked answers i ++ item_text s all (nth i asked) (nth i (Some answers))
next_text s all asked answers i =
    let more : suc i ≡ i + 1 = omega arith in
    subst (λ (n : ℕ). items_text s all asked answers n
    ≡ items_text s all asked answers i ++ item_text s all (nth i asked) (nth i (Some answers))) more
    (next_of s all asked answers i)
