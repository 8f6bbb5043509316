-- Objects that have a member, and arrays that have an item.
use Rattle.std.proofs.Common.{◌≡◌, List, ℕ, [], ◌∷◌, ◌==◌, length, Some, codes, true, false, refl}
use Rattle.std.specs.Borrow.{Bor}
use Rattle.json.specs.Value.{members_view, items_view}
use Rattle.json.specs.declared.value.Value.{Value}
use Rattle.cedar_endpoints.specs.Asked.{Text, fault, some_fault, has_members}
use Rattle.cedar_endpoints.specs.Several.{some_items}

pub some_given : {A : Type 0} (part : Text) (ms : List (Bor (List ℕ) × Value A)) → (length ms == 0) ≡ false
    → fault part (codes ".properties") (codes "properties of what is searched for") ≡ some_fault part (Some (members_view ms))
some_given part [] h = absurd (cc)
some_given part (m ∷ ms) h = refl

pub some_members : {A : Type 0} (ms : List (Bor (List ℕ) × Value A)) → (length ms == 0) ≡ false
    → true ≡ has_members (Some (members_view ms))
some_members [] h = absurd (cc)
some_members (m ∷ ms) h = refl

pub some_listed : {A : Type 0} (vs : List (Value A)) → (length vs == 0) ≡ false
    → Some (items_view vs) ≡ some_items (items_view vs)
some_listed [] h = absurd (cc)
some_listed (v ∷ vs) h = refl
