use Rattle.std.proofs.Common.{◌≡◌, ℕ, ◌==◌, ◌∷◌, [], List, Bool, length, refl, sym, ap, ◌∙◌, arith, Global}
use Rattle.std.proofs.lemmas.Bool.Decides.{nat_tests}
use Rattle.std.specs.Borrow.{Bor}
use Rattle.json.specs.Json.{object}
use Rattle.json.specs.Value.{value_view, members_view}
use Rattle.json.specs.declared.value.Value.{Value}
use Rattle.cedar_json_reader.proofs.Views.{view_object}
use Rattle.cedar_service.specs.Properties.{is_empty}
use Rattle.cedar_service.proofs.properties.is_empty.Goals as goal

none_in : (ms : List (Bor (List ℕ) × Value Global)) → (length ms == 0) ≡ is_empty (object (members_view ms))
none_in [] = refl
none_in (m ∷ ms) = grind (arith, nat_tests)

pub returns-in-Object : goal.returns-in-Object
returns-in-Object c =
    c.is_empty.ensures
    ∙ ap (λ (ms : List (Bor (List ℕ) × Value Global)). length ms == 0) c.as_slice.ensures.value
    ∙ none_in c.in-Object.members.items
    ∙ ap is_empty (sym (ap value_view c.in-Object.is ∙ view_object c.in-Object.members))
