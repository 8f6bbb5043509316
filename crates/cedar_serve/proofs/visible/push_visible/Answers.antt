use Rattle.std.proofs.Common.{◌≡◌, ◌++◌, [], sym, ap, subst, ◌∙◌, append-nil, append_assoc, string_bytes}
use Rattle.std.proofs.lemmas.List.{nil_from_length}
use Rattle.cedar_serve.specs.Visible.{told_character, IsVisible, nothing_told, character_told}
use Rattle.cedar_serve.proofs.visible.push_visible.Goals as goal

pub characters-preserved : goal.characters-preserved
characters-preserved c = λ rest shown.
    let character = c.in-Some.character in
    let more = subst (λ t. IsVisible t (told_character character ++ rest)) (sym c.in-Some.ensures.steps.0) (character_told character shown) in
    let (told, whole, ends) = c.characters.invariant (told_character character ++ rest) more in
    (told, whole, ends ∙ (sym (append_assoc (string_bytes c.characters.output) (told_character character) rest) ∙ ap (λ t. t ++ rest) (sym c.in_ok-push_visible_character.ensures)))

pub returns : goal.returns
returns c =
    let none = subst (λ t. IsVisible t []) (sym (nil_from_length _ c.in-None.ensures.steps.0.0)) nothing_told in
    let (told, whole, ends) = c.characters.invariant [] none in
    (told, whole, sym (ends ∙ append-nil (string_bytes c.characters.output)))
