-- The pattern that a text says, character by character.
use Rattle.std.proofs.Common.{◌≡◌, ℕ, ◌==◌, Bool, true, false, cond, List, [], ◌∷◌, ◌++◌, append_assoc, refl, sym, ap, ◌∙◌, ne_eqb}
use Rattle.cedar_model.specs.Terms.{PatternPart, character, wildcard}
use Rattle.cedar_builder.specs.Patterns.{pattern_behind}

-- what stands behind these parts where the text ends
pub pattern_behind-nil : (x : Bool) → pattern_behind x [] ≡ []
pattern_behind-nil true = refl
pattern_behind-nil false = refl

-- one part more, where one character less is left
put_one : (old new : List PatternPart) (p : PatternPart) (cs : List ℕ) (said : List PatternPart) → new ≡ old ++ p ∷ [] → said ≡ p ∷ pattern_behind false cs → new ++ pattern_behind false cs ≡ old ++ said
put_one old new p cs said put is =
    ap (λ (ps : List PatternPart). ps ++ pattern_behind false cs) put ∙ append_assoc old (p ∷ []) (pattern_behind false cs) ∙ ap (λ (ps : List PatternPart). old ++ ps) (sym is)

pub put_escaped : (old new : List PatternPart) (x : Bool) (c : ℕ) → x ≡ true → new ≡ old ++ character c ∷ [] → (cs : List ℕ) → new ++ pattern_behind false cs ≡ old ++ pattern_behind x (c ∷ cs)
put_escaped old new x c escaped put cs = put_one old new (character c) cs _ put (ap (λ y. pattern_behind y (c ∷ cs)) escaped)

pub put_slash : (old : List PatternPart) (x : Bool) (c : ℕ) → x ≡ false → c ≡ 92 → (cs : List ℕ) → old ++ pattern_behind true cs ≡ old ++ pattern_behind x (c ∷ cs)
put_slash old x c plain slash cs =
    ap (λ d. old ++ pattern_behind false (d ∷ cs)) (sym slash) ∙ ap (λ y. old ++ pattern_behind y (c ∷ cs)) (sym plain)

pub put_plain : (old new : List PatternPart) (x : Bool) (c : ℕ) → x ≡ false → (c ≡ 92 → ⊥) → (c ≡ 42 → ⊥) → new ≡ old ++ character c ∷ [] → (cs : List ℕ) → new ++ pattern_behind false cs ≡ old ++ pattern_behind x (c ∷ cs)
put_plain old new x c plain no_slash no_star put cs =
    put_one old new (character c) cs _ put (ap (λ y. pattern_behind y (c ∷ cs)) plain
    ∙ ap (λ b. cond b (pattern_behind true cs) (cond (c == 42) wildcard (character c) ∷ pattern_behind false cs)) (ne_eqb c 92 no_slash)
    ∙ ap (λ b. cond b wildcard (character c) ∷ pattern_behind false cs) (ne_eqb c 42 no_star))
