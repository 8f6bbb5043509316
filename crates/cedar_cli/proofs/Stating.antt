-- Warnings of policies, one behind the other.
use Rattle.std.proofs.Common.{◌≡◌, refl, sym, ap, subst, ◌∙◌, ◌++◌, codes, List, [], ◌∷◌, append_assoc, append-nil}
use Rattle.cedar_model.specs.Terms.{Text}
use Rattle.cedar_layers.specs.declared.policies.policy.Policy.{Policy}
use Rattle.cedar_cli.specs.declared.asked.Source.{Source}
use Rattle.cedar_cli.specs.Strict.{Finding, IsLineIf, AreFindingLines, first_alike, IsAlikeLine, AreAlikeLines, Adds}

-- these lines are put, once those of the policies that are left stand behind them
abbrev pub AreFoundSoFar : Finding → Source → List Policy → List Policy → Text → Text → Type 0
AreFoundSoFar f s all left before now =
    (t : Text) → AreFindingLines f s left t → Adds (AreFindingLines f s all) before (now ++ t)

module _ (f : Finding) (s : Source) (all : List Policy) (before : Text) where
  pub none_yet : (left : List Policy) → left ≡ all → AreFoundSoFar f s all left before before
  none_yet left whole t are = (t, subst (λ (ps : List Policy). AreFindingLines f s ps t) whole are, refl)

  pub one_found : (left rest : List Policy) (p : Policy) (now next : Text) → left ≡ p ∷ rest
      → (line : Text) × IsLineIf f s p line × (next ≡ now ++ line) → AreFoundSoFar f s all left before now
      → AreFoundSoFar f s all rest before next
  one_found left rest p now next on (line, is, put) so t are =
      subst (Adds (AreFindingLines f s all) before) (sym (ap (λ (b : Text). b ++ t) put ∙ append_assoc now line t))
      (so (line ++ t) (subst (λ (ps : List Policy). AreFindingLines f s ps (line ++ t)) (sym on) (line, t, is, are, refl)))

  pub all_told : (left : List Policy) (now : Text) → left ≡ [] → AreFoundSoFar f s all left before now
      → Adds (AreFindingLines f s all) before now
  all_told left now none so =
      subst (Adds (AreFindingLines f s all) before) (append-nil now)
      (so [] (subst (λ (ps : List Policy). AreFindingLines f s ps []) (sym none) refl))

-- the same of policies of which one before says the same
abbrev pub AreAlikeSoFar : Source → List Policy → List Policy → List Policy → Text → Text → Type 0
AreAlikeSoFar s all passed left before now =
    (t : Text) → AreAlikeLines s passed left t → Adds (AreAlikeLines s [] all) before (now ++ t)

module _ (s : Source) (all : List Policy) (before : Text) where
  pub none_alike_yet : (passed left : List Policy) → passed ≡ [] → left ≡ all
      → AreAlikeSoFar s all passed left before before
  none_alike_yet passed left none whole t are = (
    t,
    subst (λ (ps : List Policy). AreAlikeLines s [] ps t) whole
        (subst (λ (ps : List Policy). AreAlikeLines s ps left t) none are),
    refl,
  )

  pub one_alike : (passed more left rest : List Policy) (p : Policy) (now next : Text) → left ≡ p ∷ rest
      → more ≡ passed ++ p ∷ [] → (line : Text) × IsAlikeLine (first_alike passed p) s p line × (next ≡ now ++ line)
      → AreAlikeSoFar s all passed left before now → AreAlikeSoFar s all more rest before next
  one_alike passed more left rest p now next on one (line, is, put) so t are =
      subst (Adds (AreAlikeLines s [] all) before) (sym (ap (λ (b : Text). b ++ t) put ∙ append_assoc now line t))
      (so (line ++ t) (subst (λ (ps : List Policy). AreAlikeLines s passed ps (line ++ t)) (sym on)
      (line, t, is, subst (λ (ps : List Policy). AreAlikeLines s ps rest t) one are, refl)))

  pub all_alike : (passed left : List Policy) (now : Text) → left ≡ []
      → AreAlikeSoFar s all passed left before now → Adds (AreAlikeLines s [] all) before now
  all_alike passed left now none so =
      subst (Adds (AreAlikeLines s [] all) before) (append-nil now)
      (so [] (subst (λ (ps : List Policy). AreAlikeLines s passed ps []) (sym none) refl))

-- a text in six parts
pub six_put : (a b c d e f : Text) → ((((a ++ b) ++ c) ++ d) ++ e) ++ f ≡ a ++ (b ++ (c ++ (d ++ (e ++ f))))
six_put a b c d e f =
    append_assoc (((a ++ b) ++ c) ++ d) e f ∙ append_assoc ((a ++ b) ++ c) d (e ++ f)
    ∙ append_assoc (a ++ b) c (d ++ (e ++ f)) ∙ append_assoc a b (c ++ (d ++ (e ++ f)))
