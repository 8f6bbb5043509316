-- A call with a right or a wrong number of arguments.
use Rattle.std.proofs.Common.{◌≡◌, refl, sym, ap, subst, ◌∙◌, ℕ, suc, List, [], ◌∷◌, length}
use Rattle.std.specs.Bool.{◌==◌}
use Rattle.std.proofs.lemmas.Bool.{eq-eqb, ne_eqb}
use Rattle.cedar_model.specs.Terms.{Text}
use Rattle.cedar_model.specs.Failures.{Answer, fails, arguments_are_miscounted}
use Rattle.cedar_model.specs.Rules.{StoredCalls, Counts}
use Rattle.cedar_values.specs.Sound.{Placed, whats}

pub length-whats : (ps : List Placed) → length (whats ps) ≡ length ps
length-whats [] = refl
length-whats (p ∷ ps) = ap suc (length-whats ps)

module _ (Calls : StoredCalls) (n : ℕ) (f : Text) (ps : List Placed) where
  pub counts_right : (a : Answer) → length ps ≡ n → Calls f (whats ps) a
      → Counts Calls (length (whats ps) == n) n f (whats ps) a
  counts_right a e h =
      subst (λ b. Counts Calls b n f (whats ps) a) (sym (eq-eqb (length (whats ps)) n (length-whats ps ∙ e))) h

  pub counts_wrong : (a : Answer) → (length ps ≡ n → ⊥) → a ≡ fails (arguments_are_miscounted f n (length ps))
      → Counts Calls (length (whats ps) == n) n f (whats ps) a
  counts_wrong a e h =
      subst (λ b. Counts Calls b n f (whats ps) a)
      (sym (ne_eqb (length (whats ps)) n (λ d. e (sym (length-whats ps) ∙ d))))
      (h ∙ ap (λ k. fails (arguments_are_miscounted f n k)) (sym (length-whats ps)))
