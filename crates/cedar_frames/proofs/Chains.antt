-- The stack as a chain of expressions, each of which waits for the next.
use Rattle.std.proofs.Common.{◌≡◌, ℕ, zero, suc, ◌+◌, List, [], ◌∷◌, ◌++◌, length, refl, sym, ap, subst, arith}
use Rattle.cedar_frames.specs.Frames.{Chain}

module _ {F P : Type 0} (W : ℕ → F → P → P → Type 0) where
  pub chain_length : (k j : ℕ) (e : P) (fs : List F) (c : P) → Chain W k j e fs c → k ≡ j + length fs
  chain_length k j e [] c h = omega arith
  chain_length zero j e (f ∷ fs) c h = absurd h
  chain_length (suc k) j e (f ∷ fs) c h = let r = chain_length k j h.0 fs c h.2 in omega arith

  pub chain_push : (k j : ℕ) (e : P) (fs : List F) (f : F) (d c : P) →
      Chain W k (suc j) e fs d → W j f d c → Chain W k j e (fs ++ f ∷ []) c
  chain_push zero j e [] f d c h w = absurd (omega (arith, h.0))
  chain_push (suc k) j e [] f d c h w =
      let k_is : j ≡ k = omega (arith, h.0) in
      (c, subst (λ i. W i f e c) k_is (subst (λ t. W j f t c) (sym h.1) w), (sym k_is, refl))
  chain_push zero j e (g ∷ fs) f d c h w = absurd h
  chain_push (suc k) j e (g ∷ fs) f d c h w = (h.0, h.1, chain_push k j h.0 fs f d c h.2 w)

  pub chain_pop : (k j : ℕ) (e : P) (fs : List F) (f : F) (c : P) →
      Chain W k j e (fs ++ f ∷ []) c → (d : P) × Chain W k (suc j) e fs d × W j f d c
  chain_pop zero j e [] f c h = absurd h
  chain_pop (suc k) j e [] f c h =
      (e, (ap suc h.2.0, refl), subst (λ t. W j f e t) h.2.1 (subst (λ i. W i f e h.0) h.2.0 h.1))
  chain_pop zero j e (g ∷ fs) f c h = absurd h
  chain_pop (suc k) j e (g ∷ fs) f c h = let r = chain_pop k j h.0 fs f c h.2 in (r.0, (h.0, h.1, r.1), r.2)

  pub chain_limit : {A : Type 0} (R : ℕ → P → A → Type 0) (a : A) →
      ((k : ℕ) (f : F) (t c : P) → W k f t c → R k c a → R (suc k) t a) →
      (k j : ℕ) (e : P) (fs : List F) (c : P) → Chain W k j e fs c → R j c a → R k e a
  chain_limit R a up k j e [] c h r = rw (h.0, h.1) r
  chain_limit R a up zero j e (f ∷ fs) c h r = absurd h
  chain_limit R a up (suc k) j e (f ∷ fs) c h r = up k f e h.0 h.1 (chain_limit R a up k j h.0 fs c h.2 r)
