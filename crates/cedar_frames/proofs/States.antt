-- What each turn of the loop keeps.
use Rattle.std.proofs.Common.{◌≡◌, ℕ, suc, ◌+◌, ◌-◌, ◌<◌, List, [], ◌∷◌, ◌++◌, length, refl, subst, arith}
use Rattle.cedar_frames.specs.declared.turns.Mode.TheVariants.{Eval, Answer}
use Rattle.cedar_frames.specs.Frames.{Chain, State}
use Rattle.cedar_frames.proofs.Chains.{chain_length, chain_push, chain_pop, chain_limit}

module _ {F P A : Type 0} (R : ℕ → P → A → Type 0) (W : ℕ → F → P → P → Type 0) (limit : ℕ) (e : P) where
  pub full : (a : A) → ((t : P) → R 0 t a) → ((k : ℕ) (f : F) (t c : P) → W k f t c → R k c a → R (suc k) t a) →
      (fs : List F) (c : P) → length fs ≡ limit → State R W limit e fs (Eval c) → R limit e a
  full a none up fs c h s =
      let n = chain_length W limit s.0 e fs c s.1 in
      let at : 0 ≡ s.0 = omega arith in
      chain_limit W R a up limit s.0 e fs c s.1 (subst (λ i. R i c a) at (none c))

  -- with so many levels left
  pub start_done : (fs : List F) (c : P) (a : A) (levels : ℕ) → levels + length fs ≡ limit → 0 < levels →
      State R W limit e fs (Eval c) → ((k : ℕ) → suc k ≡ levels → R (suc k) c a) → State R W limit e fs (Answer a)
  start_done fs c a levels left h s r =
      let n = chain_length W limit s.0 e fs c s.1 in
      let one : suc (s.0 - 1) ≡ s.0 = omega arith in
      let is : suc (s.0 - 1) ≡ levels = omega arith in (s.0, c, s.1, subst (λ i. R i c a) one (r (s.0 - 1) is))

  pub start_wait : (fs next : List F) (c part : P) (f : F) (levels : ℕ) → levels + length fs ≡ limit → 0 < levels →
      State R W limit e fs (Eval c) → ((k : ℕ) → suc k ≡ levels → W k f c part) → next ≡ fs ++ f ∷ [] →
      State R W limit e next (Eval part)
  start_wait fs next c part f levels left h s r to =
      let n = chain_length W limit s.0 e fs c s.1 in
      let one : s.0 ≡ suc (s.0 - 1) = omega arith in
      let is : suc (s.0 - 1) ≡ levels = omega arith in
      rw to (
        s.0 - 1,
        chain_push W limit (s.0 - 1) e fs f c part (subst (λ i. Chain W limit i e fs c) one s.1) (r (s.0 - 1) is),
      )

  pub resume_done : (fs next : List F) (f : F) (y a : A) (levels : ℕ) → levels + length next ≡ limit → fs ≡ next ++ f ∷ [] →
      State R W limit e fs (Answer y) → ((k : ℕ) (t c : P) → suc k ≡ levels → W k f t c → R k c y → R (suc k) t a) →
      State R W limit e next (Answer a)
  resume_done fs next f y a levels left is s r =
      let p = chain_pop W limit s.0 e next f s.1 (subst (λ l. Chain W limit s.0 e l s.1) is s.2) in
      let long = chain_length W limit (suc s.0) e next p.0 p.1 in
      let all : suc s.0 ≡ levels = omega (arith, long, left) in
      (suc s.0, p.0, p.1, r s.0 p.0 s.1 all p.2 s.3)

  pub resume_wait : (fs below next : List F) (f g : F) (y : A) (part : P) (levels : ℕ) → levels + length below ≡ limit →
      fs ≡ below ++ f ∷ [] → State R W limit e fs (Answer y) →
      ((k : ℕ) (t c : P) → suc k ≡ levels → W k f t c → R k c y → W k g t part) → next ≡ below ++ g ∷ [] →
      State R W limit e next (Eval part)
  resume_wait fs below next f g y part levels left is s r to =
      let p = chain_pop W limit s.0 e below f s.1 (subst (λ l. Chain W limit s.0 e l s.1) is s.2) in
      let long = chain_length W limit (suc s.0) e below p.0 p.1 in
      let all : suc s.0 ≡ levels = omega (arith, long, left) in
      rw to (s.0, chain_push W limit s.0 e below g p.0 part p.1 (r s.0 p.0 s.1 all p.2 s.3))

  -- with no frame left, the answer is the whole's
  pub ends : (fs : List F) (a : A) → fs ≡ [] → State R W limit e fs (Answer a) → R limit e a
  ends fs a is s =
      let h : Chain W limit s.0 e [] s.1 = subst (λ l. Chain W limit s.0 e l s.1) is s.2 in
      rw (h.0, h.1) s.3

  pub first : (fs : List F) → fs ≡ [] → State R W limit e fs (Eval e)
  first fs is = rw is (limit, (refl, refl))
