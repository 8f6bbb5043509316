-- The work that is left.
use Rattle.std.proofs.Common.{◌≡◌, ℕ, zero, suc, ◌+◌, ◌-◌, ◌*◌, ◌^◌, ◌<◌, ◌≤◌, List, [], ◌∷◌, ◌++◌, length, arith}
use Rattle.std.proofs.Math.Nat.{pow-zero, pow-succ', sub-zero, add-zero, zero-add, mul-le-mul_right}
use Rattle.std.proofs.lemmas.List.{length_push}
use Rattle.cedar_frames.specs.declared.turns.Mode.TheVariants.{Eval, Answer}
use Rattle.cedar_frames.specs.Frames.{work, work_left}

pub work_push : {F : Type 0} (left_of : F → ℕ) (q k : ℕ) (fs : List F) (f : F) → work left_of q k (fs ++ f ∷ []) ≡ work left_of q k fs + left_of f * suc q ^ (k - length fs)
work_push left_of q k [] f = simp (sub-zero, add-zero, zero-add)
work_push left_of q k (g ∷ fs) f = let r = work_push left_of q (k - 1) fs f in let e : k - 1 - length fs ≡ k - suc (length fs) = omega arith in rw (r, e) (omega arith)

-- a part that is not looked at yet takes less than one step of what waits for it
pub part_below : (q x r s : ℕ) → 0 < x → r < s → r * (suc q * x) + q * x < s * (suc q * x)
part_below q x r s p h = omega (arith, mul-le-mul_right {m = r + 1} {n = s} (suc q * x) (omega arith))

pub pow_positive : (q n : ℕ) → 0 < suc q ^ n
pow_positive q zero = rw pow-zero (omega arith)
pow_positive q (suc n) = let r = pow_positive q n in rw pow-succ' (omega arith)

-- at two places next to each other
pub place_falls : (q i j r s : ℕ) → i ≡ suc j → r < s → r * suc q ^ i + q * suc q ^ j < s * suc q ^ i
place_falls q i j r s e h = let p = pow_positive q j in rw (e, pow-succ') (part_below q (suc q ^ j) r s p h)

module _ {F : Type 0} (P A : Type 0) (left_of : F → ℕ) (q limit : ℕ) (fs : List F) where
  -- a frame on the stack, of fewer steps than s, and its part take less than s steps there
  pub push_falls : (f : F) (c : P) (s : ℕ) → length fs < limit → left_of f < s →
      work_left {P = P} {A = A} left_of q limit (fs ++ f ∷ []) (Eval c) < work left_of q limit fs + s * suc q ^ (limit - length fs)
  push_falls f c s room h =
      let n = length_push fs f in
      let p : left_of f * suc q ^ (limit - length fs) + q * suc q ^ (limit - (length fs + 1)) < s * suc q ^ (limit - length fs) =
      place_falls q (limit - length fs) (limit - (length fs + 1)) (left_of f) s (omega arith) h in
      rw (work_push, n) (omega arith)

  -- an answer takes no more work, and an expression that is not looked at yet takes some
  pub answer_falls : (c : P) (a : A) → 0 < q →
      work_left {P = P} {A = A} left_of q limit fs (Answer a) < work_left {P = P} {A = A} left_of q limit fs (Eval c)
  answer_falls c a h =
      let p = pow_positive q (limit - length fs) in omega (arith, mul-le-mul_right {m = 1} {n = q} (suc q ^ (limit - length fs)) h)

  -- a frame that goes takes its steps along
  pub pop_falls : (f : F) (a b : A) → 1 ≤ left_of f →
      work_left {P = P} {A = A} left_of q limit fs (Answer b) < work_left {P = P} {A = A} left_of q limit (fs ++ f ∷ []) (Answer a)
  pop_falls f a b l =
      let p = pow_positive q (limit - length fs) in
      let w = work_push left_of q limit fs f in
      omega (arith, mul-le-mul_right {m = 1} {n = left_of f} (suc q ^ (limit - length fs)) l)

  -- a frame that goes on waits with fewer steps
  pub resume_falls : (f g : F) (c : P) (a : A) → length fs < limit → left_of g < left_of f →
      work_left {P = P} {A = A} left_of q limit (fs ++ g ∷ []) (Eval c) < work_left {P = P} {A = A} left_of q limit (fs ++ f ∷ []) (Answer a)
  resume_falls f g c a room h =
      let p = push_falls g c (left_of f) room h in let w = work_push left_of q limit fs f in omega arith
