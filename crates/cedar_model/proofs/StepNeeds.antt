-- The need in the run of a step: the context that follows is at most twice as high.
use Rattle.std.specs.Prelude.{◌≡◌, ℕ, ◌+◌, ◌<◌, ◌≤◌, Some}
use Rattle.std.proofs.Common.{refl, subst, sym, ◌∙◌, arith}
use Rattle.cedar_model.specs.Terms.{Text, Term}
use Rattle.cedar_model.specs.Values.{Represented}
use Rattle.cedar_model.specs.Failures.{part_expression}
use Rattle.cedar_model.specs.Settings.{ContextPart, absent_context, known_context, residual_context, context_value}
use Rattle.cedar_model.specs.Settings.{RequestPart, Setting}
use Rattle.cedar_model.specs.Rules.{StoredCalls, Exceeds}
use Rattle.cedar_model.specs.Agreement.{height}
use Rattle.cedar_model.specs.Chains.{Mapping, at_step}
use Rattle.cedar_model.specs.laws.Levels.{FunctionsMeetNoLimit}
use Rattle.cedar_model.specs.Restricted.{IsSound, IsGivenSound}
use Rattle.cedar_model.specs.Depth.{ContextFollows, IsWithin, IsNoHigher, IsContextNoHigher, substituted_height}
use Rattle.cedar_model.proofs.Needs.{need_below}
use Rattle.cedar_model.proofs.LowAnswers.{contexts_low, restricted_twice, stored_restricted, stored_height}
use Rattle.cedar_model.proofs.RestrictedAnswers.{sound_follows}

module _ (s : Setting) (calls : StoredCalls) (m : Mapping) (b : ℕ) (within : IsWithin s.map m)
    (sound : IsGivenSound calls s) (mapped_sound : (n : Text) (v : Represented) → m n ≡ Some v →
    IsSound v) (low : IsNoHigher calls s m b) where
  -- the context of an answer is as high as the answer
  as_part : (c : ContextPart) → substituted_height m (context_value c) ≤ b + b → IsContextNoHigher m (b + b) c
  unfolding context_value part_expression
  as_part absent_context h = tt
  as_part (known_context fs) h = h
  as_part (residual_context fs) h = h

  doubled : (c : ContextPart) → IsContextNoHigher m b c → IsContextNoHigher m (b + b) c
  doubled absent_context h = tt
  doubled (known_context fs) h = omega arith
  doubled (residual_context fs) h = omega arith

  follows_low : (old c : ContextPart) → s.request.context_part ≡ old → ContextFollows s calls m old c →
      IsContextNoHigher m (b + b) c
  follows_low absent_context c e f = subst (IsContextNoHigher m (b + b)) (sym f) tt
  follows_low (known_context fs) c e f =
      subst (IsContextNoHigher m (b + b)) (e ∙ sym f) (doubled s.request.context_part low.context_low)
  follows_low (residual_context fs) c e f =
      as_part c (contexts_low m s calls b within sound low (λ d. mapped_sound) fs (context_value c) e f)

  step_low : (r : RequestPart) → ContextFollows s calls m s.request.context_part r.context_part →
      IsNoHigher calls (at_step s.extensions s.resolution r s.store m) m (b + b)
  step_low r f = record {
    context_low = follows_low s.request.context_part r.context_part refl f;
    stored_low =
        λ e x k p g. (
          λ h. let y = (low.stored_low e x k p g).0 h in omega arith,
          λ h. let y = (low.stored_low e x k p g).1 h in omega arith,
        );
    mapped_low = λ n v g. let y = low.mapped_low n v g in omega arith;
    answers_low = λ f vs p g. let y = low.answers_low f vs p g in omega arith;
  }

  step_sound : (r : RequestPart) → ContextFollows s calls m s.request.context_part r.context_part →
      IsGivenSound calls (at_step s.extensions s.resolution r s.store m)
  step_sound r f = record {
    context_sound = sound_follows s calls m sound mapped_sound s.request.context_part r.context_part refl f;
    stored_sound = sound.stored_sound;
    mapped_sound = mapped_sound;
    answers_sound = sound.answers_sound;
  }

  pub step_need_bounded : FunctionsMeetNoLimit calls → (r : RequestPart) →
      ContextFollows s calls m s.request.context_part r.context_part → (n : ℕ) (t : Term) →
      Exceeds (at_step s.extensions s.resolution r s.store m) calls t n → n < height t + (b + b)
  step_need_bounded answered r f n t g =
      need_below (at_step s.extensions s.resolution r s.store m) calls answered (b + b) (step_sound r f) (step_low r f)
      (λ d k u i x j. restricted_twice m (at_step s.extensions s.resolution r s.store m) calls b
      (λ l v e. e) mapped_sound sound.answers_sound
      low.mapped_low low.answers_low k u x (stored_restricted m s calls b within sound low u i)
      (stored_height m s calls b within sound low u i) j) n t g
